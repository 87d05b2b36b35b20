-- Each step keeps the rule of the board.
use Rattle.std.proofs.Common.{◌≡◌, ◌≢◌, ℕ, ◌+◌, ◌-◌, ◌%◌, ◌^◌, ◌<◌, ◌≤◌, ◌==◌, ◌⊎◌, true, List, [], ◌∷◌, ◌++◌, length, set, slice_index, if◌then◌else◌, Option, get_or-set_same, get_or-set_other, length-set, length-append, le_of_eq, ⊎_elim, inl, inr, subst, refl, sym, ap, ◌∙◌, arith}
use Rattle.std.proofs.lemmas.List.Elements.{All-weaker, All-push}
use Rattle.std.proofs.lemmas.Bool.Decides.{nat_tests}
use mathlib.Core.Option.{some, none}
use native.Mathlib.Decide.{ℕ_discrete}
use lib.ListN.{get_elem?}
use Rattle.atomic_table.specs.Table.{State, Me, keeps, step, stepped, Allows}
use Rattle.atomic_table.proofs.Lists.{at_set}
use Rattle.progress_board.specs.declared.view.View.{View}
use Rattle.progress_board.specs.Counts.{total, times, once_below, draws, raises, holders, IsReached}
use Rattle.progress_board.specs.Views.{with_ticket, with_raise, with_look}
use Rattle.progress_board.specs.Rule.{IsHome, IsOut, Roles, Kept}
use Rattle.progress_board.specs.Code.{Looks, Drew, Rose, Looked}
use Rattle.progress_board.proofs.Totals.{total_set, total_push, part_le, below_more, all_below, others_none, one_has_all}

-- one seat's view has become w, and no lane fell
pub reached_set : (views : List View) (by : ℕ) (w : View)
    → ((lane : ℕ) → raises lane views ≤ raises lane (set views by w))
    → ((j : ℕ) (u : View) → get_elem? views j ≡ some u → IsReached views u.seen)
    → IsReached (set views by w) w.seen
    → (j : ℕ) (u : View) → get_elem? (set views by w) j ≡ some u → IsReached (set views by w) u.seen
reached_set views by w up before mine j u e =
    ⊎_elim
    (λ (x : (j ≡ by) × (w ≡ u)). subst (λ (y : View). IsReached (set views by w) y.seen) x.1 mine)
    (λ (x : (j ≢ by) × (get_elem? views j ≡ some u)).
    All-weaker (λ (p : ℕ × ℕ). p.1 ≤ raises p.0 views) (λ p. p.1 ≤ raises p.0 (set views by w)) (λ p h. let k = up p.0 in omega (arith, h, k)) u.seen (before j u x.1))
    (at_set views by j w u e)

pub still_reached : (views more : List View) (seen : List (ℕ × ℕ)) → ((lane : ℕ) → raises lane views ≤ raises lane more) → IsReached views seen → IsReached more seen
still_reached views more seen up h = All-weaker (λ (p : ℕ × ℕ). p.1 ≤ raises p.0 views) (λ p. p.1 ≤ raises p.0 more) (λ p k. let e = up p.0 in omega (arith, e, k)) seen h

-- one seat that is out has another view, and the same part
pub roles_set : (views : List View) (by : ℕ) (v w : View) → get_elem? views by ≡ some v → v.live ≡ 1 → w.live ≡ v.live → w.out ≡ v.out → w.leads ≡ v.leads → Roles views → Roles (set views by w)
roles_set views by v w at live live' out leads h =
    let lives : total (λ (u : View). u.live) (set views by w) ≡ total (λ (u : View). u.live) views = omega (arith, total_set (λ (u : View). u.live) views by v w at, live') in
    record {
      leader = λ u e.
          ⊎_elim
          (λ (x : (0 ≡ by) × (w ≡ u)).
          let old = h.leader v (subst (λ (k : ℕ). get_elem? views k ≡ some v) (sym x.0) at) in
          let l : w.live ≡ u.live = ap (λ (y : View). y.live) x.1 in
          let o : w.out ≡ u.out = ap (λ (y : View). y.out) x.1 in
          (omega (arith, old.0, l, live'), omega (arith, old.1, lives, o, out)))
          (λ (x : (0 ≢ by) × (get_elem? views 0 ≡ some u)). let old = h.leader u x.1 in (old.0, lives ∙ old.1))
          (at_set views by 0 w u e);
      leads = λ j u e yes'.
          ⊎_elim
          (λ (x : (j ≡ by) × (w ≡ u)). x.0 ∙ h.leads by v at (sym leads ∙ (ap (λ (y : View). y.leads) x.1 ∙ yes')))
          (λ (x : (j ≢ by) × (get_elem? views j ≡ some u)). h.leads j u x.1 yes')
          (at_set views by j w u e);
      idle = λ j u e dead.
          ⊎_elim
          (λ (x : (j ≡ by) × (w ≡ u)). let l : w.live ≡ u.live = ap (λ (y : View). y.live) x.1 in absurd (omega (arith, l, dead, live, live')))
          (λ (x : (j ≢ by) × (get_elem? views j ≡ some u)). h.idle j u x.1 dead)
          (at_set views by j w u e);
    }

wraps : (n m word : ℕ) → word ≡ n % 2 ^ 64 → m ≡ n + 1 → (word + 1) % 2 ^ 64 ≡ m % 2 ^ 64
wraps n m word is more = omega (arith, is, more)

module _ {T : Type 0} (names : T → ℕ) where
  -- a word that is no turn word has changed
  turns_kept : (lanes : ℕ) (s : State (Option T) View) (i n by : ℕ) (me : Me (Option T) View) (w : View)
      → ((slot : ℕ) → slot < 2 → slot + 1 ≢ i)
      → ((slot : ℕ) → holders slot (set s.views by w) ≡ holders slot s.views)
      → Kept names lanes s → (slot : ℕ) → slot < 2 → IsHome names slot (stepped s i n by me.1 w keeps) ⊎ IsOut slot (stepped s i n by me.1 w keeps)
  turns_kept lanes s i n by me w apart same h slot small =
      let word : slice_index (set s.words i n) (slot + 1) ≡ slice_index s.words (slot + 1) = get_or-set_other s.words i (slot + 1) n 0 (apart slot small) in
      ⊎_elim
      (λ (x : IsHome names slot s). inl (word ∙ x.0, x.1, same slot ∙ x.2))
      (λ (x : IsOut slot s). inr (word ∙ x.0, x.1, same slot ∙ x.2))
      (h.turns slot small)

  draw_keeps : (lanes : ℕ) (s : State (Option T) View) (by : ℕ) (me : Me (Option T) View) → me.0.live ≡ 1 → Kept names lanes s → get_elem? s.views by ≡ some me.0
      → Kept names lanes (stepped s 0 ((slice_index s.words 0 + 1) % 2 ^ 64) by me.1 (with_ticket me.0 (draws s.views)) keeps)
  draw_keeps lanes s by me live h at =
      let v = me.0 in
      let n = draws s.views in
      let w = with_ticket v n in
      let count : draws (set s.views by w) ≡ n + 1 = omega (arith, total_set (λ (u : View). length u.drawn) s.views by v w at, length-append v.drawn (n ∷ [])) in
      let same : (lane : ℕ) → raises lane (set s.views by w) ≡ raises lane s.views = λ lane. omega (arith, total_set (λ (u : View). times lane u.raised) s.views by v w at) in
      let up : (lane : ℕ) → raises lane s.views ≤ raises lane (set s.views by w) = λ lane. le_of_eq (sym (same lane)) in
      record {
        size = length-set s.words 0 _ ∙ h.size;
        slots = h.slots;
        roles = roles_set s.views by v w at live refl refl refl h.roles;
        tickets = λ x.
            rw count (omega (arith, total_set (λ (u : View). times x u.drawn) s.views by v w at, total_push (λ (y : ℕ). if y == x then 1 else 0) v.drawn n, below_more x n, h.tickets x));
        ticket_word = get_or-set_same s.words 0 _ 0 (omega (arith, h.size)) ∙ wraps n (draws (set s.views by w)) (slice_index s.words 0) h.ticket_word count;
        lane_words = λ lane less. rw (same lane) (get_or-set_other s.words 0 (lane + 3) _ 0 (λ e. omega (arith, e)) ∙ h.lane_words lane less);
        reached = reached_set s.views by w up h.reached (still_reached s.views (set s.views by w) v.seen up (h.reached by v at));
        turns = turns_kept lanes s 0 _ by me w (λ slot small e. omega (arith, e)) (λ slot. omega (arith, total_set (λ (u : View). times slot u.has) s.views by v w at)) h;
      }

  -- where the first seat has all others back, its list has each ticket
  all_mine : (lanes : ℕ) (s : State (Option T) View) (by : ℕ) (v : View) → Kept names lanes s → get_elem? s.views by ≡ some v → v.leads ≡ true → v.out ≡ 0 → (x : ℕ) → times x v.drawn ≡ once_below x (draws s.views)
  all_mine lanes s by v h at leads out x =
      let first : get_elem? s.views 0 ≡ some v = subst (λ (k : ℕ). get_elem? s.views k ≡ some v) (h.roles.leads by v at leads) at in
      let lead = h.roles.leader v first in
      sym (one_has_all (λ (u : View). times x u.drawn) s.views 0 v first (λ j u n b.
      let dead : u.live ≡ 0 = others_none (λ (u : View). u.live) s.views 0 j v u first b n (omega (arith, lead.0, lead.1, out)) in
      ap (λ (l : List ℕ). times x l) (h.roles.idle j u b dead).0)) ∙ h.tickets x

  pub draw_allows : (lanes slots by : ℕ) (me : Me (Option T) View) → me.0.live ≡ 1
      → Allows (Kept names lanes) slots by me 0 (λ n. (n + 1) % 2 ^ 64) (Drew (step slots 0 1 0 none) me)
  draw_allows lanes slots by me live s h len at fits =
      let n = draws s.views in
      let most : (x : ℕ) → times x me.0.drawn ≤ once_below x n = λ x. let k = h.tickets x in let p = part_le (λ (u : View). times x u.drawn) s.views by me.0 at in omega (arith, k, p) in
      let more : (x : ℕ) → times x (me.0.drawn ++ n ∷ []) ≡ times x me.0.drawn + (if n == x then 1 else 0) = λ x. total_push (λ (y : ℕ). if y == x then 1 else 0) me.0.drawn n in (
        with_ticket me.0 n,
        keeps,
        tt,
        draw_keeps lanes s by me live h at,
        (
          (
            n,
            h.ticket_word,
            refl,
            all_below me.0.drawn n most,
            (λ x. omega (arith, most x, more x, below_more x n)),
            (λ leads out x. omega (arith, all_mine lanes s by me.0 h at leads out x, more x, below_more x n)),
          ),
          refl,
        ),
      )

  raise_keeps : (lanes lane : ℕ) (s : State (Option T) View) (by : ℕ) (me : Me (Option T) View) → me.0.live ≡ 1 → lane < lanes → Kept names lanes s → get_elem? s.views by ≡ some me.0
      → Kept names lanes (stepped s (lane + 3) ((slice_index s.words (lane + 3) + 1) % 2 ^ 64) by me.1 (with_raise me.0 lane) keeps)
  raise_keeps lanes lane s by me live less h at =
      let w = with_raise me.0 lane in
      let count : draws (set s.views by w) ≡ draws s.views = omega (arith, total_set (λ (u : View). length u.drawn) s.views by me.0 w at) in
      let rise : (l : ℕ) → raises l (set s.views by w) ≡ raises l s.views + (if lane == l then 1 else 0) =
      λ l. omega (arith, total_set (λ (u : View). times l u.raised) s.views by me.0 w at, total_push (λ (y : ℕ). if y == l then 1 else 0) me.0.raised lane) in
      let up : (l : ℕ) → raises l s.views ≤ raises l (set s.views by w) = λ l. omega (arith, rise l) in
      record {
        size = length-set s.words (lane + 3) _ ∙ h.size;
        slots = h.slots;
        roles = roles_set s.views by me.0 w at live refl refl refl h.roles;
        tickets = λ x. rw count (omega (arith, total_set (λ (u : View). times x u.drawn) s.views by me.0 w at, h.tickets x));
        ticket_word = rw count (get_or-set_other s.words (lane + 3) 0 _ 0 (λ e. omega (arith, e)) ∙ h.ticket_word);
        lane_words = λ l small. lanes_risen l (ℕ_discrete l lane) small rise;
        reached = reached_set s.views by w up h.reached (still_reached s.views (set s.views by w) me.0.seen up (h.reached by me.0 at));
        turns = turns_kept lanes s (lane + 3) _ by me w (λ slot small e. omega (arith, e)) (λ slot. omega (arith, total_set (λ (u : View). times slot u.has) s.views by me.0 w at)) h;
      }
    where
      lanes_risen : (l : ℕ) → Dec (l ≡ lane) → l < lanes
          → ((l : ℕ) → raises l (set s.views by (with_raise me.0 lane)) ≡ raises l s.views + (if lane == l then 1 else 0))
          → slice_index (set s.words (lane + 3) ((slice_index s.words (lane + 3) + 1) % 2 ^ 64)) (l + 3) ≡ raises l (set s.views by (with_raise me.0 lane)) % 2 ^ 64
      lanes_risen l (yes e) small rise =
          let new = set s.views by (with_raise me.0 lane) in
          let one : raises lane new ≡ raises lane s.views + 1 = let r = rise lane in grind (arith, nat_tests) in
          subst (λ (k : ℕ). slice_index (set s.words (lane + 3) ((slice_index s.words (lane + 3) + 1) % 2 ^ 64)) (k + 3) ≡ raises k new % 2 ^ 64) (sym e)
          (get_or-set_same s.words (lane + 3) _ 0 (omega (arith, h.size)) ∙ wraps (raises lane s.views) (raises lane new) (slice_index s.words (lane + 3)) (h.lane_words lane less) one)
      lanes_risen l (no n) small rise =
          let none' : raises l (set s.views by (with_raise me.0 lane)) ≡ raises l s.views = let r = rise l in grind (arith, nat_tests) in
          rw none' (get_or-set_other s.words (lane + 3) (l + 3) _ 0 (λ e. n (omega (arith, e))) ∙ h.lane_words l small)

  pub raise_allows : (lanes slots by lane : ℕ) (me : Me (Option T) View) → me.0.live ≡ 1 → lane < lanes
      → Allows (Kept names lanes) slots by me (lane + 3) (λ n. (n + 1) % 2 ^ 64) (Rose (step slots (lane + 3) 1 0 none) me)
  raise_allows lanes slots by lane me live less s h len at fits =
      let at_lane : lane + 3 - 3 ≡ lane = omega arith in
      (with_raise me.0 lane, keeps, tt, raise_keeps lanes lane s by me live less h at, (ap (λ l. with_raise me.0 l) (sym at_lane), refl))

  look_keeps : (lanes lane n : ℕ) (s : State (Option T) View) (by : ℕ) (me : Me (Option T) View) → me.0.live ≡ 1 → lane < lanes → n ≤ raises lane s.views → Kept names lanes s → get_elem? s.views by ≡ some me.0
      → Kept names lanes (stepped s (lane + 3) (slice_index s.words (lane + 3)) by me.1 (with_look me.0 lane n) keeps)
  look_keeps lanes lane n s by me live less fair h at =
      let w = with_look me.0 lane n in
      let count : draws (set s.views by w) ≡ draws s.views = omega (arith, total_set (λ (u : View). length u.drawn) s.views by me.0 w at) in
      let same : (l : ℕ) → raises l (set s.views by w) ≡ raises l s.views = λ l. omega (arith, total_set (λ (u : View). times l u.raised) s.views by me.0 w at) in
      let up : (l : ℕ) → raises l s.views ≤ raises l (set s.views by w) = λ l. le_of_eq (sym (same l)) in
      record {
        size = length-set s.words (lane + 3) _ ∙ h.size;
        slots = h.slots;
        roles = roles_set s.views by me.0 w at live refl refl refl h.roles;
        tickets = λ x. rw count (omega (arith, total_set (λ (u : View). times x u.drawn) s.views by me.0 w at, h.tickets x));
        ticket_word = rw count (get_or-set_other s.words (lane + 3) 0 _ 0 (λ e. omega (arith, e)) ∙ h.ticket_word);
        lane_words = λ l small. rw (same l) (unchanged l (ℕ_discrete l lane) ∙ h.lane_words l small);
        reached = reached_set s.views by w up h.reached
            (All-push (λ (p : ℕ × ℕ). p.1 ≤ raises p.0 (set s.views by w)) me.0.seen (lane, n) (still_reached s.views (set s.views by w) me.0.seen up (h.reached by me.0 at)) (let r = same lane in omega (arith, fair, r)));
        turns = turns_kept lanes s (lane + 3) _ by me w (λ slot small e. omega (arith, e)) (λ slot. omega (arith, total_set (λ (u : View). times slot u.has) s.views by me.0 w at)) h;
      }
    where
      unchanged : (l : ℕ) → Dec (l ≡ lane) → slice_index (set s.words (lane + 3) (slice_index s.words (lane + 3))) (l + 3) ≡ slice_index s.words (l + 3)
      unchanged l (yes e) =
          subst (λ (k : ℕ). slice_index (set s.words (lane + 3) (slice_index s.words (lane + 3))) (k + 3) ≡ slice_index s.words (k + 3)) (sym e)
          (get_or-set_same s.words (lane + 3) _ 0 (omega (arith, h.size)))
      unchanged l (no n) = get_or-set_other s.words (lane + 3) (l + 3) _ 0 (λ e. n (omega (arith, e)))

  pub look_allows : (lanes slots by lane : ℕ) (me : Me (Option T) View) → me.0.live ≡ 1 → lane < lanes
      → Allows (Kept names lanes) slots by me (lane + 3) (λ n. n) (Looked (step slots (lane + 3) 0 0 none) me)
  look_allows lanes slots by lane me live less s h len at fits =
      let n = raises lane s.views in
      let at_lane : lane ≡ lane + 3 - 3 = omega arith in
      let tells : Looks lane me.0 (slice_index s.words (lane + 3)) (with_look me.0 lane n) = (
        n,
        h.lane_words lane less,
        refl,
        part_le (λ (u : View). times lane u.raised) s.views by me.0 at,
        All-weaker (λ (p : ℕ × ℕ). p.1 ≤ raises p.0 s.views) (λ p. p.0 ≡ lane → p.1 ≤ n) (λ p k e. subst (λ (l : ℕ). p.1 ≤ raises l s.views) e k) me.0.seen (h.reached by me.0 at),
      ) in (
        with_look me.0 lane n,
        keeps,
        tt,
        look_keeps lanes lane n s by me live less (omega arith) h at,
        (subst (λ (l : ℕ). Looks l me.0 (slice_index s.words (lane + 3)) (with_look me.0 lane n)) at_lane tells, refl),
      )
