-- Seats that are split off and taken back keep the rule of the board, and the board that is closed has both slots at home.
use Rattle.std.proofs.Common.{◌≡◌, ◌≢◌, ℕ, ◌+◌, ◌<◌, ◌≤◌, ◌==◌, ◌⊎◌, true, true≢false, List, [], ◌∷◌, ◌++◌, length, set, Option, Some, unwrap_or, if◌then◌else◌, length-append, le_of_eq, ⊎_elim, inl, inr, subst, refl, sym, ap, ◌∙◌, arith}
use Rattle.std.proofs.lemmas.List.Elements.{All-append, All-nil}
use mathlib.Core.Option.{some, some-injective}
use lib.ListN.{get_elem?}
use Rattle.atomic_table.specs.Table.{State, Splits, Joins, Final, Seen}
use Rattle.atomic_table.proofs.Lists.{at_set, at_snoc, at_longer, set_here, set_else}
use Rattle.progress_board.specs.declared.view.View.{View}
use Rattle.progress_board.specs.Counts.{total, times, draws, raises, holders, IsReached}
use Rattle.progress_board.specs.Views.{one_more_out, newcomer, joined, spent}
use Rattle.progress_board.specs.Rule.{IsHome, IsOut, Roles, Kept}
use Rattle.progress_board.proofs.Totals.{total_set, total_push, total_append, part_le, at_below, others_none, one_has_all}
use Rattle.progress_board.proofs.Keeps.{still_reached}

-- what is added up stays the same where a seat gives nothing of it to the newcomer
split_total : (f : View → ℕ) (views : List View) (by : ℕ) (v : View) → get_elem? views by ≡ some v → f (one_more_out v) ≡ f v → f (newcomer v) ≡ 0 → total f (set views by (one_more_out v) ++ newcomer v ∷ []) ≡ total f views
split_total f views by v at same none' = omega (arith, total_push f (set views by (one_more_out v)) (newcomer v), total_set f views by v (one_more_out v) at, same, none')

-- what is added up stays the same where a seat takes over all that another had of it
join_total : (f : View → ℕ) (views : List View) (by other : ℕ) (v w : View) → get_elem? views by ≡ some v → get_elem? (set views by (joined v w)) other ≡ some w → f (joined v w) ≡ f v + f w → f spent ≡ 0
    → total f (set (set views by (joined v w)) other spent) ≡ total f views
join_total f views by other v w at there both none' = omega (arith, total_set f (set views by (joined v w)) other w spent there, total_set f views by v (joined v w) at, both, none')

split_roles : (views : List View) (by : ℕ) (v : View) → get_elem? views by ≡ some v → v.leads ≡ true → v.live ≡ 1 → Roles views → Roles (set views by (one_more_out v) ++ newcomer v ∷ [])
split_roles views by v at leads live h =
    let first : by ≡ 0 = h.leads by v at leads in
    let left = one_more_out v in
    let here : get_elem? (set views by left ++ newcomer v ∷ []) by ≡ some left = at_longer (set views by left) (newcomer v ∷ []) by left (set_here views by left (at_below views by v at)) in
    let lead = h.leader v (subst (λ (k : ℕ). get_elem? views k ≡ some v) first at) in
    let lives : total (λ (u : View). u.live) (set views by left ++ newcomer v ∷ []) ≡ 2 + v.out =
    omega (arith, total_push (λ (u : View). u.live) (set views by left) (newcomer v), total_set (λ (u : View). u.live) views by v left at, lead.1) in
    record {
      leader = λ u e.
          let is : left ≡ u = some-injective left u (sym (subst (λ (k : ℕ). get_elem? (set views by left ++ newcomer v ∷ []) k ≡ some left) first here) ∙ e) in
          subst (λ (y : View). (y.live ≡ 1) × (total (λ (u : View). u.live) (set views by left ++ newcomer v ∷ []) ≡ 1 + y.out)) is (live, omega (arith, lives));
      leads = λ j u e yes'.
          ⊎_elim
          (λ (x : get_elem? (set views by left) j ≡ some u).
          ⊎_elim
          (λ (y : (j ≡ by) × (left ≡ u)). y.0 ∙ first)
          (λ (y : (j ≢ by) × (get_elem? views j ≡ some u)). h.leads j u y.1 yes')
          (at_set views by j left u x))
          (λ (x : newcomer v ≡ u). absurd (true≢false (sym yes' ∙ sym (ap (λ (y : View). y.leads) x))))
          (at_snoc (set views by left) (newcomer v) u j e);
      idle = λ j u e dead.
          ⊎_elim
          (λ (x : get_elem? (set views by left) j ≡ some u).
          ⊎_elim
          (λ (y : (j ≡ by) × (left ≡ u)). let l : left.live ≡ u.live = ap (λ (y : View). y.live) y.1 in absurd (omega (arith, l, dead, live)))
          (λ (y : (j ≢ by) × (get_elem? views j ≡ some u)). h.idle j u y.1 dead)
          (at_set views by j left u x))
          (λ (x : newcomer v ≡ u). let l : 1 ≡ u.live = ap (λ (y : View). y.live) x in absurd (omega (arith, l, dead)))
          (at_snoc (set views by left) (newcomer v) u j e);
    }

join_roles : (views : List View) (by other : ℕ) (v w : View) → get_elem? views by ≡ some v → ¬ (other ≡ by) → get_elem? (set views by (joined v w)) other ≡ some w
    → v.leads ≡ true → v.live ≡ 1 → w.live ≡ 1 → Roles views → Roles (set (set views by (joined v w)) other spent)
join_roles views by other v w at apart there leads live live' h =
    let first : by ≡ 0 = h.leads by v at leads in
    let both = joined v w in
    let after = set (set views by both) other spent in
    let here : get_elem? after by ≡ some both = set_else (set views by both) other by spent (λ e. apart (sym e)) ∙ set_here views by both (at_below views by v at) in
    let lead = h.leader v (subst (λ (k : ℕ). get_elem? views k ≡ some v) first at) in
    let lives : total (λ (u : View). u.live) after + 1 ≡ 1 + v.out =
    omega (arith, total_set (λ (u : View). u.live) (set views by both) other w spent there, total_set (λ (u : View). u.live) views by v both at, lead.1, live') in
    let some_out : 1 ≤ total (λ (u : View). u.live) after = let p = part_le (λ (u : View). u.live) after by both here in omega (arith, p, live) in
    record {
      leader = λ u e.
          let is : both ≡ u = some-injective both u (sym (subst (λ (k : ℕ). get_elem? after k ≡ some both) first here) ∙ e) in
          subst (λ (y : View). (y.live ≡ 1) × (total (λ (u : View). u.live) after ≡ 1 + y.out)) is (live, omega (arith, lives, some_out));
      leads = λ j u e yes'.
          ⊎_elim
          (λ (x : (j ≡ other) × (spent ≡ u)). absurd (true≢false (sym yes' ∙ sym (ap (λ (y : View). y.leads) x.1))))
          (λ (x : (j ≢ other) × (get_elem? (set views by both) j ≡ some u)).
          ⊎_elim
          (λ (y : (j ≡ by) × (both ≡ u)). y.0 ∙ first)
          (λ (y : (j ≢ by) × (get_elem? views j ≡ some u)). h.leads j u y.1 yes')
          (at_set views by j both u x.1))
          (at_set (set views by both) other j spent u e);
      idle = λ j u e dead.
          ⊎_elim
          (λ (x : (j ≡ other) × (spent ≡ u)). (sym (ap (λ (y : View). y.drawn) x.1), sym (ap (λ (y : View). y.raised) x.1), sym (ap (λ (y : View). y.has) x.1)))
          (λ (x : (j ≢ other) × (get_elem? (set views by both) j ≡ some u)).
          ⊎_elim
          (λ (y : (j ≡ by) × (both ≡ u)). let l : both.live ≡ u.live = ap (λ (y : View). y.live) y.1 in absurd (omega (arith, l, dead, live)))
          (λ (y : (j ≢ by) × (get_elem? views j ≡ some u)). h.idle j u y.1 dead)
          (at_set views by j both u x.1))
          (at_set (set views by both) other j spent u e);
    }

module _ {T : Type 0} (names : T → ℕ) where
  -- the words and slots are the same, and so are all sums
  same_turns : (s : State (Option T) View) (views : List View) → ((slot : ℕ) → holders slot views ≡ holders slot s.views)
      → (slot : ℕ) → IsHome names slot s ⊎ IsOut slot s → IsHome names slot (record s { views = views }) ⊎ IsOut slot (record s { views = views })
  same_turns s views same slot h = ⊎_elim (λ (x : IsHome names slot s). inl (x.0, x.1, same slot ∙ x.2)) (λ (x : IsOut slot s). inr (x.0, x.1, same slot ∙ x.2)) h

  pub split_keeps : (lanes by : ℕ) (v : View) → v.leads ≡ true → v.live ≡ 1 → Splits {S = Option T} (Kept names lanes) by v (one_more_out v) (newcomer v)
  split_keeps lanes by v leads live s h at =
      let views = set s.views by (one_more_out v) ++ newcomer v ∷ [] in
      let count : draws views ≡ draws s.views = split_total (λ (u : View). length u.drawn) s.views by v at refl refl in
      let same : (l : ℕ) → raises l views ≡ raises l s.views = λ l. split_total (λ (u : View). times l u.raised) s.views by v at refl refl in
      let up : (l : ℕ) → raises l s.views ≤ raises l views = λ l. le_of_eq (sym (same l)) in
      let mine : IsReached views v.seen = still_reached s.views views v.seen up (h.reached by v at) in
      record {
        size = h.size;
        slots = h.slots;
        roles = split_roles s.views by v at leads live h.roles;
        tickets = λ x. rw count (split_total (λ (u : View). times x u.drawn) s.views by v at refl refl ∙ h.tickets x);
        ticket_word = rw count h.ticket_word;
        lane_words = λ l less. rw (same l) (h.lane_words l less);
        reached = λ j u e.
            ⊎_elim
            (λ (x : get_elem? (set s.views by (one_more_out v)) j ≡ some u).
            ⊎_elim
            (λ (y : (j ≡ by) × (one_more_out v ≡ u)). subst (λ (y : View). IsReached views y.seen) y.1 mine)
            (λ (y : (j ≢ by) × (get_elem? s.views j ≡ some u)). still_reached s.views views u.seen up (h.reached j u y.1))
            (at_set s.views by j (one_more_out v) u x))
            (λ (x : newcomer v ≡ u). subst (λ (y : View). IsReached views y.seen) x mine)
            (at_snoc (set s.views by (one_more_out v)) (newcomer v) u j e);
        turns = λ slot small. same_turns s views (λ k. split_total (λ (u : View). times k u.has) s.views by v at refl refl) slot (h.turns slot small);
      }

  pub join_keeps : (lanes by other : ℕ) (v w : View) → v.leads ≡ true → v.live ≡ 1 → w.live ≡ 1 → Joins {S = Option T} (Kept names lanes) by v other w (joined v w) spent
  join_keeps lanes by other v w leads live live' s h at apart there =
      let both = joined v w in
      let views = set (set s.views by both) other spent in
      let w_at : get_elem? s.views other ≡ some w = sym (set_else s.views by other both apart) ∙ there in
      let count : draws views ≡ draws s.views = join_total (λ (u : View). length u.drawn) s.views by other v w at there (length-append v.drawn w.drawn) refl in
      let same : (l : ℕ) → raises l views ≡ raises l s.views = λ l. join_total (λ (u : View). times l u.raised) s.views by other v w at there (total_append (λ (y : ℕ). if y == l then 1 else 0) v.raised w.raised) refl in
      let up : (l : ℕ) → raises l s.views ≤ raises l views = λ l. le_of_eq (sym (same l)) in
      let mine : IsReached views both.seen =
      All-append (λ (p : ℕ × ℕ). p.1 ≤ raises p.0 views) v.seen w.seen (still_reached s.views views v.seen up (h.reached by v at)) (still_reached s.views views w.seen up (h.reached other w w_at)) in
      record {
        size = h.size;
        slots = h.slots;
        roles = join_roles s.views by other v w at apart there leads live live' h.roles;
        tickets = λ x. rw count (join_total (λ (u : View). times x u.drawn) s.views by other v w at there (total_append (λ (y : ℕ). if y == x then 1 else 0) v.drawn w.drawn) refl ∙ h.tickets x);
        ticket_word = rw count h.ticket_word;
        lane_words = λ l less. rw (same l) (h.lane_words l less);
        reached = λ j u e.
            ⊎_elim
            (λ (x : (j ≡ other) × (spent ≡ u)). subst (λ (y : View). IsReached views y.seen) x.1 (All-nil (λ (p : ℕ × ℕ). p.1 ≤ raises p.0 views)))
            (λ (x : (j ≢ other) × (get_elem? (set s.views by both) j ≡ some u)).
            ⊎_elim
            (λ (y : (j ≡ by) × (both ≡ u)). subst (λ (y : View). IsReached views y.seen) y.1 mine)
            (λ (y : (j ≢ by) × (get_elem? s.views j ≡ some u)). still_reached s.views views u.seen up (h.reached j u y.1))
            (at_set s.views by j both u x.1))
            (at_set (set s.views by both) other j spent u e);
        turns = λ slot small. same_turns s views (λ k. join_total (λ (u : View). times k u.has) s.views by other v w at there (total_append (λ (y : ℕ). if y == k then 1 else 0) v.has w.has) refl) slot (h.turns slot small);
      }

  -- no seat has a slot where the first has all others back and has none
  none_out : (lanes by slot : ℕ) (v : View) (s : State (Option T) View) → v.leads ≡ true → v.out ≡ 0 → v.has ≡ [] → Kept names lanes s → get_elem? s.views by ≡ some v → holders slot s.views ≡ 0
  none_out lanes by slot v s leads out has h at =
      let first : get_elem? s.views 0 ≡ some v = subst (λ (k : ℕ). get_elem? s.views k ≡ some v) (h.roles.leads by v at leads) at in
      let lead = h.roles.leader v first in
      one_has_all (λ (u : View). times slot u.has) s.views 0 v first (λ j u n b.
      let dead : u.live ≡ 0 = others_none (λ (u : View). u.live) s.views 0 j v u first b n (omega (arith, lead.0, lead.1, out)) in
      ap (λ (l : List ℕ). times slot l) (h.roles.idle j u b dead).2) ∙ ap (λ (l : List ℕ). times slot l) has

  pub closes : (lanes by slot : ℕ) (v : View) (words : List ℕ) (items : List (Option T)) → v.leads ≡ true → v.out ≡ 0 → v.has ≡ [] → slot < 2
      → Final (Seen (Kept names lanes) by v) words items → (y : T) × (get_elem? items slot ≡ some (Some y)) × (names y ≡ slot)
  closes lanes by slot v words items leads out has small final =
      let s = final.0 in
      let h = final.1.0 in
      let none' = none_out lanes by slot v s leads out has h final.1.1 in
      ⊎_elim
      (λ (x : IsHome names slot s). (x.1.0, final.4 slot (Some x.1.0) x.1.1, x.1.2))
      (λ (x : IsOut slot s). absurd (omega (arith, x.2, none')))
      (h.turns slot small)

  -- what is found in a slot of a closed board names it
  pub found_names : (slot : ℕ) (items : List (Option T)) (found : Option T) → get_elem? items slot ≡ some found → (y : T) × (get_elem? items slot ≡ some (Some y)) × (names y ≡ slot)
      → (y : T) × (found ≡ Some y) × (names y ≡ slot)
  found_names slot items found at home = (home.0, some-injective found (Some home.0) (sym at ∙ home.1), home.2)

  pub the_value_names : (slot : ℕ) (found : Option T) (x : T) → found ≡ Some x → (y : T) × (found ≡ Some y) × (names y ≡ slot) → names x ≡ slot
  the_value_names slot found x is home = subst (λ (z : T). names z ≡ slot) (ap (λ o. unwrap_or o home.0) (sym home.1 ∙ is)) home.2
