-- Slots that are taken and given keep the rule of the board.
use Rattle.std.proofs.Common.{◌≡◌, ◌≢◌, ℕ, ◌+◌, ◌-◌, ◌<◌, ◌≤◌, ◌⊎◌, List, [], ◌∷◌, length, set, slice_index, Option, Some, get_or-set_same, get_or-set_other, length-set, le_of_eq, ⊎_elim, inl, inr, subst, refl, sym, ap, ◌∙◌, arith}
use mathlib.Core.Option.{some, none}
use native.Mathlib.Decide.{ℕ_discrete}
use lib.ListN.{get_elem?}
use Rattle.atomic_table.specs.Table.{State, Me, keeps, takes, gives, step, Allows}
use Rattle.atomic_table.proofs.Lists.{set_here, set_else}
use Rattle.progress_board.specs.declared.view.View.{View}
use Rattle.progress_board.specs.Counts.{times, draws, raises, holders}
use Rattle.progress_board.specs.Views.{with_slots}
use Rattle.progress_board.specs.Rule.{IsHome, IsOut, Kept}
use Rattle.progress_board.specs.Code.{Took, Gave, rest, hand}
use Rattle.progress_board.proofs.Totals.{total_set, part_le, times_self, times_other}
use Rattle.progress_board.proofs.Keeps.{reached_set, still_reached, roles_set}

-- the board once a word was changed, and a view
abbrev after : {T : Type 0} → State (Option T) View → ℕ → ℕ → List (mathlib.Core.Option.Option (Option T)) → ℕ → View → State (Option T) View
after s word n homes by w = record { words = set s.words word n; homes = homes; views = set s.views by w }

-- the slot in front, under another name
pub front_of : {A : Type 0} (m v : List (ℕ × A)) (k j : ℕ) (y : A) → m ≡ (k, y) ∷ v → k ≡ j → m ≡ (j, y) ∷ Rattle.atomic_table.specs.Table.rest m
front_of {A} m v k j y is e = subst (λ (l : List (ℕ × A)). l ≡ (j, y) ∷ Rattle.atomic_table.specs.Table.rest l) (sym is) (ap (λ (n : ℕ). (n, y) ∷ v) e)

-- what a seat has once it put a value into its one slot
pub filled : {T : Type 0} (me : Me (Option T) View) (v : View) (carried : List (ℕ × Option T)) (has : List ℕ) (k slot : ℕ) (y : T)
    → me ≡ (v, (k, Some y) ∷ Rattle.atomic_table.specs.Table.rest carried) → carried ≡ hand has → has ≡ slot ∷ [] → k ≡ slot → me ≡ (v, (slot, Some y) ∷ [])
filled {T} me v carried has k slot y is empty one same =
    is
    ∙ (ap (λ (j : ℕ). (v, (j, Some y) ∷ Rattle.atomic_table.specs.Table.rest carried)) same
    ∙ ap (λ (l : List (ℕ × Option T)). (v, (slot, Some y) ∷ Rattle.atomic_table.specs.Table.rest l)) (empty ∙ ap (λ (l : List ℕ). hand l) one))

module _ {T : Type 0} (names : T → ℕ) where
  swap_keeps : (lanes slot n : ℕ) (s : State (Option T) View) (homes : List (mathlib.Core.Option.Option (Option T))) (by : ℕ) (v : View) (has : List ℕ)
      → v.live ≡ 1 → slot < 2 → Kept names lanes s → get_elem? s.views by ≡ some v → length homes ≡ 2
      → ((k : ℕ) → k < 2 → IsHome names k (after s (slot + 1) n homes by (with_slots v has)) ⊎ IsOut k (after s (slot + 1) n homes by (with_slots v has)))
      → Kept names lanes (after s (slot + 1) n homes by (with_slots v has))
  swap_keeps lanes slot n s homes by v has live small h at two turns =
      let w = with_slots v has in
      let count : draws (set s.views by w) ≡ draws s.views = omega (arith, total_set (λ (u : View). length u.drawn) s.views by v w at) in
      let same : (l : ℕ) → raises l (set s.views by w) ≡ raises l s.views = λ l. omega (arith, total_set (λ (u : View). times l u.raised) s.views by v w at) in
      let up : (l : ℕ) → raises l s.views ≤ raises l (set s.views by w) = λ l. le_of_eq (sym (same l)) in
      record {
        size = length-set s.words (slot + 1) _ ∙ h.size;
        slots = two;
        roles = roles_set s.views by v w at live refl refl refl h.roles;
        tickets = λ x. rw count (omega (arith, total_set (λ (u : View). times x u.drawn) s.views by v w at, h.tickets x));
        ticket_word = rw count (get_or-set_other s.words (slot + 1) 0 _ 0 (λ e. omega (arith, e)) ∙ h.ticket_word);
        lane_words = λ l less. rw (same l) (get_or-set_other s.words (slot + 1) (l + 3) _ 0 (λ e. omega (arith, e, small)) ∙ h.lane_words l less);
        reached = reached_set s.views by w up h.reached (still_reached s.views (set s.views by w) v.seen up (h.reached by v at));
        turns = turns;
      }

  -- a slot that the step doesn't name
  other_stays : (lanes slot k n : ℕ) (s : State (Option T) View) (homes : List (mathlib.Core.Option.Option (Option T))) (by : ℕ) (w : View)
      → Kept names lanes s → k < 2 → k ≢ slot → get_elem? homes k ≡ get_elem? s.homes k → holders k (set s.views by w) ≡ holders k s.views
      → IsHome names k (after s (slot + 1) n homes by w) ⊎ IsOut k (after s (slot + 1) n homes by w)
  other_stays lanes slot k n s homes by w h small apart home same =
      let word : slice_index (set s.words (slot + 1) n) (k + 1) ≡ slice_index s.words (k + 1) = get_or-set_other s.words (slot + 1) (k + 1) n 0 (λ e. apart (omega (arith, e))) in
      ⊎_elim
      (λ (a : IsHome names k s). inl (word ∙ a.0, (a.1.0, home ∙ a.1.1, a.1.2), same ∙ a.2))
      (λ (a : IsOut k s). inr (word ∙ a.0, home ∙ a.1, same ∙ a.2))
      (h.turns k small)

  -- a slot that was at home is out
  taken : (lanes by slot : ℕ) (s : State (Option T) View) (v : View) → v.live ≡ 1 → slot < 2 → Kept names lanes s → get_elem? s.views by ≡ some v → IsHome names slot s
      → Kept names lanes (after s (slot + 1) 1 (set s.homes slot none) by (with_slots v (slot ∷ v.has)))
  taken lanes by slot s v live small h at home =
      swap_keeps lanes slot 1 s (set s.homes slot none) by v (slot ∷ v.has) live small h at (length-set s.homes slot none ∙ h.slots) (λ k less. turn k less (ℕ_discrete k slot))
    where
      w : View
      w = with_slots v (slot ∷ v.has)

      turn : (k : ℕ) → k < 2 → Dec (k ≡ slot)
          → IsHome names k (after s (slot + 1) 1 (set s.homes slot none) by (with_slots v (slot ∷ v.has))) ⊎ IsOut k (after s (slot + 1) 1 (set s.homes slot none) by (with_slots v (slot ∷ v.has)))
      turn k less (yes e) =
          subst (λ (j : ℕ). IsHome names j (after s (slot + 1) 1 (set s.homes slot none) by (with_slots v (slot ∷ v.has))) ⊎ IsOut j (after s (slot + 1) 1 (set s.homes slot none) by (with_slots v (slot ∷ v.has)))) (sym e)
          (inr (
            get_or-set_same s.words (slot + 1) 1 0 (omega (arith, h.size, small)),
            set_here s.homes slot none (omega (arith, h.slots, small)),
            omega (arith, total_set (λ (u : View). times slot u.has) s.views by v (with_slots v (slot ∷ v.has)) at, times_self slot v.has, home.2),
          ))
      turn k less (no n) =
          other_stays lanes slot k 1 s (set s.homes slot none) by (with_slots v (slot ∷ v.has)) h less n (set_else s.homes slot k none n)
          (omega (arith, total_set (λ (u : View). times k u.has) s.views by v (with_slots v (slot ∷ v.has)) at, times_other k slot v.has n))

  -- a slot that is out stays out
  refused : (lanes by slot : ℕ) (s : State (Option T) View) (v : View) → v.live ≡ 1 → slot < 2 → Kept names lanes s → get_elem? s.views by ≡ some v → IsOut slot s
      → Kept names lanes (after s (slot + 1) 1 s.homes by (with_slots v v.has))
  refused lanes by slot s v live small h at out = swap_keeps lanes slot 1 s s.homes by v v.has live small h at h.slots (λ k less. turn k less (ℕ_discrete k slot))
    where
      same : (k : ℕ) → holders k (set s.views by (with_slots v v.has)) ≡ holders k s.views
      same k = omega (arith, total_set (λ (u : View). times k u.has) s.views by v (with_slots v v.has) at)

      turn : (k : ℕ) → k < 2 → Dec (k ≡ slot)
          → IsHome names k (after s (slot + 1) 1 s.homes by (with_slots v v.has)) ⊎ IsOut k (after s (slot + 1) 1 s.homes by (with_slots v v.has))
      turn k less (yes e) =
          subst (λ (j : ℕ). IsHome names j (after s (slot + 1) 1 s.homes by (with_slots v v.has)) ⊎ IsOut j (after s (slot + 1) 1 s.homes by (with_slots v v.has))) (sym e)
          (inr (get_or-set_same s.words (slot + 1) 1 0 (omega (arith, h.size, small)), out.1, same slot ∙ out.2))
      turn k less (no n) = other_stays lanes slot k 1 s s.homes by (with_slots v v.has) h less n refl (same k)

  pub take_allows : (lanes slots by slot : ℕ) (me : Me (Option T) View) → me.0.live ≡ 1 → slot < 2
      → Allows (Kept names lanes) slots by me (slot + 1) (λ _. 1) (Took names (step slots (slot + 1) 1 0 none) me)
  take_allows lanes slots by slot me live small s h len at fits =
      let here : slot ≡ slot + 1 - 1 = omega arith in
      ⊎_elim
      (λ (x : IsHome names slot s). (
        with_slots me.0 (slot ∷ me.0.has),
        takes slot (Some x.1.0),
        x.1.1,
        taken lanes by slot s me.0 live small h at x,
        inl (x.0, ap (λ k. with_slots me.0 (k ∷ me.0.has)) here, (x.1.0, x.1.2 ∙ here, ap (λ k. (k, Some x.1.0) ∷ me.1) here)),
      ))
      (λ (x : IsOut slot s). (with_slots me.0 me.0.has, keeps, tt, refused lanes by slot s me.0 live small h at x, inr (x.0, refl, refl)))
      (h.turns slot small)

  -- a slot is at home again
  given : (lanes by slot : ℕ) (s : State (Option T) View) (v : View) (y : T) → v.live ≡ 1 → slot < 2 → v.has ≡ slot ∷ [] → names y ≡ slot → Kept names lanes s → get_elem? s.views by ≡ some v → IsOut slot s
      → Kept names lanes (after s (slot + 1) 0 (set s.homes slot (some (Some y))) by (with_slots v []))
  given lanes by slot s v y live small has name h at out =
      swap_keeps lanes slot 0 s (set s.homes slot (some (Some y))) by v [] live small h at (length-set s.homes slot _ ∙ h.slots) (λ k less. turn k less (ℕ_discrete k slot))
    where
      less_held : (k : ℕ) → holders k (set s.views by (with_slots v [])) + times k (slot ∷ []) ≡ holders k s.views
      less_held k = omega (arith, total_set (λ (u : View). times k u.has) s.views by v (with_slots v []) at, ap (λ l. times k l) has)

      turn : (k : ℕ) → k < 2 → Dec (k ≡ slot)
          → IsHome names k (after s (slot + 1) 0 (set s.homes slot (some (Some y))) by (with_slots v [])) ⊎ IsOut k (after s (slot + 1) 0 (set s.homes slot (some (Some y))) by (with_slots v []))
      turn k less (yes e) =
          subst (λ (j : ℕ). IsHome names j (after s (slot + 1) 0 (set s.homes slot (some (Some y))) by (with_slots v [])) ⊎ IsOut j (after s (slot + 1) 0 (set s.homes slot (some (Some y))) by (with_slots v []))) (sym e)
          (inl (
            get_or-set_same s.words (slot + 1) 0 0 (omega (arith, h.size, small)),
            (y, set_here s.homes slot (some (Some y)) (omega (arith, h.slots, small)), name),
            omega (arith, less_held slot, times_self slot [], out.2),
          ))
      turn k less (no n) =
          other_stays lanes slot k 0 s (set s.homes slot (some (Some y))) by (with_slots v []) h less n (set_else s.homes slot k (some (Some y)) n)
          (omega (arith, less_held k, times_other k slot [] n))

  -- a slot that a seat has is out
  is_out : (lanes by slot : ℕ) (s : State (Option T) View) (v : View) → slot < 2 → v.has ≡ slot ∷ [] → Kept names lanes s → get_elem? s.views by ≡ some v → IsOut slot s
  is_out lanes by slot s v small has h at =
      ⊎_elim
      (λ (x : IsHome names slot s). absurd (omega (arith, x.2, part_le (λ (u : View). times slot u.has) s.views by v at, ap (λ l. times slot l) has, times_self slot [])))
      (λ (x : IsOut slot s). x)
      (h.turns slot small)

  give_allows : (lanes slots by slot : ℕ) (v : View) (y : T) → v.live ≡ 1 → slot < 2 → v.has ≡ slot ∷ [] → names y ≡ slot
      → Allows (Kept names lanes) slots by (v, (slot, Some y) ∷ []) (slot + 1) (λ _. 0) (Gave (step slots (slot + 1) 0 0 none) (v, (slot, Some y) ∷ []))
  give_allows lanes slots by slot v y live small has name s h len at fits = (
    with_slots v [],
    gives,
    tt,
    given lanes by slot s v y live small has name h at (is_out lanes by slot s v small has h at),
    (ap (λ l. with_slots v (rest l)) (sym has), refl),
  )

  pub give_allows_as : (lanes slots by slot : ℕ) (me : Me (Option T) View) (v : View) (y : T) → me ≡ (v, (slot, Some y) ∷ []) → v.live ≡ 1 → slot < 2 → v.has ≡ slot ∷ [] → names y ≡ slot
      → Allows (Kept names lanes) slots by me (slot + 1) (λ _. 0) (Gave (step slots (slot + 1) 0 0 none) me)
  give_allows_as lanes slots by slot me v y is live small has name =
      subst (λ (m : Me (Option T) View). Allows (Kept names lanes) slots by m (slot + 1) (λ _. 0) (Gave (step slots (slot + 1) 0 0 none) m)) (sym is) (give_allows lanes slots by slot v y live small has name)
