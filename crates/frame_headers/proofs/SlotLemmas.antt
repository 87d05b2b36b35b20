-- Slots are refreshed one after another.
use Rattle.std.proofs.Common.{◌≡◌, ℕ, ◌+◌, ◌/◌, ◌<◌, ◌≤◌, List, [], ◌∷◌, ◌++◌, length, get_or, take, drop, refl, ap, sym, inl, inr, ◌∙◌, append_assoc, arith}
use Rattle.std.specs.Prelude.{Option, Some, map, ◌%◌, ◌==◌}
use Rattle.std.proofs.lemmas.Bool.{cases_Bool}
use Rattle.std.proofs.Math.ListN.{set}
use Rattle.std.proofs.lemmas.Grind.{drop_more_same}
use Rattle.std.proofs.lemmas.List.{take_more_set, drop-set-lt, take_all, drop_all, append-nil, drop_more}
use Rattle.frame_headers.specs.HeaderState.{held, refreshed}

-- the first i slots are refreshed, and the others are as they were
pub record IsRefreshed {A : Type 0} (refresh : ℕ) (frame : A) (before : List (Option A)) (i flags : ℕ) (slots : List (Option A)) : Type 0 where
  pub front : take i slots ++ refreshed flags frame (drop i before) ≡ refreshed refresh frame before
  pub back : drop i slots ≡ drop i before

pub slot_refreshed : {A : Type 0} (refresh : ℕ) (frame : A) (before : List (Option A)) (i flags : ℕ) (slots : List (Option A)) (old : Option A)
    → i < length slots → length slots ≡ length before
    → IsRefreshed refresh frame before i flags slots
    → IsRefreshed refresh frame before (i + 1) (flags / 2) (set slots i (held flags frame (get_or slots i old)))
slot_refreshed refresh frame before i flags slots old low long h =
    let x = held flags frame (get_or slots i old) in
    let low_before : i < length before = omega arith in
    let split = drop_more before i old low_before in
    let was : get_or slots i old ∷ drop (i + 1) slots ≡ get_or before i old ∷ drop (i + 1) before = sym (drop_more slots i old low) ∙ h.back ∙ split in
    let same : get_or slots i old ≡ get_or before i old = cc in
    let rest = refreshed (flags / 2) frame (drop (i + 1) before) in
    record {
      front = ap (λ xs. xs ++ rest) (take_more_set slots i x low)
          ∙ append_assoc (take i slots) (x ∷ []) rest
          ∙ ap (λ y. take i slots ++ (held flags frame y ∷ rest)) same
          ∙ ap (λ xs. take i slots ++ refreshed flags frame xs) (sym split)
          ∙ h.front;
      back = drop-set-lt (i + 1) slots i x (omega arith) ∙ drop_more_same slots before i h.back;
    }

pub all_refreshed : {A : Type 0} (refresh : ℕ) (frame : A) (before : List (Option A)) (i flags : ℕ) (slots : List (Option A))
    → length slots ≤ i → length slots ≡ length before → IsRefreshed refresh frame before i flags slots → slots ≡ refreshed refresh frame before
all_refreshed refresh frame before i flags slots all long h =
    sym (take_all i slots all) ∙ sym (append-nil (take i slots))
    ∙ ap (λ xs. take i slots ++ refreshed flags frame xs) (sym (drop_all i before (omega arith))) ∙ h.front

---- What is told of slots ----

held_told : {A B : Type 0} (g : Option A → Option B) (flags : ℕ) (frame : A) (told : B) (old : Option A) → g (Some frame) ≡ Some told → g (held flags frame old) ≡ held flags told (g old)
held_told g flags frame told old is = elim (cases_Bool (flags % 2 == 1)) [ inl one ↦ rw one is | inr none ↦ rw none refl ]

-- what is told of refreshed slots is what is told of the slots, refreshed by what is told of the frame
pub refreshed_told : {A B : Type 0} (g : Option A → Option B) (slots : List (Option A)) (flags : ℕ) (frame : A) (told : B) → g (Some frame) ≡ Some told
    → map g (refreshed flags frame slots) ≡ refreshed flags told (map g slots)
refreshed_told g [] flags frame told is = refl
refreshed_told g (slot ∷ slots) flags frame told is =
    ap (λ s. s ∷ map g (refreshed (flags / 2) frame slots)) (held_told g flags frame told slot is)
    ∙ ap (λ ss. held flags told (g slot) ∷ ss) (refreshed_told g slots (flags / 2) frame told is)
