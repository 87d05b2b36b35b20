-- Spans of a row that ends at the frame's edge.
use Rattle.std.proofs.Common.{◌≡◌, ◌≤◌, ◌<◌, ◌+◌, ◌-◌, ◌++◌, ◌∷◌, [], ℕ, refl, sym, ◌∙◌, arith, List, length, get_or, set, take, drop, Bool}
use Rattle.std.specs.Prelude.{min, true, false}
use Rattle.std.specs.List.{list_any}
use Rattle.std.proofs.Math.Path.{fun_ext}
use Rattle.std.proofs.Common.{ap}
use Rattle.std.specs.Bool.{beq}
use Rattle.std.proofs.lemmas.List.{take_all, take-set, drop-set, take-append-drop, drop_more, drop_all, append-nil, append_assoc}
use Rattle.std.proofs.Math.Bool.{or-false}
use Rattle.coef_tokens.specs.Flags.{any_set, marked}

pub any_true : (flags : List Bool) → list_any (λ y. beq y true) flags ≡ list_any (λ b. b) flags
any_true flags = ap (λ (f : Bool → Bool). list_any f flags) (fun_ext same)
  where
    same : (b : Bool) → beq b true ≡ b
    same true = refl
    same false = refl

-- a single flag
pub one_inside : (flags : List Bool) (from : ℕ) (one : Bool) → from < length flags → one ≡ get_or flags from false → one ≡ any_set flags from 1
one_inside flags from one low is = rw (drop_more flags from false low) (is ∙ sym (or-false (get_or flags from false)))

pub one_past : (flags : List Bool) (from : ℕ) → length flags ≤ from → any_set flags from 1 ≡ false
one_past flags from past = rw (drop_all from flags past) refl

set_split : (flags : List Bool) (from : ℕ) (value : Bool) → from < length flags → take from flags ++ value ∷ drop (from + 1) flags ≡ set flags from value
set_split flags from value low =
    ap (λ xs. xs ++ value ∷ drop (from + 1) flags) (sym (take-set flags from value))
    ∙ (ap (λ ys. take from (set flags from value) ++ ys) (sym (drop-set flags from value low))
    ∙ take-append-drop from (set flags from value))

pub mark_inside : (flags : List Bool) (from : ℕ) (value : Bool) → from < length flags → set flags from value ≡ marked flags from 1 value
unfolding marked
mark_inside flags from value low =
    let one : min 1 (length flags - from) ≡ 1 = omega arith in
    rw one (sym (append_assoc (take from flags) (value ∷ []) (drop (from + 1) flags) ∙ set_split flags from value low))

pub mark_past : (flags : List Bool) (from : ℕ) (value : Bool) → length flags ≤ from → flags ≡ marked flags from 1 value
unfolding marked
mark_past flags from value past =
    let none : min 1 (length flags - from) ≡ 0 = omega arith in
    let further : length flags ≤ from + 1 = omega arith in
    rw (none, take_all from flags past, drop_all (from + 1) flags further) (sym (append-nil (flags ++ []) ∙ append-nil flags))
