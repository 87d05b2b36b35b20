-- What a reader that counts counts, and one that doesn't.
use Rattle.std.proofs.Common.{◌≡◌, ℕ, zero, suc, ap, List, [], ◌∷◌, Bool, refl, ◌∙◌}
use Rattle.std.specs.Prelude.{Ok, nat_eq}
use Rattle.vp9_types.specs.Reading.{after}
use Rattle.bool_decoder.specs.Window.{Window, bit_of, after_bit}
use Rattle.prob_contexts.specs.declared.kind.CountedBool.{CountedBool}
use Rattle.prob_contexts.specs.declared.kind.ProbKind.{ProbKind}
use Rattle.prob_contexts.specs.Code.{counts_after, with_bool}
use Rattle.counting_reader.specs.Counting.{count}
use Rattle.counting_reader.specs.CountedSymbols.{counted_flag}
use Rattle.counting_reader.specs.Code.{counts_by, moved_to, Standing, run_counting}
use Rattle.counting_reader.proofs.CountedBools.{counts_one}

abbrev IsOn : ℕ → Type 0
IsOn n = n ≡ 0 → ⊥

-- with this window and these counts
abbrev from_here : ℕ → Window → List ℕ → Standing
from_here n window counts = record { window = window; counts = counts; counting = counts_by n }

pub counts_on : (n : ℕ) (bools : List CountedBool) (w : Window) (counts new : List ℕ) → IsOn n → new ≡ counts_after counts bools
    → run_counting (count bools) (from_here n w counts) ≡ Ok (tt, from_here n w new)
unfolding run_counting count
counts_on zero bools w counts new on is = absurd (on refl)
counts_on (suc n) bools w counts new on is = rw is refl

pub counts_one_on : (n : ℕ) (b : CountedBool) (w : Window) (counts new : List ℕ) → IsOn n → new ≡ with_bool counts b
    → run_counting (count (b ∷ [])) (from_here n w counts) ≡ Ok (tt, from_here n w new)
counts_one_on n b w counts new on is = counts_on n (b ∷ []) w counts new on (is ∙ counts_one counts b)

pub counts_off : (n : ℕ) (bools : List CountedBool) (w : Window) (counts : List ℕ) → n ≡ 0 → run_counting (count bools) (from_here n w counts) ≡ Ok (tt, from_here n w counts)
unfolding run_counting count
counts_off n bools w counts off = rw off refl

abbrev left_by : ProbKind → ℕ → Bool → CountedBool
left_by kind place one = record { kind = kind; place = place; one = one }

-- a bool that was read, and is then counted
pub flag_counted : (n : ℕ) (kind : ProbKind) (place p : ℕ) (w next : Window) (counts : List ℕ) (one : Bool) (m : Standing)
    → one ≡ nat_eq (bit_of p w) 1 → next ≡ after_bit p w
    → run_counting (count (left_by kind place one ∷ [])) (from_here n next counts) ≡ Ok (tt, m)
    → run_counting (counted_flag kind place p) (from_here n w counts) ≡ Ok (one, m)
unfolding run_counting counted_flag count
flag_counted n kind place p w next counts one m is moves counted =
    rw is (ap (λ r. after r (λ _ n. Ok (nat_eq (bit_of p w) 1, n))) (rw (is, moves) at counted))

-- the same where the decoder is away
pub flag_counted_away : (n : ℕ) (kind : ProbKind) (place p : ℕ) (here w next : Window) (counts : List ℕ) (one : Bool) (m : Standing)
    → one ≡ nat_eq (bit_of p w) 1 → next ≡ after_bit p w
    → run_counting (count (left_by kind place one ∷ [])) (from_here n here counts) ≡ Ok (tt, m)
    → run_counting (counted_flag kind place p) (from_here n w counts) ≡ Ok (one, moved_to m next)
unfolding run_counting counted_flag count
flag_counted_away n kind place p here w next counts one m is moves counted =
    rw (is, moves) (ap (λ r. after r (λ _ n. Ok (nat_eq (bit_of p w) 1, moved_to n (after_bit p w)))) (rw is at counted))
