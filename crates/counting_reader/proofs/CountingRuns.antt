-- Reading one counting syntax and then another is reading the first, and then the other from there, with the counts so far.
use Rattle.std.proofs.Common.{◌≡◌, ℕ, List, [], ◌++◌, Bool, true, false, refl, ap}
use Rattle.std.specs.Prelude.{Ok}
use Rattle.std.proofs.lemmas.List.Sums.{fold-append}
use Rattle.vp9_types.specs.Syntax.{Syntax, done, broken, ask}
use Rattle.vp9_types.specs.Reading.{after}
use Rattle.vp9_types.specs.declared.rule.Rule.{Rule}
use Rattle.bool_decoder.specs.Window.{Window, bit_of, after_bit}
use Rattle.bool_decoder.specs.Bools.{run_bools}
use Rattle.prob_contexts.specs.declared.kind.CountedBool.{CountedBool}
use Rattle.prob_contexts.specs.Code.{counts_after, with_bool}
use Rattle.counting_reader.specs.Counting.{Settled, settle, count, uncounted, counted_before, in_order}
use Rattle.counting_reader.specs.Code.{Standing, run_counting, counted_if, counted_at, with_same_counts, silent, read_silently}

counted_none : (counting : Bool) (counts : List ℕ) → counted_if counting counts [] ≡ counts
unfolding counts_after
counted_none true counts = refl
counted_none false counts = refl

counted_both : (counting : Bool) (counts : List ℕ) (xs ys : List CountedBool)
    → counted_if counting counts (xs ++ ys) ≡ counted_if counting (counted_if counting counts xs) ys
unfolding counts_after
counted_both true counts xs ys = fold-append with_bool counts xs ys
counted_both false counts xs ys = refl

abbrev with_these : Standing → Window → List ℕ → Standing
with_these m window counts = record { window = window; counts = counts; counting = m.counting }

pub run_settle : {A : Type 0} (x : A) (m : Standing) → run_counting (settle x) m ≡ Ok (x, m)
unfolding run_counting settle
run_settle x m = ap (λ counts. Ok (x, with_these m m.window counts)) (counted_none m.counting m.counts)

pub run_count : (bools : List CountedBool) (m : Standing) → run_counting (count bools) m ≡ Ok (tt, counted_at m bools)
unfolding run_counting count
run_count bools m = refl

pub run_uncounted : {A : Type 0} (s : Syntax ℕ Rule A) (m : Standing) → run_counting (uncounted s) m ≡ with_same_counts (run_bools s m.window) m.counts m.counting
unfolding run_counting uncounted
run_uncounted (done x) m = ap (λ counts. Ok (x, with_these m m.window counts)) (counted_none m.counting m.counts)
run_uncounted (broken e) m = refl
run_uncounted (ask p k) m = run_uncounted (k (bit_of p m.window)) (with_these m (after_bit p m.window) m.counts)

run_behind : {A : Type 0} (bools : List CountedBool) (s : Syntax ℕ Rule (Settled A)) (m : Standing)
    → run_counting (counted_before bools s) m ≡ run_counting s (counted_at m bools)
unfolding run_counting counted_before
run_behind bools (done s) m = ap (λ counts. Ok (s.value, with_these m m.window counts)) (counted_both m.counting m.counts bools s.counted)
run_behind bools (broken e) m = refl
run_behind bools (ask p k) m = run_behind bools (k (bit_of p m.window)) (with_these m (after_bit p m.window) m.counts)

pub counting_bind : {A B : Type 0} (s : Syntax ℕ Rule (Settled A)) (f : A → Syntax ℕ Rule (Settled B)) (m : Standing)
    → run_counting (in_order s f) m ≡ after (run_counting s m) (λ x rest. run_counting (f x) rest)
unfolding run_counting in_order
counting_bind (done s) f m = run_behind s.counted (f s.value) m
counting_bind (broken e) f m = refl
counting_bind (ask p k) f m = counting_bind (k (bit_of p m.window)) f (with_these m (after_bit p m.window) m.counts)

-- who doesn't count reads the same, and leaves the counts
pub run_silent : {A : Type 0} (s : Syntax ℕ Rule (Settled A)) (m : Standing)
    → run_counting s (silent m) ≡ read_silently (run_counting s m) m.counts
unfolding run_counting
run_silent (done s) m = refl
run_silent (broken e) m = refl
run_silent (ask p k) m = run_silent (k (bit_of p m.window)) (with_these m (after_bit p m.window) m.counts)
