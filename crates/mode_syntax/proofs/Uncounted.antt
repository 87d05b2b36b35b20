-- Reading syntaxes for which nothing is counted, one after another.
use Rattle.std.proofs.Common.{◌≡◌, ℕ, refl, sym, ap}
use Rattle.std.specs.Prelude.{Ok}
use Rattle.vp9_types.specs.Syntax.{Syntax, done, broken, ask, ◌>>=◌}
use Rattle.vp9_types.specs.Reading.{after}
use Rattle.vp9_types.specs.declared.rule.Rule.{Rule}
use Rattle.bool_decoder.specs.Window.{bit_of, after_bit}
use Rattle.counting_reader.specs.Counting.{uncounted}
use Rattle.counting_reader.specs.Code.{Standing, run_counting}
use Rattle.counting_reader.proofs.CountingRuns.{run_uncounted}

pub uncounted_done : {A : Type 0} (x : A) (m : Standing) → run_counting (uncounted (done x)) m ≡ Ok (x, m)
uncounted_done x m = run_uncounted (done x) m

pub uncounted_bind : {A B : Type 0} (s : Syntax ℕ Rule A) (f : A → Syntax ℕ Rule B) (m : Standing)
    → run_counting (uncounted (s >>= f)) m ≡ after (run_counting (uncounted s) m) (λ x rest. run_counting (uncounted (f x)) rest)
unfolding run_counting uncounted
uncounted_bind (done x) f m = sym (ap (λ r. after r (λ y rest. run_counting (uncounted (f y)) rest)) (uncounted_done x m))
uncounted_bind (broken e) f m = refl
uncounted_bind (ask p k) f m = uncounted_bind (k (bit_of p m.window)) f (record { window = after_bit p m.window; counts = m.counts; counting = m.counting })
