-- Reading one syntax and then another is reading the first, and then the other from there.
use Rattle.std.proofs.Common.{◌≡◌, ℕ, refl}
use Rattle.std.specs.Prelude.{Result, Ok, Err}
use Rattle.vp9_types.specs.Syntax.{Syntax, done, broken, ask, ◌>>=◌}
use Rattle.vp9_types.specs.Reading.{after, run}

-- one answer, and all that follows
leads : {Q E A B M : Type 0} (answer : Q → M → Result (ℕ × M) E) (read : Result (ℕ × M) E) (k : ℕ → Syntax Q E A) (f : A → Syntax Q E B)
    → ((v : ℕ) (m : M) → run answer (k v >>= f) m ≡ after (run answer (k v) m) (λ x rest. run answer (f x) rest))
    → after read (λ v rest. run answer (k v >>= f) rest) ≡ after (after read (λ v rest. run answer (k v) rest)) (λ x rest. run answer (f x) rest)
leads answer (Ok p) k f each = each p.0 p.1
leads answer (Err e) k f each = refl

pub run_bind : {Q E A B M : Type 0} (answer : Q → M → Result (ℕ × M) E) (s : Syntax Q E A) (f : A → Syntax Q E B) (m : M)
    → run answer (s >>= f) m ≡ after (run answer s m) (λ x rest. run answer (f x) rest)
run_bind answer (done x) f m = refl
run_bind answer (broken e) f m = refl
run_bind answer (ask q k) f m = leads answer (answer q m) k f (λ v rest. run_bind answer (k v) f rest)
