-- A syntax for each element of a list, in order. It knows what stood there before.
use Rattle.std.specs.Prelude.{ℕ, List, [], ◌∷◌, ◌++◌, Result, Ok}
use Rattle.vp9_types.specs.Syntax.{Syntax, done, ◌>>=◌}
use Rattle.vp9_types.specs.Reading.{after, run}

abbrev pub each : {Q E A B : Type 0} → (A → Syntax Q E B) → List A → Syntax Q E (List B)
each s [] = done []
each s (x ∷ xs) = do
  y ← s x
  ys ← each s xs
  done (y ∷ ys)

-- each element of the back is still to be read, those of the front were
abbrev pub run_each_from : {Q E A B M : Type 0} → (Q → M → Result (ℕ × M) E) → (A → Syntax Q E B) → List B → List A → M → Result (List B × M) E
run_each_from answer s front back m = after (run answer (each s back) m) (λ ys rest. Ok (front ++ ys, rest))
