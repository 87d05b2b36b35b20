-- How a syntax is written: its questions are answered one after another, and each answer is put where it is to be read.
use Rattle.std.specs.Prelude.{◌≡◌, ℕ, Result, Ok, Err}
use Rattle.vp9_types.specs.Syntax.{Syntax, done, broken, ask, ◌>>=◌}

-- answers that lead the syntax to the value were put
abbrev pub Writes : {Q E A M : Type 0} → (Q → ℕ → Type 0) → (Q → ℕ → M → M) → Syntax Q E A → M → A → M → Type 0
Writes can put (done x) old y new = (x ≡ y) × (old ≡ new)
Writes can put (broken e) old y new = ⊥
Writes can put (ask q k) old y new = (v : ℕ) × can q v × Writes can put (k v) (put q v old) y new

-- answers that lead the syntax to its end were put: to the value, or to the test that fails
abbrev pub WritesTo : {Q E A M : Type 0} → (Q → ℕ → Type 0) → (Q → ℕ → M → M) → Syntax Q E A → M → Result A E → M → Type 0
WritesTo can put (done x) old r new = (r ≡ Ok x) × (old ≡ new)
WritesTo can put (broken e) old r new = (r ≡ Err e) × (old ≡ new)
WritesTo can put (ask q k) old r new = (v : ℕ) × can q v × WritesTo can put (k v) (put q v old) r new

-- the answers so far lead one syntax to what the other still asks
abbrev pub Leads : {Q E A M : Type 0} → (Q → ℕ → Type 0) → (Q → ℕ → M → M) → Syntax Q E A → M → Syntax Q E A → M → Type 0
Leads {A = A} {M = M} can put s old rest now = (x : A) (new : M) → Writes can put rest now x new → Writes can put s old x new

-- one syntax, and then another
abbrev pub followed : {Q E A B : Type 0} → Syntax Q E A → (A → Syntax Q E B) → Syntax Q E B
followed s f = s >>= f
