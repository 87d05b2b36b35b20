-- What is read, as a tree. A syntax has settled on a value, or a test failed at its place, or it asks the next
-- question (a field of a header, a bool at a probability) and says how it goes on after each answer.
use Rattle.std.specs.Prelude.{ℕ, Bool, true, false}

pub data Syntax (Q E A : Type 0) : Type 0 where
  done : A → Syntax Q E A
  broken : E → Syntax Q E A
  ask : Q → (ℕ → Syntax Q E A) → Syntax Q E A

-- one syntax, and then another that knows what the first settled on
infixl 10 ◌>>=◌
abbrev pub ◌>>=◌ : {Q E A B : Type 0} → Syntax Q E A → (A → Syntax Q E B) → Syntax Q E B
(done x) >>= f = f x
(broken e) >>= f = broken e
(ask q k) >>= f = ask q (λ v. k v >>= f)

infixl 10 ◌>>◌
abbrev pub ◌>>◌ : {Q E A B : Type 0} → Syntax Q E A → Syntax Q E B → Syntax Q E B
s >> t = s >>= λ _. t

-- a test in its place: where it doesn't hold, the syntax is broken
abbrev pub check : {Q E : Type 0} → Bool → E → Syntax Q E (Unit {0})
check true e = done tt
check false e = broken e
