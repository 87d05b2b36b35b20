-- A syntax of bools that settles on a value and on the bools that are counted for it, in order (9.3.4 of the standard).
use Rattle.std.specs.Prelude.{ℕ, List, [], ◌∷◌, ◌++◌, Result, Ok, Err}
use Rattle.vp9_types.specs.Syntax.{Syntax, done, broken, ask}
use Rattle.vp9_types.specs.declared.rule.Rule.{Rule}
use Rattle.prob_contexts.specs.declared.kind.CountedBool.{CountedBool}

pub record Settled (A : Type 0) : Type 0 where
  pub value : A
  pub counted : List CountedBool

abbrev pub Counting : Type 0 → Type 0
Counting A = Syntax ℕ Rule (Settled A)

-- a value, and nothing is counted for it
unfoldable pub settle : {A : Type 0} → A → Counting A
settle x = done (record { value = x; counted = [] })

-- these are counted
unfoldable pub count : List CountedBool → Counting (Unit {0})
count bools = done (record { value = tt; counted = bools })

-- a syntax for which nothing is counted
unfoldable pub uncounted : {A : Type 0} → Syntax ℕ Rule A → Syntax ℕ Rule (Settled A)
uncounted (done x) = done (record { value = x; counted = [] })
uncounted (broken e) = broken e
uncounted (ask p k) = ask p (λ v. uncounted (k v))

-- the same, with these counted before
unfoldable pub counted_before : {A : Type 0} → List CountedBool → Syntax ℕ Rule (Settled A) → Syntax ℕ Rule (Settled A)
counted_before bools (done s) = done (record { value = s.value; counted = bools ++ s.counted })
counted_before bools (broken e) = broken e
counted_before bools (ask p k) = ask p (λ v. counted_before bools (k v))

-- one, and then another that knows what value the first settled on
unfoldable pub in_order : {A B : Type 0} → Syntax ℕ Rule (Settled A) → (A → Syntax ℕ Rule (Settled B)) → Syntax ℕ Rule (Settled B)
in_order (done s) f = counted_before s.counted (f s.value)
in_order (broken e) f = broken e
in_order (ask p k) f = ask p (λ v. in_order (k v) f)

infixl 10 ◌>>=◌
abbrev pub ◌>>=◌ : {A B : Type 0} → Syntax ℕ Rule (Settled A) → (A → Syntax ℕ Rule (Settled B)) → Syntax ℕ Rule (Settled B)
s >>= f = in_order s f

infixl 10 ◌>>◌
abbrev pub ◌>>◌ : {A B : Type 0} → Syntax ℕ Rule (Settled A) → Syntax ℕ Rule (Settled B) → Syntax ℕ Rule (Settled B)
s >> t = in_order s (λ _. t)

-- a value, or the rule that is broken at its place
unfoldable pub lifted : {A : Type 0} → Result A Rule → Syntax ℕ Rule (Settled A)
lifted (Ok x) = settle x
lifted (Err rule) = broken rule

-- a state goes through the elements of a list in order
unfoldable pub through : {A S : Type 0} → (A → S → Syntax ℕ Rule (Settled S)) → List A → S → Syntax ℕ Rule (Settled S)
through f [] s = settle s
through f (x ∷ xs) s = f x s >>= through f xs

-- what is asked and counted stays, and the value goes through f
unfoldable pub mapped : {A B : Type 0} → (A → B) → Syntax ℕ Rule (Settled A) → Syntax ℕ Rule (Settled B)
mapped f (done s) = done (record { value = f s.value; counted = s.counted })
mapped f (broken e) = broken e
mapped f (ask p k) = ask p (λ v. mapped f (k v))

-- whatever a syntax settles on has a property
abbrev pub Yields : {A : Type 0} → Syntax ℕ Rule (Settled A) → (A → Type 0) → Type 0
Yields (done x) P = P x.value
Yields (broken e) P = Unit {0}
Yields (ask p k) P = (v : ℕ) → Yields (k v) P
