-- Tiles read in order, and those of a tile column read alone: what the law of columns speaks of.
use Rattle.std.specs.Prelude.{◌≡◌, ℕ, List, [], ◌∷◌, ◌++◌, Result, Ok, Err, filter, nat_eq, if◌then◌else◌}
use Rattle.vp9_types.specs.declared.rule.Rule.{Rule}
use Rattle.bool_decoder.specs.Window.{Window}
use Rattle.prob_contexts.specs.declared.kind.CountedBool.{CountedBool}
use Rattle.counting_reader.specs.Counting.{Settled}

-- these are counted before
abbrev pub with_counted : {S E : Type 0} → List CountedBool → Result (Settled S) E → Result (Settled S) E
with_counted bools (Ok s) = Ok (record { value = s.value; counted = bools ++ s.counted })
with_counted bools (Err e) = Err e

abbrev pub then_rest : {S E : Type 0} → ℕ → Result (Settled S) E → (S → Result (Settled S) (ℕ × E)) → Result (Settled S) (ℕ × E)
then_rest n (Ok s) f = with_counted s.counted (f s.value)
then_rest n (Err e) f = Err (n, e)

-- Tiles by their numbers, each from where the last left the state, and all that they count; or the first that fails.
unfoldable pub read_all : {S E : Type 0} → (ℕ → S → Result (Settled S) E) → List ℕ → S → Result (Settled S) (ℕ × E)
read_all step [] s = Ok (record { value = s; counted = [] })
read_all step (n ∷ ns) s = then_rest n (step n s) (read_all step ns)

abbrev pub viewed : {S T E : Type 0} → (S → T) → Result (Settled S) E → Result (Settled T) E
viewed f (Ok s) = Ok (record { value = f s.value; counted = s.counted })
viewed f (Err e) = Err e

abbrev pub counted_of : {S E : Type 0} → Result (Settled S) E → List CountedBool
counted_of (Ok s) = s.counted
counted_of (Err e) = []

-- A tile does to the part of the state that its column sees what it does to the state, and leaves the other columns' parts.
pub record AreSeparate {S T E : Type 0} (column_of : ℕ → ℕ) (step : ℕ → S → Result (Settled S) E) (view : ℕ → S → T) (column_step : ℕ → T → Result (Settled T) E) : Type 0 where
  pub own : (n : ℕ) (s : S) → column_step n (view (column_of n) s) ≡ viewed (view (column_of n)) (step n s)
  pub others : (n k : ℕ) (s : S) (t : Settled S) → (column_of n ≡ k → ⊥) → step n s ≡ Ok t → view k t.value ≡ view k s

abbrev pub tiles_of : (ℕ → ℕ) → ℕ → List ℕ → List ℕ
tiles_of column_of k ns = filter (λ n. nat_eq (column_of n) k) ns

-- a column read alone, over the tiles of these numbers
abbrev pub column_alone : {S T E : Type 0} → (ℕ → ℕ) → (ℕ → S → T) → (ℕ → T → Result (Settled T) E) → List ℕ → S → ℕ → Result (Settled T) (ℕ × E)
column_alone column_of view column_step ns s k = read_all column_step (tiles_of column_of k ns) (view k s)

-- a state of its own for each column: a tile reads from its column's and changes that alone
abbrev pub with_column : {T : Type 0} → ℕ → T → (ℕ → T) → ℕ → T
with_column c t s k = if nat_eq c k then t else s k

abbrev pub by_column : {T E : Type 0} → (ℕ → ℕ) → (ℕ → T → Result (Settled T) E) → ℕ → (ℕ → T) → Result (Settled (ℕ → T)) E
by_column column_of step n s = viewed (λ t. with_column (column_of n) t s) (step n (s (column_of n)))

abbrev pub settled_part : {A : Type 0} → Result (Settled A × Window) Rule → Result (Settled A) Rule
settled_part (Ok p) = Ok p.0
settled_part (Err e) = Err e
