-- What the code keeps, and what its calls answer.
use Rattle.std.specs.Prelude.{◌≡◌, ℕ, ◌<◌, ◌≤◌, ◌^◌, ℤ, pos, unsigned_abs, List, slice_index, slice_index_or}
use Rattle.coef_tokens.specs.Fit.{tables_by}
use Rattle.coef_tokens.specs.declared.step.Step.{Step}
use Rattle.coef_tokens.specs.declared.step.Step.TheVariants.{End, Zero, Level}
use Rattle.coef_tokens.specs.declared.tables.TokenTables.{TokenTables}
use Rattle.coef_tokens.specs.Places.{Tables, Read, class_at, level_at, row_at}

-- by position, as the code keeps them
abbrev pub HoldsClasses : List ℕ → List Read → Type 0
HoldsClasses cache reads = (p : ℕ) → slice_index cache p ≡ class_at reads p

abbrev pub HoldsLevels : List ℤ → List Read → Type 0
HoldsLevels levels reads = (p : ℕ) → slice_index_or levels p (pos 0) ≡ level_at reads p

-- a row is that of a place, by the classes so far
abbrev pub StandsAt : Tables → ℕ → ℕ → List ℕ → ℕ → Type 0
StandsAt t first c cache row = (reads : List Read) → HoldsClasses cache reads → row ≡ row_at t first c reads

-- how large what is read can be: at depth 12 the last category has 18 bits
abbrev pub IsSmallStep : Step → Type 0
IsSmallStep End = Unit {0}
IsSmallStep Zero = Unit {0}
IsSmallStep (Level level class) = (unsigned_abs level < 2 ^ 19) × (class ≤ 5)

abbrev pub tables_of : TokenTables → Tables
tables_of t = tables_by t.scan.now t.neighbours.now t.bands.now t.probs.now t.base t.depth
