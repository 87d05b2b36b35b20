-- Eight columns beside one another, in lanes.
use Rattle.std.specs.Prelude.{◌≡◌, ℕ, ◌<◌, ℤ, Bool, true, false, List, [], map, take, length, slice_index_or, Result, Ok, Err}
use Rattle.vp9_types.specs.declared.rule.Rule.{Rule}
use Rattle.inverse_transforms.specs.declared.values.Two.{Two}
use Rattle.inverse_transforms.specs.declared.values.Four.{Four}
use Rattle.inverse_transforms.specs.Flow.{at}

abbrev pub column : ℕ → List (List ℤ) → List ℤ
column j t = map (λ row. at row j) t

-- each column is what f makes of it, or f gives the rule at one of them
abbrev pub GivesColumns : (List ℤ → Result (List ℤ) Rule) → Result (Unit {0}) Rule → List (List ℤ) → List (List ℤ) → Type 0
GivesColumns f (Ok _) old new = (j : ℕ) → j < 8 → f (column j old) ≡ Ok (column j new)
GivesColumns f (Err rule) old new = (j : ℕ) × (j < 8) × (f (column j old) ≡ Err rule)

-- f gives some list for each column
abbrev pub FitsAll : (List ℤ → Result (List ℤ) Rule) → List (List ℤ) → Type 0
FitsAll f t = (j : ℕ) → j < 8 → (ys : List ℤ) × (f (column j t) ≡ Ok ys)

-- at each place the row that stood at the place that the order gives for it
abbrev pub gathered : List ℕ → List (List ℤ) → List (List ℤ)
gathered order t = map (λ place. slice_index_or t place []) (take (length t) order)

-- what f makes of two lanes, and of four, in the first n places
pub record TwoLanes (f : ℤ → ℤ → Two) (x y u v : List ℤ) (n : ℕ) : Type 0 where
  pub first : (j : ℕ) → j < n → at u j ≡ (f (at x j) (at y j)).first
  pub second : (j : ℕ) → j < n → at v j ≡ (f (at x j) (at y j)).second

pub record FourLanes (f : ℤ → ℤ → ℤ → ℤ → Four) (a b c d p q r s : List ℤ) (n : ℕ) : Type 0 where
  pub first : (j : ℕ) → j < n → at p j ≡ (f (at a j) (at b j) (at c j) (at d j)).first
  pub second : (j : ℕ) → j < n → at q j ≡ (f (at a j) (at b j) (at c j) (at d j)).second
  pub third : (j : ℕ) → j < n → at r j ≡ (f (at a j) (at b j) (at c j) (at d j)).third
  pub fourth : (j : ℕ) → j < n → at s j ≡ (f (at a j) (at b j) (at c j) (at d j)).fourth

-- whether the test holds in each of the first n places
abbrev pub AllHold : (ℕ → Bool) → ℕ → Bool → Type 0
AllHold test n true = (j : ℕ) → j < n → test j ≡ true
AllHold test n false = (j : ℕ) × (j < n) × (test j ≡ false)
