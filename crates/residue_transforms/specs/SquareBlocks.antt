-- Square blocks of n rows, as the list of their values row by row.
use Rattle.std.specs.Prelude.{ℕ, ◌+◌, ◌*◌, ◌/◌, ◌%◌, ℤ, List, [], ◌∷◌, map, take, drop, slice_index_or, Result, Ok, Err, ◌≡◌, ◌-◌, ◌<◌, true, false, if◌then◌else◌}
use Rattle.std.specs.List.{range_with_len}
use Rattle.vp9_types.specs.declared.rule.Rule.{Rule}
use Rattle.vp9_types.specs.Maps.{is_within}
use Rattle.inverse_transforms.specs.Flow.{at}

abbrev pub row : ℕ → ℕ → List ℤ → List ℤ
row n i xs = take n (drop (i * n) xs)

abbrev pub col : ℕ → ℕ → List ℤ → List ℤ
col n j xs = map (λ k. at xs (k * n + j)) (range_with_len 0 n)

abbrev pub rows : ℕ → List ℤ → List (List ℤ)
rows n xs = map (λ i. row n i xs) (range_with_len 0 n)

-- the block that has these columns
abbrev pub of_columns : ℕ → List (List ℤ) → List ℤ
of_columns n cs = map (λ p. at (slice_index_or cs (p % n) []) (p / n)) (range_with_len 0 (n * n))

abbrev pub before : Result (List ℤ) Rule → Result (List (List ℤ)) Rule → Result (List (List ℤ)) Rule
before (Ok x) (Ok xs) = Ok (x ∷ xs)
before (Ok x) (Err rule) = Err rule
before (Err rule) rest = Err rule

-- what f makes of each list, or the first rule that it gives
abbrev pub each_row : (List ℤ → Result (List ℤ) Rule) → List (List ℤ) → Result (List (List ℤ)) Rule
each_row f [] = Ok []
each_row f (x ∷ xs) = before (f x) (each_row f xs)

abbrev pub block_of : ℕ → Result (List (List ℤ)) Rule → Result (List ℤ) Rule
block_of n (Ok cs) = Ok (of_columns n cs)
block_of n (Err rule) = Err rule

-- what f makes of each row becomes a column
unfoldable pub each_row_turned : (List ℤ → Result (List ℤ) Rule) → ℕ → List ℤ → Result (List ℤ) Rule
each_row_turned f n xs = block_of n (each_row f (rows n xs))

-- new is old, but for what f gives to the n places from `from` on
abbrev pub HasPiece : ℕ → ℕ → (ℕ → ℤ) → List ℤ → List ℤ → Type 0
HasPiece from n f old new = (p : ℕ) → at new p ≡ (if is_within from n p then f (p - from) else at old p)

-- the rows of a group, from `first` on, have become columns, and the other columns are what they were
pub record GroupDone (f : List ℤ → Result (List ℤ) Rule) (n first width : ℕ) (xs old new : List ℤ) : Type 0 where
  pub done : (j : ℕ) → j < n → is_within first width j ≡ true → f (row n j xs) ≡ Ok (col n j new)
  pub others : (j : ℕ) → j < n → is_within first width j ≡ false → col n j new ≡ col n j old

-- the rows below a number have become columns
abbrev pub AreTurned : (List ℤ → Result (List ℤ) Rule) → ℕ → ℕ → List ℤ → List ℤ → Type 0
AreTurned f n m xs now = (j : ℕ) → j < n → j < m → f (row n j xs) ≡ Ok (col n j now)

abbrev pub TurnsGroup : (List ℤ → Result (List ℤ) Rule) → ℕ → ℕ → ℕ → List ℤ → Result (Unit {0}) Rule → List ℤ → List ℤ → Type 0
TurnsGroup f n first width xs (Ok _) old new = GroupDone f n first width xs old new
TurnsGroup f n first width xs (Err rule) old new = (j : ℕ) × (j < n) × (f (row n j xs) ≡ Err rule)
