-- Whether the sides of a transform block have coefficients (AboveNonzeroContext and LeftNonzeroContext in 6.4.21 and 9.3
-- of the standard), in rows of one flag for each four samples. A row ends where the frame does.
use Rattle.std.specs.Prelude.{ℕ, ◌+◌, ◌-◌, ◌/◌, Bool, List, ◌++◌, take, drop, length, replicate, min}
use Rattle.std.specs.List.{list_any}
use Rattle.vp9_types.specs.declared.block.TxSize.{TxSize}
use Rattle.vp9_tables.specs.Numbers.{flag_number}
use Rattle.vp9_types.specs.Sizes.{side}

-- how many flags a transform block spans
abbrev pub flags_of : TxSize → ℕ
flags_of size = side size / 4

-- whether one of n flags from a place on is set; outside of the frame none is
abbrev pub any_set : List Bool → ℕ → ℕ → Bool
any_set flags from n = list_any (λ b. b) (take n (drop from flags))

-- how many of the two sides have a coefficient
abbrev pub sides_set : List Bool → ℕ → List Bool → ℕ → TxSize → ℕ
sides_set above x left y size =
    flag_number (any_set above x (flags_of size)) + flag_number (any_set left y (flags_of size))

-- n flags from a place on are the value, as far as the row goes
unfoldable pub marked : List Bool → ℕ → ℕ → Bool → List Bool
marked flags from n value = take from flags ++ replicate (min n (length flags - from)) value ++ drop (from + n) flags
