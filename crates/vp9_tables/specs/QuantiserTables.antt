-- The quantisers (8.6.1 of the standard).
use Rattle.std.specs.Prelude.{ℕ, List, [], ◌∷◌}

-- the first and the last place of each depth
abbrev pub ends : List ℕ
ends = 0 ∷ 255 ∷ 256 ∷ 511 ∷ 512 ∷ 767 ∷ []
