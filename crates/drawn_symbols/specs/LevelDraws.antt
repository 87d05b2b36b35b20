-- The levels of a transform block, as they are drawn (6.4.24 of the standard: tokens), and where they stand.
use Rattle.std.specs.Prelude.{ℕ, zero, suc, ◌+◌, ◌≤◌, ℤ, unsigned_abs, List, [], ◌∷◌, take, slice_index, slice_set, nat_eq, if◌then◌else◌}
use Rattle.mv_syntax.specs.Components.{signed}
use Rattle.drawn_symbols.specs.Draws.{Drawn, stay, ◌>>=◌, draw, draw_flag}
use Rattle.drawn_symbols.specs.declared.levels.Levels.{Levels}

-- 1 to 4, and a sign
unfoldable pub draw_level : Drawn ℤ
draw_level = do
  more ← draw 4
  sign ← draw_flag
  stay (signed sign (1 + more))

-- so many, one after another
unfoldable pub draw_run : ℕ → Drawn (List ℤ)
draw_run zero = stay []
draw_run (suc n) = do
  level ← draw_level
  rest ← draw_run n
  stay (level ∷ rest)

unfoldable pub draw_some : Drawn (List ℤ)
draw_some = draw 3 >>= λ more. draw_run (1 + more)

-- one transform block of eight has levels, one to three of them
unfoldable pub draw_levels : Drawn (List ℤ)
draw_levels = do
  choice ← draw 8
  if nat_eq choice 0 then draw_some else stay []

-- levels by position: they stand in the places of a scan from the k-th on
abbrev pub placed_from : ℕ → List ℕ → List ℤ → List ℤ → List ℤ
placed_from k scan [] values = values
placed_from k scan (level ∷ levels) values = placed_from (suc k) scan levels (slice_set values (slice_index scan k) level)

---- In code ----

abbrev pub levels_of : Levels → List ℤ
levels_of drawn = take drawn.count drawn.values

pub record IsDrawnLevel (level : ℤ) : Type 0 where
  pub some : 1 ≤ unsigned_abs level
  pub small : unsigned_abs level ≤ 4
