-- The lines across an edge of a plane, filtered one after another (8.8.2 of the standard).
use Rattle.std.specs.Prelude.{ℕ, ◌+◌, ◌-◌, ◌*◌, map, nat_lt, if◌then◌else◌}
use Rattle.std.specs.List.{range_with_len, fold}
use Rattle.vp9_types.specs.Maps.{Map, with_block}
use Rattle.line_filter.specs.declared.edge.Edge.{Edge}
use Rattle.line_filter.specs.declared.edge.FilterWidth.{FilterWidth}
use Rattle.line_filter.specs.declared.edge.FilterWidth.TheVariants.{Four, Eight, Sixteen}
use Rattle.line_filter.specs.declared.edge.Pass.{Pass}
use Rattle.line_filter.specs.declared.edge.Pass.TheVariants.{Vertical, Horizontal}
use Rattle.line_filter.specs.Lines.{Line, p, q, filtered_line}

-- the samples on each side that a filter looks at
abbrev pub reach : FilterWidth → ℕ
reach Four = 4
reach Eight = 4
reach Sixteen = 8

-- n samples on each side of a place in a row or column of samples
unfoldable pub line_at : ℕ → (ℕ → ℕ) → ℕ → Line
line_at n samples at = record {
  p = map (λ i. samples (at - 1 - i)) (range_with_len 0 n);
  q = map (λ i. samples (at + i)) (range_with_len 0 n);
}

-- the line of a column across the edge above a row, and that of a row across the edge left of a column
abbrev pub line_down : ℕ → Map → ℕ → ℕ → Line
line_down n m row column = line_at n (λ y. m y column) row

abbrev pub line_along : ℕ → Map → ℕ → ℕ → Line
line_along n m row column = line_at n (m row) column

-- the i-th of the samples p(n-1) .. p0 q0 .. q(n-1)
abbrev pub nth_of_line : ℕ → Line → ℕ → ℕ
nth_of_line n line i = if nat_lt i n then p line (n - 1 - i) else q line (i - n)

-- the k-th line of an edge filtered
abbrev pub with_line : Pass → Edge → Map → ℕ → Map
with_line Vertical e m k =
    with_block m (e.row + k) (e.column - reach e.width) 1 (2 * reach e.width)
    (λ i j. nth_of_line (reach e.width) (filtered_line e.limits e.width (line_along (reach e.width) m (e.row + k) e.column)) j)
with_line Horizontal e m k =
    with_block m (e.row - reach e.width) (e.column + k) (2 * reach e.width) 1
    (λ i j. nth_of_line (reach e.width) (filtered_line e.limits e.width (line_down (reach e.width) m e.row (e.column + k))) i)

-- a plane with the lines of an edge filtered, one after another
unfoldable pub with_edge : Map → Edge → Map
with_edge m e = fold (with_line e.pass e) m (range_with_len 0 e.lines)
