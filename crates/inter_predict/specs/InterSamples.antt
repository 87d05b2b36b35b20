-- The predicted samples of a block (the block inter prediction process, 8.5.2 of the standard).
use Rattle.std.specs.Prelude.{ℕ, ◌+◌, ◌/◌}
use Rattle.vp9_types.specs.Maps.{Map, FrameMap}
use Rattle.vp9_types.specs.declared.block.InterpFilter.{InterpFilter}
use Rattle.vp9_tables.specs.Filters.{taps_of}
use Rattle.tap_filter.specs.Filter.{filtered}
use Rattle.inter_places.specs.declared.axis.Axis.{Axis}
use Rattle.inter_places.specs.declared.axis.Place.{Place}
use Rattle.inter_places.specs.Axes.{place, phase}

-- value j of a line of samples f, filtered along one direction: rounded and clipped to `most`
unfoldable pub along : ℕ → InterpFilter → Axis → (ℕ → ℕ) → ℕ → ℕ
along most kind a f j = filtered most (taps_of kind (phase a j)) (λ k. f (place a j k))

-- rows first, then columns of what the rows give
unfoldable pub filtered_both_ways : ℕ → InterpFilter → Axis → Axis → Map → Map
filtered_both_ways most kind down across m = λ i j. along most kind down (λ row. along most kind across (m row) j) i

-- a block of a plane, from a reference's planes
abbrev pub predicted_at : ℕ → InterpFilter → Place → FrameMap → Map
predicted_at most kind p reference = filtered_both_ways most kind p.down p.across (reference p.plane)

-- of two predictions: Round2(a + b, 1)
abbrev pub average : ℕ → ℕ → ℕ
average a b = (a + b + 1) / 2

-- a block with two references
abbrev pub both : Map → Map → Map
both first second = λ i j. average (first i j) (second i j)
