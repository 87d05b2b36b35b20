-- Where the tiles of a frame lie (6.4 of the standard: decode_tiles). Each but the last has its size before it.
use Rattle.std.specs.Prelude.{◌≡◌, ℕ, zero, suc, ◌+◌, ◌-◌, ◌*◌, ◌^◌, List, [], ◌∷◌, length, slice_range, Result, Ok, Err, IsOk, nat_eq, nat_lt, if◌then◌else◌}
use Rattle.byteorder.specs.Endian.{big_number}
use Rattle.vp9_types.specs.declared.job.Span.{Span}
use Rattle.vp9_types.specs.declared.rule.Rule.{Rule}
use Rattle.vp9_types.specs.declared.rule.Rule.TheVariants.{BoolEmpty, TileSize}
use Rattle.frame_headers.specs.declared.header.Header.{Header}

-- the size before a tile: 4 bytes, big endian
abbrev pub tile_size : List ℕ → ℕ → ℕ
tile_size frame at = big_number 4 (slice_range frame at (at + 4))

-- the last tile takes the rest
abbrev pub last_tile : List ℕ → ℕ → Result Span Rule
last_tile frame at = if nat_eq (length frame - at) 0 then Err BoolEmpty else Ok (record { from = at; to = length frame })

abbrev pub sized_tile : List ℕ → ℕ → Result Span Rule
sized_tile frame at =
    if nat_lt (length frame - at) 4 then Err TileSize
    else (if nat_lt (length frame - at - 4) (tile_size frame at) then Err TileSize
    else (if nat_eq (tile_size frame at) 0 then Err BoolEmpty
    else Ok (record { from = at + 4; to = at + 4 + tile_size frame at })))

-- a tile at a place, where so many more follow it
unfoldable pub tile_at : List ℕ → ℕ → ℕ → Result Span Rule
tile_at frame zero at = last_tile frame at
tile_at frame (suc more) at = sized_tile frame at

abbrev pub in_front : Span → Result (List Span) Rule → Result (List Span) Rule
in_front span (Ok spans) = Ok (span ∷ spans)
in_front span (Err rule) = Err rule

-- a tile, and then those behind it
abbrev pub span_then : Result Span Rule → (Span → Result (List Span) Rule) → Result (List Span) Rule
span_then (Err rule) more = Err rule
span_then (Ok span) more = in_front span (more span)

-- so many tiles from a place on, or the rule that the first of them breaks
abbrev pub tiles_from : List ℕ → ℕ → ℕ → Result (List Span) Rule
tiles_from frame zero at = Ok []
tiles_from frame (suc more) at = span_then (tile_at frame more at) (λ span. tiles_from frame more span.to)

abbrev pub tile_count : Header → ℕ
tile_count header = 2 ^ header.params.tiles.columns_log2 * 2 ^ header.params.tiles.rows_log2

-- the tiles behind the compressed header, row by row
unfoldable pub tile_spans : List ℕ → Header → Span → Result (List Span) Rule
tile_spans frame header compressed = tiles_from frame (tile_count header) compressed.to

-- all tiles are there, or this is the rule that the first bad one breaks
abbrev pub ChecksTiles : Result (List Span) Rule → Result (Unit {0}) Rule → Type 0
ChecksTiles spans (Ok u) = IsOk spans
ChecksTiles spans (Err rule) = spans ≡ Err rule
