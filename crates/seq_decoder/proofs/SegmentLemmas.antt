-- The segments of a frame, tile column by tile column.
use Rattle.std.proofs.Common.{◌≡◌, ◌∙◌, ℕ, ◌+◌, ◌<◌, List, [], ◌∷◌, ◌++◌, Bool, true, false, length, take, get_or, refl, ap}
use Rattle.std.specs.Prelude.{◌&&◌, Option, Some, None, nat_lt, if◌then◌else◌}
use Rattle.std.proofs.Math.Path.{fun_ext}
use Rattle.std.proofs.lemmas.Grind.{flat_map-append}
use Rattle.std.proofs.lemmas.List.{append-nil, map-append, take_more}
use Rattle.vp9_types.specs.Maps.{Map}
use Rattle.block_geometry.specs.declared.transform_blocks.FramePlaces.{FramePlaces}
use Rattle.block_plan.specs.Blocks.{covering, or_else}
use Rattle.block_plan.specs.declared.block.BlockInfo.{BlockInfo}
use Rattle.frame_headers.specs.declared.segments.Segmentation.{Segmentation}
use Rattle.frame_state.specs.KeptColumns.{blocks_of}
use Rattle.frame_state.specs.FrameReading.{all_blocks}
use Rattle.frame_state.specs.declared.columns.TileColumn.{TileColumn}
use Rattle.frame_state.proofs.ColumnBlocks.{covering_both}
use Rattle.inter_modes.specs.LeftSegments.{segment_or, segments_after, segments_of, updates}

one_place : (inside : Bool) (old : ℕ) (x y both : Option BlockInfo) → both ≡ or_else y x
    → (if inside then segment_or old both else old) ≡ (if inside then segment_or (if inside then segment_or old x else old) y else (if inside then segment_or old x else old))
one_place true old x (Some b) both is = rw is refl
one_place true old x None both is = rw is refl
one_place false old x y both is = refl

-- those of two lists of blocks, one after the other
segments_both : (frame : FramePlaces) (xs ys : List BlockInfo) (ids : Map) → segments_of frame (xs ++ ys) ids ≡ segments_of frame ys (segments_of frame xs ids)
unfolding segments_of
segments_both frame xs ys ids =
    fun_ext (λ r. fun_ext (λ c. one_place (nat_lt r frame.rows && nat_lt c frame.cols) (ids r c) (covering xs r c) (covering ys r c) (covering (xs ++ ys) r c) (covering_both xs ys r c)))

after_both : (updated : Bool) (frame : FramePlaces) (xs ys : List BlockInfo) (ids : Map)
    → (if updated then segments_of frame (xs ++ ys) ids else ids) ≡ (if updated then segments_of frame ys (if updated then segments_of frame xs ids else ids) else (if updated then segments_of frame xs ids else ids))
after_both true frame xs ys ids = segments_both frame xs ys ids
after_both false frame xs ys ids = refl

-- of one tile column more
pub one_column_more : (segmentation : Segmentation) (frame : FramePlaces) (columns : List TileColumn) (i : ℕ) (d : TileColumn) (ids : Map) → i < length columns
    → segments_after segmentation frame (all_blocks (blocks_of (take (i + 1) columns))) ids
    ≡ segments_after segmentation frame (get_or columns i d).grid.blocks (segments_after segmentation frame (all_blocks (blocks_of (take i columns))) ids)
one_column_more segmentation frame columns i d ids there =
    let blocks : all_blocks (blocks_of (take (i + 1) columns)) ≡ all_blocks (blocks_of (take i columns)) ++ (get_or columns i d).grid.blocks =
    ap (λ columns. all_blocks (blocks_of columns)) (take_more columns i d there)
    ∙ ap all_blocks (map-append (λ (c : TileColumn). c.grid.blocks) (take i columns) (get_or columns i d ∷ []))
    ∙ flat_map-append (λ (column : List BlockInfo). column) (blocks_of (take i columns)) ((get_or columns i d).grid.blocks ∷ [])
    ∙ ap (λ rest. all_blocks (blocks_of (take i columns)) ++ rest) (append-nil (get_or columns i d).grid.blocks) in
    ap (λ xs. segments_after segmentation frame xs ids) blocks
    ∙ after_both (segmentation.enabled && updates segmentation.map) frame (all_blocks (blocks_of (take i columns))) (get_or columns i d).grid.blocks ids

-- of no column
pub no_column_yet : (segmentation : Segmentation) (frame : FramePlaces) (ids : Map) → ids ≡ segments_after segmentation frame [] ids
unfolding segments_of covering
no_column_yet segmentation frame ids = by (segmentation.enabled && updates segmentation.map)
  where
    still : (inside : Bool) (old : ℕ) → old ≡ (if inside then segment_or old None else old)
    still true old = refl
    still false old = refl

    nothing : ids ≡ segments_of frame [] ids
    nothing = fun_ext (λ r. fun_ext (λ c. still (nat_lt r frame.rows && nat_lt c frame.cols) (ids r c)))

    by : (updated : Bool) → ids ≡ (if updated then segments_of frame [] ids else ids)
    by true = nothing
    by false = refl
