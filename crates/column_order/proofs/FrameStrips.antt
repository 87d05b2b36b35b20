-- A frame is the strips of its tile columns, each read by itself.
use Rattle.std.proofs.Common.{◌≡◌, ◌∙◌, ℕ, ◌<◌, ◌≤◌, List, inl, inr, sym, ap, subst, arith}
use Rattle.std.specs.Prelude.{Result, Ok}
use Rattle.std.specs.List.{All, range_with_len}
use Rattle.std.proofs.lemmas.Bool.{cases_lt}
use Rattle.vp9_types.specs.declared.block.ReferenceFrame.{ReferenceFrame}
use Rattle.vp9_types.specs.declared.job.Span.{Span}
use Rattle.vp9_types.specs.declared.rule.Rule.{Rule}
use Rattle.vp9_types.specs.declared.shape.Plane.{Plane}
use Rattle.vp9_types.specs.declared.shape.Shape.{Shape}
use Rattle.frame_headers.specs.Spans.{tile_count, tile_spans}
use Rattle.frame_headers.specs.HeaderState.{shape_of}
use Rattle.block_plan.specs.Planned.{PlannedBlock}
use Rattle.block_rebuild.specs.InterBlocks.{Rebuilding, ReferencePicture}
use Rattle.block_rebuild.specs.Laws.{AreInOrder, IsRead, KeepToColumns}
use Rattle.block_rebuild.specs.Strips.{IsIn, column_blocks, in_plane, is_in_column, strip, strip_places}
use Rattle.block_rebuild.proofs.Columns.{is_strip}
use Rattle.counting_reader.specs.Counting.{Settled}
use Rattle.frame_state.specs.Laws.{AreReadAll}
use Rattle.frame_state.specs.ColumnPlans.{ColumnRead, plan_of, tile_bytes}
use Rattle.frame_state.specs.FrameReading.{FrameRead, read_all_tiles}
use Rattle.frame_state.specs.Sources.{FrameSources}
use Rattle.frame_state.specs.TilePlaces.{column_of}
use Rattle.frame_state.proofs.PlanReads.{reads_columns}
use Rattle.column_order.specs.ColumnStrips.{IsColumnStrip, column_from, column_to}
use Rattle.column_order.proofs.ColumnFollows.{plan_follows}
use Rattle.column_order.proofs.ColumnsApart.{IsOfColumn, keeps_to, other_column, own_column}
use Rattle.column_order.proofs.Mixed.{all_mixed, one_of_mixed, own_lists}
use Rattle.column_order.proofs.TilesOfColumns.{plan_tiles}

-- no sample lies in a column without superblocks
none_in : (shape : Shape) (p : Plane) (from to r y x : ℕ) → to ≤ from → from ≤ to → IsIn (in_plane shape p (strip_places from to r)) y x → ⊥
none_in shape p from to r y x narrow wide i =
    let same : to ≡ from = omega (arith, narrow, wide) in
    let inner : IsIn (in_plane shape p (strip_places from from r)) y x = subst (λ n. IsIn (in_plane shape p (strip_places from n r)) y x) same i in
    omega (arith, inner.behind, inner.before)

module _ (by : FrameSources) (bytes : ℕ → List ℕ) (read : FrameRead) (plans : ℕ → Settled ColumnRead) (planned : (k : ℕ) → plan_of by bytes k ≡ Ok (plans k))
    (are : AreReadAll by.header read plans) where
  abbrev column : ℕ → ℕ
  column = column_of by.header.params.tiles

  abbrev tiles : ℕ → ℕ → List PlannedBlock
  tiles k n = (plans k).value.tiles n

  abbrev numbers : List ℕ
  numbers = range_with_len 0 (tile_count by.header)

  are_of_columns : (k : ℕ) → All (IsOfColumn by.header k) (own_lists column tiles k numbers)
  are_of_columns k =
      let follow = plan_follows by bytes k (plans k) (planned k) in
      let all : All (IsOfColumn by.header k) (plans k).value.column.blocks = λ i d low. record { read = follow.placed i d low; inside = follow.inside i d low } in
      subst (All (IsOfColumn by.header k)) (plan_tiles by bytes k (plans k) (planned k)) all

  all_read : All (IsRead (shape_of by.header)) read.blocks
  all_read = subst (All (IsRead (shape_of by.header))) (sym are.blocks)
      (all_mixed column tiles (IsOfColumn by.header) (IsRead (shape_of by.header)) (λ k b is. is.read) numbers are_of_columns)

  module _ (k : ℕ) (some : column_from by.header k < column_to by.header k) where
    keep : KeepToColumns (column_from by.header k) (column_to by.header k) read.blocks
    keep = subst (KeepToColumns (column_from by.header k) (column_to by.header k)) (sym are.blocks)
        (all_mixed column tiles (IsOfColumn by.header) _ (keeps_to by.header k some) numbers are_of_columns)

    its_blocks : column_blocks (column_from by.header k) read.blocks ≡ (plans k).value.column.blocks
    unfolding column_blocks
    its_blocks =
        ap (column_blocks (column_from by.header k)) are.blocks
        ∙ (one_of_mixed column tiles (IsOfColumn by.header) (is_in_column (column_from by.header k)) k (own_column by.header k) (other_column by.header k some) numbers are_of_columns
        ∙ sym (plan_tiles by bytes k (plans k) (planned k)))

    some_strip : (references : ReferenceFrame → ReferencePicture) (r : ℕ)
        → IsColumnStrip (record { shape = shape_of by.header; references = references }) by.header k r read.blocks (plans k).value.column.blocks
    some_strip references r p y x i =
        let put : Rebuilding = record { shape = shape_of by.header; references = references } in
        let order : AreInOrder (column_blocks (column_from by.header k) read.blocks) =
        subst AreInOrder (sym its_blocks) (plan_follows by bytes k (plans k) (planned k)).order in
        is_strip put (column_from by.header k) (column_to by.header k) r read.blocks all_read keep order p y x i ∙ ap (λ c. strip put c r p y x) its_blocks

  column_strip : (references : ReferenceFrame → ReferencePicture) (k r : ℕ)
      → IsColumnStrip (record { shape = shape_of by.header; references = references }) by.header k r read.blocks (plans k).value.column.blocks
  column_strip references k r p y x i = elim (cases_lt (column_from by.header k) (column_to by.header k)) [
    | inl some ↦ some_strip k some references r p y x i
    | inr none ↦ absurd (none_in (shape_of by.header) p (column_from by.header k) (column_to by.header k) r y x none (omega arith) i)
  ]

same_plan : (x y : Settled ColumnRead) → ◌≡◌ {A = Result (Settled ColumnRead) (ℕ × Rule)} (Ok x) (Ok y) → x ≡ y
same_plan x y is = cc

pub frame_strips : (by : FrameSources) (bytes : List ℕ) (compressed : Span) (spans : List Span) (read : FrameRead) (references : ReferenceFrame → ReferencePicture) (k r : ℕ) (plan : Settled ColumnRead)
    → tile_spans bytes by.header compressed ≡ Ok spans → read_all_tiles by bytes compressed ≡ Ok read → plan_of by (tile_bytes bytes spans) k ≡ Ok plan
    → IsColumnStrip (record { shape = shape_of by.header; references = references }) by.header k r read.blocks plan.value.column.blocks
frame_strips by bytes compressed spans read references k r plan cut reads planned =
    let all = reads_columns by bytes compressed spans read cut reads in
    let same : all.0 k ≡ plan = same_plan (all.0 k) plan (sym (all.1 k) ∙ planned) in
    subst (λ (c : Settled ColumnRead). IsColumnStrip (record { shape = shape_of by.header; references = references }) by.header k r read.blocks c.value.column.blocks) same
    (column_strip by (tile_bytes bytes spans) read all.0 all.1 all.2 references k r)
