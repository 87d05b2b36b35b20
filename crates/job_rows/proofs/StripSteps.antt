-- A strip that is put from a plan is the frame's.
use Rattle.std.proofs.Common.{◌≡◌, ◌∙◌, ◌<◌, ◌≤◌, ◌+◌, ◌-◌, ◌^◌, ◌⊎◌, inl, inr, ℕ, List, [], ◌∷◌, length, get_or, min, true, refl, sym, ap, subst, arith}
use Rattle.std.specs.Prelude.{IfSome, Option, Some, None, Result, Ok, Err, slice_index_or}
use Rattle.std.specs.List.{All}
use Rattle.std.proofs.Math.Path.{fun_ext}
use Rattle.std.proofs.lemmas.List.Elements.{All-drop, All-take}
use Rattle.vp9_types.specs.Maps.{FrameMap, IsAtMost}
use Rattle.vp9_types.specs.Shapes.{bands_of, mi_rows}
use Rattle.vp9_types.specs.Sizes.{greatest, superblocks_along}
use Rattle.vp9_types.specs.declared.block.ReferenceFrame.{ReferenceFrame}
use Rattle.vp9_types.specs.declared.block.ReferenceFrame.TheVariants.{Last, Golden, Altref}
use Rattle.vp9_types.specs.declared.rule.Rule.{Rule}
use Rattle.vp9_types.specs.declared.shape.Depth.{Depth}
use Rattle.vp9_types.specs.declared.shape.Plane.{Plane}
use Rattle.vp9_types.specs.declared.shape.Shape.{Shape}
use Rattle.block_plan.specs.Planned.{PlannedBlock}
use Rattle.block_plan.specs.declared.block.BlockInfo.{BlockInfo}
use Rattle.block_plan.specs.declared.block.Prediction.{Prediction}
use Rattle.block_plan.specs.declared.block.Prediction.TheVariants as prediction
use Rattle.planes.specs.declared.frame_planes.FramePlanes.{FramePlanes}
use Rattle.band_needs.proofs.Exact.{needs_are}
use Rattle.band_needs.specs.Code.{shapes_of}
use Rattle.band_needs.specs.Needs.{needs_of}
use Rattle.band_needs.specs.Ranges.{needs_at}
use Rattle.band_needs.specs.BandReads.{AreRead, BlocksRead, IsRangeOf, ReadsBy}
use Rattle.band_needs.specs.declared.ranges.BandNeeds.{BandNeeds}
use Rattle.band_needs.specs.declared.ranges.BandRange.{BandRange}
use Rattle.band_references.proofs.Inside.{bands_inside}
use Rattle.band_references.proofs.Served.{blocks_served}
use Rattle.band_references.specs.BandReferences.{IsThere}
use Rattle.block_rebuild.specs.Code.{AreServed, picture_of, reference_of, rebuilding_of}
use Rattle.block_rebuild.specs.InterBlocks.{Rebuilding, ReferencePicture, no_picture}
use Rattle.block_rebuild.specs.declared.references.Rebuilding as code
use Rattle.block_rebuild.specs.declared.references.ReferencePicture as code_picture
use Rattle.counting_reader.specs.Counting.{Settled}
use Rattle.filtered_rows.specs.Code.{held_in, map_in, rows_from, width_in}
use Rattle.filtered_rows.specs.BufferRows.{RowSpan}
use Rattle.filtered_rows.proofs.Held.{rows_have_bands}
use Rattle.job_results.specs.frame_close.Code.{GivesColumn}
use Rattle.frame_headers.specs.References.{has_allowed_scale}
use Rattle.frame_headers.specs.FrameSizes.{HasFrameSize, IsFrameSize}
use Rattle.frame_headers.specs.Spans.{tile_count, tile_spans}
use Rattle.frame_headers.specs.HeaderState.{shape_of}
use Rattle.frame_headers.specs.declared.header.FrameKind.{FrameKind}
use Rattle.frame_headers.specs.declared.header.FrameKind.TheVariants.{Key, IntraOnly, Inter}
use Rattle.frame_headers.specs.declared.header.Header.{Header}
use Rattle.frame_headers.specs.declared.header.InterFields.{InterFields}
use Rattle.job_results.specs.frame_decoder.DecodedFrames.{rebuilding}
use Rattle.frame_output.specs.declared.rendering.Format.{Format}
use Rattle.job_results.specs.frame_state.KeptColumns.{IsTileColumn, limit_of}
use Rattle.job_results.specs.frame_state.ColumnPlans.{ColumnRead, plan_of, tile_bytes}
use Rattle.job_results.specs.frame_state.Sources.{adapts}
use Rattle.job_results.proofs.of_frame_state.PlanReads.{reads_columns}
use Rattle.frame_setting.specs.declared.setting.FrameSetting.{FrameSetting}
use Rattle.job_results.specs.frame_steps.declared.beginning.BegunFrame.{BegunFrame}
use Rattle.picture_range.proofs.Ranges.{picture_small}
use Rattle.job_results.specs.Lent.{IsBegunFrame}
use Rattle.frame_headers.specs.Tiles.{AreFewTiles}
use Rattle.job_results.specs.frame_steps.StepResults.{HaveSizes, counts_of, row_needs_of, shapes_by}
use Rattle.job_results.specs.frame_steps.declared.columns.PlannedColumn.{PlannedColumn}
use Rattle.job_results.specs.frame_steps.declared.strips.PlannedRow.{PlannedRow}
use Rattle.inter_contexts.specs.BlockReferences.{reference_in, second_in_range}
use Rattle.inter_modes.specs.Code.{RefersInRange}
use Rattle.inter_places.specs.Places.{IsReference}
use Rattle.job_results.specs.column_order.ColumnStrips.{column_from, column_to}
use Rattle.column_strips.specs.recon_rows.RebuiltRows.{blocks_between}
use Rattle.column_strips.specs.recon_rows.OwnStrips.{HoldsRowOf, HoldsStrip, IsAbove, IsReadPlan, blocks_of_plan}
use Rattle.column_strips.proofs.of_recon_rows.StripPlans.{plan_is, plan_read}
use Rattle.job_results.specs.seq_decoder.After.{picture_in, references_of}
use Rattle.job_results.specs.seq_decoder.DecoderState.{Picture}
use Rattle.job_results.proofs.of_seq_decoder.PastLemmas.{is_reference}
use Rattle.job_results.specs.tile_syntax.Code.{IsKept, IsPlanAsRead}
use Rattle.job_results.specs.tile_syntax.declared.plans.ColumnPlan.{ColumnPlan}
use Rattle.job_results.specs.tile_syntax.declared.plans.Unplanned.{Unplanned}
use Rattle.job_results.specs.tile_syntax.declared.plans.Unplanned.TheVariants as unplanned
use Rattle.job_results.specs.numbered_frames.Coded.{CodedFrame, coded, read_of, references}
use Rattle.job_results.specs.numbered_frames.NumberedPictures.{pictures}
use Rattle.job_results.specs.JobResults.{IsColumnAs, IsPlannedAs, IsStripAs}
use Rattle.job_rows.specs.LentReferences.{AreInside, IsInside, IsReferenceRows}
use Rattle.job_rows.specs.LentRows.{HasStrip, IsStripOver}
use Rattle.job_rows.specs.LentStrips.{AreAllRows, IsPicture, IsPlannedRow, ReadsRows, RefersToNone}
use Rattle.job_rows.specs.declared.references.ReferenceRows.{ReferenceRows}
use Rattle.job_rows.specs.declared.strips.AllRows.{AllRows}
use Rattle.job_results.proofs.ReadBands.{shapes_are}
use Rattle.job_results.proofs.CodedFrames.{coded_by, same_coded, same_header}
use Rattle.job_results.proofs.NamedSlots.{named_in}
use Rattle.job_rows.proofs.NamedFrames.{picture_of_number}
use Rattle.job_results.specs.numbered_frames.Films.{Film}

---- A plan ----

ok_is_none : {A E : Type 0} (a : A) (e : E) → ◌≡◌ {A = Result A E} (Ok a) (Err e) → ⊥
ok_is_none a e is = absurd cc

-- a tile column of a frame whose tiles are all read breaks no rule
pub none_broken : (format : Format) (film : Film) (f k row n : ℕ) (rule : Rule) (c : CodedFrame) (r : Result PlannedColumn Unplanned) (why : Unplanned) → HasStrip format film f k row → coded format film f ≡ Some c → IsColumnAs c k r
    → r ≡ Err why → why ≡ unplanned.Broken n rule → ⊥
none_broken format film f k row n rule c r why has is column err which =
    let broken : r ≡ Err (unplanned.Broken n rule) = subst (λ (e : Unplanned). r ≡ Err e) which err in
    let at = has.has in
    let same : at.frame ≡ c = same_coded (coded format film f) at.frame c at.is is in
    let reads : read_of c ≡ Ok at.read = subst (λ (d : CodedFrame). read_of d ≡ Ok at.read) same at.reads in
    let by = coded_by format film f c is in
    let own = same_header _ _ c by in
    let cut : tile_spans c.bytes c.by.header c.compressed ≡ Ok c.spans = ap (λ (h : Header). tile_spans c.bytes h c.compressed) own ∙ by.spans in
    let plans = reads_columns c.by c.bytes c.compressed c.spans at.read cut reads in
    let read = plans.1 k in
    let told : plan_of c.by (tile_bytes c.bytes c.spans) k ≡ Err (n, rule) =
    subst (λ (x : Result PlannedColumn Unplanned). GivesColumn (adapts c.header) (plan_of c.by (tile_bytes c.bytes c.spans) k) (counts_of x)) broken column.0 in
    ok_is_none (plans.0 k) (n, rule) (sym read ∙ told)

-- the bands that its row needs
pub needs_of_row : (c : CodedFrame) (p : PlannedColumn) (of : PlannedRow) (k row : ℕ) (needs : BandNeeds) → IsPlannedAs c k (Ok p) → row < superblocks_along (mi_rows (shape_of c.header)) → of.row ≡ row → of.plan.now ≡ p.plan
    → needs ≡ get_or p.needs.items row needs → needs ≡ row_needs_of c.header of.row of.plan.now.column.grid.blocks
needs_of_row c p of k row needs is low at plan found =
    found ∙ is.1.each row needs (omega (arith, low, is.1.many)) ∙ (λ i. row_needs_of c.header (sym at i) (sym plan i).column.grid.blocks)

-- what a planned row is made from
pub planned_row : (format : Format) (film : Film) (f k row : ℕ) (c : CodedFrame) (b : BegunFrame) (p : PlannedColumn) (of : PlannedRow) → HasStrip format film f k row → coded format film f ≡ Some c → IsBegunFrame format film f b
    → IsPlannedAs c k (Ok p) → of.setting.now ≡ b.setting → of.column ≡ k → of.row ≡ row → of.plan.now ≡ p.plan → IsPlannedRow c of
planned_row format film f k row c b p of has is begun planned setting column at plan =
    let same : has.has.frame ≡ c = same_coded (coded format film f) has.has.frame c has.has.is is in
    let header : b.setting.header ≡ c.header = begun.2.header ∙ ap (λ (d : CodedFrame). d.header) (same_coded (coded format film f) begun.0 c begun.1 is) in
    let sound = begun.2.sound in
    record {
      size = subst (λ (h : Header). IsFrameSize h.size) header sound.size;
      few = subst (λ (h : Header). AreFewTiles h.params.tiles) header sound.few;
      references = subst (λ (h : Header). HaveSizes h.kind) header sound.references;
      by = same_header _ _ c (coded_by format film f c is);
      header = ap (λ (s : FrameSetting). s.header) setting ∙ header;
      column = subst (λ (n : ℕ). n < 2 ^ c.header.params.tiles.columns_log2) (sym column) (subst (λ (d : CodedFrame). k < 2 ^ d.header.params.tiles.columns_log2) same has.column);
      row = subst (λ (n : ℕ). n < superblocks_along (mi_rows (shape_of c.header))) (sym at) (subst (λ (d : CodedFrame). row < superblocks_along (mi_rows (shape_of d.header))) same has.has.inside);
      plan = subst (λ (q : ColumnPlan). IsPlanAsRead c.by (tile_bytes c.bytes c.spans) of.column q) (sym plan)
          (subst (λ (n : ℕ). IsPlanAsRead c.by (tile_bytes c.bytes c.spans) n p.plan) (sym column) planned.0);
    }

pub none_of_key : (kind : FrameKind) → kind ≡ Key → RefersToNone kind
none_of_key kind is = λ fields inter. other_kind fields (sym is ∙ inter)
  where
    other_kind : (fields : InterFields) → Key ≡ Inter fields → ⊥
    other_kind fields same = absurd cc

pub none_of_intra_only : (kind : FrameKind) → kind ≡ IntraOnly → RefersToNone kind
none_of_intra_only kind is = λ fields inter. other_kind fields (sym is ∙ inter)
  where
    other_kind : (fields : InterFields) → IntraOnly ≡ Inter fields → ⊥
    other_kind fields same = absurd cc

pub none_of : (kind own : FrameKind) → own ≡ kind → (own ≡ Key) ⊎ (own ≡ IntraOnly) → RefersToNone kind
none_of kind own same (inl key) = none_of_key kind (sym same ∙ key)
none_of kind own same (inr only) = none_of_intra_only kind (sym same ∙ only)

pub kind_of : (format : Format) (film : Film) (f : ℕ) (c : CodedFrame) (b : BegunFrame) → coded format film f ≡ Some c → IsBegunFrame format film f b → b.setting.header.kind ≡ c.header.kind
kind_of format film f c b is begun = ap (λ (h : Header). h.kind) begun.2.header ∙ ap (λ (d : CodedFrame). d.header.kind) (same_coded (coded format film f) begun.0 c begun.1 is)

---- A strip by its plan ----

-- a strip of a plan is one of its tile column
pub strip_is : {X : Type 0} (c : CodedFrame) (of : PlannedRow) (put : Rebuilding) (f : FramePlanes X) → IsPlannedRow c of → put ≡ rebuilding c.header (references c) → HoldsRowOf put of.plan.now of.row f
    → IsStripAs c of.column of.row f
strip_is c of put f is named holds =
    let plan = of.plan.now in
    let own : HoldsRowOf (rebuilding c.by.header (references c)) plan of.row f =
    subst (λ (h : Header). HoldsRowOf (rebuilding h (references c)) plan of.row f) (sym is.by) (subst (λ (p : Rebuilding). HoldsRowOf p plan of.row f) named holds) in
    let lies = plan_is c.by of.column is.plan.read plan is.plan.held is.plan.column in
    let made : HoldsStrip (rebuilding c.by.header (references c)) (column_from c.by.header of.column) (column_to c.by.header of.column) of.row is.plan.read.value.column.blocks f =
    subst (λ (b : List PlannedBlock). HoldsStrip (rebuilding c.by.header (references c)) (column_from c.by.header of.column) (column_to c.by.header of.column) of.row b f) lies.blocks
    (subst (λ (n : ℕ). HoldsStrip (rebuilding c.by.header (references c)) (column_from c.by.header of.column) n of.row (blocks_of_plan (shape_of c.by.header) plan) f) lies.to
    (subst (λ (n : ℕ). HoldsStrip (rebuilding c.by.header (references c)) n (limit_of plan.column) of.row (blocks_of_plan (shape_of c.by.header) plan) f) lies.from own)) in
    record {
      read = is.plan.read;
      reads = is.plan.says;
      holds = subst (λ (h : Header). HoldsStrip (rebuilding h (references c)) (column_from h of.column) (column_to h of.column) of.row is.plan.read.value.column.blocks f) is.by made;
    }

-- and one of its tile column is the plan's
row_of_strip : {X : Type 0} (c : CodedFrame) (of : PlannedRow) (row : ℕ) (f : FramePlanes X) → IsPlannedRow c of → IsStripAs c of.column row f → HoldsRowOf (rebuilding c.header (references c)) of.plan.now row f
row_of_strip c of row f is strip =
    let plan = of.plan.now in
    let one : strip.read ≡ is.plan.read = (let all : ◌≡◌ {A = _} (Ok strip.read) (Ok is.plan.read) = sym strip.reads ∙ is.plan.says in cc) in
    let lies = plan_is c.by of.column is.plan.read plan is.plan.held is.plan.column in
    let put = rebuilding c.by.header (references c) in
    let held : HoldsStrip put (column_from c.by.header of.column) (column_to c.by.header of.column) row is.plan.read.value.column.blocks f =
    subst (λ (h : Header). HoldsStrip (rebuilding h (references c)) (column_from h of.column) (column_to h of.column) row is.plan.read.value.column.blocks f) (sym is.by)
    (subst (λ (s : Settled ColumnRead). HoldsStrip (rebuilding c.header (references c)) (column_from c.header of.column) (column_to c.header of.column) row s.value.column.blocks f) one strip.holds) in
    let made : HoldsStrip put plan.column.grid.from (limit_of plan.column) row (blocks_of_plan (shape_of c.by.header) plan) f =
    subst (λ (n : ℕ). HoldsStrip put n (limit_of plan.column) row (blocks_of_plan (shape_of c.by.header) plan) f) (sym lies.from)
    (subst (λ (n : ℕ). HoldsStrip put (column_from c.by.header of.column) n row (blocks_of_plan (shape_of c.by.header) plan) f) (sym lies.to)
    (subst (λ (b : List PlannedBlock). HoldsStrip put (column_from c.by.header of.column) (column_to c.by.header of.column) row b f) (sym lies.blocks) held)) in
    subst (λ (h : Header). HoldsRowOf (rebuilding h (references c)) plan row f) is.by made

pub is_above : {X : Type 0} (c : CodedFrame) (of : PlannedRow) (put : Rebuilding) (above : Option (FramePlanes X)) → IsPlannedRow c of → put ≡ rebuilding c.header (references c) → IsStripOver c of.column of.row above
    → IsAbove put of.plan.now of.row above
is_above c of put None is named over = over
is_above c of put (Some f) is named over =
    (over.0, subst (λ (p : Rebuilding). HoldsRowOf p of.plan.now (of.row - 1) f) (sym named) (row_of_strip c of (of.row - 1) f is over.1))

pub plan_is_read : (c : CodedFrame) (of : PlannedRow) (shape : Shape) → IsPlannedRow c of → shape ≡ shape_of of.setting.now.header → IsReadPlan shape of.plan.now
plan_is_read c of shape is same =
    subst (λ (s : Shape). IsReadPlan s of.plan.now) (ap shape_of (is.by ∙ sym is.header) ∙ sym same) (plan_read c.by (tile_bytes c.bytes c.spans) of.column is.plan.read of.plan.now is.plan.says is.plan.held is.plan.column)

pub plan_is_kept : (c : CodedFrame) (of : PlannedRow) → IsPlannedRow c of → IsKept of.setting.now.header of.plan.now
plan_is_kept c of is = subst (λ (h : Header). IsKept h of.plan.now) (is.by ∙ sym is.header) is.plan.kept

pub plan_is_column : (c : CodedFrame) (of : PlannedRow) → IsPlannedRow c of → IsTileColumn of.setting.now.header (tile_count of.setting.now.header) of.column of.plan.now.column
plan_is_column c of is = subst (λ (h : Header). IsTileColumn h (tile_count h) of.column of.plan.now.column) (is.by ∙ sym is.header) is.plan.column

-- its blocks refer to what is in range of the frame
refer : (c : CodedFrame) (of : PlannedRow) (shape : Shape) → IsPlannedRow c of → All (λ b. RefersInRange c.header b.prediction) (blocks_between shape of.row of.plan.now.column.grid.blocks)
refer c of shape is =
    let all : All (λ b. RefersInRange c.header b.prediction) of.plan.now.column.grid.blocks = subst (λ (h : Header). All (λ b. RefersInRange h b.prediction) of.plan.now.column.grid.blocks) is.by is.plan.kept.refer in
    All-take (λ b. RefersInRange c.header b.prediction) _ _ (All-drop (λ b. RefersInRange c.header b.prediction) _ of.plan.now.column.grid.blocks all)

-- and begin in it
inside : (c : CodedFrame) (of : PlannedRow) (shape : Shape) → IsPlannedRow c of → All (λ b. b.row < mi_rows (shape_of c.header)) (blocks_between shape of.row of.plan.now.column.grid.blocks)
inside c of shape is =
    let all : All (λ b. b.row < mi_rows (shape_of c.header)) of.plan.now.column.grid.blocks =
    λ k d low. subst (λ (h : Header). (get_or of.plan.now.column.grid.blocks k d).row < mi_rows (shape_of h)) is.by (is.plan.column.starts k d low).0 in
    All-take (λ b. b.row < mi_rows (shape_of c.header)) _ _ (All-drop (λ b. b.row < mi_rows (shape_of c.header)) _ of.plan.now.column.grid.blocks all)

---- A row that is predicted from no other frame ----

intra_served : {S : Type 0} (holds : S → Plane → ℕ → Type 0) (width : S → Plane → ℕ) (map : S → FrameMap) (by : code.Rebuilding S) (header : Header) (b : BlockInfo) (p : Prediction) → RefersToNone header.kind
    → RefersInRange header p → AreServed holds width map by b p
intra_served holds width map by header b (prediction.Intra modes) none range = tt
intra_served holds width map by header b (prediction.Inter modes) none range = absurd (none range.0 range.1)

pub intra_row_served : {S : Type 0} (holds : S → Plane → ℕ → Type 0) (width : S → Plane → ℕ) (map : S → FrameMap) (by : code.Rebuilding S) (c : CodedFrame) (of : PlannedRow) → IsPlannedRow c of → RefersToNone c.header.kind
    → All (λ b. AreServed holds width map by b b.prediction) (blocks_between by.shape of.row of.plan.now.column.grid.blocks)
intra_row_served holds width map by c of is none = λ k d low.
    let b = get_or (blocks_between by.shape of.row of.plan.now.column.grid.blocks) k d in
    intra_served holds width map by c.header b b.prediction none (refer c of by.shape is k d low)

none_referred : (slots : List (Option Picture)) (kind : FrameKind) (reference : ReferenceFrame) → RefersToNone kind → no_picture ≡ references_of slots kind reference
none_referred slots Key reference none = refl
none_referred slots IntraOnly reference none = refl
none_referred slots (Inter fields) reference none = absurd (none fields refl)

pub intra_named : {S : Type 0} (map : S → FrameMap) (c : CodedFrame) (of : PlannedRow) (shape : Shape) → IsPlannedRow c of → shape ≡ shape_of of.setting.now.header → RefersToNone c.header.kind
    → rebuilding_of map (record { shape = shape; last = None; golden = None; altref = None }) ≡ rebuilding c.header (references c)
intra_named map c of shape is same none = λ i. record {
  shape = (same ∙ ap shape_of is.header) i;
  references = fun_ext each i;
}
  where
    each : (reference : ReferenceFrame) → picture_of map (reference_of (record { shape = shape; last = None; golden = None; altref = None }) reference) ≡ references c reference
    each Last = none_referred c.kept.state.slots c.header.kind Last none
    each Golden = none_referred c.kept.state.slots c.header.kind Golden none
    each Altref = none_referred c.kept.state.slots c.header.kind Altref none

-- what lies above a row, by the row's own numbers
pub over_by : {X : Type 0} (c : CodedFrame) (of : PlannedRow) (k row : ℕ) (above : Option (FramePlanes X)) → of.column ≡ k → of.row ≡ row → IsStripOver c k row above → IsStripOver c of.column of.row above
over_by c of k row above column at over =
    subst (λ (n : ℕ). IsStripOver c of.column n above) (sym at) (subst (λ (n : ℕ). IsStripOver c n row above) (sym column) over)

pub strip_by : {X : Type 0} (c : CodedFrame) (of : PlannedRow) (k row : ℕ) (f : FramePlanes X) → of.column ≡ k → of.row ≡ row → IsStripAs c of.column of.row f → IsStripAs c k row f
strip_by c of k row f column at strip = subst (λ (n : ℕ). IsStripAs c k n f) at (subst (λ (n : ℕ). IsStripAs c n of.row f) column strip)

---- Bands that are needed ----

same_fields : (a b : InterFields) → Inter a ≡ Inter b → a ≡ b
same_fields a b same = cc

second_is_in_range : (header : Header) (fields : InterFields) (o : Option ReferenceFrame) (reference : ReferenceFrame) → o ≡ Some reference → second_in_range header.size fields.references o ≡ true
    → has_allowed_scale header.size (reference_in fields.references reference) ≡ true
second_is_in_range header fields o reference is range = subst (λ (x : Option ReferenceFrame). second_in_range header.size fields.references x ≡ true) is range

read_in_range : (header : Header) (fields : InterFields) (shape : Shape) (shapes : ReferenceFrame → Shape) (b : BlockInfo) (p : Prediction) (reference : ReferenceFrame) (plane : Plane) (y : ℕ) → header.kind ≡ Inter fields
    → RefersInRange header p → ReadsBy shape shapes b p reference plane y → has_allowed_scale header.size (reference_in fields.references reference) ≡ true
read_in_range header fields shape shapes b (prediction.Intra modes) reference plane y kind range reads = absurd reads
read_in_range header fields shape shapes b (prediction.Inter modes) reference plane y kind range (inl first) =
    let same = same_fields range.0 fields (sym range.1 ∙ kind) in
    subst (λ (q : ReferenceFrame). has_allowed_scale header.size (reference_in fields.references q) ≡ true) first.0
    (subst (λ (fs : InterFields). has_allowed_scale header.size (reference_in fs.references modes.references.first) ≡ true) same range.2)
read_in_range header fields shape shapes b (prediction.Inter modes) reference plane y kind range (inr second) =
    let same = same_fields range.0 fields (sym range.1 ∙ kind) in
    subst (λ (fs : InterFields). has_allowed_scale header.size (reference_in fs.references reference) ≡ true) same (second_is_in_range header range.0 modes.references.second reference second.0 range.3)

some_block : (blocks : List BlockInfo) (k : ℕ) → k < length blocks → BlockInfo
some_block [] k low = absurd (omega (arith, low))
some_block (b ∷ blocks) k low = b

-- bands are needed of what is in range alone, and their order is that of their numbers
record IsNeeded (header : Header) (fields : InterFields) (reference : ReferenceFrame) (bands : BandRange) : Type 0 where
  range : has_allowed_scale header.size (reference_in fields.references reference) ≡ true
  order : bands.first ≤ bands.last

needed : (header : Header) (fields : InterFields) (shape : Shape) (shapes : ReferenceFrame → Shape) (blocks : List BlockInfo) (reference : ReferenceFrame) (bands : BandRange) → header.kind ≡ Inter fields
    → All (λ b. RefersInRange header b.prediction) blocks → All (λ b. b.row < mi_rows shape) blocks → needs_at (needs_of shape shapes blocks) reference ≡ Some bands → IsNeeded header fields reference bands
needed header fields shape shapes blocks reference bands kind range inner is =
    let of : IsRangeOf (BlocksRead shape shapes blocks (length blocks) reference) bands =
    subst (AreRead (BlocksRead shape shapes blocks (length blocks) reference)) is (needs_are shape shapes blocks reference inner) in
    let d = some_block blocks of.last.block of.last.one in
    let b = slice_index_or blocks of.last.block d in
    let read = of.last.reads d in
    record {
      range = read_in_range header fields shape shapes b b.prediction reference read.plane read.row kind (range of.last.block d of.last.one) read.reads;
      order = of.low bands.last of.last;
    }

sizes_are : (kind : FrameKind) (fields : InterFields) (reference : ReferenceFrame) → kind ≡ Inter fields → HaveSizes kind → HasFrameSize (reference_in fields.references reference).shape
sizes_are kind fields reference is sizes = (subst HaveSizes is sizes) reference

referred : (header : Header) (fields : InterFields) (reference : ReferenceFrame) (shape : Shape) → IsFrameSize header.size → HaveSizes header.kind → header.kind ≡ Inter fields
    → has_allowed_scale header.size (reference_in fields.references reference) ≡ true → shape ≡ (reference_in fields.references reference).shape → IsReference (shape_of header) shape
referred header fields reference shape size sizes kind range same =
    let has = sizes_are header.kind fields reference kind sizes in
    is_reference header (reference_in fields.references reference) shape size (rw same has.1) (rw same has.3) same range

-- what is needed of a reference by a planned row lies in its frame
one_inside : (c : CodedFrame) (of : PlannedRow) (fields : InterFields) (reference : ReferenceFrame) (needs : Option BandRange) → IsPlannedRow c of → c.header.kind ≡ Inter fields
    → needs_at (row_needs_of c.header of.row of.plan.now.column.grid.blocks) reference ≡ needs → IfSome needs (IsInside (reference_in fields.references reference).shape)
one_inside c of fields reference None is kind needs = tt
one_inside c of fields reference (Some bands) is kind needs =
    let shape = shape_of c.header in
    let shapes = shapes_of (shapes_by c.header.kind) in
    let blocks = blocks_between shape of.row of.plan.now.column.grid.blocks in
    let need = needed c.header fields shape shapes blocks reference bands kind (refer c of shape is) (inside c of shape is) needs in
    let own = shapes_are c.header.kind fields reference kind in
    let low : bands.last < bands_of (shapes reference) =
    bands_inside shape shapes blocks reference bands (inside c of shape is) (referred c.header fields reference (shapes reference) is.size is.references kind need.range own) needs in
    let within : bands.last < superblocks_along (mi_rows (shapes reference)) = omega (arith, low) in
    (need.order, subst (λ (s : Shape). bands.last < superblocks_along (mi_rows s)) own within)

pub row_inside : (c : CodedFrame) (of : PlannedRow) (fields : InterFields) (needs : BandNeeds) → IsPlannedRow c of → c.header.kind ≡ Inter fields → needs ≡ row_needs_of c.header of.row of.plan.now.column.grid.blocks
    → AreInside fields.references needs
row_inside c of fields needs is kind same = subst (AreInside fields.references) (sym same) (record {
  last = one_inside c of fields Last _ is kind refl;
  golden = one_inside c of fields Golden _ is kind refl;
  altref = one_inside c of fields Altref _ is kind refl;
})

---- A row that is predicted from other frames ----

-- a picture by rows of superblocks
abbrev pub IsBy : {X : Type 0} → ReferenceRows X → Option (code_picture.ReferencePicture RowSpan) → Type 0
IsBy rows x = IsPicture (rows_from rows.frame rows.first (length rows.rows.items)) rows.shape x

pub is_by : {X : Type 0} (rows : ReferenceRows X) (span : RowSpan) (x : Option (code_picture.ReferencePicture RowSpan)) → IsPicture span rows.shape x → span ≡ rows_from rows.frame rows.first (length rows.rows.items) → IsBy rows x
is_by rows span x is same = subst (λ (s : RowSpan). IsPicture s rows.shape x) same is

-- three of them
pub record ArePictures {X : Type 0} (rows : AllRows X) (by : code.Rebuilding RowSpan) : Type 0 where
  pub last : IsBy rows.last by.last
  pub golden : IsBy rows.golden by.golden
  pub altref : IsBy rows.altref by.altref

rows_at : {X : Type 0} → AllRows X → ReferenceFrame → ReferenceRows X
rows_at rows Last = rows.last
rows_at rows Golden = rows.golden
rows_at rows Altref = rows.altref

-- the picture of one of them
record IsOne {X : Type 0} (rows : AllRows X) (by : code.Rebuilding RowSpan) (reference : ReferenceFrame) : Type 0 where
  picture : code_picture.ReferencePicture RowSpan
  is : reference_of by reference ≡ Some picture
  samples : picture.samples.now ≡ rows_from (rows_at rows reference).frame (rows_at rows reference).first (length (rows_at rows reference).rows.items)
  shape : picture.shape ≡ (rows_at rows reference).shape

one_by : {X : Type 0} (rows : AllRows X) (by : code.Rebuilding RowSpan) (reference : ReferenceFrame) (x : Option (code_picture.ReferencePicture RowSpan)) → reference_of by reference ≡ x → IsBy (rows_at rows reference) x → IsOne rows by reference
one_by rows by reference None is h = absurd h
one_by rows by reference (Some x) is h = record { picture = x; is = is; samples = h.0; shape = h.1 }

one_of : {X : Type 0} (rows : AllRows X) (by : code.Rebuilding RowSpan) (reference : ReferenceFrame) → ArePictures rows by → IsOne rows by reference
unfolding rows_at
one_of rows by Last all = one_by rows by Last by.last refl all.last
one_of rows by Golden all = one_by rows by Golden by.golden refl all.golden
one_of rows by Altref all = one_by rows by Altref by.altref refl all.altref

one_read : {X : Type 0} (format : Format) (film : Film) (f : ℕ) (fields : InterFields) (needs : BandNeeds) (rows : AllRows X) (reference : ReferenceFrame) → AreAllRows format film f fields needs rows
    → IsReferenceRows format film f (reference_in fields.references reference) (needs_at needs reference) (rows_at rows reference)
unfolding rows_at
one_read format film f fields needs rows Last all = all.last
one_read format film f fields needs rows Golden all = all.golden
one_read format film f fields needs rows Altref all = all.altref

same_picture : (s t : Shape) (m n : FrameMap) → s ≡ t → m ≡ n → ◌≡◌ {A = ReferencePicture} (record { shape = s; map = m }) (record { shape = t; map = n })
same_picture s t m n shape map = λ i. record { shape = shape i; map = map i }

module _ {X : Type 0} (format : Format) (film : Film) (f : ℕ) (c : CodedFrame) (of : PlannedRow) (rows : AllRows X) (by : code.Rebuilding RowSpan) where
  abbrev needs : BandNeeds
  needs = row_needs_of c.header of.row of.plan.now.column.grid.blocks

  there : (fields : InterFields) (reference : ReferenceFrame) (bands : BandRange) (own : ReferenceRows X) (x : code_picture.ReferencePicture RowSpan) → coded format film f ≡ Some c → IsPlannedRow c of → c.header.kind ≡ Inter fields
      → by.shape ≡ shape_of c.header → needs_at needs reference ≡ Some bands → IsReferenceRows format film f (reference_in fields.references reference) (Some bands) own
      → reference_of by reference ≡ Some x → x.samples.now ≡ rows_from own.frame own.first (length own.rows.items) → x.shape ≡ own.shape
      → IsThere (held_in (pictures format film)) (width_in (pictures format film)) (map_in (pictures format film)) by reference (shapes_of (shapes_by c.header.kind) reference) bands
  there fields reference bands own x is planned kind shape need read named samples same =
      let frame = shape_of c.header in
      let need_of = needed c.header fields frame (shapes_of (shapes_by c.header.kind)) (blocks_between frame of.row of.plan.now.column.grid.blocks) reference bands kind (refer c of frame planned) (inside c of frame planned) need in
      let r = reference_in fields.references reference in
      let told : x.shape ≡ r.shape = same ∙ read.same in
      let number : x.samples.now.frame ≡ own.frame = ap (λ (s : RowSpan). s.frame) samples in
      let depth : (pictures format film x.samples.now.frame).shape.depth ≡ by.shape.depth =
      ap (λ (n : ℕ). (pictures format film n).shape.depth) number ∙ ap (λ (s : Shape). s.depth) (sym read.shape ∙ read.same)
      ∙ (named_in _ _ c fields reference (coded_by format film f c is) kind).depth ∙ ap (λ (s : Shape). s.depth) (sym shape) in (
        x,
        named,
        told ∙ sym (shapes_are c.header.kind fields reference kind),
        rows_have_bands (pictures format film) by.shape bands x (record {
          same = same ∙ read.shape ∙ sym (ap (λ (n : ℕ). (pictures format film n).shape) number);
          from = subst (λ (s : RowSpan). s.first ≤ bands.first) (sym samples) read.have.from;
          to = subst (λ (s : Shape). min (bands.last + 1) (superblocks_along (mi_rows s) - 1) < x.samples.now.end) (sym same)
              (subst (λ (s : RowSpan). min (bands.last + 1) (superblocks_along (mi_rows own.shape) - 1) < s.end) (sym samples) read.have.to);
          reference = subst (λ (s : Shape). IsReference s x.shape) (sym shape) (referred c.header fields reference x.shape planned.size planned.references kind need_of.range told);
          range = λ p. subst (λ (d : Depth). IsAtMost (greatest d) ((pictures format film x.samples.now.frame).map p)) depth (picture_small format film x.samples.now.frame p);
        }),
      )

  one_there : (fields : InterFields) (reference : ReferenceFrame) (needed : Option BandRange) → coded format film f ≡ Some c → IsPlannedRow c of → c.header.kind ≡ Inter fields → by.shape ≡ shape_of c.header
      → needs_at needs reference ≡ needed → IsReferenceRows format film f (reference_in fields.references reference) needed (rows_at rows reference) → IsOne rows by reference
      → IfSome needed (IsThere (held_in (pictures format film)) (width_in (pictures format film)) (map_in (pictures format film)) by reference (shapes_of (shapes_by c.header.kind) reference))
  one_there fields reference None is planned kind shape need read one = tt
  one_there fields reference (Some bands) is planned kind shape need read one = there fields reference bands (rows_at rows reference) one.picture is planned kind shape need read one.is one.samples one.shape

  pub inter_row_served : coded format film f ≡ Some c → IsPlannedRow c of → by.shape ≡ shape_of c.header → ReadsRows format film f c of rows → ArePictures rows by
      → All (λ b. AreServed (held_in (pictures format film)) (width_in (pictures format film)) (map_in (pictures format film)) by b b.prediction) (blocks_between by.shape of.row of.plan.now.column.grid.blocks)
  inter_row_served is planned shape reads all =
      let shapes = shapes_of (shapes_by c.header.kind) in
      blocks_served (held_in (pictures format film)) (width_in (pictures format film)) (map_in (pictures format film)) by shapes (blocks_between by.shape of.row of.plan.now.column.grid.blocks)
      (subst (λ (s : Shape). All (λ b. b.row < mi_rows s) (blocks_between by.shape of.row of.plan.now.column.grid.blocks)) (sym shape) (inside c of by.shape planned))
      (λ reference.
      subst (λ (s : Shape). IfSome (needs_at (needs_of s shapes (blocks_between s of.row of.plan.now.column.grid.blocks)) reference)
      (IsThere (held_in (pictures format film)) (width_in (pictures format film)) (map_in (pictures format film)) by reference (shapes reference))) (sym shape)
      (one_there reads.fields reference (needs_at needs reference) is planned reads.kind shape refl
      (one_read format film f reads.fields needs rows reference reads.read) (one_of rows by reference all)))

  picture_same : (fields : InterFields) (reference : ReferenceFrame) → IsReferenceRows format film f (reference_in fields.references reference) (needs_at needs reference) (rows_at rows reference) → coded format film f ≡ Some c
      → IsOne rows by reference → picture_of (map_in (pictures format film)) (reference_of by reference) ≡ picture_in (slice_index_or c.kept.state.slots (reference_in fields.references reference).slot None)
  picture_same fields reference read is one =
      let number = read.number in
      let own : number.frame ≡ c = same_coded (coded format film f) number.frame c number.is is in
      let held : slice_index_or c.kept.state.slots (reference_in fields.references reference).slot None ≡ Some number.picture =
      subst (λ (d : CodedFrame). slice_index_or d.kept.state.slots (reference_in fields.references reference).slot None ≡ Some number.picture) own number.held in
      let of = picture_of_number format film f (reference_in fields.references reference) (rows_at rows reference).frame number in
      let shape : one.picture.shape ≡ number.picture.shape = one.shape ∙ read.same ∙ sym number.shape in
      let map : map_in (pictures format film) one.picture.samples.now ≡ number.picture.map = ap (map_in (pictures format film)) one.samples ∙ sym of.map in
      ap (picture_of (map_in (pictures format film))) one.is ∙ same_picture one.picture.shape number.picture.shape (map_in (pictures format film) one.picture.samples.now) number.picture.map shape map ∙ ap picture_in (sym held)

  pub inter_named : coded format film f ≡ Some c → IsPlannedRow c of → by.shape ≡ shape_of of.setting.now.header → ReadsRows format film f c of rows → ArePictures rows by
      → rebuilding_of (map_in (pictures format film)) by ≡ rebuilding c.header (references c)
  inter_named is planned shape reads all = λ i. record {
    shape = (shape ∙ ap shape_of planned.header) i;
    references = (fun_ext each ∙ ap (references_of c.kept.state.slots) (sym reads.kind)) i;
  }
    where
      each : (reference : ReferenceFrame) → picture_of (map_in (pictures format film)) (reference_of by reference) ≡ references_of c.kept.state.slots (Inter reads.fields) reference
      each reference = picture_same reads.fields reference (one_read format film f reads.fields needs rows reference reads.read) is (one_of rows by reference all)
