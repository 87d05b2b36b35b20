-- What is kept of the bands that rows read of other frames is what they read.
use Rattle.std.proofs.Common.{◌≡◌, ◌∙◌, ◌<◌, ◌≤◌, ◌+◌, ◌^◌, ℕ, zero, suc, List, [], ◌∷◌, ◌++◌, length, map, take, get_or, inl, inr, refl, sym, ap, subst, arith}
use Rattle.std.specs.Prelude.{Option, Some, None, Result, Ok, Err, Vec, slice_get}
use Rattle.std.specs.Option.{option_map}
use Rattle.std.proofs.Math.Seq.{get_or-append_seam}
use Rattle.std.proofs.lemmas.Bool.{cases_lt}
use Rattle.std.proofs.lemmas.List.{get_or_append_left, length-append, map_push, take_all, take_more}
use Rattle.std.proofs.lemmas.Option.{slice_get-get_or, slice_get-map}
use Rattle.vp9_types.specs.Shapes.{mi_rows}
use Rattle.vp9_types.specs.Sizes.{superblocks_along}
use Rattle.std.specs.declared.alloc.Global.{Global}
use Rattle.vp9_types.specs.declared.job.BandSpan.{BandSpan}
use Rattle.vp9_types.specs.declared.rule.Rule.{Rule}
use Rattle.band_needs.specs.Ranges.{no_needs}
use Rattle.band_needs.specs.declared.ranges.BandNeeds.{BandNeeds}
use Rattle.block_plan.specs.declared.block.BlockInfo.{BlockInfo}
use Rattle.column_plan.proofs.Held.{infos_are}
use Rattle.job_results.specs.frame_close.Code.{GivesColumn}
use Rattle.frame_headers.specs.Spans.{tile_spans}
use Rattle.frame_headers.specs.HeaderState.{shape_of}
use Rattle.frame_headers.specs.declared.header.FrameKind.{FrameKind}
use Rattle.frame_headers.specs.declared.header.Header.{Header}
use Rattle.frame_output.specs.declared.rendering.Format.{Format}
use Rattle.job_results.proofs.of_frame_state.PlanReads.{reads_columns}
use Rattle.job_results.specs.frame_state.ColumnPlans.{plan_of, tile_bytes}
use Rattle.job_results.specs.frame_state.FrameReading.{infos}
use Rattle.job_results.specs.frame_state.Sources.{adapts}
use Rattle.job_results.specs.frame_steps.Kept.{number_in}
use Rattle.job_results.specs.frame_steps.StepResults.{IsColumn, IsSound, counts_of, row_needs_of, sources_by}
use Rattle.job_results.specs.frame_steps.declared.beginning.BegunFrame.{BegunFrame}
use Rattle.job_results.specs.frame_steps.declared.columns.PlannedColumn.{PlannedColumn}
use Rattle.job_results.specs.frame_steps.declared.kept.Kept.{Kept}
use Rattle.job_results.specs.tile_syntax.declared.plans.Unplanned.{Unplanned}
use Rattle.job_results.specs.tile_syntax.declared.plans.Unplanned.TheVariants as unplanned
use Rattle.job_results.specs.numbered_frames.Coded.{CodedFrame, coded}
use Rattle.job_results.specs.numbered_frames.Films.{Film}
use Rattle.job_results.specs.JobResults.{HasReads, IsPlannedAs}
use Rattle.job_results.specs.Lent.{IsBegunFrame}
use Rattle.job_results.specs.RowReads.{kept_spans, reads_from, row_in, row_reads, row_spans, spans_by}
use Rattle.job_results.specs.declared.reads.RowReads.{RowReads}
use Rattle.job_results.specs.declared.result.ClosedFrame.{ClosedFrame}
use Rattle.job_heads.specs.Reads.{AreColumnReads, AreFirstReads, AreReads, IsAllRead}
use Rattle.job_heads.proofs.CodedFrames.{ok_value}
use Rattle.job_heads.proofs.TileColumns.{column_of}

---- A plan ----

ok_is_none : {A E : Type 0} (a : A) (e : E) → ◌≡◌ {A = Result A E} (Ok a) (Err e) → ⊥
ok_is_none a e is = absurd cc

-- a tile column of a frame whose tiles are all read breaks no rule
pub none_broken : (b : BegunFrame) (k n : ℕ) (rule : Rule) (r : Result PlannedColumn Unplanned) (why : Unplanned) → IsSound b → IsAllRead b → IsColumn b k r → r ≡ Err why → why ≡ unplanned.Broken n rule → ⊥
none_broken b k n rule r why sound all column err which =
    let broken : r ≡ Err (unplanned.Broken n rule) = subst (λ (e : Unplanned). r ≡ Err e) which err in
    let spans = ok_value (tile_spans b.bytes.now b.setting.header b.compressed) sound.begun.2 in
    let plans = reads_columns (sources_by b) b.bytes.now b.compressed spans.0 all.0 spans.1 all.1 in
    let told : plan_of (sources_by b) (tile_bytes b.bytes.now spans.0) k ≡ Err (n, rule) =
    subst (λ (x : Result PlannedColumn Unplanned). GivesColumn (adapts b.setting.header) (plan_of (sources_by b) (tile_bytes b.bytes.now spans.0) k) (counts_of x)) broken (column.counts spans.0 spans.1) in
    ok_is_none (plans.0 k) (n, rule) (sym (plans.1 k) ∙ told)

---- Tile column after tile column ----

pub none_read : (b : BegunFrame) (numbers : List (Option ℕ)) → AreFirstReads b numbers []
none_read b numbers = λ k d low. absurd (omega (arith, low))

pub one_read : (b : BegunFrame) (numbers : List (Option ℕ)) (columns : List (Vec (List (Option BandSpan)) Global)) (rows : Vec (List (Option BandSpan)) Global) → AreFirstReads b numbers columns
    → AreColumnReads b numbers (length columns) rows.items → AreFirstReads b numbers (columns ++ rows ∷ [])
one_read b numbers columns rows all own = λ k d low. elim (cases_lt k (length columns)) [
  | inl below ↦ subst (λ (x : Vec (List (Option BandSpan)) Global). AreColumnReads b numbers k x.items) (sym (get_or_append_left columns (rows ∷ []) d k below)) (all k d below)
  | inr past ↦ (
      let is : length columns ≡ k = omega (arith, past, low, length-append columns (rows ∷ [])) in
      subst (λ n. AreColumnReads b numbers n (get_or (columns ++ rows ∷ []) n d).items) is
      (subst (λ (x : Vec (List (Option BandSpan)) Global). AreColumnReads b numbers (length columns) x.items) (sym (get_or-append_seam columns rows [] d)) own)
      )
]

---- Row after row ----

pub pushed_many : {X : Type 0} (old new : List X) (x : X) → new ≡ old ++ x ∷ [] → length new ≡ length old + 1
pushed_many old new x is = ap (λ xs. length xs) is ∙ length-append old (x ∷ [])

-- a row more, by what it needs
pub one_row : {A B : Type 0} (f : A → B) (needs : List A) (rows new : List B) (n : ℕ) (d : A) (x : B) → rows ≡ map f (take n needs) → n < length needs → new ≡ rows ++ x ∷ [] → x ≡ f (get_or needs n d)
    → new ≡ map f (take (n + 1) needs)
one_row f needs rows new n d x are low pushed is =
    pushed ∙ (λ i. are i ++ is i ∷ []) ∙ sym (map_push f (take n needs) (get_or needs n d)) ∙ ap (map f) (sym (take_more needs n d low))

pub all_rows : {A B : Type 0} (f : A → B) (needs : List A) (rows : List B) (n : ℕ) → rows ≡ map f (take n needs) → length needs ≤ n → rows ≡ map f needs
all_rows f needs rows n are past = are ∙ ap (map f) (take_all n needs past)

---- A row ----

there : {X : Type 0} (xs : List X) (k : ℕ) → k < length xs → (x : X) × (slice_get xs k ≡ Some x) × (get_or xs k x ≡ x)
there [] k low = absurd (omega (arith, low))
there (x ∷ xs) zero low = (x, refl, refl)
there (x ∷ xs) (suc k) low = there xs k (omega (arith, low))

-- what a row's blocks need is what the plan of its tile column says
row_is : (c : CodedFrame) (k r : ℕ) (p : PlannedColumn) → IsPlannedAs c k (Ok p) → r < superblocks_along (mi_rows (shape_of c.header))
    → slice_get (map (λ needs. spans_by (map number_in c.kept.state.slots) c.header.kind needs) p.needs.items) r ≡ Some (row_reads c k r)
unfolding row_reads
row_is c k r p planned low =
    let spans : BandNeeds → List (Option BandSpan) = λ needs. spans_by (map number_in c.kept.state.slots) c.header.kind needs in
    let below : r < length p.needs.items = omega (arith, low, planned.1.many) in
    let found : slice_get p.needs.items r ≡ Some (row_needs_of c.header r p.plan.column.grid.blocks) = slice_get-get_or p.needs.items r no_needs below ∙ ap Some (planned.1.each r no_needs below) in
    let read = planned.0.read in
    let blocks : infos read.value.column.blocks ≡ p.plan.column.grid.blocks =
    ap infos (sym planned.0.held.blocks) ∙ infos_are (shape_of c.by.header) p.plan.column.grid.from p.plan.column.grid.blocks p.plan.residues in
    slice_get-map spans p.needs.items r ∙ ap (option_map spans) found ∙ ap (λ (bs : List BlockInfo). Some (spans (row_needs_of c.header r bs))) (sym blocks) ∙ ap (λ x. Some (row_spans c r x)) (sym planned.0.says)

row_kept : (c : CodedFrame) (b : BegunFrame) (numbers : List (Option ℕ)) (k r : ℕ) (p : PlannedColumn) (rows : List (List (Option BandSpan))) → IsPlannedAs c k (Ok p) → b.setting.header ≡ c.header
    → numbers ≡ map number_in c.kept.state.slots → rows ≡ map (λ needs. spans_by numbers b.setting.header.kind needs) p.needs.items → r < superblocks_along (mi_rows (shape_of c.header))
    → slice_get rows r ≡ Some (row_reads c k r)
row_kept c b numbers k r p rows planned header same each low =
    ap (λ (xs : List (List (Option BandSpan))). slice_get xs r) each ∙ (λ i. slice_get (map (λ needs. spans_by (same i) (header i).kind needs) p.needs.items) r) ∙ row_is c k r p planned low

pub has_reads : (format : Format) (film : Film) (f : ℕ) (b : BegunFrame) (numbers : List (Option ℕ)) (k : ClosedFrame) (h : IsBegunFrame format film f b) → numbers ≡ map number_in h.0.kept.state.slots
    → AreReads b numbers k.reads → k.columns ≡ 2 ^ b.setting.header.params.tiles.columns_log2 → k.rows ≡ superblocks_along (mi_rows (shape_of b.setting.header)) → HasReads (coded format film f) k
has_reads format film f b numbers k h same reads columns rows =
    subst (λ (o : Option CodedFrame). HasReads o k) (sym h.1)
    (λ column row across low.
    let below : column < length k.reads.columns.items = omega (arith, across, columns, reads.many) in
    let found = there k.reads.columns.items column below in
    let own : AreColumnReads b numbers column found.0.items =
    subst (λ (x : Vec (List (Option BandSpan)) Global). AreColumnReads b numbers column x.items) found.2 (reads.each column found.0 below) in
    let planned = column_of format film f b column (Ok own.planned) h own.column in
    let as_planned : IsPlannedAs h.0 column (Ok own.planned) = subst (λ (c : CodedFrame). IsPlannedAs c column (Ok own.planned)) (same_frame (coded format film f) planned.0 h.0 planned.1 h.1) planned.2.1 in
    let inside : row < superblocks_along (mi_rows (shape_of h.0.header)) =
    subst (λ (x : Header). row < superblocks_along (mi_rows (shape_of x))) h.2.header (subst (λ n. row < n) rows low) in
    ap (λ o. row_in o row) found.1 ∙ row_kept h.0 b numbers column row own.planned found.0.items as_planned h.2.header same own.each inside)
  where
    same_frame : (o : Option CodedFrame) (c d : CodedFrame) → o ≡ Some c → o ≡ Some d → c ≡ d
    same_frame o c d is other = let both : Some c ≡ Some d = sym is ∙ other in cc
