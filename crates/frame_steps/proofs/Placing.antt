-- Blocks that are read can be placed in the pictures that they refer to.
use Rattle.std.proofs.Common.{◌≡◌, ℕ, List, get_or, refl, sym, subst}
use Rattle.std.specs.Prelude.{All, true, IfSome, Option, Some, None, Result, Ok, Err}
use Rattle.vp9_types.specs.declared.block.ReferenceFrame.{ReferenceFrame}
use Rattle.vp9_types.specs.declared.block.ReferenceFrame.TheVariants.{Last, Golden, Altref}
use Rattle.vp9_types.specs.declared.job.Span.{Span}
use Rattle.frame_headers.specs.References.{has_allowed_scale}
use Rattle.frame_headers.specs.FrameSizes.{HasFrameSize, IsFrameSize}
use Rattle.frame_headers.specs.Spans.{tile_count, tile_spans}
use Rattle.frame_headers.specs.HeaderState.{shape_of}
use Rattle.frame_headers.specs.declared.header.FrameKind.{FrameKind}
use Rattle.frame_headers.specs.declared.header.FrameKind.TheVariants as kind
use Rattle.frame_headers.specs.declared.header.Header.{Header}
use Rattle.frame_headers.specs.declared.header.InterFields.{InterFields}
use Rattle.block_plan.specs.declared.block.Prediction.{Prediction}
use Rattle.block_plan.specs.declared.block.Prediction.TheVariants.{Intra, Inter}
use Rattle.inter_contexts.specs.BlockReferences.{reference_in, second_in_range}
use Rattle.inter_modes.specs.Code.{RefersInRange}
use Rattle.band_needs.specs.Code.{CanBePlaced, HasShape, HasShapes}
use Rattle.seq_decoder.specs.frame_state.KeptColumns.{IsTileColumn}
use Rattle.seq_decoder.specs.frame_state.ColumnPlans.{plan_of, tile_bytes}
use Rattle.seq_decoder.specs.frame_state.Sources.{FrameSources, adapts}
use Rattle.seq_decoder.specs.frame_state.declared.columns.TileColumn.{TileColumn}
use Rattle.frame_close.proofs.Joined.{column_gives}
use Rattle.seq_decoder.proofs.PastLemmas.{is_reference}
use Rattle.recon_rows.specs.tile_syntax.Code.{GivesPlan, IsKept}
use Rattle.recon_rows.specs.tile_syntax.declared.plans.ColumnPlan.{ColumnPlan}
use Rattle.recon_rows.specs.tile_syntax.declared.plans.Unplanned.{Unplanned}
use Rattle.frame_steps.specs.StepResults.{AreRowNeeds, HaveSizes, IsColumn, shapes_by, sources_by}
use Rattle.frame_steps.specs.declared.beginning.BegunFrame.{BegunFrame}
use Rattle.frame_steps.specs.declared.columns.PlannedColumn.{PlannedColumn}

one_shape : (header : Header) (fields : InterFields) (r : ReferenceFrame) → IsFrameSize header.size → HasFrameSize (reference_in fields.references r).shape
    → has_allowed_scale header.size (reference_in fields.references r) ≡ true → HasShape (shape_of header) (shapes_by (kind.Inter fields)) r
one_shape header fields Last size sized range = (fields.references.last.shape, refl, is_reference header fields.references.last fields.references.last.shape size sized.1 sized.3 refl range)
one_shape header fields Golden size sized range = (fields.references.golden.shape, refl, is_reference header fields.references.golden fields.references.golden.shape size sized.1 sized.3 refl range)
one_shape header fields Altref size sized range = (fields.references.altref.shape, refl, is_reference header fields.references.altref fields.references.altref.shape size sized.1 sized.3 refl range)

second_shape : (header : Header) (fields : InterFields) (second : Option ReferenceFrame) → IsFrameSize header.size → ((r : ReferenceFrame) → HasFrameSize (reference_in fields.references r).shape)
    → second_in_range header.size fields.references second ≡ true → IfSome second (HasShape (shape_of header) (shapes_by (kind.Inter fields)))
second_shape header fields None size sized range = tt
second_shape header fields (Some r) size sized range = one_shape header fields r size (sized r) range

shapes_there : (header : Header) (p : Prediction) → IsFrameSize header.size → HaveSizes header.kind → RefersInRange header p → HasShapes (shape_of header) (shapes_by header.kind) p
shapes_there header (Intra modes) size sized refers = tt
shapes_there header (Inter modes) size sized refers =
    let fields = refers.0 in
    let all = subst HaveSizes refers.1 sized in
    subst (λ (k : FrameKind). HasShapes (shape_of header) (shapes_by k) (Inter modes)) (sym refers.1)
    (one_shape header fields modes.references.first size (all modes.references.first) refers.2, second_shape header fields modes.references.second size all refers.3)

pub placed_by : (header : Header) (n k : ℕ) (c : TileColumn) → IsFrameSize header.size → HaveSizes header.kind → IsTileColumn header n k c → All (λ b. RefersInRange header b.prediction) c.grid.blocks
    → All (CanBePlaced (shape_of header) (shapes_by header.kind)) c.grid.blocks
placed_by header n k c size sized h refer = λ i d low.
    let starts = h.starts i d low in
    record { row = starts.0; column = starts.1; shapes = shapes_there header (get_or c.grid.blocks i d).prediction size sized (refer i d low) }

---- What a tile column came to ----

abbrev Plans : BegunFrame → ℕ → Result (List ℕ) Unplanned → ColumnPlan → Header → FrameSources → Type 0
Plans b k r plan header by = (spans : List Span) → tile_spans b.bytes.now header b.compressed ≡ Ok spans → GivesPlan (adapts header) (plan_of by (tile_bytes b.bytes.now spans) k) r (shape_of header) plan

plans_own : (b : BegunFrame) (k : ℕ) (r : Result (List ℕ) Unplanned) (plan : ColumnPlan) (header : Header) (by : FrameSources) → header ≡ b.setting.header → by ≡ sources_by b → Plans b k r plan header by
    → Plans b k r plan b.setting.header (sources_by b)
plans_own b k r plan header by own sources given =
    subst (λ (s : FrameSources). Plans b k r plan b.setting.header s) sources (subst (λ (h : Header). Plans b k r plan h by) own given)

pub column_failed : (b : BegunFrame) (k : ℕ) (e : Unplanned) (plan : ColumnPlan) (header : Header) (by : FrameSources) → header ≡ b.setting.header → by ≡ sources_by b → Plans b k (Err e) plan header by
    → IsColumn b k (Err e)
column_failed b k e plan header by own sources given =
    let plans = plans_own b k (Err e) plan header by own sources given in
    record {
      counts = λ spans cut. column_gives (adapts b.setting.header) (plan_of (sources_by b) (tile_bytes b.bytes.now spans) k) (Err e) (shape_of b.setting.header) plan (plans spans cut);
      plan = λ spans cut. tt;
    }

pub column_planned : (b : BegunFrame) (k : ℕ) (c : PlannedColumn) (header : Header) (by : FrameSources) → header ≡ b.setting.header → by ≡ sources_by b → Plans b k (Ok c.counts) c.plan header by
    → IsTileColumn header (tile_count header) k c.plan.column → IsKept header c.plan → AreRowNeeds header c.plan.column.grid.blocks c.needs.items → IsColumn b k (Ok c)
column_planned b k c header by own sources given column kept needs =
    let plans = plans_own b k (Ok c.counts) c.plan header by own sources given in
    record {
      counts = λ spans cut. column_gives (adapts b.setting.header) (plan_of (sources_by b) (tile_bytes b.bytes.now spans) k) (Ok c.counts) (shape_of b.setting.header) c.plan (plans spans cut);
      plan = λ spans cut.
          let gives = plans spans cut in (
            record {
              read = gives.0;
              says = gives.1;
              held = gives.2;
              column = subst (λ (h : Header). IsTileColumn h (tile_count h) k c.plan.column) own column;
              kept = subst (λ (h : Header). IsKept h c.plan) own kept;
            },
            subst (λ (h : Header). AreRowNeeds h c.plan.column.grid.blocks c.needs.items) own needs,
          );
    }
