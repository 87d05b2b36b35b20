-- The blocks of a row of superblocks, as its strip's planes hold them.
use Rattle.std.proofs.Common.{◌≡◌, ◌<◌, ◌∷◌, [], ℕ, ℤ, true, List, length, get_or, inl, inr, refl, sym, ◌∙◌, ap, subst, arith}
use Rattle.std.specs.Prelude.{drop, filter, nat_eq}
use Rattle.std.specs.List.{All}
use Rattle.std.proofs.lemmas.Bool.{cases_eq, eq-eqb, ne_eqb}
use Rattle.std.proofs.lemmas.List.Elements.{All-cons, All-head, All-nil, All-tail}
use Rattle.vp9_types.specs.declared.shape.Plane.TheVariants.{Y, U, V}
use Rattle.vp9_types.specs.declared.shape.Shape.{Shape}
use Rattle.block_plan.specs.Planned.{PlannedBlock}
use Rattle.block_plan.specs.declared.block.BlockInfo.{BlockInfo}
use Rattle.planes.specs.declared.area.Area.{Area}
use Rattle.planes.specs.declared.frame_planes.FramePlanes.{FramePlanes}
use Rattle.block_rebuild.specs.Code.{HoldsBlock, HoldsBlockIn, IsPlaced}
use Rattle.block_rebuild.specs.Laws.{IsInColumn, IsRead, StripHolds}
use Rattle.block_rebuild.specs.Strips.{strip_area, superblock_row}
use Rattle.block_rebuild.proofs.Columns.{strip_holds}
use Rattle.column_plan.specs.PlannedBlocks.{count_of, planned_blocks, planned_from}
use Rattle.column_plan.specs.PlanRows.{place_of_row, planned_in_row}
use Rattle.recon_rows.specs.RebuiltRows.{blocks_between, planned_between}
use Rattle.recon_rows.specs.OwnStrips.{HasStripAreas}
use Rattle.recon_rows.proofs.RowSteps.{row_planned}
use Rattle.column_plan.specs.PlanRows as rows

-- what holds of planned blocks by their places and modes holds of the blocks
pub of_infos : (P : ℕ → BlockInfo → Type 0) (shape : Shape) (tile_from : ℕ) (blocks : List BlockInfo) (pieces : List (List ℤ))
    → All (λ (b : PlannedBlock). P b.tile_from b.info) (planned_blocks shape tile_from blocks pieces) → All (P tile_from) blocks
unfolding planned_blocks
of_infos P shape tile_from [] pieces all = All-nil (P tile_from)
of_infos P shape tile_from (b ∷ blocks) pieces all =
    let rest = drop (count_of shape b) pieces in
    All-cons (P tile_from) b blocks
    (All-head (λ (b : PlannedBlock). P b.tile_from b.info) (planned_from shape tile_from b pieces) (planned_blocks shape tile_from blocks rest) all)
    (of_infos P shape tile_from blocks rest (All-tail (λ (b : PlannedBlock). P b.tile_from b.info) (planned_from shape tile_from b pieces) (planned_blocks shape tile_from blocks rest) all))

-- those of a row are some of the column's, and lie in it
in_its_row : (P : PlannedBlock → Type 0) (r : ℕ) (blocks : List PlannedBlock) → All P blocks → All (λ b. P b × (superblock_row b ≡ r)) (planned_in_row r blocks)
in_its_row P r [] all = All-nil (λ b. P b × (superblock_row b ≡ r))
in_its_row P r (b ∷ blocks) all = elim (cases_eq (superblock_row b) r) [
  | inl here ↦ rw (eq-eqb (superblock_row b) r here)
      (All-cons (λ b. P b × (superblock_row b ≡ r)) b (planned_in_row r blocks) (All-head P b blocks all, here) (in_its_row P r blocks (All-tail P b blocks all)))
  | inr other ↦ rw (ne_eqb (superblock_row b) r other) (in_its_row P r blocks (All-tail P b blocks all))
]

held_in : {X : Type 0} (shape : Shape) (from to r : ℕ) (f : FramePlanes X) (b : PlannedBlock) → HasStripAreas shape from to r f → superblock_row b ≡ r → StripHolds shape from to b
    → HoldsBlockIn shape b.tile_from b.info f
held_in shape from to r f b areas here holds = record {
  y = subst (λ (a : Area). HoldsBlock shape Y b.tile_from b.info a) (ap (strip_area shape Y from to) here ∙ sym areas.y) (holds Y);
  u = subst (λ (a : Area). HoldsBlock shape U b.tile_from b.info a) (ap (strip_area shape U from to) here ∙ sym areas.u) (holds U);
  v = subst (λ (a : Area). HoldsBlock shape V b.tile_from b.info a) (ap (strip_area shape V from to) here ∙ sym areas.v) (holds V);
}

pub row_held : {X : Type 0} (shape : Shape) (from to r : ℕ) (blocks : List BlockInfo) (pieces : List (List ℤ)) (f : FramePlanes X) → HasStripAreas shape from to r f
    → All (IsRead shape) (planned_blocks shape from blocks pieces) → All (IsInColumn from to) (planned_blocks shape from blocks pieces) → rows.AreInOrder blocks
    → All (λ b. HoldsBlockIn shape from b f) (blocks_between shape r blocks)
row_held shape from to r blocks pieces f areas read inside order =
    let planned : List PlannedBlock = planned_blocks shape from blocks pieces in
    let each : All (λ (b : PlannedBlock). StripHolds shape from to b) planned = λ i d low. strip_holds shape from to _ (read i d low) (inside i d low) in
    let lie = in_its_row (λ (b : PlannedBlock). StripHolds shape from to b) r planned each in
    let held : All (λ (b : PlannedBlock). HoldsBlockIn shape b.tile_from b.info f) (planned_in_row r planned) =
    λ i d low. (let one = lie i d low in held_in shape from to r f (get_or (planned_in_row r planned) i d) areas one.1 one.0) in
    of_infos (λ tile_from b. HoldsBlockIn shape tile_from b f) shape from (blocks_between shape r blocks) (drop (place_of_row shape r blocks).piece pieces)
    (subst (All (λ (b : PlannedBlock). HoldsBlockIn shape b.tile_from b.info f)) (sym (row_planned shape from r blocks pieces order)) held)

pub all_placed : (shape : Shape) (from : ℕ) (blocks : List BlockInfo) (pieces : List (List ℤ)) → All (IsRead shape) (planned_blocks shape from blocks pieces) → All (IsPlaced shape from) blocks
all_placed shape from blocks pieces read = of_infos (IsPlaced shape) shape from blocks pieces (λ i d low. (read i d low).placed)
