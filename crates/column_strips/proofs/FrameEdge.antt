-- Right of a plane's coded width no block puts a sample.
use Rattle.std.proofs.Common.{◌≡◌, ◌<◌, ◌≤◌, ◌+◌, ◌-◌, ℕ, List, [], ◌∷◌, inl, inr, refl, ◌∙◌, arith}
use Rattle.std.specs.Prelude.{None, Some}
use Rattle.std.specs.List.{fold, range_with_len}
use Rattle.std.proofs.lemmas.Bool.{cases_lt}
use Rattle.std.proofs.lemmas.Bool.Decides.{nat_tests}
use Rattle.vp9_types.specs.Maps.{Map, FrameMap, with_block}
use Rattle.vp9_types.specs.Shapes.{coded_width, coded_height}
use Rattle.vp9_types.specs.declared.shape.Depth.{Depth}
use Rattle.vp9_types.specs.declared.shape.Plane.{Plane}
use Rattle.vp9_types.specs.declared.shape.Plane.TheVariants.{Y, U, V}
use Rattle.vp9_types.specs.declared.shape.Shape.{Shape}
use Rattle.block_geometry.specs.declared.transform_blocks.PlaneBlock.{PlaneBlock}
use Rattle.block_geometry.specs.declared.transform_blocks.TransformPlace.{TransformPlace}
use Rattle.block_plan.specs.InPlanes.{plane_block}
use Rattle.block_plan.specs.Planned.{PlannedBlock, Residue, Residues}
use Rattle.block_plan.specs.declared.block.BlockInfo.{BlockInfo}
use Rattle.block_plan.specs.declared.block.InterPrediction.{InterPrediction}
use Rattle.block_plan.specs.declared.block.IntraPrediction.{IntraPrediction}
use Rattle.block_plan.specs.declared.block.Prediction.{Prediction}
use Rattle.block_plan.specs.declared.block.Prediction.TheVariants.{Intra, Inter}
use Rattle.inter_places.specs.Places.{parts_of}
use Rattle.intra_predict.specs.declared.block.IntraBlock.{IntraBlock}
use Rattle.planes.specs.Pictures.{blank}
use Rattle.block_rebuild.specs.RebuiltBlocks.{put_by, put_intra, put_next, put_planned, put_residue}
use Rattle.block_rebuild.specs.InterBlocks.{Rebuilding, add_next, add_residue, put_inter, put_part, put_prediction}
use Rattle.block_rebuild.specs.Strips.{with_blocks}

before_block : (m b : Map) (y0 x0 rows columns y x : ℕ) → x < x0 → with_block m y0 x0 rows columns b y x ≡ m y x
unfolding with_block
before_block m b y0 x0 rows columns y x early = grind (arith, nat_tests)

behind_block : (m b : Map) (y0 x0 rows columns y x : ℕ) → x0 + columns ≤ x → with_block m y0 x0 rows columns b y x ≡ m y x
unfolding with_block
behind_block m b y0 x0 rows columns y x late = grind (arith, nat_tests)

-- a block that is cut off at a width
cut_off : (m b : Map) (width y0 x0 rows columns y x : ℕ) → columns ≤ width - x0 → width ≤ x → with_block m y0 x0 rows columns b y x ≡ m y x
cut_off m b width y0 x0 rows columns y x few past = elim (cases_lt x x0) [
  | inl early ↦ before_block m b y0 x0 rows columns y x early
  | inr late ↦ behind_block m b y0 x0 rows columns y x (omega (arith, few, past, late))
]

all_leave : {A : Type 0} (put : Map → A → Map) (y x : ℕ) → ((m : Map) (a : A) → put m a y x ≡ m y x) → (xs : List A) (m : Map) → fold put m xs y x ≡ m y x
all_leave put y x leaves [] m = refl
all_leave put y x leaves (a ∷ xs) m = all_leave put y x leaves xs (put m a) ∙ leaves m a

residue_leaves : (width height : ℕ) (depth : Depth) (b : IntraBlock) (residue : Residue) (m : Map) (y x : ℕ) → width ≤ x → put_residue width height depth b residue m y x ≡ m y x
residue_leaves width height depth b None m y x past = cut_off m _ width b.place.row b.place.column _ _ y x (omega arith) past
residue_leaves width height depth b (Some values) m y x past = cut_off m _ width b.place.row b.place.column _ _ y x (omega arith) past

intra_leaves : (shape : Shape) (tile_from : ℕ) (b : BlockInfo) (modes : IntraPrediction) (p : Plane) (residues : Residues) (m : Map) (y x : ℕ) → coded_width shape p ≤ x
    → put_intra shape tile_from b modes p residues m y x ≡ m y x
unfolding put_intra
intra_leaves shape tile_from b modes p residues m y x past =
    all_leave (put_next shape tile_from b modes p) y x (λ m r. residue_leaves (coded_width shape p) (coded_height shape p) shape.depth _ r.1 m y x past) residues m

added_leaves : (width height : ℕ) (depth : Depth) (b : PlaneBlock) (at : TransformPlace) (residue : Residue) (m : Map) (y x : ℕ) → width ≤ x → add_residue width height depth b at residue m y x ≡ m y x
added_leaves width height depth b at None m y x past = refl
added_leaves width height depth b at (Some values) m y x past = cut_off m _ width _ _ _ _ y x (omega arith) past

prediction_leaves : (by : Rebuilding) (b : BlockInfo) (modes : InterPrediction) (p : Plane) (m : Map) (y x : ℕ) → coded_width by.shape p ≤ x → put_prediction by b modes p m y x ≡ m y x
unfolding put_prediction
prediction_leaves by b modes p m y x past =
    all_leave (put_part by b modes p) y x (λ m n. cut_off m _ (coded_width by.shape p) _ _ _ _ y x (omega arith) past) (range_with_len 0 (parts_of by.shape b.size p)) m

inter_leaves : (by : Rebuilding) (b : BlockInfo) (modes : InterPrediction) (p : Plane) (residues : Residues) (m : Map) (y x : ℕ) → coded_width by.shape p ≤ x
    → put_inter by b modes p residues m y x ≡ m y x
unfolding put_inter
inter_leaves by b modes p residues m y x past =
    all_leave (add_next by.shape b p) y x (λ m r. added_leaves (coded_width by.shape p) (coded_height by.shape p) by.shape.depth (plane_block by.shape b p) r.0 r.1 m y x past) residues (put_prediction by b modes p m)
    ∙ prediction_leaves by b modes p m y x past

block_leaves : (by : Rebuilding) (b : PlannedBlock) (prediction : Prediction) (m : FrameMap) (p : Plane) (y x : ℕ) → coded_width by.shape p ≤ x → put_by by b prediction m p y x ≡ m p y x
unfolding put_by
block_leaves by b (Intra modes) m Y y x past = intra_leaves by.shape b.tile_from b.info modes Y b.y (m Y) y x past
block_leaves by b (Intra modes) m U y x past = intra_leaves by.shape b.tile_from b.info modes U b.u (m U) y x past
block_leaves by b (Intra modes) m V y x past = intra_leaves by.shape b.tile_from b.info modes V b.v (m V) y x past
block_leaves by b (Inter modes) m Y y x past = inter_leaves by b.info modes Y b.y (m Y) y x past
block_leaves by b (Inter modes) m U y x past = inter_leaves by b.info modes U b.u (m U) y x past
block_leaves by b (Inter modes) m V y x past = inter_leaves by b.info modes V b.v (m V) y x past

blocks_leave : (by : Rebuilding) (blocks : List PlannedBlock) (m : FrameMap) (p : Plane) (y x : ℕ) → coded_width by.shape p ≤ x → with_blocks by m blocks p y x ≡ m p y x
unfolding with_blocks
blocks_leave by [] m p y x past = refl
blocks_leave by (b ∷ blocks) m p y x past = blocks_leave by blocks (put_planned by b m) p y x past ∙ block_leaves by b b.info.prediction m p y x past

pub frame_ends : (by : Rebuilding) (blocks : List PlannedBlock) (p : Plane) (y x : ℕ) → coded_width by.shape p ≤ x → with_blocks by blank blocks p y x ≡ 0
frame_ends by blocks p y x past = blocks_leave by blocks blank p y x past
