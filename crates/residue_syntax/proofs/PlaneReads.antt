-- A block in a plane, read transform block by transform block.
use Rattle.std.proofs.Common.{◌≡◌, ◌<◌, ◌≤◌, ◌+◌, ◌*◌, ◌-◌, ◌++◌, ◌∷◌, [], ◌||◌, ℕ, ℤ, ◌∙◌, refl, sym, ap, arith, Bool, true, false, List, length, get_or, take, drop, set, zero, suc}
use borrow.Rule.Slice.PartMut.{put_mid}
use Rattle.std.specs.Prelude.{Ok, Err, unsigned_abs, ◌^◌}
use Rattle.std.specs.List.{All, list_any}
use Rattle.std.proofs.Math.Nat.{mul-le-mul_right, mul-le-mul}
use Rattle.std.proofs.lemmas.List.{length-take-le, length-drop}
use Rattle.std.proofs.lemmas.List.Elements.{All-append}
use Rattle.std.proofs.lemmas.List.Folds.{list_any-append}
use Rattle.vp9_types.specs.declared.rule.Rule.{Rule}
use Rattle.vp9_types.specs.declared.block.TxSize.{TxSize}
use Rattle.vp9_types.specs.declared.block.TxSize.TheVariants.{T4x4, T8x8, T16x16, T32x32}
use Rattle.vp9_tables.specs.Scans.{area}
use Rattle.prob_contexts.specs.ProbLists.{ContextLists}
use Rattle.block_geometry.specs.TransformBlocks.{grid_blocks, tx_step, place_at}
use Rattle.block_geometry.specs.declared.transform_blocks.PlaneBlock.{PlaneBlock}
use Rattle.block_geometry.specs.declared.transform_blocks.TransformGrid.{TransformGrid}
use Rattle.block_geometry.proofs.Rasters.{length_grid}
use Rattle.block_geometry.specs.declared.transform_blocks.TransformPlace.{TransformPlace}
use Rattle.block_plan.proofs.Held.{held_next, one_long}
use Rattle.block_plan.specs.Code.{residue_if, residues_held, IsSmall, AreSmall}
use Rattle.block_plan.specs.Planned.{Residue, Residues}
use Rattle.counting_reader.specs.Code.{Standing, run_counting}
use Rattle.counting_reader.proofs.CountingRuns.{counting_bind, run_settle}
use Rattle.counting_reader.proofs.Throughs.{Reached, goes_on}
use Rattle.residue_syntax.specs.Code.{IsBeside, KeepsLengths}
use Rattle.residue_syntax.specs.Residues.{ReadPlane, read_residue, read_next, is_coded}
use Rattle.residue_syntax.specs.Sides.{Sides}
use Rattle.residue_syntax.specs.declared.in_plane.BlockInPlane.{BlockInPlane}

next_read : (contexts : ContextLists) (b : BlockInPlane) (at place : TransformPlace) (residues : Residues) (s t : Sides) (r : Residue) (m n : Standing) → at ≡ place
    → run_counting (read_residue contexts b place.row place.column s) m ≡ Ok ((r, t), n)
    → run_counting (read_next contexts b at (record { residues = residues; sides = s })) m ≡ Ok (record { residues = residues ++ (at, r) ∷ []; sides = t }, n)
unfolding read_next
next_read contexts b at place residues s t r m n is read =
    counting_bind (read_residue contexts b at.row at.column s) _ m ∙ rw (ap (λ (p : TransformPlace). run_counting (read_residue contexts b p.row p.column s) m) is ∙ read) (run_settle _ n)

pub next_broken : (contexts : ContextLists) (b : BlockInPlane) (at place : TransformPlace) (residues : Residues) (s : Sides) (m : Standing) (rule : Rule) → at ≡ place
    → run_counting (read_residue contexts b place.row place.column s) m ≡ Err rule → run_counting (read_next contexts b at (record { residues = residues; sides = s })) m ≡ Err rule
unfolding read_next
next_broken contexts b at place residues s m rule is read =
    counting_bind (read_residue contexts b at.row at.column s) _ m ∙ rw (ap (λ (p : TransformPlace). run_counting (read_residue contexts b p.row p.column s) m) is ∙ read) refl

pub more_read : (contexts : ContextLists) (b : BlockInPlane) (ats : List TransformPlace) (area : ℕ) (some : List Bool) (values new : List ℤ) (v : Bool) (k : ℕ) (place : TransformPlace) (start : ReadPlane) (begin m n : Standing) (s t : Sides)
    → k < length ats → k < length some → k * area ≤ length values → length new ≡ area → get_or ats k (place_at 0 0) ≡ place
    → Reached (read_next contexts b) ats start begin k (record { residues = residues_held ats area some values k; sides = s }) m
    → run_counting (read_residue contexts b place.row place.column s) m ≡ Ok ((residue_if v new, t), n)
    → Reached (read_next contexts b) ats start begin (k + 1) (record { residues = residues_held ats area (set some k v) (put_mid (k * area) area values new) (k + 1); sides = t }) n
more_read contexts b ats area some values new v k place start begin m n s t low room long size at reached read =
    rw (held_next ats area some values new v k room long size)
    (goes_on (read_next contexts b) ats start _ _ begin m n k (place_at 0 0) low reached (next_read contexts b (get_or ats k (place_at 0 0)) place _ s t (residue_if v new) m n at read))

-- one more is coded or none is
coded_one : (at : TransformPlace) (v : Bool) (new : List ℤ) → list_any is_coded ((at, residue_if v new) ∷ []) ≡ v
coded_one at true new = refl
coded_one at false new = refl

pub more_coded : (ats : List TransformPlace) (area : ℕ) (some : List Bool) (values new : List ℤ) (any v : Bool) (k : ℕ) → k < length some → k * area ≤ length values → length new ≡ area
    → any ≡ list_any is_coded (residues_held ats area some values k)
    → (any || v) ≡ list_any is_coded (residues_held ats area (set some k v) (put_mid (k * area) area values new) (k + 1))
more_coded ats area some values new any v k room long size so =
    rw (held_next ats area some values new v k room long size)
    (sym (list_any-append is_coded (residues_held ats area some values k) ((get_or ats k (place_at 0 0), residue_if v new) ∷ [])
    ∙ (ap (λ (w : Bool). list_any is_coded (residues_held ats area some values k) || w) (coded_one (get_or ats k (place_at 0 0)) v new)
    ∙ ap (λ (w : Bool). w || v) (sym so))))

small_if : (v : Bool) (new : List ℤ) → All (λ x. unsigned_abs x < 2 ^ 24) new → IsSmall (residue_if v new)
small_if true new small = small
small_if false new small = tt

one_small : (r : TransformPlace × Residue) → IsSmall r.1 → AreSmall (r ∷ [])
one_small r small zero d low = small
one_small r small (suc k) d low = absurd (omega arith)

pub more_small : (ats : List TransformPlace) (area : ℕ) (some : List Bool) (values new : List ℤ) (v : Bool) (k : ℕ) → k < length some → k * area ≤ length values → length new ≡ area
    → AreSmall (residues_held ats area some values k) → All (λ x. unsigned_abs x < 2 ^ 24) new
    → AreSmall (residues_held ats area (set some k v) (put_mid (k * area) area values new) (k + 1))
more_small ats area some values new v k room long size so small =
    rw (held_next ats area some values new v k room long size)
    (All-append (λ (r : TransformPlace × Residue). IsSmall r.1) (residues_held ats area some values k) ((get_or ats k (place_at 0 0), residue_if v new) ∷ []) so (one_small (get_or ats k (place_at 0 0), residue_if v new) (small_if v new small)))

-- a row and column of the grid has its flags
pub beside_at : (s t : Sides) (b : PlaneBlock) (grid : TransformGrid) (k : ℕ) (place : TransformPlace) → All (λ at. IsBeside b at.row at.column s) (grid_blocks grid) → KeepsLengths s t
    → k < grid.rows * grid.columns → get_or (grid_blocks grid) k (place_at 0 0) ≡ place → IsBeside b place.row place.column t
beside_at s t b grid k place beside keeps low at =
    let here = rw at at (beside k (place_at 0 0) (rw (length_grid grid) low)) in
    record { row = rw keeps.left here.row; column = rw keeps.above here.column }

---- Room ----

steps_area : (tx : TxSize) → area tx ≡ 16 * (tx_step tx * tx_step tx)
steps_area T4x4 = refl
steps_area T8x8 = refl
steps_area T16x16 = refl
steps_area T32x32 = refl

-- the values of a block fit into its buffer
pub all_fit : (tx : TxSize) (step rows columns : ℕ) → step ≡ tx_step tx → step * rows ≤ 16 → step * columns ≤ 16 → rows * columns * area tx ≤ 4096
all_fit tx step rows columns is high wide =
    let product : step * rows * (step * columns) ≤ 16 * 16 = mul-le-mul high wide in
    let times : 16 * (step * rows * (step * columns)) ≡ rows * columns * (16 * (step * step)) = grind arith in
    rw (steps_area tx, sym is) (omega (arith, product, times))

pub room_for : (k n area long : ℕ) → k < n → n * area ≤ long → k * area + area ≤ long
room_for k n area long low fits =
    let whole : (k + 1) * area ≤ n * area = mul-le-mul_right area next in
    let rest : (k + 1) * area ≡ k * area + area = grind arith in
    omega (arith, whole, rest)
  where
    next : k + 1 ≤ n
    next = omega arith

pub part_long : (values : List ℤ) (a area : ℕ) → a + area ≤ length values → length (take (a + area - a) (drop a values)) ≡ area
part_long values a area room =
    let left : area ≤ length (drop a values) = rw length-drop (omega (arith, room)) in
    rw one_long (length-take-le area (drop a values) left)
