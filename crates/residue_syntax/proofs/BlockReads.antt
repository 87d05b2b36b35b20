-- A block, read plane by plane.
use Rattle.std.proofs.Common.{◌≡◌, ◌<◌, ◌≤◌, ◌+◌, ◌*◌, ◌/◌, ◌||◌, [], ℕ, ◌∙◌, refl, arith, Bool, true, false, List}
use Rattle.std.specs.Prelude.{Result, Ok, Err}
use Rattle.std.specs.List.{All, list_any}
use Rattle.vp9_types.specs.Shapes.{halved, mi_rows, mi_cols}
use Rattle.vp9_types.specs.declared.rule.Rule.{Rule}
use Rattle.vp9_types.specs.declared.shape.Plane.{Plane}
use Rattle.vp9_types.specs.declared.shape.Plane.TheVariants.{Y, U, V}
use Rattle.vp9_types.specs.declared.shape.Shape.{Shape}
use Rattle.block_geometry.proofs.Rasters.{all_inside}
use Rattle.block_geometry.specs.FrameShapes.{places_of}
use Rattle.block_geometry.specs.declared.transform_blocks.TransformPlace.{TransformPlace}
use Rattle.block_plan.specs.InPlanes.{plane_block, places_in}
use Rattle.block_plan.specs.Planned.{Residues}
use Rattle.block_plan.specs.declared.block.BlockInfo.{BlockInfo}
use Rattle.counting_reader.specs.Counting.{through}
use Rattle.counting_reader.specs.Code.{Standing, run_counting}
use Rattle.counting_reader.specs.declared.reader.CountingReader.{CountingReader}
use Rattle.counting_reader.proofs.CountingRuns.{counting_bind, run_settle}
use Rattle.frame_headers.specs.declared.header.Header.{Header}
use Rattle.prob_contexts.specs.ProbLists.{ContextLists}
use Rattle.residue_syntax.specs.Code.{IsBeside, FitPlane, GivesPlane}
use Rattle.residue_syntax.specs.Residues.{ReadPlane, read_next, read_skipped, read_in_plane, read_plane, block_residue, listed, is_coded}
use Rattle.residue_syntax.specs.Sides.{Sides}
use Rattle.residue_syntax.specs.declared.in_plane.BlockInPlane.{BlockInPlane}
use Rattle.residue_syntax.specs.declared.sides.TileSides.{TileSides}

---- Flags ----

flag_fits : (ss : Bool) (at all k : ℕ) → halved ss (8 * at) + 4 * k < halved ss (8 * all) → halved ss (2 * at) + k ≤ halved ss (8 * all) / 4
flag_fits true at all k low = omega arith
flag_fits false at all k low = omega arith

starts_in : (ss : Bool) (at all : ℕ) → at < all → halved ss (8 * at) + 4 * 0 < halved ss (8 * all)
starts_in true at all low = omega arith
starts_in false at all low = omega arith

abbrev Inside : Shape → BlockInfo → Plane → ℕ → ℕ → Type 0
Inside shape b p y x =
    let c = plane_block shape b p in
    (halved c.ss_y (8 * c.row) + 4 * y < halved c.ss_y (8 * mi_rows shape)) × (halved c.ss_x (8 * c.col) + 4 * x < halved c.ss_x (8 * mi_cols shape))

beside : (shape : Shape) (b : BlockInfo) (p : Plane) (y x : ℕ) (s : Sides) → FitPlane shape p s → Inside shape b p y x → IsBeside (plane_block shape b p) y x s
beside shape b Y y x s fit inside = record {
  row = rw fit.left (flag_fits false b.row (mi_rows shape) y inside.0);
  column = rw fit.above (flag_fits false b.col (mi_cols shape) x inside.1);
}
beside shape b U y x s fit inside = record {
  row = rw fit.left (flag_fits shape.ss_y b.row (mi_rows shape) y inside.0);
  column = rw fit.above (flag_fits shape.ss_x b.col (mi_cols shape) x inside.1);
}
beside shape b V y x s fit inside = record {
  row = rw fit.left (flag_fits shape.ss_y b.row (mi_rows shape) y inside.0);
  column = rw fit.above (flag_fits shape.ss_x b.col (mi_cols shape) x inside.1);
}

pub all_beside : (shape : Shape) (b : BlockInfo) (p : Plane) (s : Sides) → FitPlane shape p s
    → All (λ (at : TransformPlace). IsBeside (plane_block shape b p) at.row at.column s) (places_in shape b p)
all_beside shape b p s fit = λ k d low. beside shape b p _ _ s fit (all_inside (places_of shape) (plane_block shape b p) k d low)

---- A plane ----

pub plane_skipped : (contexts : ContextLists) (skip : Bool) (b : BlockInPlane) (places : List TransformPlace) (s : Sides) (r : ReadPlane) (m : Standing)
    → skip ≡ true → read_skipped b places s ≡ r → run_counting (read_in_plane contexts skip b places s) m ≡ Ok (r, m)
unfolding read_in_plane
plane_skipped contexts skip b places s r m skips is = rw (skips, is) (run_settle r m)

pub plane_coded : {n : ℕ} (contexts : ContextLists) (skip : Bool) (b : BlockInPlane) (places : List TransformPlace) (s t : Sides) (residues : Residues) (old new : CountingReader n) (result : Result Bool Rule)
    → skip ≡ false → GivesPlane (through (read_next contexts b) places (record { residues = []; sides = s })) old result residues t new
    → GivesPlane (read_in_plane contexts skip b places s) old result residues t new
unfolding read_in_plane
plane_coded contexts skip b places s t residues old new result codes gives = rw codes gives

---- A block ----

pub first_broken : (header : Header) (contexts : ContextLists) (tile_from : ℕ) (b : BlockInfo) (s : TileSides) (m : Standing) (rule : Rule)
    → run_counting (read_plane header contexts b Y s.y) m ≡ Err rule → run_counting (block_residue header contexts tile_from b s) m ≡ Err rule
unfolding block_residue
first_broken header contexts tile_from b s m rule y = counting_bind _ _ _ ∙ rw y refl

pub second_broken : (header : Header) (contexts : ContextLists) (tile_from : ℕ) (b : BlockInfo) (s : TileSides) (m n : Standing) (rule : Rule) (p : ReadPlane)
    → run_counting (read_plane header contexts b Y s.y) m ≡ Ok (p, n) → run_counting (read_plane header contexts b U s.u) n ≡ Err rule
    → run_counting (block_residue header contexts tile_from b s) m ≡ Err rule
unfolding block_residue
second_broken header contexts tile_from b s m n rule p y u = counting_bind _ _ _ ∙ rw y (counting_bind _ _ _ ∙ rw u refl)

pub third_broken : (header : Header) (contexts : ContextLists) (tile_from : ℕ) (b : BlockInfo) (s : TileSides) (m n o : Standing) (rule : Rule) (p q : ReadPlane)
    → run_counting (read_plane header contexts b Y s.y) m ≡ Ok (p, n) → run_counting (read_plane header contexts b U s.u) n ≡ Ok (q, o)
    → run_counting (read_plane header contexts b V s.v) o ≡ Err rule → run_counting (block_residue header contexts tile_from b s) m ≡ Err rule
unfolding block_residue
third_broken header contexts tile_from b s m n o rule p q y u v = counting_bind _ _ _ ∙ rw y (counting_bind _ _ _ ∙ rw u (counting_bind _ _ _ ∙ rw v refl))

pub all_read : (header : Header) (contexts : ContextLists) (tile_from : ℕ) (b info : BlockInfo) (s : TileSides) (m n o end : Standing) (p q r : ReadPlane) (luma first second : Bool)
    → run_counting (read_plane header contexts b Y s.y) m ≡ Ok (p, n) → run_counting (read_plane header contexts b U s.u) n ≡ Ok (q, o)
    → run_counting (read_plane header contexts b V s.v) o ≡ Ok (r, end)
    → luma ≡ list_any is_coded p.residues → first ≡ list_any is_coded q.residues → second ≡ list_any is_coded r.residues
    → info ≡ listed b (luma || first || second)
    → run_counting (block_residue header contexts tile_from b s) m
    ≡ Ok ((record { info = info; tile_from = tile_from; y = p.residues; u = q.residues; v = r.residues }, record { y = p.sides; u = q.sides; v = r.sides }), end)
unfolding block_residue
all_read header contexts tile_from b info s m n o end p q r luma first second y u v a d e is =
    counting_bind _ _ _ ∙ rw y (counting_bind _ _ _ ∙ rw u (counting_bind _ _ _ ∙ rw v (run_settle _ end
    ∙ rw (is, a, d, e) refl)))
