-- The residue of a block, read transform block by transform block (residual and tokens in 6.4.21 and 6.4.24 of the standard,
-- 8.6.2 and 8.7.2 for what is made of the tokens).
use Rattle.std.specs.Prelude.{ℕ, ℤ, Bool, true, false, ◌&&◌, ◌||◌, not, List, [], ◌∷◌, ◌++◌, map, Some, None, nat_eq, nat_lt, Result, Ok, if◌then◌else◌}
use Rattle.std.specs.List.{list_any, range_with_len}
use Rattle.vp9_types.specs.Results.{map_ok}
use Rattle.vp9_types.specs.Syntax.{Syntax}
use Rattle.vp9_types.specs.declared.block.TxSize.{TxSize}
use Rattle.vp9_types.specs.declared.rule.Rule.{Rule}
use Rattle.vp9_types.specs.declared.shape.Plane.{Plane}
use Rattle.vp9_types.specs.declared.shape.Plane.TheVariants.{Y, U, V}
use Rattle.vp9_tables.specs.BlockTables.{width_of, height_of}
use Rattle.vp9_tables.specs.Scans.{area}
use Rattle.block_geometry.specs.BlockSizes.{is_below_8x8}
use Rattle.block_geometry.specs.TransformBlocks.{plane_side}
use Rattle.block_plan.specs.InPlanes.{places_in}
use Rattle.block_plan.specs.Planned.{Residue, Residues, PlannedBlock}
use Rattle.block_plan.specs.declared.block.BlockInfo.{BlockInfo}
use Rattle.prob_contexts.specs.ProbLists.{ContextLists}
use Rattle.counting_reader.specs.Counting.{Settled, settle, lifted, through, ◌>>=◌}
use Rattle.coef_tokens.specs.TokenKinds.{block_tables}
use Rattle.coef_tokens.specs.Flags.{sides_set, marked, flags_of}
use Rattle.coef_tokens.specs.Places.{Read, block_tokens, level_at}
use Rattle.block_plan.specs.Blocks.{is_inter}
use Rattle.frame_headers.specs.HeaderState.{shape_of}
use Rattle.frame_headers.specs.declared.header.Header.{Header}
use Rattle.residue_transforms.specs.Residue.{residue}
use Rattle.residue_syntax.specs.BlocksInPlanes.{block_in, flag_row, flag_column, token_kind, type_at}
use Rattle.residue_syntax.specs.Sides.{Sides}
use Rattle.residue_syntax.specs.declared.in_plane.BlockInPlane.{BlockInPlane}
use Rattle.residue_syntax.specs.declared.sides.TileSides.{TileSides}
use Rattle.block_geometry.specs.declared.transform_blocks.PlaneBlock.{PlaneBlock}
use Rattle.block_geometry.specs.declared.transform_blocks.TransformPlace.{TransformPlace}

---- A transform block ----

-- how many of its sides have coefficients
abbrev pub first_context : PlaneBlock → ℕ → ℕ → Sides → ℕ
first_context b y x s = sides_set s.above (flag_column b x) s.left (flag_row b y) b.tx

-- whether there are coefficients is said to both of its sides
abbrev pub with_sides : PlaneBlock → ℕ → ℕ → Bool → Sides → Sides
with_sides b y x some s = record {
  above = marked s.above (flag_column b x) (flags_of b.tx) some;
  left = marked s.left (flag_row b y) (flags_of b.tx) some;
}

-- levels by position
abbrev pub levels_of : TxSize → List Read → List ℤ
levels_of tx reads = map (level_at reads) (range_with_len 0 (area tx))

-- of so many coded places
unfoldable pub residue_of : BlockInPlane → ℕ → ℕ → ℕ → List Read → Result Residue Rule
residue_of b y x count reads =
    if nat_eq count 0 then Ok None else map_ok Some (residue b.quant b.block.tx (type_at b y x) (levels_of b.block.tx reads))

unfoldable pub read_residue : ContextLists → BlockInPlane → ℕ → ℕ → Sides → Syntax ℕ Rule (Settled (Residue × Sides))
read_residue contexts b y x s = do
  p ← block_tokens (block_tables contexts (token_kind b y x)) (first_context b.block y x s)
  residue ← lifted (residue_of b y x p.count p.reads)
  settle (residue, with_sides b.block y x (nat_lt 0 p.count) s)

---- A block in a plane ----

-- the residues so far, and the sides behind them
pub record ReadPlane : Type 0 where
  pub residues : Residues
  pub sides : Sides

unfoldable pub read_next : ContextLists → BlockInPlane → TransformPlace → ReadPlane → Syntax ℕ Rule (Settled ReadPlane)
read_next contexts b at s = do
  r ← read_residue contexts b at.row at.column s.sides
  settle (record { residues = s.residues ++ (at, r.0) ∷ []; sides = r.1 })

-- a skipped block has no coefficients
abbrev pub skipped_sides : PlaneBlock → Sides → Sides
skipped_sides b s = record {
  above = marked s.above (flag_column b 0) (plane_side b.ss_x (width_of b.size)) false;
  left = marked s.left (flag_row b 0) (plane_side b.ss_y (height_of b.size)) false;
}

unfoldable pub read_skipped : BlockInPlane → List TransformPlace → Sides → ReadPlane
read_skipped b places s = record { residues = map (λ at. (at, None)) places; sides = skipped_sides b.block s }

-- its transform blocks lie at these places
unfoldable pub read_in_plane : ContextLists → Bool → BlockInPlane → List TransformPlace → Sides → Syntax ℕ Rule (Settled ReadPlane)
read_in_plane contexts skip b places s =
    if skip then settle (read_skipped b places s) else through (read_next contexts b) places (record { residues = []; sides = s })

---- A block ----

abbrev pub read_plane : Header → ContextLists → BlockInfo → Plane → Sides → Syntax ℕ Rule (Settled ReadPlane)
read_plane header contexts b p s = read_in_plane contexts b.skip (block_in header b p) (places_in (shape_of header) b p) s

abbrev pub is_coded : TransformPlace × Residue → Bool
is_coded (at, None) = false
is_coded (at, Some values) = true

-- whether any of a block's transform blocks has coefficients
abbrev pub any_coded : Residues → Residues → Residues → Bool
any_coded y u v = list_any is_coded y || list_any is_coded u || list_any is_coded v

-- an inter block of 8x8 or more without any counts as skipped from then on
abbrev pub listed : BlockInfo → Bool → BlockInfo
listed b any = record b { skip = b.skip || (is_inter b.prediction && not (is_below_8x8 b.size) && not any) }

abbrev pub planned : ℕ → BlockInfo → ReadPlane → ReadPlane → ReadPlane → PlannedBlock
planned tile_from b y u v = record {
  info = listed b (any_coded y.residues u.residues v.residues);
  tile_from = tile_from;
  y = y.residues;
  u = u.residues;
  v = v.residues;
}

-- a block whose modes are known, in a tile whose columns begin at `tile_from`: plane after plane
unfoldable pub block_residue : Header → ContextLists → ℕ → BlockInfo → TileSides → Syntax ℕ Rule (Settled (PlannedBlock × TileSides))
block_residue header contexts tile_from b s = do
  y ← read_plane header contexts b Y s.y
  u ← read_plane header contexts b U s.u
  v ← read_plane header contexts b V s.v
  settle (planned tile_from b y u v, record { y = y.sides; u = u.sides; v = v.sides })
