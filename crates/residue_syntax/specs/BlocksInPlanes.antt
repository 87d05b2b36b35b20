-- A block in a plane, as its residue is read: its transform blocks, their types and the quantisers (6.4.21 to 6.4.24 and
-- 8.6.2 of the standard: residual, tokens, get_tx_type).
use Rattle.std.specs.Prelude.{ℕ, ◌+◌, ◌*◌, Bool, true, false, not, ◌||◌, List, map, replicate, slice_index_or, if◌then◌else◌}
use Rattle.vp9_types.specs.Shapes.{halved, is_chroma}
use Rattle.vp9_types.specs.declared.block.TxSize.{TxSize}
use Rattle.vp9_types.specs.declared.block.TxSize.TheVariants.{T32x32}
use Rattle.vp9_types.specs.declared.block.TxType.{TxType}
use Rattle.vp9_types.specs.declared.block.TxType.TheVariants.{DctDct}
use Rattle.vp9_types.specs.declared.shape.Plane.{Plane}
use Rattle.vp9_tables.specs.BlockTables.{tx_type_of}
use Rattle.block_geometry.specs.declared.transform_blocks.PlaneBlock.{PlaneBlock}
use Rattle.block_plan.specs.Blocks.{is_inter}
use Rattle.block_plan.specs.InPlanes.{plane_block, quarter_at, tx_in}
use Rattle.block_plan.specs.declared.block.BlockInfo.{BlockInfo}
use Rattle.block_plan.specs.declared.block.Prediction.{Prediction}
use Rattle.block_plan.specs.declared.block.Prediction.TheVariants.{Intra, Inter}
use Rattle.coef_tokens.specs.declared.tables.TokenKind.{TokenKind}
use Rattle.frame_headers.specs.Quantizer.{is_lossless}
use Rattle.frame_headers.specs.HeaderState.{shape_of}
use Rattle.frame_headers.specs.declared.header.Header.{Header}
use Rattle.residue_syntax.specs.Quantisers.{quant_of}
use Rattle.residue_syntax.specs.declared.in_plane.BlockInPlane.{BlockInPlane}

-- luma up to 16x16 goes by its mode, if the frame isn't lossless
abbrev pub goes_by_mode : Bool → Plane → TxSize → Bool
goes_by_mode lossless p T32x32 = false
goes_by_mode lossless p _ = not (is_chroma p || lossless)

-- the types of its transforms, by quarter; inter blocks have the DCT alone
abbrev pub types_by : Bool → Plane → TxSize → Prediction → List TxType
types_by lossless p tx (Intra modes) = if goes_by_mode lossless p tx then map tx_type_of modes.luma else replicate 4 DctDct
types_by lossless p tx (Inter modes) = replicate 4 DctDct

abbrev pub block_in : Header → BlockInfo → Plane → BlockInPlane
block_in header b p = record {
  plane = p;
  block = plane_block (shape_of header) b p;
  types = types_by (is_lossless header.params.quantizer) p (tx_in (shape_of header) b p) b.prediction;
  inter = is_inter b.prediction;
  quant = quant_of header b.segment p;
}

-- the type of the transform block at row y and column x, in 4s
abbrev pub type_at : BlockInPlane → ℕ → ℕ → TxType
type_at b y x = slice_index_or b.types (quarter_at b.block.size y x) DctDct

-- where it stands in the rows of flags, which have one for 4 samples
abbrev pub flag_row : PlaneBlock → ℕ → ℕ
flag_row b y = halved b.ss_y (2 * b.row) + y

abbrev pub flag_column : PlaneBlock → ℕ → ℕ
flag_column b x = halved b.ss_x (2 * b.col) + x

-- what decides how its tokens are read
abbrev pub token_kind : BlockInPlane → ℕ → ℕ → TokenKind
token_kind b y x = record { tx = b.block.tx; kind = type_at b y x; plane = b.plane; inter = b.inter; depth = b.quant.depth }
