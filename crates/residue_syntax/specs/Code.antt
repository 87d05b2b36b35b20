-- What the code keeps while it reads a block, and what its calls answer.
use Rattle.std.specs.Prelude.{◌≡◌, ◌<◌, ◌≤◌, ◌/◌, ℕ, ℤ, length, Bool, List, Result, Ok, Err, nat_lt}
use Rattle.std.specs.List.{list_any}
use Rattle.vp9_types.specs.Shapes.{coded_width, coded_height, mi_rows, mi_cols}
use Rattle.vp9_types.specs.Syntax.{Syntax}
use Rattle.vp9_types.specs.declared.rule.Rule.{Rule}
use Rattle.vp9_types.specs.declared.shape.Plane.{Plane}
use Rattle.vp9_types.specs.declared.shape.Plane.TheVariants.{Y, U, V}
use Rattle.vp9_types.specs.declared.shape.Shape.{Shape}
use Rattle.vp9_tables.specs.BlockTables.{greatest_of}
use Rattle.vp9_tables.specs.Numbers.{tx_number}
use Rattle.block_plan.specs.Code.{residue_if}
use Rattle.block_plan.specs.Planned.{Residue, Residues, PlannedBlock}
use Rattle.block_plan.specs.declared.block.BlockInfo.{BlockInfo}
use Rattle.block_geometry.specs.declared.transform_blocks.PlaneBlock.{PlaneBlock}
use Rattle.counting_reader.specs.Code.{Reads, standing_of, run_counting}
use Rattle.counting_reader.specs.Counting.{Settled}
use Rattle.counting_reader.specs.declared.reader.CountingReader.{CountingReader}
use Rattle.residue_syntax.specs.BlocksInPlanes.{flag_row, flag_column}
use Rattle.residue_syntax.specs.Residues.{ReadPlane, is_coded}
use Rattle.residue_syntax.specs.Sides.{Sides}
use Rattle.residue_syntax.specs.declared.sides.TileSides.{TileSides}

-- a row and column of a block's transform blocks, in 4s, has its flags
pub record IsBeside (b : PlaneBlock) (y x : ℕ) (s : Sides) : Type 0 where
  pub row : flag_row b y ≤ length s.left
  pub column : flag_column b x ≤ length s.above

-- as many flags as before
pub record KeepsLengths (old new : Sides) : Type 0 where
  pub above : length new.above ≡ length old.above
  pub left : length new.left ≡ length old.left

-- a flag for each 4 samples of a frame's plane
pub record FitPlane (shape : Shape) (p : Plane) (s : Sides) : Type 0 where
  pub above : length s.above ≡ coded_width shape p / 4
  pub left : length s.left ≡ coded_height shape p / 4

pub record FitPlanes (shape : Shape) (s : TileSides) : Type 0 where
  pub y : FitPlane shape Y s.y
  pub u : FitPlane shape U s.u
  pub v : FitPlane shape V s.v

-- a block that starts inside its frame, with a transform that fits
pub record IsInFrame (shape : Shape) (b : BlockInfo) : Type 0 where
  pub row : b.row < mi_rows shape
  pub column : b.col < mi_cols shape
  pub segment : b.segment ≤ 7
  pub fits : tx_number b.tx ≤ greatest_of b.size

-- what there is of the residue of so many coded places, or the rule
abbrev pub GivesAny : ℕ → Result Residue Rule → Result Bool Rule → List ℤ → Type 0
GivesAny count computed (Ok some) values = (computed ≡ Ok (residue_if some values)) × (some ≡ nat_lt 0 count)
GivesAny count computed (Err rule) values = computed ≡ Err rule

-- the residue that was read, with the sides behind it, or the rule
abbrev pub GivesResidue : {n : ℕ} → Syntax ℕ Rule (Settled (Residue × Sides)) → CountingReader n → Result Bool Rule → List ℤ → Sides → CountingReader n → Type 0
GivesResidue s old (Ok some) values sides new = Reads s old (residue_if some values, sides) new
GivesResidue s old (Err rule) values sides new = run_counting s (standing_of old) ≡ Err rule

-- the residues of a block in a plane, with the sides behind them and whether there are any, or the rule
abbrev pub GivesPlane : {n : ℕ} → Syntax ℕ Rule (Settled ReadPlane) → CountingReader n → Result Bool Rule → Residues → Sides → CountingReader n → Type 0
GivesPlane s old (Ok any) residues sides new = Reads s old (record { residues = residues; sides = sides }) new × (any ≡ list_any is_coded residues)
GivesPlane s old (Err rule) residues sides new = run_counting s (standing_of old) ≡ Err rule

-- the planned block, with the sides behind it, or the rule
abbrev pub GivesBlock : {n : ℕ} → Syntax ℕ Rule (Settled (PlannedBlock × TileSides)) → CountingReader n → Result BlockInfo Rule → (BlockInfo → PlannedBlock) → TileSides → CountingReader n → Type 0
GivesBlock s old (Ok info) with_info sides new = Reads s old (with_info info, sides) new
GivesBlock s old (Err rule) with_info sides new = run_counting s (standing_of old) ≡ Err rule
