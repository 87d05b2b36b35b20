-- What the code's calls answer.
use Rattle.std.specs.Prelude.{◌≡◌, Bool, Result, Ok, Err}
use Rattle.std.specs.List.{list_any}
use Rattle.std.specs.Option.{is_some}
use Rattle.vp9_types.specs.declared.rule.Rule.{Rule}
use Rattle.block_plan.specs.Planned.{Residue, PlannedBlock}
use Rattle.block_plan.specs.declared.block.BlockInfo.{BlockInfo}
use Rattle.residue_syntax.specs.Residues.{ReadPlane, is_coded}
use Rattle.residue_syntax.specs.Sides.{Sides}
use Rattle.residue_syntax.specs.declared.sides.TileSides.{TileSides}

-- whether there is a residue, or the rule
abbrev pub TellsAny : Result Residue Rule → Result Bool Rule → Type 0
TellsAny said (Ok some) = (r : Residue) × (said ≡ Ok r) × (is_some r ≡ some)
TellsAny said (Err rule) = said ≡ Err rule

-- whether a block has any in a plane, with the sides behind it, or the rule
abbrev pub TellsPlane : Result ReadPlane Rule → Result Bool Rule → Sides → Type 0
TellsPlane said (Ok any) sides = (p : ReadPlane) × (said ≡ Ok p) × (p.sides ≡ sides) × (any ≡ list_any is_coded p.residues)
TellsPlane said (Err rule) sides = said ≡ Err rule

-- the block as it is listed, with the sides behind it, or the rule
abbrev pub TellsBlock : Result (PlannedBlock × TileSides) Rule → Result BlockInfo Rule → TileSides → Type 0
TellsBlock said (Ok info) sides = (b : PlannedBlock) × (said ≡ Ok (b, sides)) × (b.info ≡ info)
TellsBlock said (Err rule) sides = said ≡ Err rule
