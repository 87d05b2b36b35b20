use Rattle.std.proofs.Common.{◌≡◌, false, refl, sym, ap, ◌∙◌, map}
use Rattle.std.specs.Prelude.{None}
use Rattle.std.proofs.lemmas.List.Folds.{list_any_none}
use Rattle.std.proofs.lemmas.List.Elements.{All-map}
use Rattle.vp9_tables.specs.Scans.{area}
use Rattle.block_geometry.specs.declared.transform_blocks.PlaneBlock.{PlaneBlock}
use Rattle.block_geometry.specs.declared.transform_blocks.TransformPlace.{TransformPlace}
use Rattle.block_plan.proofs.Held.{held_none}
use Rattle.block_plan.specs.Code.{IsSmall}
use Rattle.block_plan.specs.Planned.{Residue, Residues}
use Rattle.residue_syntax.specs.Residues.{ReadPlane, read_skipped, skipped_sides, is_coded}
use Rattle.residue_syntax.specs.Sides.{Sides}
use Rattle.residue_syntax.proofs.planes.skip_residues.Goals as goal

none_at : TransformPlace → TransformPlace × Residue
none_at at = (at, None)

read : Residues → Sides → ReadPlane
read residues sides = record { residues = residues; sides = sides }

pub returns-clause-read : goal.returns-clause-read
unfolding read_skipped none_at read
returns-clause-read c = λ b places is.
    let held = held_none places (area b.block.tx) c.clear_flags.new.flags c.args.residues.now.values c.clear_flags.ensures in
    let marked = ap (λ (block : PlaneBlock). skipped_sides block c.args.sides.now) is ∙ sym c.mark_skipped.ensures.value in
    λ i. read (sym held i) (marked i)

pub returns-clause-none : goal.returns-clause-none
returns-clause-none c = λ places n.
    rw (held_none places n c.clear_flags.new.flags c.args.residues.now.values c.clear_flags.ensures)
    (list_any_none is_coded (map (λ at. (at, None)) places) (All-map (λ r. is_coded r ≡ false) (λ at. (at, None)) places (λ k d low. refl)))

pub returns-clause-small : goal.returns-clause-small
returns-clause-small c = λ places n.
    rw (held_none places n c.clear_flags.new.flags c.args.residues.now.values c.clear_flags.ensures)
    (All-map (λ (r : TransformPlace × Residue). IsSmall r.1) (λ at. (at, None)) places (λ k d low. tt))
