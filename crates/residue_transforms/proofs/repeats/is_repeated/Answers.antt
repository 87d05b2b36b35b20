use Rattle.std.proofs.Common.{◌+◌, ◌-◌, ◌∙◌, arith, inl, inr, sym}
use Rattle.std.proofs.lemmas.Bool.{cases_eq}
use Rattle.std.specs.Cmp.Rules.{signed_items}
use Rattle.residue_transforms.proofs.RepeatedGroups.{held}
use Rattle.residue_transforms.proofs.Pieces.{rows_before}
use Rattle.residue_transforms.proofs.repeats.is_repeated.Goals as goal

pub row_at-requires : goal.row_at-requires
row_at-requires c = rw c.requires.size (rows_before (c.args.first + c.loop-j.j) c.args.n c.args.n (omega (arith, c.requires.rows, c.loop-j-test.true)))

pub row_at-requires-in-loop-j : goal.row_at-requires-in-loop-j
row_at-requires-in-loop-j c =
    rw c.requires.size (rows_before (c.args.first - c.args.width + c.loop-j.j) c.args.n c.args.n (omega (arith, c.requires.rows, c.requires.before, c.loop-j-test.true)))

pub loop-j-preserved : goal.loop-j-preserved
loop-j-preserved c = λ i below.
    let same = (signed_items c.row_at.result.now c.row_at-in-loop-j.result.now).0 (held _ (sym c.ne.ensures ∙ c.if-ne.false)) in
    elim (cases_eq i c.loop-j.j) [
      | inl last ↦ rw last (sym c.row_at.ensures ∙ (same ∙ c.row_at-in-loop-j.ensures))
      | inr other ↦ c.loop-j.invariant i (omega arith)
    ]
