use Rattle.residue_transforms.proofs.Scales.{OthersDone}
use Rattle.residue_transforms.proofs.scale.scale.Given as goal

abbrev pub invariant-loop-place : goal.invariant-loop-place
invariant-loop-place l = OthersDone l.quant l.tx l.initial.block l.block l.place
