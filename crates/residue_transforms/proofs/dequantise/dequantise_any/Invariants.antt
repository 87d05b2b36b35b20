use Rattle.residue_transforms.proofs.Coefs.{SoFar}
use Rattle.residue_transforms.proofs.dequantise.dequantise_any.Given as goal

abbrev pub invariant-loop-place : goal.invariant-loop-place
invariant-loop-place l = SoFar l.quant l.tx l.initial.block l.block l.place
