use Rattle.std.proofs.Common.{◌*◌, ◌+◌, ◌-◌, take, drop, refl}
use Rattle.inter_predict.proofs.Values.{copied_is, part_small}
use Rattle.inter_predict.proofs.piece_lines.row_in.Goals as goal

pub returns-clause-samples : goal.returns-clause-samples
returns-clause-samples g c = λ k. let a = c.args in
    part_small g.P.Sample.value a.samples.now (a.r * a.stride) a.size a.most k c.requires.small

pub returns-clause-row : goal.returns-clause-row
returns-clause-row g c = λ k low. let a = c.args in
    copied_is g.P.Sample.value a.samples.now (take (a.r * a.stride + a.size - a.r * a.stride) (drop (a.r * a.stride) a.samples.now)) (a.r * a.stride) a.size k refl low
