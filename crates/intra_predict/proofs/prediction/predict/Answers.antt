use Rattle.std.proofs.Common.{lit<}
use Rattle.intra_predict.specs.Code.{samples_of}
use Rattle.intra_predict.proofs.Bounds.{held_small}
use Rattle.intra_predict.proofs.prediction.predict.Goals as goal

pub returns-in-T4x4-clause-small : goal.returns-in-T4x4-clause-small
returns-in-T4x4-clause-small c = let a = c.args in
    rw c.in-T4x4.is (held_small a.mode 4 a.depth (samples_of 4 a.edges.now) _ (lit< tt) (rw c.in-T4x4.is at c.requires.small) c.predict_sized.ensures)

pub returns-in-T8x8-clause-small : goal.returns-in-T8x8-clause-small
returns-in-T8x8-clause-small c = let a = c.args in
    rw c.in-T8x8.is (held_small a.mode 8 a.depth (samples_of 8 a.edges.now) _ (lit< tt) (rw c.in-T8x8.is at c.requires.small) c.predict_sized-in-T8x8.ensures)

pub returns-in-T16x16-clause-small : goal.returns-in-T16x16-clause-small
returns-in-T16x16-clause-small c = let a = c.args in
    rw c.in-T16x16.is (held_small a.mode 16 a.depth (samples_of 16 a.edges.now) _ (lit< tt) (rw c.in-T16x16.is at c.requires.small) c.predict_sized-in-T16x16.ensures)

pub returns-in-T32x32-clause-small : goal.returns-in-T32x32-clause-small
returns-in-T32x32-clause-small c = let a = c.args in
    rw c.in-T32x32.is (held_small a.mode 32 a.depth (samples_of 32 a.edges.now) _ (lit< tt) (rw c.in-T32x32.is at c.requires.small) c.predict_sized-in-T32x32.ensures)
