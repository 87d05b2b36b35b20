use Rattle.std.proofs.Common.{arith}
use Rattle.bench.proofs.Rows.{row_inside}
use Rattle.bench.proofs.inter.blocks.predict_one.Goals as goal

pub predict-requires-clause-held : goal.predict-requires-clause-held
predict-requires-clause-held c = λ r first last.
    rw c.requires.whole (record {
      above = omega arith;
      below = row_inside c.args.place.now.down c.args.place.now.rows r 512 c.requires.high (omega arith) last;
      left = omega arith;
      right = omega arith;
    })
