use Rattle.std.proofs.Common.{refl, arith}
use Rattle.block_geometry.specs.TransformBlocks.{starts}
use Rattle.coef_tokens.specs.TokenKinds.{block_tables}
use Rattle.writer_tests.proofs.residue_tests.writes.Goals as goal

pub put_block-requires-clause-can : goal.put_block-requires-clause-can
unfolding block_tables starts
put_block-requires-clause-can g c =
    rw c.new-setting.ensures.header (record {
      y = λ codes k low. c.lone.ensures _ refl refl k low;
      u = λ codes k low. c.lone-2.ensures _ refl refl k (omega (arith, low));
      v = λ codes k low. c.lone-3.ensures _ refl refl k (omega (arith, low));
    })
