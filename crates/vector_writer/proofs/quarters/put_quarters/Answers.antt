use Rattle.std.proofs.Common.{ℕ, ap, arith}
use Rattle.vector_writer.specs.VectorFits.{quarter_saying}
use Rattle.vector_writer.proofs.Sayings.{say, each_own}
use Rattle.vector_writer.proofs.quarters.put_quarters.Goals as goal

pub put_two_columns-requires-clause-left : goal.put_two_columns-requires-clause-left
put_two_columns-requires-clause-left g c =
    say _ _ _ c.args.symbols.now _ 0 0 c.requires.can c.best_mv-best.ensures.is (omega arith) (ap (λ size. quarter_saying size 0) c.in-B4x8.is)

pub put_two_columns-requires-clause-right : goal.put_two_columns-requires-clause-right
put_two_columns-requires-clause-right g c =
    say _ _ _ c.args.symbols.now _ 1 1 c.requires.can c.best_mv-best.ensures.is (omega arith) (ap (λ size. quarter_saying size 1) c.in-B4x8.is)

pub put_two_rows-requires-clause-upper : goal.put_two_rows-requires-clause-upper
put_two_rows-requires-clause-upper g c =
    say _ _ _ c.args.symbols.now _ 0 0 c.requires.can c.best_mv-best.ensures.is (omega arith) (ap (λ size. quarter_saying size 0) c.in-B8x4.is)

pub put_two_rows-requires-clause-lower : goal.put_two_rows-requires-clause-lower
put_two_rows-requires-clause-lower g c =
    say _ _ _ c.args.symbols.now _ 2 2 c.requires.can c.best_mv-best.ensures.is (omega arith) (ap (λ size. quarter_saying size 2) c.in-B8x4.is)

pub put_four-requires : goal.put_four-requires
put_four-requires g c =
    let best = c.best_mv-best.ensures in
    let own = λ (k : ℕ). each_own c.args.src.now.search.at.size k c.requires.below c.in_default.not-B4x8 c.in_default.not-B8x4 in
    record {
      context = c.requires.context;
      may = c.requires.may;
      small = best.small;
      first = say _ _ _ c.args.symbols.now _ 0 0 c.requires.can best.is (omega arith) (own 0);
      second = say _ _ _ c.args.symbols.now _ 1 1 c.requires.can best.is (omega arith) (own 1);
      third = say _ _ _ c.args.symbols.now _ 2 2 c.requires.can best.is (omega arith) (own 2);
      fourth = say _ _ _ c.args.symbols.now _ 3 3 c.requires.can best.is (omega arith) (own 3);
    }
