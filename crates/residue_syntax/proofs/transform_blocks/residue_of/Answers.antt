use Rattle.std.proofs.Common.{sym, arith}
use Rattle.std.proofs.lemmas.Bool.{lt-ltb, le-ltb}
use Rattle.std.proofs.lemmas.Result.{err_from_is_err_and}
use Rattle.residue_syntax.proofs.ResidueReads.{levels_are, no_residue, some_residue, broken_residue}
use Rattle.residue_syntax.proofs.transform_blocks.residue_of.Goals as goal

pub returns-then-count-eq0-clause-gives : goal.returns-then-count-eq0-clause-gives
returns-then-count-eq0-clause-gives c = λ y x reads kinds holds.
    let a = c.args in
    (no_residue a.b.now y x a.count reads c.if-count-eq0.true, sym (le-ltb 0 a.count (omega (arith, c.if-count-eq0.true))))

pub returns-in_err-residue-clause-gives : goal.returns-in_err-residue-clause-gives
returns-in_err-residue-clause-gives c = λ y x reads kinds holds.
    let a = c.args in
    let p = err_from_is_err_and c.from_residual.result c.from_residual.ensures.1 in
    rw (p.1, p.2) (broken_residue a.b.now y x a.count reads a.levels.now _ c.if-count-eq0.false
    (levels_are a.b.now.block.tx a.levels.now reads c.requires.long holds) (rw kinds at c.in_err-residue.ensures.gives))

pub returns-clause-gives : goal.returns-clause-gives
returns-clause-gives c = λ y x reads kinds holds.
    let a = c.args in (
      some_residue a.b.now y x a.count reads a.levels.now _ c.if-count-eq0.false (levels_are a.b.now.block.tx a.levels.now reads c.requires.long holds) (rw kinds at c.in_ok-residue.ensures.gives),
      sym (lt-ltb 0 a.count (omega (arith, c.if-count-eq0.false))),
    )
