use Rattle.std.proofs.lemmas.Result.{err_from_is_err_and}
use Rattle.residue_writer.proofs.ResiduePuts.{none_tells, some_tells, broken_tells}
use Rattle.residue_writer.proofs.transform_blocks.residue_said.Goals as goal

pub returns-then-coded-eq0 : goal.returns-then-coded-eq0
returns-then-coded-eq0 c = λ y x kinds. none_tells c.args.b.now y x c.args.coded.now.count c.args.coded.now.levels.now c.if-coded-eq0.true

pub returns-in_err-residue : goal.returns-in_err-residue
returns-in_err-residue c = λ y x kinds.
    let p = err_from_is_err_and c.from_residual.result c.from_residual.ensures.1 in
    rw (p.1, p.2) (broken_tells c.args.b.now y x c.args.coded.now.count c.args.coded.now.levels.now _ c.if-coded-eq0.false
    (rw (c.copy_from_slice.ensures.after, kinds) at c.in_err-residue.ensures.gives))

pub returns : goal.returns
returns c = λ y x kinds.
    some_tells c.args.b.now y x c.args.coded.now.count c.args.coded.now.levels.now _ c.if-coded-eq0.false
    (rw (c.copy_from_slice.ensures.after, kinds) at c.in_ok-residue.ensures.gives)
