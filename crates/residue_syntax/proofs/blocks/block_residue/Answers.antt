use Rattle.std.proofs.lemmas.Result.{err_from_is_err_and}
use Rattle.prob_contexts.specs.ProbLists.{lists_of}
use Rattle.residue_syntax.proofs.BlockReads.{first_broken, second_broken, third_broken, all_read}
use Rattle.residue_syntax.proofs.blocks.block_residue.Goals as goal

pub returns-in_err-luma-clause-gives : goal.returns-in_err-luma-clause-gives
returns-in_err-luma-clause-gives g c = λ tile_from.
    let p = err_from_is_err_and c.from_residual.result c.from_residual.ensures.1 in
    rw (p.1, p.2) (first_broken c.args.setting.now.header (lists_of c.args.setting.now.contexts) tile_from c.args.block.now c.args.sides.now _ _ c.in_err-luma.ensures.gives)

pub returns-in_err-first-clause-gives : goal.returns-in_err-first-clause-gives
returns-in_err-first-clause-gives g c = λ tile_from.
    let p = err_from_is_err_and c.from_residual-in_err-first.result c.from_residual-in_err-first.ensures.1 in
    rw (p.1, p.2) (second_broken c.args.setting.now.header (lists_of c.args.setting.now.contexts) tile_from c.args.block.now c.args.sides.now _ _ _ _
    c.in_ok-luma.ensures.gives.0 c.in_err-first.ensures.gives)

pub returns-in_err-second-clause-gives : goal.returns-in_err-second-clause-gives
returns-in_err-second-clause-gives g c = λ tile_from.
    let p = err_from_is_err_and c.from_residual-in_err-second.result c.from_residual-in_err-second.ensures.1 in
    rw (p.1, p.2) (third_broken c.args.setting.now.header (lists_of c.args.setting.now.contexts) tile_from c.args.block.now c.args.sides.now _ _ _ _ _ _
    c.in_ok-luma.ensures.gives.0 c.in_ok-first.ensures.gives.0 c.in_err-second.ensures.gives)

pub returns-clause-gives : goal.returns-clause-gives
returns-clause-gives g c = λ tile_from.
    all_read c.args.setting.now.header (lists_of c.args.setting.now.contexts) tile_from c.args.block.now c.listed.result c.args.sides.now _ _ _ _ _ _ _ _ _ _
    c.in_ok-luma.ensures.gives.0 c.in_ok-first.ensures.gives.0 c.in_ok-second.ensures.gives.0
    c.in_ok-luma.ensures.gives.1 c.in_ok-first.ensures.gives.1 c.in_ok-second.ensures.gives.1 c.listed.ensures
