use Rattle.std.proofs.Common.{◌∙◌, ap, arith}
use Rattle.std.proofs.lemmas.Result.{err_from_is_err_and}
use Rattle.residue_transforms.specs.SquareBlocks.{row}
use Rattle.residue_transforms.proofs.GroupTurns.{Loaded, group_ok, group_err}
use Rattle.residue_transforms.proofs.turn.turn_four.Goals as goal

pub returns-in_err-transform_columns : goal.returns-in_err-transform_columns
returns-in_err-transform_columns c =
    let p = err_from_is_err_and c.from_residual.result c.from_residual.ensures.1 in
    let lanes : Loaded 4 0 4 c.args.from.now c.load_four.new.t =
    record { room = omega arith; loaded = λ j low. c.load_four.ensures.loaded j low ∙ ap (λ z. row 4 z c.args.from.now) (omega arith); rest = c.load_four.ensures.rest } in
    rw (p.1, p.2) (group_err c.args.pass.kind c.args.pass.depth c.args.pass.log2 c.args.pass.bits 4 0 4
    c.args.from.now c.load_four.new.t c.in_err-transform_columns.field-0.0 c.requires.kind c.requires.side lanes c.in_err-transform_columns.ensures.gives)

pub returns : goal.returns
returns c =
    let lanes : Loaded 4 0 4 c.args.from.now c.load_four.new.t =
    record { room = omega arith; loaded = λ j low. c.load_four.ensures.loaded j low ∙ ap (λ z. row 4 z c.args.from.now) (omega arith); rest = c.load_four.ensures.rest } in
    group_ok c.args.pass.kind c.args.pass.depth c.args.pass.log2 c.args.pass.bits 4 0 4
    c.args.from.now c.args.to.now c.store_four.new.to c.load_four.new.t c.transform_columns.new.t (omega arith) lanes c.in_ok-transform_columns.ensures.gives c.store_four.ensures
