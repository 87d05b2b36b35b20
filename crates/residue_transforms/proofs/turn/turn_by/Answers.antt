use Rattle.std.proofs.Common.{◌≡◌, arith, rules, length}
use Rattle.std.proofs.lemmas.Result.{err_from_is_err_and}
use Rattle.residue_transforms.proofs.GroupTurns.{Loaded, group_ok, group_err}
use Rattle.residue_transforms.proofs.turn.turn_by.Goals as goal

pub returns-in_err-transform_nonzero : goal.returns-in_err-transform_nonzero
returns-in_err-transform_nonzero c =
    let p = err_from_is_err_and c.from_residual.result c.from_residual.ensures.1 in
    let lanes : Loaded (length c.args.t.now) c.args.first 8 c.args.from.now c.load.new.t =
    record { room = c.requires.columns; loaded = c.load.ensures.loaded; rest = λ j past low. absurd (omega arith) } in
    rw (p.1, p.2) (group_err c.args.pass.kind c.args.pass.depth c.args.pass.log2 c.args.pass.bits (length c.args.t.now) c.args.first 8
    c.args.from.now c.load.new.t c.in_err-transform_nonzero.field-0.0 c.requires.kind c.requires.side lanes c.in_err-transform_nonzero.ensures.gives)

pub returns : goal.returns
returns c =
    let size : length c.transform_nonzero.new.t ≡ length c.args.t.now = search rules in
    let lanes : Loaded (length c.args.t.now) c.args.first 8 c.args.from.now c.load.new.t =
    record { room = c.requires.columns; loaded = c.load.ensures.loaded; rest = λ j past low. absurd (omega arith) } in
    group_ok c.args.pass.kind c.args.pass.depth c.args.pass.log2 c.args.pass.bits (length c.args.t.now) c.args.first 8
    c.args.from.now c.args.to.now c.store.new.to c.load.new.t c.transform_nonzero.new.t (omega arith) lanes c.in_ok-transform_nonzero.ensures.gives (rw size at c.store.ensures)
