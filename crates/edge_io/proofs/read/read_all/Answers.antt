use Rattle.std.proofs.Common.{rules, ◌++◌, take}
use Rattle.std.proofs.lemmas.Result.{err_from_is_err_and}
use Rattle.edge_io.proofs.Fronts.{gave_more, gave_all, gave_kept}
use Rattle.edge_io.proofs.read.read_all.Goals as goal

pub returns-in-Ok-eq0-clause-bytes : goal.returns-in-Ok-eq0-clause-bytes
returns-in-Ok-eq0-clause-bytes g c =
    let i = c.in-Ok-eq0.ensures.bytes in
    let rest = g.S.Source.rest in
    gave_all (rest c.args.source.now) (rest c.pieces.source) (rest c.fill.new.self) c.pieces.all.items c.fill.new.buf c.in-Ok-eq0.field-0 c.pieces.invariant.gave i.1 (search rules) (search rules)

pub pieces-preserved : goal.pieces-preserved
pieces-preserved g c =
    let i = c.in-Ok.ensures.bytes in
    let rest = g.S.Source.rest in
    let gave = gave_more (rest c.args.source.now) (rest c.pieces.source) (rest c.fill.new.self) c.pieces.all.items c.fill.new.buf c.in-Ok.n c.pieces.invariant.gave i.1 in
    record {
      room = search rules;
      gave = rw c.in_ok-extend_from_slice-in-Ok.ensures.items gave;
      faults = search rules;
      again = c.in-Ok.ensures.again c.in-Ok.ensures.faults;
    }

pub returns-in_err-extend_from_slice-in-Ok-clause-bytes :
    goal.returns-in_err-extend_from_slice-in-Ok-clause-bytes
returns-in_err-extend_from_slice-in-Ok-clause-bytes g c =
    let p = err_from_is_err_and c.from_residual-in_err-extend_from_slice-in-Ok.result c.from_residual-in_err-extend_from_slice-in-Ok.ensures.1 in
    let i = c.in-Ok.ensures.bytes in
    let rest = g.S.Source.rest in
    let gave = gave_more (rest c.args.source.now) (rest c.pieces.source) (rest c.fill.new.self) c.pieces.all.items c.fill.new.buf c.in-Ok.n c.pieces.invariant.gave i.1 in
    rw p.1 (c.pieces.all.items ++ take c.in-Ok.n c.fill.new.buf, gave)

pub returns-in-Err-clause-bytes : goal.returns-in-Err-clause-bytes
returns-in-Err-clause-bytes g c =
    let rest = g.S.Source.rest in
    (c.pieces.all.items, gave_kept (rest c.args.source.now) (rest c.pieces.source) (rest c.fill.new.self) c.pieces.all.items c.pieces.invariant.gave c.in-Err.ensures.bytes)
