use Rattle.std.proofs.Common.{rules}
use Rattle.std.proofs.lemmas.Result.{err_from_is_err_and}
use Rattle.edge_io.proofs.Fronts.{takes_more, refused_front}
use Rattle.edge_io.proofs.write.put_all.Goals as goal

pub loop-at-preserved : goal.loop-at-preserved
loop-at-preserved g c =
    let taken = takes_more (g.K.Sink.taken c.args.sink.now) (g.K.Sink.taken c.loop-at.sink) (g.K.Sink.taken c.put.new.self) c.args.piece.now c.loop-at.at c.in_ok-at.field-0 c.loop-at.invariant.taken c.in_ok-at.ensures.bytes.2 in
    record {
      within = search rules;
      taken = taken;
      faults = search rules;
      grows = search rules;
      again = c.in_ok-at.ensures.again c.in_ok-at.ensures.faults;
    }

pub returns-in_err-at-clause-bytes : goal.returns-in_err-at-clause-bytes
returns-in_err-at-clause-bytes g c =
    let p = err_from_is_err_and c.from_residual.result c.from_residual.ensures.1 in
    let front = refused_front (g.K.Sink.taken c.args.sink.now) (g.K.Sink.taken c.loop-at.sink) (g.K.Sink.taken c.put.new.self) c.args.piece.now c.loop-at.at c.in_err-at.field-0.0 c.loop-at.invariant.within c.loop-at.invariant.taken c.in_err-at.ensures.bytes in
    rw p.1 front
