use Rattle.std.proofs.Common.{rules, ◌≤◌, length, take, arith}
use Rattle.edge_io.proofs.Fronts.{gave_more, gave_all, gave_kept}
use Rattle.std.proofs.lemmas.List.{length-take-le}
use Rattle.frame_groups.proofs.Fronts.{all_is_front, front_kept, front_more}
use Rattle.frame_groups.proofs.opening.take_front.Goals as goal

pub returns-in-Ok-eq0-clause-bytes : goal.returns-in-Ok-eq0-clause-bytes
returns-in-Ok-eq0-clause-bytes g c =
    let rest = g.S.Source.rest in
    let h = c.pieces.invariant in
    let i = c.in-Ok-eq0.ensures.bytes in
    let long : c.pieces.at ≤ length c.pieces.front = search rules in
    let ended = gave_all (rest c.args.source.now) (rest c.pieces.source) (rest c.fill.new.self) (take c.pieces.at c.pieces.front) c.fill.new.buf c.in-Ok-eq0.field-0 h.gave i.1 c.in-Ok-eq0.field-0-test (search rules) in
    rw (front_kept c.pieces.front _ c.pieces.at long) (
      h.few,
      all_is_front (rest c.args.source.now) (rest c.fill.new.self) (take c.pieces.at c.pieces.front) ended,
      λ short bytes told. (ended bytes told).1,
    )

pub pieces-preserved : goal.pieces-preserved
pieces-preserved g c =
    let rest = g.S.Source.rest in
    let h = c.pieces.invariant in
    let i = c.in-Ok.ensures.bytes in
    let long : c.pieces.at ≤ length c.pieces.front = search rules in
    record {
      few = search rules;
      gave = rw (front_more c.pieces.front c.fill.new.buf _ c.pieces.at c.in-Ok.more long i.0)
          (gave_more (rest c.args.source.now) (rest c.pieces.source) (rest c.fill.new.self) (take c.pieces.at c.pieces.front) c.fill.new.buf c.in-Ok.more h.gave i.1);
      given = omega (arith, h.given, c.in-Ok.ensures.given);
      most = λ some. c.in-Ok.ensures.most;
      faults = search rules;
      again = c.in-Ok.ensures.again c.in-Ok.ensures.faults;
    }

pub returns-in-Err-clause-bytes : goal.returns-in-Err-clause-bytes
returns-in-Err-clause-bytes g c =
    let rest = g.S.Source.rest in
    let h = c.pieces.invariant in
    let long : c.pieces.at ≤ length c.pieces.front = search rules in (
      take c.pieces.at c.pieces.front,
      gave_kept (rest c.args.source.now) (rest c.pieces.source) (rest c.fill.new.self) (take c.pieces.at c.pieces.front) h.gave c.in-Err.ensures.bytes,
      omega (arith, c.pieces-test.true, length-take-le c.pieces.at c.pieces.front long),
    )
