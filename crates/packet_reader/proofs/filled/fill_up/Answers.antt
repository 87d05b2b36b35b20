use Rattle.std.proofs.Common.{rules, ◌≡◌, ◌<◌, length, ◌+◌, [], ◌++◌, take, ◌∙◌, ap, arith, append_assoc, length-append}
use Rattle.edge_io.proofs.Fronts.{gave_more, gave_all, gave_kept}
use Rattle.packet_reader.proofs.Fills.{kept_front, put_behind}
use Rattle.packet_reader.proofs.filled.fill_up.Goals as goal

pub returns-in-Ok-eq0-clause-bytes : goal.returns-in-Ok-eq0-clause-bytes
returns-in-Ok-eq0-clause-bytes g c =
    let rest = g.S.Source.rest in
    let i = c.in-Ok-eq0.ensures.bytes in
    let gave = c.pieces.invariant.gave in
    let same = kept_front c.pieces.all.items c.deref_mut.result.now _ c.len-at.result c.min.result (search rules) (c.deref_mut.ensures.value ∙ c.in_ok-resize.ensures.items) in
    let put : c.truncate.new.self.items ≡ c.pieces.all.items ++ [] =
    put_behind c.pieces.all.items c.deref_mut.result.now c.fill.new.buf _ _ c.truncate.new.self.items c.len-at.result 0 c.len-at.result c.resize.new.self.len (search rules) same (omega arith) (omega arith) (search rules) c.truncate.ensures.items in
    let ended = gave_all (rest c.args.source.now) (rest c.pieces.source) (rest c.fill.new.self) gave.0 c.fill.new.buf c.in-Ok-eq0.field-0 gave.2 i.1 (search rules) (search rules) in
    (gave.0, put ∙ search rules, λ bytes told. let e = ended bytes told in ([], search rules, e.1), search rules, λ short bytes told. (ended bytes told).1)

pub pieces-preserved : goal.pieces-preserved
pieces-preserved g c =
    let rest = g.S.Source.rest in
    let i = c.in-Ok.ensures.bytes in
    let gave = c.pieces.invariant.gave in
    let same = kept_front c.pieces.all.items c.deref_mut.result.now _ c.len-at.result c.min.result (search rules) (c.deref_mut.ensures.value ∙ c.in_ok-resize.ensures.items) in
    let put : c.truncate-in-Ok.new.self.items ≡ c.pieces.all.items ++ take c.in-Ok.more c.fill.new.buf =
    put_behind c.pieces.all.items c.deref_mut.result.now c.fill.new.buf _ _ c.truncate-in-Ok.new.self.items c.len-at.result c.in-Ok.more (c.len-at.result + c.in-Ok.more) c.resize.new.self.len (search rules) same i.0 (omega arith) (search rules) c.truncate-in-Ok.ensures.items in
    record {
      few = search rules;
      gave = (
        gave.0 ++ take c.in-Ok.more c.fill.new.buf,
        put ∙ ap (λ xs. xs ++ take c.in-Ok.more c.fill.new.buf) gave.1 ∙ append_assoc c.args.all.now.items gave.0 (take c.in-Ok.more c.fill.new.buf),
        gave_more (rest c.args.source.now) (rest c.pieces.source) (rest c.fill.new.self) gave.0 c.fill.new.buf c.in-Ok.more gave.2 i.1,
      );
      faults = search rules;
      again = c.in-Ok.ensures.again c.in-Ok.ensures.faults;
    }

pub returns-in-Err-clause-bytes : goal.returns-in-Err-clause-bytes
returns-in-Err-clause-bytes g c =
    let rest = g.S.Source.rest in
    let gave = c.pieces.invariant.gave in
    let short : length c.pieces.all.items < c.args.n = search rules in (
      gave.0,
      gave_kept (rest c.args.source.now) (rest c.pieces.source) (rest c.fill.new.self) gave.0 gave.2 c.in-Err.ensures.bytes,
      omega (arith, short, ap length gave.1, length-append c.args.all.now.items gave.0),
    )
