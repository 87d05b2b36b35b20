use Rattle.std.proofs.Common.{◌≡◌, ◌<◌, length, rules}
use Rattle.edge_io.proofs.Buffers.{none_held, refilled, refill_ends, whole_back}
use Rattle.edge_io.proofs.buffered.Buffered.refill.Goals as goal

pub returns-clause-kept : goal.returns-clause-kept
returns-clause-kept g c =
    let same : length c.fill.new.buf ≡ length c.args.self.now.piece.items = search rules in
    let is = whole_back c.args.self.now.piece.items c.fill.new.buf c.args.self.now.piece.len (search rules) same in
    let none = none_held c.args.self.now.piece.items c.args.self.now.from c.args.self.now.to (search rules) in
    refilled _ _ _ _ c.fill.new.buf c.in_ok-self.field-0 none is c.in_ok-self.ensures.bytes

pub returns-clause-some : goal.returns-clause-some
returns-clause-some g c =
    let same : length c.fill.new.buf ≡ length c.args.self.now.piece.items = search rules in
    let some : 0 < length c.fill.new.buf = search rules in
    let is = whole_back c.args.self.now.piece.items c.fill.new.buf c.args.self.now.piece.len (search rules) same in
    let none = none_held c.args.self.now.piece.items c.args.self.now.from c.args.self.now.to (search rules) in
    λ left. refill_ends _ _ _ c.fill.new.buf _ c.in_ok-self.field-0 none some is c.in_ok-self.ensures.bytes left
