use Rattle.std.proofs.Common.{◌≡◌, ◌+◌, ◌-◌, ◌*◌, ◌/◌, ◌∙◌, length, arith, sym}
use Rattle.bool_encoder.proofs.Numbers.{finishes}
use Rattle.bool_encoder.proofs.encoder.BoolEncoder.finish.Goals as goal

pub returns : goal.returns
returns c =
    let h = c.self.inside.held in
    let items : c.in_ok-bytes.bytes.items ≡ c.self.inside.bytes.items = c.in_ok-bytes.ensures.items ∙ c.deref.ensures.value in
    let size : 8 + (8 * length c.self.inside.bytes.items + (h - 8)) ≡ 8 * length c.self.inside.bytes.items + h = omega (arith, c.self.invariant.1) in
    let bits = rw items at c.in_ok-close.ensures in
    finishes c.args.self.now _ (8 * ((h + 7) / 8) - h) (omega arith) (rw (sym c.self.view_is, size) bits)
