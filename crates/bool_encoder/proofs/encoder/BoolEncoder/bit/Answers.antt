use Rattle.std.proofs.Common.{◌≡◌, ◌*◌, ◌^◌, length, arith, ap, sym}
use Rattle.std.proofs.lemmas.List.{with_items_is}
use Rattle.std.specs.Vec.{with_items}
use Rattle.bool_encoder.specs.Part.{NumberPart}
use Rattle.bool_encoder.specs.Code.{be_number}
use Rattle.bool_encoder.proofs.Puts.{Adds, low_whole, range_whole, put_below, put_within, put_is}
use Rattle.bool_encoder.proofs.encoder.BoolEncoder.bit.Goals as goal

items : (c : goal.After-self-4-1) → (with_items c.spill.new.bytes c.added-low.new.bytes).items ≡ c.added-low.new.bytes
items c = with_items_is c.spill.new.bytes c.added-low.new.bytes (omega (arith, c.added-low.auto.bytes, c.deref_mut.ensures.len, c.spill.new.bytes.ok.0))

adds : (c : goal.After-self-4-1) → Adds (be_number c.self.inside.bytes.items) c.self.inside.low c.self.inside.held (length c.self.inside.bytes.items)
    (be_number c.added-low.new.bytes) c.added-low.result c.in_ok-low.held (length c.added-low.new.bytes) c.narrowed-offset.result.0
adds c =
    let same = ap (λ bytes. be_number bytes * 2 ^ c.in_ok-low.held) c.deref_mut.ensures.value in
    let long = ap length c.deref_mut.ensures.value in
    record {
      sum = omega (arith, same, c.added-low.ensures.number, c.in_ok-low.ensures.number);
      length = omega (arith, long, c.added-low.auto.bytes, c.in_ok-low.ensures.length);
      small = c.added-low.ensures.low;
      least = c.in_ok-low.ensures.least;
      most = c.in_ok-low.ensures.most;
    }

pub invariant_of-self-2 : goal.invariant_of-self-2
invariant_of-self-2 c =
    let whole = low_whole c.added-low.result c.in_ok-low.held c.doublings-shift.result c.added-low.ensures.low c.in_ok-low.ensures.most c.doublings-shift.ensures.few in
    let narrow = range_whole c.narrowed-offset.result.1 c.doublings-shift.result c.doublings-shift.ensures.within in
    rw (items c, whole, narrow) (
      put_below c.added-low.result c.in_ok-low.held c.doublings-shift.result c.added-low.ensures.low,
      omega (arith, c.in_ok-low.ensures.least),
      omega (arith, c.in_ok-low.ensures.most),
      c.doublings-shift.ensures.enough,
      c.doublings-shift.ensures.within,
      put_within _ _ _ _ _ _ _ _ _ c.self.inside.range c.narrowed-offset.result.1 c.doublings-shift.result (adds c) c.narrowed-offset.ensures.within c.self.invariant.5,
    )

pub returns : goal.returns
returns c =
    let whole = low_whole c.added-low.result c.in_ok-low.held c.doublings-shift.result c.added-low.ensures.low c.in_ok-low.ensures.most c.doublings-shift.ensures.few in
    let narrow = range_whole c.narrowed-offset.result.1 c.doublings-shift.result c.doublings-shift.ensures.within in
    let part = c.narrowed-offset.ensures.part c.args.self.now (sym (ap (λ (e : NumberPart). e.range) c.self.view_is)) in
    rw (items c, whole, narrow, part, sym c.doublings-shift.ensures.is, sym c.self.view_is)
    (put_is _ _ _ _ _ _ _ _ _ c.narrowed-offset.result.1 c.doublings-shift.result (adds c) c.self.invariant.1)
