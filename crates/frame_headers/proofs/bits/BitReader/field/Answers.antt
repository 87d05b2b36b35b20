use Rattle.std.proofs.Common.{◌≡◌, subst, sym, ◌+◌, ◌*◌, arith}
use Rattle.frame_headers.proofs.FieldLemmas.{HasRead, one_read, field_read, field_short}
use Rattle.frame_headers.proofs.bits.BitReader.field.Goals as goal

pub returns-in_default-clause-reads : goal.returns-in_default-clause-reads
returns-in_default-clause-reads c =
    let h = subst (λ rest. HasRead c.args.self.now c.loop.counter c.loop.value rest) c.in_default.ensures.read.0 c.loop.invariant in
    field_short c.args.name c.args.self.now c.args.width c.loop.counter c.loop.value h c.loop-test.true

pub loop-preserved : goal.loop-preserved
loop-preserved c =
    let h = subst (λ rest. HasRead c.args.self.now c.loop.counter c.loop.value rest) c.in-Some.ensures.read.0 c.loop.invariant in
    let next = one_read c.args.self.now c.loop.counter c.loop.value c.in-Some.bit c.bit.new.self h c.in-Some.ensures.read.1 in
    subst (λ b. HasRead c.args.self.now (c.loop.counter + 1) (2 * c.loop.value + b) c.bit.new.self) (sym c.from.ensures) next

pub returns : goal.returns
returns c =
    let all : c.loop.counter ≡ c.args.width = omega arith in
    let h = subst (λ n. HasRead c.args.self.now n c.loop.value c.loop.self) all c.loop.invariant in
    record { reads = field_read c.args.name c.args.self.now c.args.width c.loop.value c.loop.self h; small = h.small }
