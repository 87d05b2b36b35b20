use Rattle.std.proofs.Common.{◌≡◌, suc, ◌+◌, ◌-◌, ◌<◌, sym, subst, arith}
use Rattle.frame_headers.proofs.SpanLemmas.{HasFound, none_found, one_found, one_fewer, not_bad, next_is}
use Rattle.frame_headers.proofs.spans.tile_span.Goals as goal

pub loop-i-init : goal.loop-i-init
loop-i-init c = record { within = c.requires.within; found = none_found c.args.frame.now c.count-count.result c.args.compressed.to }

pub read_tile-requires : goal.read_tile-requires
read_tile-requires c = c.loop-i.invariant.within

pub unreachable-requires : goal.unreachable-requires
unreachable-requires c =
    let low : c.loop-i.i < c.count-count.result = omega (arith, c.loop-i-test.true, c.requires.below, c.count-count.ensures.value) in
    let h = one_fewer c.args.frame.now c.count-count.result c.args.compressed.to c.loop-i.i c.loop-i.at low c.loop-i.invariant.found in
    not_bad c.args.frame.now c.args.header.now c.args.compressed c.count-count.result (c.count-count.result - 1 - c.loop-i.i) c.loop-i.at c.in-Err.field-0
    c.count-count.ensures.value c.requires.tested (sym c.in-Err.ensures.exact) h

pub loop-i-preserved : goal.loop-i-preserved
loop-i-preserved c =
    let low : c.loop-i.i < c.count-count.result = omega (arith, c.loop-i-test.true, c.requires.below, c.count-count.ensures.value) in
    let more = c.count-count.result - 1 - c.loop-i.i in
    let h = one_fewer c.args.frame.now c.count-count.result c.args.compressed.to c.loop-i.i c.loop-i.at low c.loop-i.invariant.found in
    let next = one_found c.args.frame.now c.count-count.result c.args.compressed.to more c.loop-i.at c.in-Ok.span (sym c.in-Ok.ensures.exact) h in
    let same : more ≡ c.count-count.result - (c.loop-i.i + 1) = omega arith in
    record {
      within = c.in-Ok.ensures.within.1;
      found = subst (λ m. HasFound c.args.frame.now c.count-count.result c.args.compressed.to m c.in-Ok.span.to) same next;
    }

pub unreachable-requires-in-Err-read_tile : goal.unreachable-requires-in-Err-read_tile
unreachable-requires-in-Err-read_tile c =
    let low : c.args.n < c.count-count.result = omega (arith, c.requires.below, c.count-count.ensures.value) in
    let all : c.loop-i.i ≡ c.args.n = omega arith in
    let found = subst (λ i. HasFound c.args.frame.now c.count-count.result c.args.compressed.to (c.count-count.result - i) c.loop-i.at) all c.loop-i.invariant.found in
    let h = one_fewer c.args.frame.now c.count-count.result c.args.compressed.to c.args.n c.loop-i.at low found in
    not_bad c.args.frame.now c.args.header.now c.args.compressed c.count-count.result (c.count-count.result - 1 - c.args.n) c.loop-i.at c.in-Err-read_tile.field-0
    c.count-count.ensures.value c.requires.tested (sym c.in-Err-read_tile.ensures.exact) h

pub returns-clause-is : goal.returns-clause-is
returns-clause-is c =
    let low : c.args.n < c.count-count.result = omega (arith, c.requires.below, c.count-count.ensures.value) in
    let all : c.loop-i.i ≡ c.args.n = omega arith in
    let found = subst (λ i. HasFound c.args.frame.now c.count-count.result c.args.compressed.to (c.count-count.result - i) c.loop-i.at) all c.loop-i.invariant.found in
    let h = one_fewer c.args.frame.now c.count-count.result c.args.compressed.to c.args.n c.loop-i.at low found in
    let place : c.args.n + suc (c.count-count.result - 1 - c.args.n) ≡ c.count-count.result = omega arith in
    next_is c.args.frame.now c.args.header.now c.args.compressed c.count-count.result (c.count-count.result - 1 - c.args.n) c.loop-i.at c.args.n c.in-Ok-read_tile.span
    c.count-count.ensures.value (sym c.in-Ok-read_tile.ensures.exact) h place
