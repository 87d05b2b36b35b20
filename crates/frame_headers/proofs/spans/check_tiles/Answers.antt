use Rattle.std.proofs.Common.{◌≡◌, ◌+◌, ◌-◌, ◌∙◌, sym, subst, arith}
use Rattle.std.proofs.lemmas.Result.{err_from_is_err_and}
use Rattle.frame_headers.proofs.SpanLemmas.{HasFound, none_found, one_found, found_bad, one_fewer, spans_are, are_there}
use Rattle.frame_headers.proofs.spans.check_tiles.Goals as goal

pub loop-i-init : goal.loop-i-init
loop-i-init c = record { within = c.requires.within; found = none_found c.args.frame.now c.count-count.result c.args.compressed.to }

pub read_tile-requires : goal.read_tile-requires
read_tile-requires c = c.loop-i.invariant.within

pub returns-in_err-span : goal.returns-in_err-span
returns-in_err-span c =
    let p = err_from_is_err_and c.from_residual.result c.from_residual.ensures.1 in
    let more = c.count-count.result - 1 - c.loop-i.i in
    let h = one_fewer c.args.frame.now c.count-count.result c.args.compressed.to c.loop-i.i c.loop-i.at c.loop-i-test.true c.loop-i.invariant.found in
    let bad = found_bad c.args.frame.now c.count-count.result c.args.compressed.to more c.loop-i.at c.in_err-span.field-0.0 (sym c.in_err-span.ensures.exact) h in
    rw (p.1, p.2) (spans_are c.args.frame.now c.args.header.now c.args.compressed c.count-count.result c.count-count.ensures.value ∙ bad)

pub loop-i-preserved : goal.loop-i-preserved
loop-i-preserved c =
    let more = c.count-count.result - 1 - c.loop-i.i in
    let h = one_fewer c.args.frame.now c.count-count.result c.args.compressed.to c.loop-i.i c.loop-i.at c.loop-i-test.true c.loop-i.invariant.found in
    let next = one_found c.args.frame.now c.count-count.result c.args.compressed.to more c.loop-i.at c.in_ok-span.span (sym c.in_ok-span.ensures.exact) h in
    let same : more ≡ c.count-count.result - (c.loop-i.i + 1) = omega arith in
    record {
      within = c.in_ok-span.ensures.within.1;
      found = subst (λ m. HasFound c.args.frame.now c.count-count.result c.args.compressed.to m c.in_ok-span.span.to) same next;
    }

pub returns : goal.returns
returns c =
    let none : c.count-count.result - c.loop-i.i ≡ 0 = omega arith in
    let h = subst (λ m. HasFound c.args.frame.now c.count-count.result c.args.compressed.to m c.loop-i.at) none c.loop-i.invariant.found in
    are_there c.args.frame.now c.args.header.now c.args.compressed c.count-count.result c.loop-i.at c.count-count.ensures.value h
