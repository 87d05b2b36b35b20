use Rattle.std.proofs.Common.{◌≡◌, ◌≤◌, ◌<◌, arith, rules, length, pos, true}
use Rattle.std.specs.Prelude.{slice_index, replicate}
use Rattle.std.proofs.lemmas.List.Elements.{All-set}
use Rattle.vp9_tables.specs.Scans.{area}
use Rattle.coef_tokens.specs.Code.{tables_of}
use Rattle.coef_tokens.proofs.Turns.{zeros_at, no_classes, first_row}
use Rattle.token_writer.specs.TokenFits.{level_in}
use Rattle.token_writer.proofs.Turns.{begins, zero_turn, level_turn, ends_at_last, ends_here, coded_at, kept_level, none_at, asks, back, true_is}
use Rattle.token_writer.proofs.places.put_tokens.Goals as goal
use Rattle.token_writer.proofs.places.put_tokens.Goals.{then-level-eq0+in_ok-put_zero, else-level-eq0+in_ok-cache}

pub loop-place-init : goal.loop-place-init
loop-place-init c = record {
  low = no_classes (replicate 1024 0) (zeros_at 1024);
  within = omega arith;
  rows = λ _. first_row (tables_of c.args.tables.now) c.args.first (replicate 1024 0) c.args.tables.now.bands_start.start;
  zero = λ e. true_is e;
  stands = begins (tables_of c.args.tables.now) c.args.first c.args.encoder.now (replicate 1024 0) c.args.levels.now (zeros_at 1024);
}

pub loop-place-preserved : goal.loop-place-preserved
loop-place-preserved c =
    let t = tables_of c.args.tables.now in
    let old = c.loop-place.invariant in
    let can = c.requires.can in
    let most = can.most in
    let position = slice_index t.scan c.loop-place.place in
    let low : c.loop-place.place < length t.scan = omega (arith, most, c.loop-place-test.true) in
    let coded = coded_at t.depth c.args.levels.now position can.coded in
    elim c.if-level-eq0.branch [
      | then-level-eq0+in_ok-put_zero w ↦
          let none : level_in c.args.levels.now position ≡ pos 0 = none_at t.depth (level_in c.args.levels.now position) coded w.if-level-eq0.true in
          rw (w.cache-is, w.check-is, w.encoder-is) record {
            low = old.low;
            within = c.next_row-row.ensures.within;
            rows = λ more. rw w.cache-is at (c.next_row-row.ensures.value more c.args.first);
            zero = λ _. rw (back c.loop-place.place) (omega arith, none);
            stands = zero_turn t c.args.first c.args.encoder.now c.loop-place.place c.loop-place.row c.loop-place.check c.probs_at-probs.result c.loop-place.cache c.args.levels.now
                c.loop-place.encoder w.put_zero.new.encoder old.stands low (old.rows low) c.probs_at-probs.ensures.are none (w.in_ok-put_zero.ensures t.depth);
          }
      | else-level-eq0+in_ok-cache w ↦
          let within : position < area c.args.tables.now.tx = c.args.tables.now.fit.positions c.loop-place.place 0 low in
          let few : area c.args.tables.now.tx ≤ 1024 = c.args.tables.now.fit.few in
          let whole : length c.loop-place.cache ≡ 1024 = search rules in
          let room : position < length c.loop-place.cache = omega (arith, within, few, whole) in
          let put = rw (kept_level t.depth (level_in c.args.levels.now position) coded) at w.in_ok-cache.ensures.put in
          rw (w.cache-is, w.check-is, w.encoder-is) record {
            low = All-set (λ class. class ≤ 5) c.loop-place.cache position w.in_ok-cache.field-0 w.in_ok-cache.ensures.low old.low;
            within = c.next_row-row.ensures.within;
            rows = λ more. rw w.cache-is at (c.next_row-row.ensures.value more c.args.first);
            zero = λ e. true_is e;
            stands = level_turn t c.args.first c.args.encoder.now c.loop-place.place c.loop-place.row c.loop-place.check c.probs_at-probs.result c.loop-place.cache c.args.levels.now
                w.in_ok-cache.field-0 c.loop-place.encoder w.put_some.new.encoder old.stands low (old.rows low) c.probs_at-probs.ensures.are room put;
          }
    ]

pub returns-then-count-tables : goal.returns-then-count-tables
returns-then-count-tables c =
    let t = tables_of c.args.tables.now in
    let all : c.loop-place.place ≡ c.args.count = omega (arith, c.loop-place-test.false, c.loop-place.auto.place-end) in
    ends_at_last t c.args.first c.args.encoder.now c.args.count c.loop-place.check c.loop-place.cache c.args.levels.now c.loop-place.encoder
    c.requires.can (rw all at c.loop-place.invariant.stands) c.if-count-tables.true

pub returns : goal.returns
returns c =
    let t = tables_of c.args.tables.now in
    let all : c.loop-place.place ≡ c.args.count = omega (arith, c.loop-place-test.false, c.loop-place.auto.place-end) in
    let most = c.requires.can.most in
    let low : c.args.count < length t.scan = omega (arith, most, c.if-count-tables.false) in
    let rows = rw all at c.loop-place.invariant.rows in
    let check : c.loop-place.check ≡ true = asks t c.args.levels.now c.args.count c.loop-place.check c.requires.can (rw all at c.loop-place.invariant.zero) low in
    ends_here t c.args.first c.args.encoder.now c.args.count c.loop-place.row c.probs_at.result c.loop-place.cache c.args.levels.now
    c.loop-place.encoder c.put_end.new.encoder c.requires.can (rw (all, check) at c.loop-place.invariant.stands) low
    (rows low) c.probs_at.ensures.are (c.in_ok-put_end.ensures t.depth)
