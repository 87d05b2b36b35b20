use Rattle.std.proofs.Common.{◌≡◌, ◌≤◌, ◌<◌, ◌^◌, refl, arith, length, get_or, unsigned_abs}
use Rattle.std.proofs.lemmas.List.Elements.{All-set}
use Rattle.counting_reader.specs.Code.{standing_with}
use Rattle.coef_tokens.specs.Code.{tables_of}
use Rattle.coef_tokens.proofs.Turns.{no_turn, begins, ends_here, ends_at_last, zero_turn, level_turn, no_classes, no_levels, kept, first_row, steps_from}
use Rattle.coef_tokens.proofs.places.read_places.Goals as goal
use Rattle.coef_tokens.proofs.places.read_places.Goals.{in-Zero, in-Level}

pub loop-place-init : goal.loop-place-init
loop-place-init g c = record {
  low = no_classes c.args.cache.now c.requires.empty;
  small = no_levels c.args.levels.now c.requires.clear;
  within = omega arith;
  rows = λ _. first_row (tables_of c.args.tables.now) c.args.first c.args.cache.now c.args.tables.now.bands_start.start;
  fresh = λ _. refl;
  stands = begins (tables_of c.args.tables.now) c.args.first (standing_with c.args.reader.now c.args.decoder.now) c.args.cache.now c.args.levels.now c.requires.empty c.requires.clear;
}

pub returns-in-End-clause-read : goal.returns-in-End-clause-read
returns-in-End-clause-read g c =
    let e = ends_here (tables_of c.args.tables.now) c.args.first _ c.loop-place.place c.loop-place.row c.loop-place.check c.loop-place.cache c.loop-place.levels
    (standing_with c.loop-place.reader c.loop-place.decoder) (standing_with c.read_step.new.reader c.read_step.new.decoder)
    c.loop-place.invariant.stands c.loop-place-test.true (c.loop-place.invariant.rows c.loop-place-test.true) (steps_from (tables_of c.args.tables.now) c.loop-place.row c.loop-place.check _ _ _ c.in-End.ensures.read) in
    (e.0, e.1, e.2, e.3)

pub next_row-row-requires-clause-low : goal.next_row-row-requires-clause-low
next_row-row-requires-clause-low g c = elim c.match-read_step.branch [
  | in-Zero w ↦ rw w.cache-is c.loop-place.invariant.low
  | in-Level w ↦ rw w.cache-is
      (All-set (λ class. class ≤ 5) c.loop-place.cache (get_or c.args.tables.now.scan.now c.loop-place.place 0) w.in-Level.class w.in-Level.ensures.small.1 c.loop-place.invariant.low)
]

pub loop-place-preserved : goal.loop-place-preserved
loop-place-preserved g c =
    let t = tables_of c.args.tables.now in
    let old = c.loop-place.invariant in
    let m = standing_with c.loop-place.reader c.loop-place.decoder in
    let next = standing_with c.read_step.new.reader c.read_step.new.decoder in
    elim c.match-read_step.branch [
      | in-Zero w ↦ rw (w.cache-is, w.levels-is, w.check-is) record {
        low = old.low;
        small = old.small;
        within = c.next_row-row.ensures.within;
        rows = λ low. rw w.cache-is at (c.next_row-row.ensures.value low c.args.first);
        fresh = λ e. absurd (no_turn c.loop-place.place e);
        stands = zero_turn t c.args.first _ c.loop-place.place c.loop-place.row c.loop-place.check c.loop-place.cache c.loop-place.levels
            m next old.stands c.loop-place-test.true (c.loop-place.invariant.rows c.loop-place-test.true) (steps_from t c.loop-place.row c.loop-place.check m next _ w.in-Zero.ensures.read);
      }
      | in-Level w ↦
          let position : get_or t.scan c.loop-place.place 0 < length c.args.cache.now =
          rw c.requires.places (c.args.tables.now.fit.positions c.loop-place.place 0 c.loop-place-test.true) in
          let inside : get_or t.scan c.loop-place.place 0 < length c.loop-place.cache = omega arith in
          let within : get_or t.scan c.loop-place.place 0 < length c.loop-place.levels = omega arith in
          rw (w.cache-is, w.levels-is, w.check-is, kept w.in-Level.level w.in-Level.ensures.small.0) record {
            low = All-set (λ class. class ≤ 5) c.loop-place.cache (get_or t.scan c.loop-place.place 0) w.in-Level.class w.in-Level.ensures.small.1 old.low;
            small = All-set (λ level. unsigned_abs level < 2 ^ 19) c.loop-place.levels (get_or t.scan c.loop-place.place 0) w.in-Level.level w.in-Level.ensures.small.0 old.small;
            within = c.next_row-row.ensures.within;
            rows = λ low. rw w.cache-is at (c.next_row-row.ensures.value low c.args.first);
            fresh = λ e. absurd (no_turn c.loop-place.place e);
            stands = level_turn t c.args.first _ c.loop-place.place c.loop-place.row c.loop-place.check c.loop-place.cache c.loop-place.levels
                m next w.in-Level.level w.in-Level.class old.stands c.loop-place-test.true (c.loop-place.invariant.rows c.loop-place-test.true) (steps_from t c.loop-place.row c.loop-place.check m next _ w.in-Level.ensures.read) inside within;
          }
    ]

pub returns-clause-read : goal.returns-clause-read
returns-clause-read g c =
    let all : c.loop-place.place ≡ length c.args.tables.now.scan.now = omega arith in
    ends_at_last (tables_of c.args.tables.now) c.args.first _ c.loop-place.place c.loop-place.check c.loop-place.cache c.loop-place.levels _ c.loop-place.invariant.stands all
