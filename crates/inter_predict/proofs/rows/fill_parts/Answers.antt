use Rattle.std.proofs.Common.{◌<◌, ◌≤◌, ◌+◌, ◌-◌, ◌*◌, ◌∙◌, ℕ, ap, arith, length, map, subst, sym}
use Rattle.std.proofs.Math.Nat.{mul-le-mul_right}
use borrow.Rule.Slice.PartMut.{put_mid}
use Rattle.inter_places.specs.Axes.{straight}
use Rattle.inter_predict.specs.InterSamples.{along}
use Rattle.inter_predict.proofs.Blocks.{in_part, part_fits, rows_join, same_place, within}
use Rattle.inter_predict.proofs.Values.{part_before, part_here}
use Rattle.inter_predict.proofs.rows.fill_parts.Goals as goal

pub fill_part-requires-clause-room : goal.fill_part-requires-clause-room
fill_part-requires-clause-room g c = let a = c.args in
    let all = part_fits a.place.now.columns c.loop-done.done c.until_cut-part.result a.count (length a.lines.now) (within c.loop-done.done c.until_cut-part.result a.count c.loop-done-test.true c.until_cut-part.ensures.low) c.requires.room in
    omega (arith, all)

pub fill_part-requires-clause-held : goal.fill_part-requires-clause-held
fill_part-requires-clause-held g c = λ r low. let a = c.args in let p = a.place.now in
    subst (λ (n : ℕ). g.S.Samples.holds a.view.now p.plane (straight p.down n)) (sym (same_place a.first c.loop-done.done r))
    (c.requires.held (c.loop-done.done + r) (omega (arith, low, c.loop-done-test.true, c.until_cut-part.ensures.low)))

pub loop-done-preserved : goal.loop-done-preserved
loop-done-preserved g c = let a = c.args in let p = a.place.now in
    let l = c.loop-done in
    let at = l.done * p.columns in
    let rest = length l.lines - at in
    let more = within l.done c.until_cut-part.result a.count c.loop-done-test.true c.until_cut-part.ensures.low in
    let all = part_fits p.columns l.done c.until_cut-part.result a.count (length a.lines.now) more c.requires.room in
    let fits : at ≤ length l.lines = omega (arith, all) in
    record {
      within = more;
      rows = rows_join (λ r j. along a.by.most a.by.kind p.across (g.S.Samples.map a.view.now p.plane (straight p.down (a.first + r))) j) p.columns l.done c.until_cut-part.result
          (map g.P.Sample.value l.lines) (map g.P.Sample.value (put_mid at rest l.lines c.fill_part.new.lines)) l.invariant.rows
          (λ r j high low.
          let inside : r * p.columns + j < length c.fill_part.new.lines = omega (arith, in_part p.columns r c.until_cut-part.result j high low, all) in
          part_here g.P.Sample.value at rest l.lines c.fill_part.new.lines (r * p.columns + j) fits inside ∙ c.fill_part.ensures r j high low
          ∙ ap (λ (n : ℕ). along a.by.most a.by.kind p.across (g.S.Samples.map a.view.now p.plane (straight p.down n)) j) (same_place a.first l.done r))
          (λ k low. part_before g.P.Sample.value at rest l.lines c.fill_part.new.lines k fits low);
    }
