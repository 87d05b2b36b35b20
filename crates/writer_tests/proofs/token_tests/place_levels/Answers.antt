use Rattle.std.proofs.Common.{◌<◌, ◌^◌, ◌∙◌, arith, unsigned_abs, get_or}
use Rattle.std.proofs.lemmas.List.{length-set}
use Rattle.std.proofs.lemmas.List.Elements.{All-set}
use Rattle.vp9_tables.specs.Scans.{scan_of}
use Rattle.coef_tokens.proofs.Turns.{kept}
use Rattle.token_writer.proofs.Turns.{others_set}
use Rattle.writer_tests.proofs.token_tests.place_levels.Goals as goal

pub loop-place-preserved : goal.loop-place-preserved
loop-place-preserved c =
    let old = c.loop-place.invariant in
    let small = c.coded_level.ensures in
    let low : unsigned_abs c.coded_level.result < 2 ^ 19 = omega (arith, small) in
    let scan = scan_of c.args.at.tx c.args.at.kind in
    rw (kept c.coded_level.result low, c.scan-scan.ensures.table) record {
      long = length-set _ _ _ ∙ old.long;
      small = All-set (λ level. unsigned_abs level < 16451) c.loop-place.levels (get_or scan c.loop-place.place 0) c.coded_level.result small old.small;
      others = others_set scan c.loop-place.place c.coded_level.result c.loop-place.levels old.others;
    }
