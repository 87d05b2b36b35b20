use Rattle.std.proofs.Common.{◌≡◌, ◌≤◌, ◌*◌, ℕ, arith, ap}
use Rattle.frame_output.proofs.KeptRows.{kept_long, kept_room, kept_small, kept_written}
use Rattle.frame_output.proofs.RowTexts.{no_rows}
use Rattle.frame_output.proofs.rows.write_rows.Goals as goal

with_room : (count size is width length room : ℕ) → size ≡ is → length ≡ room → count * (is * width) ≤ room → count * (size * width) ≤ length
with_room count size is width length room same long fits = rw (same, long) fits

pub loop-i-init : goal.loop-i-init
loop-i-init g c = no_rows c.args.form.depth c.args.form.width (c.sample_bytes.result * c.args.form.width) (g.S.Samples.map c.args.samples.now c.args.plane) c.args.from c.args.buffer.now

pub slice_bounds-write_row-end : goal.slice_bounds-write_row-end
slice_bounds-write_row-end g c = let a = c.args in
    kept_long g.S.Kept.Sample.value a.form.width (g.S.Samples.width a.samples.now a.plane) (g.S.Samples.map a.samples.now a.plane) _ c.row-row.result.now c.requires.wide c.row-row.ensures

pub write_row-requires-clause-long : goal.write_row-requires-clause-long
write_row-requires-clause-long g c = let a = c.args in
    kept_room g.S.Kept.Sample.value a.form.depth a.form.width (g.S.Samples.width a.samples.now a.plane) (c.sample_bytes.result * a.form.width) (g.S.Samples.map a.samples.now a.plane) _ c.loop-i.i a.count c.loop-i.buffer c.row-row.result.now
    c.loop-i-test.true (with_room a.count _ _ a.form.width _ _ c.sample_bytes.ensures.value c.loop-i.auto.buffer c.requires.room) (ap (λ n. n * a.form.width) c.sample_bytes.ensures.value) c.requires.wide c.row-row.ensures

pub write_row-requires-clause-small : goal.write_row-requires-clause-small
write_row-requires-clause-small g c = let a = c.args in λ eight.
    kept_small g.S.Kept.Sample.value a.form.width (g.S.Samples.width a.samples.now a.plane) (g.S.Samples.map a.samples.now a.plane) _ c.row-row.result.now c.requires.wide c.row-row.ensures
    (λ x inside. c.requires.small eight _ x (omega arith) inside)

pub loop-i-preserved : goal.loop-i-preserved
loop-i-preserved g c = let a = c.args in
    kept_written g.S.Kept.Sample.value a.form.depth a.form.width (g.S.Samples.width a.samples.now a.plane) (c.sample_bytes.result * a.form.width) (g.S.Samples.map a.samples.now a.plane) a.from c.loop-i.i a.count c.loop-i.buffer c.write_row.new.bytes c.row-row.result.now
    c.loop-i.invariant c.loop-i-test.true (with_room a.count _ _ a.form.width _ _ c.sample_bytes.ensures.value c.loop-i.auto.buffer c.requires.room) (ap (λ n. n * a.form.width) c.sample_bytes.ensures.value) c.requires.wide c.row-row.ensures c.write_row.ensures
