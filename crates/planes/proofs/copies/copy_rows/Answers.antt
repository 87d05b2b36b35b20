use Rattle.std.proofs.Common.{◌≡◌, ℕ, sym, arith, ap, ◌∙◌, map}
use Rattle.vp9_types.specs.Maps.{rows_of, with_block}
use Rattle.planes.proofs.RowLemmas.{no_rows, values_copied}
use Rattle.planes.proofs.copies.copy_rows.Goals as goal

pub loop-i-init : goal.loop-i-init
loop-i-init g c = sym (no_rows _ _ _ _ _)

pub loop-i-preserved : goal.loop-i-preserved
loop-i-preserved g c = let a = c.args in let r = c.requires in
    values_copied g.P.Sample.value _ a.width a.stride c.loop-i.samples a.block.now c.copy_from_slice.new.self a.to.now.first_row a.to.now.first_column c.loop-i.i a.to.now.columns a.to.now.rows
    c.loop-i.invariant c.loop-i-test.true r.wide (omega arith) r.narrow r.whole c.copy_from_slice.ensures.after

pub returns : goal.returns
returns g c = let done : c.loop-i.i ≡ c.args.to.now.rows = omega arith in
    c.loop-i.invariant ∙ ap (λ (n : ℕ). with_block (rows_of c.args.width (map g.P.Sample.value c.args.samples.now)) c.args.to.now.first_row c.args.to.now.first_column n c.args.to.now.columns (rows_of c.args.stride (map g.P.Sample.value c.args.block.now))) done
