use Rattle.std.proofs.Common.{◌≡◌, ◌∙◌, ℕ, sym, arith, ap, map}
use Rattle.vp9_types.specs.Maps.{rows_of, with_block}
use Rattle.planes.proofs.RowLemmas.{no_rows, values_made}
use Rattle.planes.proofs.ShortRows.{row_part}
use Rattle.planes.proofs.copies.copy_columns.Goals as goal

pub loop-i-init : goal.loop-i-init
loop-i-init g c = record { place = omega arith; map = sym (no_rows _ _ _ _ _) }

pub loop-i-preserved : goal.loop-i-preserved
loop-i-preserved g c = let a = c.args in let r = c.requires in let here = c.loop-i.invariant.place in let value = g.P.Sample.value in
    record {
      place = rw here (omega arith);
      map = rw here (values_made value _ a.width c.loop-i.samples c.copy_row.new.to a.row a.column c.loop-i.i g.row.N a.rows (rows_of g.row.N (map value a.block.now))
          c.loop-i.invariant.map c.loop-i-test.true r.wide (omega arith) (rw here at c.copy_row.auto.to)
          (λ j low. c.copy_row.ensures j low ∙ row_part value a.block.now g.row.N c.loop-i.i j low));
    }

pub returns : goal.returns
returns g c = let done : c.loop-i.i ≡ c.args.rows = omega arith in
    c.loop-i.invariant.map ∙ ap (λ (n : ℕ). with_block (rows_of c.args.width (map g.P.Sample.value c.args.samples.now)) c.args.row c.args.column n g.row.N (rows_of g.row.N (map g.P.Sample.value c.args.block.now))) done
