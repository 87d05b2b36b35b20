use Rattle.std.proofs.Common.{◌^◌, arith}
use Rattle.std.proofs.lemmas.Result.{err_from_is_err_and}
use Rattle.residue_transforms.specs.Residue.{kind_of_rows, kind_of_columns, rounding_bits}
use Rattle.residue_transforms.proofs.Twice.{Passes, first_turn_small, rows_failed, columns_given}
use Rattle.residue_transforms.proofs.levels.turn_twice.Goals as goal

pub returns-in_err-turn_rows : goal.returns-in_err-turn_rows
returns-in_err-turn_rows c =
    let p = err_from_is_err_and c.from_residual.result c.from_residual.ensures.1 in
    let r = c.pass_of_rows.result in
    let e = c.pass_of_rows.ensures in
    let rows : Passes c.args.quant c.args.tx c.args.kind r.kind r.log2 r.bits r.depth (kind_of_rows c.args.quant.lossless c.args.tx c.args.kind) 0 =
    record { kind_is = e.kind; log2_is = e.log2; depth_is = e.depth; bits_are = e.bits; side_is = e.side } in
    rw (p.1, p.2) (rows_failed c.args.quant c.args.tx c.args.kind r.kind r.log2 r.bits r.depth c.args.block.now c.in_err-turn_rows.field-0.0 rows c.in_err-turn_rows.ensures)

pub turn_rows-requires-2-clause-values : goal.turn_rows-requires-2-clause-values
turn_rows-requires-2-clause-values c =
    let r = c.pass_of_rows.result in
    first_turn_small (2 ^ 24) r.kind r.depth r.log2 (2 ^ r.log2) c.args.block.now c.turn_rows.new.to (omega arith) c.requires.values
    (rw c.pass_of_rows.ensures.bits at c.in_ok-turn_rows.ensures)

pub returns : goal.returns
returns c =
    let r = c.pass_of_rows.result in
    let e = c.pass_of_rows.ensures in
    let rows : Passes c.args.quant c.args.tx c.args.kind r.kind r.log2 r.bits r.depth (kind_of_rows c.args.quant.lossless c.args.tx c.args.kind) 0 =
    record { kind_is = e.kind; log2_is = e.log2; depth_is = e.depth; bits_are = e.bits; side_is = e.side } in
    let s = c.pass_of_columns.result in
    let f = c.pass_of_columns.ensures in
    let columns : Passes c.args.quant c.args.tx c.args.kind s.kind s.log2 s.bits s.depth (kind_of_columns c.args.quant.lossless c.args.tx c.args.kind)
    (rounding_bits c.args.quant.lossless c.args.tx) =
    record { kind_is = f.kind; log2_is = f.log2; depth_is = f.depth; bits_are = f.bits; side_is = f.side } in
    columns_given c.args.quant c.args.tx c.args.kind r.kind s.kind r.log2 s.log2 r.bits s.bits r.depth s.depth c.args.block.now c.turn_rows.new.to
    c.turn_rows-2.new.to c.turn_rows-2.result rows columns c.in_ok-turn_rows.ensures c.turn_rows-2.ensures
