use Rattle.std.proofs.Common.{◌≡◌, ◌∙◌, sym, subst, arith}
use Rattle.std.specs.Prelude.{Ok}
use Rattle.std.proofs.lemmas.Result.{err_from_is_err_and}
use Rattle.vp9_types.specs.Reading.{read_bits}
use Rattle.frame_headers.specs.declared.field.FieldName.TheVariants as name
use Rattle.frame_headers.specs.Fields.{flag_field, past}
use Rattle.frame_headers.proofs.TileLemmas.{columns_more, columns_stop, columns_fail, columns_end}
use Rattle.frame_headers.proofs.tiles.read_more_columns.Goals as goal

pub returns-in_err-flag_field-clause-reads : goal.returns-in_err-flag_field-clause-reads
returns-in_err-flag_field-clause-reads c =
    let p = err_from_is_err_and c.from_residual.result c.from_residual.ensures.1 in
    rw (p.1, p.2) (sym c.loop-log2.invariant.1 ∙ columns_fail c.args.greatest c.loop-log2.log2 c.loop-log2.bits c.in_err-flag_field.field-0.0 c.loop-log2-test.true c.in_err-flag_field.ensures)

pub returns-then-not-branch-clause-reads : goal.returns-then-not-branch-clause-reads
returns-then-not-branch-clause-reads c =
    let read = subst (λ b. read_bits past (flag_field name.IncrementTileColsLog2) c.loop-log2.bits ≡ Ok (b, c.flag_field.new.self)) c.if-not-branch.true c.in_ok-flag_field.ensures in
    sym c.loop-log2.invariant.1 ∙ columns_stop c.args.greatest c.loop-log2.log2 c.loop-log2.bits c.flag_field.new.self c.loop-log2-test.true read

pub loop-log2-preserved : goal.loop-log2-preserved
loop-log2-preserved c =
    let read = subst (λ b. read_bits past (flag_field name.IncrementTileColsLog2) c.loop-log2.bits ≡ Ok (b, c.flag_field.new.self)) c.if-not-branch.false c.in_ok-flag_field.ensures in
    (omega arith, sym (columns_more c.args.greatest c.loop-log2.log2 c.loop-log2.bits c.flag_field.new.self c.loop-log2-test.true read) ∙ c.loop-log2.invariant.1)

pub returns-clause-reads : goal.returns-clause-reads
returns-clause-reads c = sym c.loop-log2.invariant.1 ∙ columns_end c.args.greatest c.loop-log2.log2 c.loop-log2.bits c.loop-log2-test.false
