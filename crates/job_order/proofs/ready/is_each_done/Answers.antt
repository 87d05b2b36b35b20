use Rattle.std.proofs.Common.{refl, sym, subst, reverse}
use Rattle.vp9_types.specs.declared.job.JobName.TheVariants.{Column, Rows}
use Rattle.job_order.specs.Code.{IsIn}
use Rattle.job_order.proofs.Readiness.{one_done, columns_done, row_done}
use Rattle.job_order.proofs.ready.is_each_done.Goals as goal

pub returns-in-One-clause-yes : goal.returns-in-One-clause-yes
returns-in-One-clause-yes g c = λ yes need n. one_done (reverse c.args.finished.now) c.in-One.job (c.is_done.ensures.yes yes) need (subst (λ s. IsIn s need) c.in-One.is n)

pub returns-in-One-clause-no : goal.returns-in-One-clause-no
returns-in-One-clause-no g c = λ no all. c.is_done.ensures.no no (all c.in-One.job (subst (λ s. IsIn s c.in-One.job) (sym c.in-One.is) refl))

pub returns-in-Columns-clause-yes : goal.returns-in-Columns-clause-yes
returns-in-Columns-clause-yes g c = λ yes need n.
    columns_done (reverse c.args.finished.now) c.in-Columns.frame c.in-Columns.columns (c.are_columns_done.ensures.yes yes) need (subst (λ s. IsIn s need) c.in-Columns.is n)

pub returns-in-Columns-clause-no : goal.returns-in-Columns-clause-no
returns-in-Columns-clause-no g c = λ no all.
    c.are_columns_done.ensures.no no (λ i less. all (Column c.in-Columns.frame i) (subst (λ s. IsIn s (Column c.in-Columns.frame i)) (sym c.in-Columns.is) (refl, less)))

pub returns-in-RowOf-clause-yes : goal.returns-in-RowOf-clause-yes
returns-in-RowOf-clause-yes g c = λ yes need n.
    row_done (reverse c.args.finished.now) c.in-RowOf.frame c.in-RowOf.row c.in-RowOf.columns (c.is_row_done.ensures.yes yes) need (subst (λ s. IsIn s need) c.in-RowOf.is n)

pub returns-in-RowOf-clause-no : goal.returns-in-RowOf-clause-no
returns-in-RowOf-clause-no g c = λ no all.
    c.is_row_done.ensures.no no
    (λ i less. all (Rows c.in-RowOf.frame i c.in-RowOf.row) (subst (λ s. IsIn s (Rows c.in-RowOf.frame i c.in-RowOf.row)) (sym c.in-RowOf.is) (refl, refl, less)))
