use Rattle.std.proofs.Common.{rules, ◌≡◌, length, reverse}
use Rattle.job_order.proofs.Readiness.{third_out, all_out}
use Rattle.job_order.proofs.ready.are_all_out.Goals as goal

pub returns-clause-yes : goal.returns-clause-yes
returns-clause-yes g c = λ yes.
    let long : length c.args.bands ≡ 3 = search rules in
    all_out c.args.segments.now (reverse c.args.finished.now) c.args.bands long
    (c.are_bands_out.ensures.yes c.if-not-are_bands_out.false) (c.are_bands_out-else-not-are_bands_out.ensures.yes c.if-not-are_bands_out-2.false) (c.are_bands_out-2.ensures.yes yes)

pub returns-clause-no : goal.returns-clause-no
returns-clause-no g c = λ no all. c.are_bands_out-2.ensures.no no (third_out c.args.segments.now (reverse c.args.finished.now) c.args.bands all)
