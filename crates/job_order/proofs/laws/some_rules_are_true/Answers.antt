use Rattle.job_order.proofs.Example.{example_true, example_total, example_settled, example_does}
use Rattle.job_order.proofs.laws.some_rules_are_true.Goals as goal

pub returns : goal.returns
returns c = record { are_true = example_true; total = example_total; settled = example_settled; does = example_does }
