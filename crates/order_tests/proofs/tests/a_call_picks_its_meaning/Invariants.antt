use Rattle.job_order.specs.Example.{example_rules}
use Rattle.std.specs.Prelude.{[]}
use Rattle.order_tests.proofs.tests.a_call_picks_its_meaning.Given as goal

abbrev pub ghosts-first_frame : goal.ghosts-first_frame
ghosts-first_frame g a = record { rules = example_rules; truth = record { right = λ _ _. ⊥; bands = λ _. a.bands; slots = λ _. []; text = λ _. [] } }
