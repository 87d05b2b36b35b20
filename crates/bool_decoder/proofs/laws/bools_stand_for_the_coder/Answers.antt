use Rattle.bool_decoder.proofs.Stand.{first_stands, bool_stands, step_stands, read_stands, fault_stands}
use Rattle.bool_decoder.proofs.laws.bools_stand_for_the_coder.Goals as goal

pub returns-clause-start : goal.returns-clause-start
returns-clause-start g c = first_stands

pub returns-clause-bool : goal.returns-clause-bool
returns-clause-bool g c = bool_stands

pub returns-clause-step : goal.returns-clause-step
returns-clause-step g c = step_stands

pub returns-clause-read : goal.returns-clause-read
returns-clause-read g c = read_stands

pub returns-clause-fault : goal.returns-clause-fault
returns-clause-fault g c = fault_stands
