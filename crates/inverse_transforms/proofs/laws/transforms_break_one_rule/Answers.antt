use Rattle.inverse_transforms.proofs.Faults.{dct_fault, adst_fault, wht_fault}
use Rattle.inverse_transforms.proofs.laws.transforms_break_one_rule.Goals as goal

pub returns-clause-dct : goal.returns-clause-dct
returns-clause-dct c = dct_fault

pub returns-clause-adst : goal.returns-clause-adst
returns-clause-adst c = adst_fault

pub returns-clause-wht : goal.returns-clause-wht
returns-clause-wht c = wht_fault
