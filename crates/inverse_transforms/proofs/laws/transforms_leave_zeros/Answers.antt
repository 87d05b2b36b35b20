use Rattle.inverse_transforms.proofs.Zeros.{dct_zeros, adst_zeros, wht_zeros}
use Rattle.inverse_transforms.proofs.laws.transforms_leave_zeros.Goals as goal

pub returns-clause-dct : goal.returns-clause-dct
returns-clause-dct c = dct_zeros

pub returns-clause-adst : goal.returns-clause-adst
returns-clause-adst c = adst_zeros

pub returns-clause-wht : goal.returns-clause-wht
returns-clause-wht c = wht_zeros
