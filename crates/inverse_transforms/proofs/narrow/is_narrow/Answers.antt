use Rattle.std.proofs.Common.{nat_le, subst, All, ◌≤◌, unsigned_abs}
use Rattle.std.proofs.lemmas.Bool.{leb-true}
use Rattle.inverse_transforms.proofs.Narrows.{flat_narrow}
use Rattle.inverse_transforms.proofs.narrow.is_narrow.Goals as goal

pub returns : goal.returns
returns c =
    flat_narrow c.args.t.now c.widest.result (nat_le c.widest.result 32768) (leb-true c.widest.result 32768)
    (subst (All (λ x. unsigned_abs x ≤ c.widest.result)) c.as_flattened.ensures.value c.widest.ensures)
