use Rattle.std.proofs.Common.{rules, ◌≡◌, ◌∙◌, w32, to_z, of_z}
use Rattle.vp9_tables.proofs.Circle.{at_angle}
use Rattle.vp9_tables.proofs.transforms.cosine.Goals as goal

pub returns-clause-value : goal.returns-clause-value
returns-clause-value c =
    let r : to_z w32 (of_z w32 c.constant_in.result) ≡ c.constant_in.result = search rules in
    r ∙ c.constant_in.ensures.entry ∙ at_angle c.args.angle c.requires
