use Rattle.std.proofs.Common.{◌≡◌, ℕ, length, arith, rules, [], get_or}
use Rattle.vp9_types.specs.declared.block.InterMode.TheVariants.{Nearest}
use Rattle.mv_prediction.specs.Code.{AreSmall}
use Rattle.inter_modes.specs.declared.quarters.Quarter.{Quarter}
use Rattle.inter_modes.proofs.Rows.{four_rows}
use Rattle.inter_modes.proofs.blocks.vectors_of.Goals as goal

pub returns-clause-small : goal.returns-clause-small
returns-clause-small c =
    let none : Quarter = record { mode = Nearest; vectors = [] } in
    let qs = c.args.quarters.now in
    let long : length qs ≡ 4 = search rules in
    four_rows (get_or qs 0 none).vectors (get_or qs 1 none).vectors (get_or qs 2 none).vectors (get_or qs 3 none).vectors
    (c.requires 0 none (omega (arith, long))) (c.requires 1 none (omega (arith, long))) (c.requires 2 none (omega (arith, long))) (c.requires 3 none (omega (arith, long)))
