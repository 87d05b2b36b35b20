use Rattle.std.proofs.Common.{◌≡◌, ◌<◌, ◌^◌, ◌++◌, [], ap, sym, ◌∙◌, subst, arith, length, All, OnOk, unsigned_abs, take, drop, List, ℤ}
use Rattle.std.proofs.lemmas.List.{take_all, drop_all, append-nil}
use Rattle.inverse_transforms.specs.Flow.{Gives}
use Rattle.vp9_types.specs.declared.block.TxSize.TheVariants.{T8x8}
use Rattle.residue_transforms.specs.Residue.{IsLevel, residue}
use Rattle.residue_transforms.proofs.levels.middle_residue.Goals as goal

pub slice_bounds-sized_residue-end-2 : goal.slice_bounds-sized_residue-end-2
slice_bounds-sized_residue-end-2 c = sym (ap length (take_all 64 c.args.block.now (omega (arith, c.requires.size))) ∙ c.requires.size)

pub sized_residue-requires-clause-size : goal.sized_residue-requires-clause-size
sized_residue-requires-clause-size c = ap length (take_all 64 c.args.block.now (omega (arith, c.requires.size))) ∙ c.requires.size

pub sized_residue-requires-clause-levels : goal.sized_residue-requires-clause-levels
sized_residue-requires-clause-levels c =
    subst (All IsLevel) (sym (take_all 64 c.args.block.now (omega (arith, c.requires.size)))) c.requires.levels

pub returns-clause-gives : goal.returns-clause-gives
returns-clause-gives c =
    let same : take 64 c.args.block.now ≡ c.args.block.now = take_all 64 c.args.block.now (omega (arith, c.requires.size)) in
    let none : drop 64 c.args.block.now ≡ [] = drop_all 64 c.args.block.now (omega (arith, c.requires.size)) in
    let new : c.sized_residue.new.block ++ drop 64 c.args.block.now ≡ c.sized_residue.new.block =
    ap (λ (z : List ℤ). c.sized_residue.new.block ++ z) none ∙ append-nil c.sized_residue.new.block in
    subst (Gives (residue c.args.quant T8x8 c.args.kind c.args.block.now) c.sized_residue.result) (sym new)
    (subst (λ z. Gives (residue c.args.quant T8x8 c.args.kind z) c.sized_residue.result c.sized_residue.new.block) same c.sized_residue.ensures.gives)

pub returns-clause-small : goal.returns-clause-small
returns-clause-small c =
    let none : drop 64 c.args.block.now ≡ [] = drop_all 64 c.args.block.now (omega (arith, c.requires.size)) in
    let new : c.sized_residue.new.block ++ drop 64 c.args.block.now ≡ c.sized_residue.new.block =
    ap (λ (z : List ℤ). c.sized_residue.new.block ++ z) none ∙ append-nil c.sized_residue.new.block in
    subst (λ z. OnOk c.sized_residue.result (All (λ x. unsigned_abs x < 2 ^ 24) z)) (sym new) c.sized_residue.ensures.small
