-- What the laws speak of.
use Rattle.std.specs.Prelude.{◌≡◌, ℕ, ◌<◌, ◌≤◌, List}
use Rattle.block_plan.specs.Blocks.{covering}
use Rattle.block_plan.specs.declared.block.BlockInfo.{BlockInfo}

-- at every place of these columns the same block stands
abbrev pub SameIn : ℕ → ℕ → List BlockInfo → List BlockInfo → Type 0
SameIn from to xs ys = (r c : ℕ) → from ≤ c → c < to → covering xs r c ≡ covering ys r c
