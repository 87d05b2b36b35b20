-- Whether a block's vectors are small is a fact, of which there is one proof at most, so that a struct may hold it.
use Rattle.std.proofs.Props.{props}
use Rattle.block_plan.specs.declared.block.BlockInfo.{BlockInfo}
use Rattle.block_plan.specs.declared.block.Prediction.{Prediction}
use Rattle.block_plan.specs.declared.block.Prediction.TheVariants.{Intra, Inter}
use Rattle.mv_prediction.specs.Code.{HasSmallVectors, PredictsSmall}

PredictsSmall-prop : (p : Prediction) → IsProp (PredictsSmall p)
PredictsSmall-prop (Intra p) = Prim.hlevel props
PredictsSmall-prop (Inter p) = Prim.hlevel props

pub HasSmallVectors-prop : (b : BlockInfo) → IsProp (HasSmallVectors b)
HasSmallVectors-prop b = PredictsSmall-prop b.prediction

pub ruleset block_props = (props, HasSmallVectors-prop)
