-- The tables whose permutations are put last.
use Rattle.std.proofs.Common.{refl}
use Rattle.vp9_tables.specs.declared.data.flows.TheConstants.{FLOW_DCT_4, FLOW_DCT_8, FLOW_DCT_16, FLOW_DCT_32, FLOW_ADST_8, FLOW_ADST_16}
use Rattle.inverse_transforms.specs.declared.renamed.TheConstants.{RENAMED_DCT_4, RENAMED_DCT_8, RENAMED_DCT_16, RENAMED_DCT_32, RENAMED_ADST_8, RENAMED_ADST_16}
use Rattle.inverse_transforms.specs.Transforms.{dct, adst, AreDct, AreAdst}
use Rattle.inverse_transforms.proofs.SameFlows.{same_flow}

pub dct_4 : AreDct 2 RENAMED_DCT_4
unfolding dct AreDct
dct_4 = same_flow 4 FLOW_DCT_4 RENAMED_DCT_4 refl refl refl

pub dct_8 : AreDct 3 RENAMED_DCT_8
unfolding dct AreDct
dct_8 = same_flow 8 FLOW_DCT_8 RENAMED_DCT_8 refl refl refl

pub dct_16 : AreDct 4 RENAMED_DCT_16
unfolding dct AreDct
dct_16 = same_flow 16 FLOW_DCT_16 RENAMED_DCT_16 refl refl refl

pub dct_32 : AreDct 5 RENAMED_DCT_32
unfolding dct AreDct
dct_32 = same_flow 32 FLOW_DCT_32 RENAMED_DCT_32 refl refl refl

pub adst_8 : AreAdst 3 RENAMED_ADST_8
unfolding adst AreAdst
adst_8 = same_flow 8 FLOW_ADST_8 RENAMED_ADST_8 refl refl refl

pub adst_16 : AreAdst 4 RENAMED_ADST_16
unfolding adst AreAdst
adst_16 = same_flow 16 FLOW_ADST_16 RENAMED_ADST_16 refl refl refl
