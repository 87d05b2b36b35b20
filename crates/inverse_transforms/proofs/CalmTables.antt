-- The tables: what the magnitudes of values may add up to for a transform to keep them within 16 bits.
use Rattle.std.proofs.Common.{◌≡◌, ℕ, ◌^◌, ◌≤◌, ℤ, List, Ok, refl}
use Rattle.vp9_tables.specs.declared.flow_row.FlowRow.{FlowRow}
use Rattle.vp9_tables.specs.declared.data.flows.TheConstants.{FLOW_DCT_4, FLOW_DCT_8, FLOW_DCT_16, FLOW_DCT_32, FLOW_ADST_8, FLOW_ADST_16}
use Rattle.inverse_transforms.specs.Flow.{IsCalm, run_flow}
use Rattle.inverse_transforms.specs.Transforms.{dct, adst}
use Rattle.inverse_transforms.proofs.Bounds.{CalmRun, calm_flow}

of_calm : {rows : List FlowRow} {xs : List ℤ} → CalmRun rows xs → (ys : List ℤ) × ((limit : ℕ) → 2 ^ 15 ≤ limit → run_flow limit rows xs ≡ Ok ys)
of_calm c = (c.zs, c.gives)

pub calm_dct_4 : IsCalm 4 32768 (λ limit. dct limit 2)
unfolding dct IsCalm
calm_dct_4 = λ xs size most. of_calm (calm_flow 32768 4 FLOW_DCT_4 refl xs size most)

pub calm_dct_8 : IsCalm 8 32768 (λ limit. dct limit 3)
unfolding dct IsCalm
calm_dct_8 = λ xs size most. of_calm (calm_flow 32768 8 FLOW_DCT_8 refl xs size most)

pub calm_dct_16 : IsCalm 16 25000 (λ limit. dct limit 4)
unfolding dct IsCalm
calm_dct_16 = λ xs size most. of_calm (calm_flow 25000 16 FLOW_DCT_16 refl xs size most)

pub calm_dct_32 : IsCalm 32 18000 (λ limit. dct limit 5)
unfolding dct IsCalm
calm_dct_32 = λ xs size most. of_calm (calm_flow 18000 32 FLOW_DCT_32 refl xs size most)

pub calm_adst_8 : IsCalm 8 25000 (λ limit. adst limit 3)
unfolding adst IsCalm
calm_adst_8 = λ xs size most. of_calm (calm_flow 25000 8 FLOW_ADST_8 refl xs size most)

pub calm_adst_16 : IsCalm 16 18000 (λ limit. adst limit 4)
unfolding adst IsCalm
calm_adst_16 = λ xs size most. of_calm (calm_flow 18000 16 FLOW_ADST_16 refl xs size most)
