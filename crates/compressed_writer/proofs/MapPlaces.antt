-- Where inv_map_table has a number.
use Rattle.std.proofs.Common.{◌≡◌, ℕ, zero, suc, ◌+◌, ◌-◌, ◌/◌, ◌%◌, ◌<◌, ◌≤◌, Bool, true, ◌||◌, nat_eq, inl, inr, refl, slice_index, arith}
use Rattle.std.proofs.lemmas.Bool.{agree_below_at, or_cases, eqb-true}
use Rattle.vp9_tables.specs.declared.data.coefficients.TheConstants.{INV_MAP}

behind : ℕ → ℕ
behind v = 19 + v - (v + 5) / 13

is_there : ℕ → Bool
is_there k = nat_eq (suc k % 13) 7 || nat_eq (slice_index INV_MAP (behind (suc k))) (suc k)

all_there : (k : ℕ) → k < 254 → is_there k ≡ true
unfolding is_there behind
all_there k low = agree_below_at is_there (λ _. true) 254 k refl low

pub fine_place : (v : ℕ) → 1 ≤ v → v ≤ 254 → (v % 13 ≡ 7 → ⊥) → slice_index INV_MAP (19 + v - (v + 5) / 13) ≡ v
unfolding is_there behind
fine_place zero least most other = absurd (omega (arith, least))
fine_place (suc k) least most other =
    elim (or_cases (nat_eq (suc k % 13) 7) (nat_eq (slice_index INV_MAP (behind (suc k))) (suc k)) (all_there k (omega (arith, most)))) [
      | inl coarse ↦ absurd (other (eqb-true (suc k % 13) 7 coarse))
      | inr fine ↦ eqb-true (slice_index INV_MAP (behind (suc k))) (suc k) fine
    ]
