-- The table of tails has what its definition says.
use Rattle.std.proofs.Common.{◌≡◌, ◌<◌, ◌≤◌, ◌+◌, ◌-◌, ℕ, Bool, true, [], refl, arith, get_or}
use Rattle.std.specs.Prelude.{nat_eq, slice_index}
use Rattle.std.proofs.lemmas.Bool.{agree_below, agree_below_at, eqb-true}
use Rattle.coef_tokens.specs.TokenSymbols.{tail_prob}
use Rattle.coef_tokens.specs.declared.tails.TheConstants.{TAILS}

abbrev entry_is : ℕ → ℕ → Bool
entry_is i node = nat_eq (slice_index (get_or TAILS i []) node) (tail_prob (i + 1) node)

abbrev row_is : ℕ → Bool
row_is i = agree_below (entry_is i) (λ _. true) 8

pub tail_at : (q node : ℕ) → 1 ≤ q → q ≤ 255 → node < 8 → slice_index (get_or TAILS (q - 1) []) node ≡ tail_prob q node
tail_at q node least most low =
    let row : row_is (q - 1) ≡ true = agree_below_at row_is (λ _. true) 255 (q - 1) refl (omega arith) in
    let same : q - 1 + 1 ≡ q = omega arith in
    rw same at (eqb-true (slice_index (get_or TAILS (q - 1) []) node) (tail_prob (q - 1 + 1) node) (agree_below_at (entry_is (q - 1)) (λ _. true) 8 node row low))
