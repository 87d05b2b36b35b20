-- How probabilities are updated (6.3.3 to 6.3.6 and 6.3.17 of the standard).
use Rattle.std.specs.Prelude.{ℕ, ◌+◌, ◌-◌, ◌*◌, ◌/◌, ◌%◌, Bool, true, false, List, ◌++◌, take, drop, slice_index, nat_eq, nat_lt, nat_le, if◌then◌else◌}
use Rattle.vp9_types.specs.declared.rule.Rule.{Rule}
use Rattle.vp9_types.specs.Syntax.{Syntax, done, ◌>>=◌}
use Rattle.vp9_types.specs.Each.{each}
use Rattle.vp9_tables.specs.declared.data.coefficients.TheConstants.{INV_MAP}
use Rattle.bool_decoder.specs.Bools.{flag, literal, difference}

-- a syntax table of the compressed header
abbrev pub UpdateTable : Type 0 → Type 0
UpdateTable A = Syntax ℕ Rule A

-- inv_recenter_nonneg (6.3.6): odd numbers stand below m and even ones above it, as far as both sides reach; greater ones
-- stand for themselves
unfoldable pub recentred : ℕ → ℕ → ℕ
recentred v m = if nat_lt (2 * m) v then v else (if nat_eq (v % 2) 1 then m - (v + 1) / 2 else m + v / 2)

-- inv_remap_prob (6.3.5): what a coded difference makes of a probability. INV_MAP is inv_map_table.
unfoldable pub remapped : ℕ → ℕ → ℕ
remapped number prob =
    let v = slice_index INV_MAP number in
    let m = prob - 1 in
    if nat_le (2 * m) 255 then 1 + recentred v m else 255 - recentred v (254 - m)

-- 6.3.3
unfoldable pub diff_update_prob : ℕ → UpdateTable ℕ
diff_update_prob prob = do
  update ← flag 252
  if update then (difference >>= λ number. done (remapped number prob)) else done prob

-- 6.3.17
unfoldable pub update_mv_prob : ℕ → UpdateTable ℕ
update_mv_prob prob = do
  update ← flag 252
  if update then (literal 7 >>= λ v. done (2 * v + 1)) else done prob

-- all probabilities of a list, where the header has updates for them
unfoldable pub updates_if : Bool → List ℕ → UpdateTable (List ℕ)
updates_if true probs = each diff_update_prob probs
updates_if false probs = done probs

-- n probabilities of vectors, from a place on
unfoldable pub mv_updates : ℕ → ℕ → List ℕ → UpdateTable (List ℕ)
mv_updates from n probs = do
  updated ← each update_mv_prob (take n (drop from probs))
  done (take from probs ++ (updated ++ drop n (drop from probs)))
