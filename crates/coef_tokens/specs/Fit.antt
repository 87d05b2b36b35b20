-- Tables as the code keeps them.
use Rattle.std.specs.Prelude.{◌≡◌, ℕ, ◌+◌, ◌*◌, ◌<◌, ◌≤◌, List, length, slice_index}
use Rattle.std.specs.List.{All}
use Rattle.vp9_types.specs.declared.shape.Depth.{Depth}
use Rattle.coef_tokens.specs.Places.{Tables}

abbrev pub tables_by : List ℕ → List ℕ → List ℕ → List ℕ → ℕ → Depth → Tables
tables_by scan neighbours bands probs base depth =
    record { scan = scan; neighbours = neighbours; bands = bands; probs = probs; base = base; depth = depth }

-- tables for n coefficients
pub record FitTables (t : Tables) (n : ℕ) : Type 0 where
  pub scan : length t.scan ≡ n
  pub neighbours : length t.neighbours ≡ 2 * n
  pub bands : n ≤ length t.bands
  pub probs : length t.probs ≡ 99
  pub few : n ≤ 1024
  pub base : t.base + 99 ≤ 1584
  pub positions : All (λ p. p < n) t.scan
  pub places : All (λ p. p < n) t.neighbours
  pub low : All (λ b. b ≤ 5) t.bands
  pub positive : All (λ p. 1 ≤ p) t.probs

-- band 0 is the first of n places alone
pub record StartsBands (bands : List ℕ) (n : ℕ) : Type 0 where
  pub start : slice_index bands 0 ≡ 0
  pub later : (k : ℕ) → 1 ≤ k → k < n → 1 ≤ slice_index bands k
