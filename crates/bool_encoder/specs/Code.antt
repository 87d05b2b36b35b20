-- What the code keeps, and what its calls answer.
use Rattle.std.specs.Prelude.{◌≡◌, ℕ, suc, ◌+◌, ◌*◌, ◌%◌, ◌^◌, ◌<◌, ◌≤◌, ℤ, pos, List, [], ◌∷◌, length, Contains}
use Rattle.vp9_types.specs.Trees.{entry_at, subtree, tree_of, tree_symbol}
use Rattle.vp9_types.specs.declared.rule.Rule.{Rule}
use Rattle.bool_encoder.specs.Part.{NumberPart}
use Rattle.bool_encoder.specs.WrittenBools.{LeadsBools}

-- the number of bytes, the first being the highest
unfoldable pub be_number : List ℕ → ℕ
be_number [] = 0
be_number (b ∷ bytes) = b * 2 ^ (8 * length bytes) + be_number bytes

-- each node but the root is a branch of another
abbrev pub IsWhole : List ℤ → Type 0
IsWhole array = (x : ℕ) → 0 < x → x % 2 ≡ 0 → x < length array → Contains array (pos x)

-- the bools that lead to an entry were put, and its subtree is still to be read
pub record LeadsTo (array : List ℤ) (probs : List ℕ) (at : ℕ) (old now : NumberPart) : Type 0 where
  pub depth : ℕ
  pub deep : length array ≤ suc depth + at
  pub leads : LeadsBools {E = Rule} (tree_symbol (tree_of array) probs) old (tree_symbol (subtree depth array (entry_at array at)) probs) now
