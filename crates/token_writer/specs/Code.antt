-- How tokens are chosen, and what the code has put so far.
use Rattle.std.specs.Prelude.{◌≡◌, ℕ, ◌<◌, ◌≤◌, ◌+◌, ◌-◌, ◌^◌, ℤ, Bool, List, length, slice_index}
use Rattle.vp9_types.specs.declared.shape.Depth.{Depth}
use Rattle.vp9_tables.specs.Coefficients.{category_of}
use Rattle.bool_encoder.specs.Part.{NumberPart}
use Rattle.coef_tokens.specs.TokenSymbols.{category_base}
use Rattle.coef_tokens.specs.Code.{HoldsLevels}
use Rattle.coef_tokens.specs.Places.{Tables, Tokens, block_tokens}
use Rattle.coef_tokens.specs.Steps.{token_step}
use Rattle.coef_tokens.specs.declared.step.Step.{Step}
use Rattle.bool_encoder.specs.CountedBools.{PutsCounting, PutsValue}

-- a token from one on stands for the magnitude, or its bits can say it
pub record IsTokenOf (depth : Depth) (token m : ℕ) : Type 0 where
  pub least : 1 ≤ token
  pub most : token ≤ 10
  pub itself : token < 5 → m ≡ token
  pub base : 5 ≤ token → category_base (token - 4) ≤ m
  pub fits : 5 ≤ token → m - category_base (token - 4) < 2 ^ length (category_of (token - 4) depth)

-- a step was put at a place by its three probabilities, whichever nodes count it
abbrev pub PutsStep : Depth → Bool → List ℕ → NumberPart → Step → NumberPart → Type 0
PutsStep depth check probs old s new =
    (node : ℕ) → PutsValue (token_step depth check node (slice_index probs 0) (slice_index probs 1) (slice_index probs 2)) old s new

-- the probabilities of a row
pub record AreThree (t : Tables) (row : ℕ) (probs : List ℕ) : Type 0 where
  pub first : slice_index probs 0 ≡ slice_index t.probs row
  pub second : slice_index probs 1 ≡ slice_index t.probs (row + 1)
  pub third : slice_index probs 2 ≡ slice_index t.probs (row + 2)

-- bools that lead the tokens of a block to these levels were put, of which so many places are coded
abbrev pub PutsLevels : Tables → ℕ → NumberPart → List ℤ → ℕ → NumberPart → Type 0
PutsLevels t first old levels count new =
    (p : Tokens) × PutsCounting (block_tokens t first) old p new × (p.count ≡ count) × HoldsLevels levels p.reads
