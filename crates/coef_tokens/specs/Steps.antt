-- What stands at a place of the scan, and the bools of its three nodes counted (more_coefs and token in 6.4.24 of the
-- standard, 9.3.4).
use Rattle.std.specs.Prelude.{ℕ, ◌+◌, Bool, true, if◌then◌else◌}
use Rattle.vp9_types.specs.Syntax.{Syntax}
use Rattle.vp9_types.specs.declared.rule.Rule.{Rule}
use Rattle.vp9_types.specs.declared.shape.Depth.{Depth}
use Rattle.prob_contexts.specs.declared.kind.ProbKind.TheVariants.{Coef}
use Rattle.counting_reader.specs.Counting.{Settled, settle, uncounted, ◌>>=◌}
use Rattle.counting_reader.specs.CountedSymbols.{counted_flag}
use Rattle.coef_tokens.specs.TokenSymbols.{tail_token, level}
use Rattle.coef_tokens.specs.declared.step.Step.{Step}
use Rattle.coef_tokens.specs.declared.step.Step.TheVariants.{End, Zero}

-- one or more, by the third node's probability
unfoldable pub token_from_one : ℕ → ℕ → Syntax ℕ Rule (Settled ℕ)
token_from_one node q = do
  larger ← counted_flag Coef (node + 2) q
  if larger then uncounted (tail_token q) else settle 1

-- behind more_coefs: zero, or a token with its level
unfoldable pub token : Depth → ℕ → ℕ → ℕ → Syntax ℕ Rule (Settled Step)
token depth node second third = do
  some ← counted_flag Coef (node + 1) second
  if some then (token_from_one node third >>= λ token. uncounted (level depth token)) else settle Zero

-- more_coefs isn't read after a zero
unfoldable pub more_coefs : Bool → ℕ → ℕ → Syntax ℕ Rule (Settled Bool)
more_coefs check node first = if check then counted_flag Coef node first else settle true

-- what stands at a place, by its first node and the probabilities of the three: the end, or a token
unfoldable pub token_step : Depth → Bool → ℕ → ℕ → ℕ → ℕ → Syntax ℕ Rule (Settled Step)
token_step depth check node first second third = do
  more ← more_coefs check node first
  if more then token depth node second third else settle End
