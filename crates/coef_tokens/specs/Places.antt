-- The places of a block's scan, one after another (tokens in 6.4.24 of the standard, contexts of more_coefs in 9.3).
use Rattle.std.specs.Prelude.{ℕ, ◌+◌, ◌*◌, ◌/◌, ℤ, pos, Bool, true, false, List, [], ◌∷◌, slice_index, nat_eq, if◌then◌else◌}
use Rattle.vp9_types.specs.declared.shape.Depth.{Depth}
use Rattle.vp9_types.specs.declared.rule.Rule.{Rule}
use Rattle.vp9_types.specs.Syntax.{Syntax}
use Rattle.vp9_tables.specs.Coefficients.{context_row}
use Rattle.counting_reader.specs.Counting.{Settled, settle, ◌>>=◌}
use Rattle.coef_tokens.specs.declared.step.Step.{Step}
use Rattle.coef_tokens.specs.declared.step.Step.TheVariants.{End, Zero, Level}
use Rattle.coef_tokens.specs.Steps.{token_step}

-- what a plane's transform blocks are read by: their scan, the two neighbours of each place, the bands, the 33 rows of
-- three probabilities, the place of the first of these among all that are counted, the depth
pub record Tables : Type 0 where
  pub scan : List ℕ
  pub neighbours : List ℕ
  pub bands : List ℕ
  pub probs : List ℕ
  pub base : ℕ
  pub depth : Depth

-- a token that isn't zero
pub record Read : Type 0 where
  pub position : ℕ
  pub level : ℤ
  pub class : ℕ

-- how many places are coded, and their tokens that aren't zero, the latest first
pub record Tokens : Type 0 where
  pub count : ℕ
  pub reads : List Read

abbrev pub no_tokens : Tokens
no_tokens = record { count = 0; reads = [] }

-- at a position: 0 where no token was read, or a zero
abbrev pub class_at : List Read → ℕ → ℕ
class_at [] p = 0
class_at (r ∷ reads) p = if nat_eq p r.position then r.class else class_at reads p

abbrev pub level_at : List Read → ℕ → ℤ
level_at [] p = pos 0
level_at (r ∷ reads) p = if nat_eq p r.position then r.level else level_at reads p

-- that of the block's sides for the first place, and later half the classes of the two neighbours, rounded up
unfoldable pub token_context : Tables → ℕ → ℕ → List Read → ℕ
token_context t first c reads =
    if nat_eq c 0 then first
    else (1 + class_at reads (slice_index t.neighbours (2 * c)) + class_at reads (slice_index t.neighbours (2 * c + 1))) / 2

-- where the three probabilities of a place stand
unfoldable pub row_at : Tables → ℕ → ℕ → List Read → ℕ
row_at t first c reads = 3 * context_row (slice_index t.bands c) (token_context t first c reads)

-- a place more, which holds a zero
abbrev pub with_zero : Tokens → Tokens
with_zero p = record { count = p.count + 1; reads = p.reads }

-- a place more, which holds a level
abbrev pub with_level : Tokens → ℕ → ℤ → ℕ → Tokens
with_level p position level class =
    record { count = p.count + 1; reads = record { position = position; level = level; class = class } ∷ p.reads }

-- the step by a row of probabilities
abbrev pub step_by : Tables → ℕ → Bool → Syntax ℕ Rule (Settled Step)
step_by t row check =
    token_step t.depth check (t.base + row) (slice_index t.probs row) (slice_index t.probs (row + 1)) (slice_index t.probs (row + 2))

-- how reading goes on after a step: it ends, or the next place is read
abbrev pub goes_on : Tokens → ℕ → Step → (Bool → Tokens → Syntax ℕ Rule (Settled Tokens)) → Syntax ℕ Rule (Settled Tokens)
goes_on p position End next = settle p
goes_on p position Zero next = next false (with_zero p)
goes_on p position (Level level class) next = next true (with_level p position level class)

-- the positions still to come, after the tokens so far
unfoldable pub tokens_from : Tables → ℕ → List ℕ → Bool → Tokens → Syntax ℕ Rule (Settled Tokens)
tokens_from t first [] check p = settle p
tokens_from t first (position ∷ positions) check p = do
  s ← step_by t (row_at t first p.count p.reads) check
  goes_on p position s (λ check' p'. tokens_from t first positions check' p')

-- the tokens of a block, by the context of its first place
unfoldable pub block_tokens : Tables → ℕ → Syntax ℕ Rule (Settled Tokens)
block_tokens t first = tokens_from t first t.scan true no_tokens
