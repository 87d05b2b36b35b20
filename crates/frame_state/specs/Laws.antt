-- What the laws of tile columns speak of: those of a frame that are read by themselves, and the frame.
use Rattle.std.specs.Prelude.{◌≡◌, ◌<◌, ◌^◌, ℕ, zero, suc, Bool, List, Option, Some, None, Result, Ok, Err, nat_lt, if◌then◌else◌, count_by, sum_by}
use Rattle.std.specs.List.{flat_map, range_with_len}
use Rattle.vp9_types.specs.declared.rule.Rule.{Rule}
use Rattle.frame_headers.specs.Spans.{tile_count}
use Rattle.frame_headers.specs.declared.header.Header.{Header}
use Rattle.counting_reader.specs.Counting.{Settled}
use Rattle.prob_contexts.specs.declared.kind.CountedBool.{CountedBool}
use Rattle.prob_contexts.specs.Code.{counts_after, joined_counts, no_counts}
use Rattle.frame_state.specs.ColumnPlans.{ColumnRead}
use Rattle.frame_state.specs.FrameReading.{FrameRead, column_at}
use Rattle.frame_state.specs.TilePlaces.{column_of}

-- how many tile columns a frame has
abbrev pub columns_across : Header → ℕ
columns_across header = 2 ^ header.params.tiles.columns_log2

-- the counts of n parts, added up
abbrev pub counts_of_all : (ℕ → List CountedBool) → ℕ → List ℕ
counts_of_all counted zero = no_counts
counts_of_all counted (suc n) = joined_counts (counts_of_all counted n) (counts_after no_counts (counted n))

-- All tiles of a frame are read, and its columns come to the same: their blocks and sides, all blocks in the order of the tiles,
-- and how often each bool is counted, so that their counts add up to the frame's.
pub record AreReadAll (header : Header) (read : FrameRead) (plans : ℕ → Settled ColumnRead) : Type 0 where
  pub columns : (k : ℕ) → k < columns_across header → column_at header read k ≡ (plans k).value.column
  pub blocks : read.blocks ≡ flat_map (λ n. (plans (column_of header.params.tiles n)).value.tiles n) (range_with_len 0 (tile_count header))
  pub counted : (which : CountedBool → Bool) → count_by which read.counted ≡ sum_by (λ k. count_by which (plans k).counted) (range_with_len 0 (columns_across header))
  pub counts : counts_after no_counts read.counted ≡ counts_of_all (λ k. (plans k).counted) (columns_across header)

-- The first tile that breaks a rule is the first of its column, and where another column breaks a rule, it does in a later tile.
pub record IsFirstBroken (header : Header) (plan : ℕ → Result (Settled ColumnRead) (ℕ × Rule)) (n : ℕ) (rule : Rule) : Type 0 where
  pub own : plan (column_of header.params.tiles n) ≡ Err (n, rule)
  pub others : (k j : ℕ) (other : Rule) → (column_of header.params.tiles n ≡ k → ⊥) → plan k ≡ Err (j, other) → n < j

-- the rule that a column breaks first, with its tile, if it breaks one
abbrev pub verdict_of : {A : Type 0} → Result A (ℕ × Rule) → Option (ℕ × Rule)
verdict_of (Ok plan) = None
verdict_of (Err broken) = Some broken

-- of two verdicts that of the earlier tile
abbrev pub earlier : Option (ℕ × Rule) → Option (ℕ × Rule) → Option (ℕ × Rule)
earlier None b = b
earlier (Some a) None = Some a
earlier (Some a) (Some b) = if nat_lt b.0 a.0 then Some b else Some a

-- of the first n columns' verdicts that of the least tile
abbrev pub least_verdict : (ℕ → Option (ℕ × Rule)) → ℕ → Option (ℕ × Rule)
least_verdict verdict zero = None
least_verdict verdict (suc n) = earlier (least_verdict verdict n) (verdict n)

-- It is the frame's: none where all tiles are read, and else one of the rule that the frame breaks first.
abbrev pub IsFrameVerdict : Result FrameRead Rule → Option (ℕ × Rule) → Type 0
IsFrameVerdict (Ok read) verdict = verdict ≡ None
IsFrameVerdict (Err rule) verdict = (n : ℕ) × (verdict ≡ Some (n, rule))
