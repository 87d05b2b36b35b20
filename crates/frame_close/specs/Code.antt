-- What the tile columns of a frame came to, each read by itself, and what the frame comes to.
use Rattle.std.specs.Prelude.{◌≡◌, ◌<◌, ℕ, zero, suc, Bool, List, length, map, slice_index_or, Option, Some, None, Result, Ok, Err}
use Rattle.std.specs.Borrow.{Bor}
use Rattle.vp9_types.specs.declared.job.Span.{Span}
use Rattle.vp9_types.specs.declared.rule.Rule.{Rule}
use Rattle.counting_reader.specs.Counting.{Settled}
use Rattle.prob_contexts.specs.Code.{joined_counts, no_counts}
use Rattle.frame_state.specs.Code.{counts_if}
use Rattle.frame_state.specs.Laws.{columns_across}
use Rattle.frame_state.specs.ColumnPlans.{ColumnRead, plan_of, tile_bytes}
use Rattle.frame_state.specs.FrameReading.{FrameRead}
use Rattle.frame_state.specs.Sources.{FrameSources}
use Rattle.frame_state.specs.declared.halt.Halt.{Halt}
use Rattle.frame_state.specs.declared.halt.Halt.TheVariants as halt
use Rattle.tile_syntax.specs.declared.plans.Unplanned.{Unplanned}
use Rattle.tile_syntax.specs.declared.plans.Unplanned.TheVariants as unplanned

---- A tile column ----

-- It is read, and this is counted in it, where counting is on; or it breaks the rule first, in this tile. Where memory was
-- wanting, nothing is said.
abbrev pub GivesColumn : Bool → Result (Settled ColumnRead) (ℕ × Rule) → Result (List ℕ) Unplanned → Type 0
GivesColumn counting computed (Ok counts) = (read : Settled ColumnRead) × (computed ≡ Ok read) × (counts ≡ counts_if counting read.counted)
GivesColumn counting computed (Err (unplanned.Broken n rule)) = computed ≡ Err (n, rule)
GivesColumn counting computed (Err unplanned.OutOfMemory) = Unit {0}

-- the rule that it breaks first, with its tile, if it breaks one
abbrev pub broken_by : Result (List ℕ) Unplanned → Option (ℕ × Rule)
broken_by (Ok counts) = None
broken_by (Err (unplanned.Broken n rule)) = Some (n, rule)
broken_by (Err unplanned.OutOfMemory) = None

---- All tile columns ----

-- what one came to whose counts are lent
abbrev pub lent_result : Result (Bor (List ℕ)) Unplanned → Result (List ℕ) Unplanned
lent_result (Ok counts) = Ok counts.now
lent_result (Err e) = Err e

abbrev pub lent : List (Result (Bor (List ℕ)) Unplanned) → List (Result (List ℕ) Unplanned)
lent columns = map lent_result columns

-- what the k-th of them came to
abbrev pub result_at : List (Result (List ℕ) Unplanned) → ℕ → Result (List ℕ) Unplanned
result_at columns k = slice_index_or columns k (Err unplanned.OutOfMemory)

-- they are a frame's, in order
pub record AreColumnResults (counting : Bool) (by : FrameSources) (bytes : List ℕ) (spans : List Span) (columns : List (Result (List ℕ) Unplanned)) : Type 0 where
  pub many : length columns ≡ columns_across by.header
  pub each : (k : ℕ) → k < length columns → GivesColumn counting (plan_of by (tile_bytes bytes spans) k) (result_at columns k)

-- with the counts of one more, if it is read
abbrev pub with_column : List ℕ → Result (List ℕ) Unplanned → List ℕ
with_column counts (Ok more) = joined_counts counts more
with_column counts (Err e) = counts

-- the counts of the first n of them that are read, added up
abbrev pub sum_of : (ℕ → Result (List ℕ) Unplanned) → ℕ → List ℕ
sum_of columns zero = no_counts
sum_of columns (suc n) = with_column (sum_of columns n) (columns n)

---- The frame ----

-- All of its tiles are read, and this is counted in them, where counting is on; or it breaks the rule first. Where memory was
-- wanting, nothing is said.
abbrev pub GivesFrame : Bool → Result FrameRead Rule → Result (List ℕ) Halt → Type 0
GivesFrame counting computed (Ok counts) = (read : FrameRead) × (computed ≡ Ok read) × (counts ≡ counts_if counting read.counted)
GivesFrame counting computed (Err (halt.Broken rule)) = computed ≡ Err rule
GivesFrame counting computed (Err halt.OutOfMemory) = Unit {0}
