-- What the code keeps of a tile column whose blocks are planned as they are read, and what its calls answer.
use Rattle.std.specs.Prelude.{◌≡◌, All, length, ℕ, Bool, List, [], ◌∷◌, ◌++◌, Option, Some, None, Result, Ok, Err}
use Rattle.vp9_types.specs.Syntax.{Syntax}
use Rattle.vp9_types.specs.declared.rule.Rule.{Rule}
use Rattle.vp9_types.specs.declared.shape.Shape.{Shape}
use Rattle.counting_reader.specs.Code.{Reads, standing_of, counted_if}
use Rattle.counting_reader.specs.Counting.{Settled, lifted, settle}
use Rattle.counting_reader.specs.Counting as counting
use Rattle.counting_reader.specs.declared.reader.CountingReader.{CountingReader}
use Rattle.block_geometry.specs.declared.transform_blocks.FramePlaces.{FramePlaces}
use Rattle.block_plan.specs.Planned.{PlannedBlock}
use Rattle.block_plan.specs.declared.block.BlockAt.{BlockAt}
use Rattle.residue_syntax.specs.Residues as residues
use Rattle.residue_syntax.specs.declared.sides.TileSides.{TileSides}
use Rattle.inter_modes.specs.ModeInfo.{mode_info}
use Rattle.prob_contexts.specs.declared.kind.CountedBool.{CountedBool}
use Rattle.mode_syntax.specs.Walk.{TileWalk}
use Rattle.tile_reader.specs.Code.{Breaks}
use Rattle.frame_state.specs.Code.{counts_if}
use Rattle.frame_state.specs.ColumnPlans.{ColumnRead, plan_of}
use Rattle.frame_state.specs.FrameReading.{Column, TileRead, infos}
use Rattle.frame_state.specs.Sources.{block_sources, FrameSources, frame_is_intra}
use Rattle.frame_state.specs.declared.halt.Halt.{Halt}
use Rattle.frame_state.specs.declared.halt.Halt.TheVariants as halt
use Rattle.tile_syntax.specs.declared.plans.ColumnPlan.{ColumnPlan}
use Rattle.tile_syntax.specs.declared.plans.Unplanned.{Unplanned}
use Rattle.tile_syntax.specs.declared.plans.Unplanned.TheVariants as unplanned
use Rattle.column_plan.specs.PlannedBlocks.{planned_blocks, total}
use Rattle.column_plan.specs.Code.{AreRowPlaces, HoldsWhole}
use Rattle.frame_headers.specs.HeaderState.{shape_of}
use Rattle.frame_headers.specs.declared.header.Header.{Header}
use Rattle.inter_modes.specs.Code.{RefersInRange}
use Rattle.block_plan.specs.Code.{HoldsSmall}
use Rattle.frame_headers.specs.Spans.{tile_count}
use Rattle.frame_state.specs.KeptColumns.{IsTileColumn}

---- A tile ----

-- the blocks of its column so far, and the sides
pub record PlanTile : Type 0 where
  pub blocks : List PlannedBlock
  pub sides : TileSides

unfoldable pub plan_block : FrameSources → BlockAt → PlanTile → Syntax ℕ Rule (Settled PlanTile)
plan_block by at s =
    counting.◌>>=◌ (mode_info (block_sources by) (infos s.blocks) at) (λ told.
    counting.◌>>=◌ (lifted told) (λ info.
    counting.◌>>=◌ (residues.block_residue by.header by.contexts at.tile_from info s.sides) (λ read.
    settle (record { blocks = s.blocks ++ read.0 ∷ []; sides = read.1 }))))

abbrev pub plan_walk : FrameSources → FramePlaces → ℕ → ℕ → TileWalk PlanTile
plan_walk by frame from to = record {
  frame = frame;
  tile_from = from;
  tile_to = to;
  intra = frame_is_intra by.header.kind;
  probs = by.contexts.partitions;
  block = plan_block by;
  blocks = λ s. infos s.blocks;
}

-- what planning keeps where a tile says so much
abbrev pub plan_view : TileRead → PlanTile
plan_view s = record { blocks = s.earlier ++ s.blocks; sides = s.sides }

-- what the code holds of it
abbrev pub tile_held : Shape → ColumnPlan → PlanTile
tile_held shape p = record { blocks = planned_blocks shape p.column.grid.from p.column.grid.blocks p.residues; sides = p.column.sides }

-- It keeps the residues of all of its blocks, and where their rows of superblocks begin. Its blocks refer to what is in range, and
-- no residue is large, and each that is there is whole, so that they can be put in.
pub record IsKept (header : Header) (p : ColumnPlan) : Type 0 where
  pub all : total (shape_of header) p.column.grid.blocks ≡ length p.residues
  pub rows : AreRowPlaces (shape_of header) p.column.grid.blocks p.rows.places.items
  pub refer : All (λ b. RefersInRange header b.prediction) p.column.grid.blocks
  pub small : All HoldsSmall (planned_blocks (shape_of header) p.column.grid.from p.column.grid.blocks p.residues)
  pub whole : All (HoldsWhole (shape_of header)) (planned_blocks (shape_of header) p.column.grid.from p.column.grid.blocks p.residues)

-- the rule that is broken, if it isn't want of memory
abbrev pub rule_of : Halt → Option Rule
rule_of (halt.Broken rule) = Some rule
rule_of halt.OutOfMemory = None

-- it reads what a walk of the tile says, or breaks the rule
abbrev pub GivesTile : {n : ℕ} → Syntax ℕ Rule (Settled PlanTile) → CountingReader n → Result (Unit {0}) Halt → PlanTile → CountingReader n → Type 0
GivesTile s old (Ok u) t new = Reads s old t new
GivesTile s old (Err e) t new = Breaks (rule_of e) s (standing_of old)

---- A tile's bytes ----

-- a tile breaks this rule. Where none is named, memory was wanting, and nothing is said
abbrev pub BreaksWhole : {X : Type 0} → Option Rule → Result X Rule → Type 0
BreaksWhole None computed = Unit {0}
BreaksWhole (Some rule) computed = computed ≡ Err rule

-- a tile is read, and what is counted in it comes to these counts, where counting is on
abbrev pub GivesWhole : Bool → List ℕ → Result (Settled PlanTile) Rule → Result (List ℕ) Halt → PlanTile → Type 0
GivesWhole counting before computed (Ok counts) t =
    (counted : List CountedBool) × (computed ≡ Ok (record { value = t; counted = counted })) × (counts ≡ counted_if counting before counted)
GivesWhole counting before computed (Err e) t = BreaksWhole (rule_of e) computed

---- A tile column ----

-- the code holds what is read of a column
pub record HoldsColumn (shape : Shape) (p : ColumnPlan) (read : Column) : Type 0 where
  pub blocks : planned_blocks shape p.column.grid.from p.column.grid.blocks p.residues ≡ read.blocks
  pub y : p.column.sides.y.above ≡ read.y
  pub u : p.column.sides.u.above ≡ read.u
  pub v : p.column.sides.v.above ≡ read.v

-- its next tile is read, or breaks the rule
abbrev pub GivesNext : Bool → List ℕ → Result (Settled ColumnRead) Rule → Result (List ℕ) Halt → Shape → ColumnPlan → Type 0
GivesNext counting before computed (Ok counts) shape plan =
    (read : Settled ColumnRead) × (computed ≡ Ok read) × HoldsColumn shape plan read.value.column × (counts ≡ counted_if counting before read.counted)
GivesNext counting before computed (Err e) shape plan = BreaksWhole (rule_of e) computed

-- why the n-th tile of a frame isn't planned
abbrev pub unplanned_at : ℕ → Halt → Unplanned
unplanned_at n (halt.Broken rule) = unplanned.Broken n rule
unplanned_at n halt.OutOfMemory = unplanned.OutOfMemory

-- All of its tiles are read, or one breaks the rule. Where memory was wanting, nothing is said.
abbrev pub GivesPlan : Bool → Result (Settled ColumnRead) (ℕ × Rule) → Result (List ℕ) Unplanned → Shape → ColumnPlan → Type 0
GivesPlan counting computed (Ok counts) shape plan =
    (read : Settled ColumnRead) × (computed ≡ Ok read) × HoldsColumn shape plan read.value.column × (counts ≡ counts_if counting read.counted)
GivesPlan counting computed (Err (unplanned.Broken n rule)) shape plan = computed ≡ Err (n, rule)
GivesPlan counting computed (Err unplanned.OutOfMemory) shape plan = Unit {0}

---- A plan of a tile column ----

-- a plan of the k-th tile column, whose tiles are these bytes, is what is read of it
pub record IsPlanAsRead (by : FrameSources) (bytes : ℕ → List ℕ) (k : ℕ) (plan : ColumnPlan) : Type 0 where
  pub read : Settled ColumnRead
  pub says : plan_of by bytes k ≡ Ok read
  pub held : HoldsColumn (shape_of by.header) plan read.value.column
  pub column : IsTileColumn by.header (tile_count by.header) k plan.column
  pub kept : IsKept by.header plan
