-- What stands next in the lists, if it can be said in its place.
use Rattle.std.specs.Prelude.{Bool, false, ◌&&◌, ◌==◌, ◌+◌, ◌-◌, ℤ, List, map, Option, Some, None, slice_get, if◌then◌else◌}
use Rattle.std.specs.Borrow.{Bor}
use Rattle.vp9_types.specs.declared.block.Modes.{Modes}
use Rattle.vp9_types.specs.declared.block.Partition.{Partition}
use Rattle.vp9_types.specs.declared.shape.Plane.{Plane}
use Rattle.vp9_types.specs.declared.shape.Plane.TheVariants.{Y, U, V}
use Rattle.frame_headers.specs.HeaderState.{shape_of}
use Rattle.frame_headers.specs.declared.header.FrameKind.{FrameKind}
use Rattle.frame_headers.specs.declared.header.FrameKind.TheVariants as frame
use Rattle.frame_headers.specs.declared.header.Header.{Header}
use Rattle.block_plan.specs.InPlanes.{places_in}
use Rattle.block_plan.specs.declared.block.BlockAt.{BlockAt}
use Rattle.block_plan.specs.declared.block.BlockInfo.{BlockInfo}
use Rattle.residue_syntax.specs.BlocksInPlanes.{block_in}
use Rattle.inter_modes.specs.ModeInfo.{InterFrame, sources_of, least_before}
use Rattle.inter_modes.specs.declared.starts.BlockStart.{BlockStart}
use Rattle.inter_writer.specs.declared.frame_blocks.BlockSymbols.{BlockSymbols}
use Rattle.inter_writer.specs.declared.frame_blocks.PredictionSymbols.{PredictionSymbols}
use Rattle.inter_writer.specs.declared.frame_blocks.PredictionSymbols.TheVariants.{Intra, Inter}
use Rattle.residue_writer.specs.declared.levels.BlockLevels.{BlockLevels}
use Rattle.residue_writer.specs.declared.levels.PlaneLevels.{PlaneLevels}
use Rattle.frame_state.specs.Sources.{FrameSources}
use Rattle.frame_writer.specs.FrameSymbols.{Speaker}
use Rattle.listed_symbols.specs.InterTests.{can_put_inter}
use Rattle.listed_symbols.specs.IntraTests.{can_partition, can_luma}
use Rattle.listed_symbols.specs.ListedLevels.{no_levels, with_each}
use Rattle.listed_symbols.specs.StartTests.{can_start_intra}
use Rattle.listed_symbols.specs.declared.lists.ListedBlock.{ListedBlock}
use Rattle.listed_symbols.specs.declared.lists.ListedLevels.{ListedLevels}
use Rattle.listed_symbols.specs.declared.lists.ListedSymbols.{ListedSymbols}

abbrev pub some_if : {A : Type 0} → Bool → A → Option A
some_if test x = if test then Some x else None

infixl 10 ◌>>=◌
abbrev pub ◌>>=◌ : {A B : Type 0} → Option A → (A → Option B) → Option B
(Some x) >>= f = f x
None >>= f = None

---- Partitions ----

abbrev pub partition_told : Bool → Bool → ListedSymbols → Option (Partition × ListedSymbols)
partition_told has_rows has_cols t = do
  partition ← slice_get t.partitions.now t.partitions_told
  some_if (can_partition has_rows has_cols partition) (partition, record t { partitions_told = t.partitions_told + 1 })

---- Modes ----

-- a block of an intra frame (6.4.6)
abbrev pub can_put_intra : Header → Modes → BlockAt → BlockStart → PredictionSymbols → Bool
can_put_intra header modes at start (Intra p) = can_start_intra header.params.segmentation modes.tx_mode at.size start && can_luma at.size p.luma
can_put_intra header modes at start (Inter q) = false

abbrev pub can_put_by : FrameKind → FrameSources → List BlockInfo → BlockAt → BlockStart → PredictionSymbols → Bool
can_put_by (frame.Inter fields) by earlier at start p =
    let f : InterFrame = record { header = by.header; fields = fields; modes = by.modes; contexts = by.contexts } in
    can_put_inter f (sources_of f earlier by.past.vectors at) (least_before by.header by.past.segments at) start p
can_put_by _ by earlier at start p = can_put_intra by.header by.modes at start p

-- a block of any frame, by the blocks before it
abbrev pub can_put : FrameSources → List BlockInfo → BlockAt → BlockSymbols → Bool
can_put by earlier at symbols = can_put_by by.header.kind by earlier at symbols.start symbols.prediction

-- the place in the list is moved on, whether or not the block then breaks a rule
abbrev pub block_told : FrameSources → List BlockInfo → BlockAt → ListedSymbols → Option (BlockSymbols × ListedSymbols)
block_told by earlier at t = do
  block ← slice_get t.blocks.now t.blocks_told
  some_if (can_put by earlier at block.symbols) (block.symbols, record t { blocks_told = t.blocks_told + 1 })

---- Levels ----

abbrev pub lists_in : Bor (List (Bor (List ℤ))) → List (List ℤ)
lists_in lists = map (λ levels. levels.now) lists.now

abbrev pub plane_told : Header → BlockInfo → Plane → List (List ℤ) → Option PlaneLevels
plane_told header b p lists = with_each (block_in header b p) (places_in (shape_of header) b p) 0 lists no_levels

-- the levels of a block whose modes are known
unfoldable pub listed_levels : Header → BlockInfo → ListedLevels → Option BlockLevels
listed_levels header b listed = do
  y ← plane_told header b Y (lists_in listed.y)
  u ← plane_told header b U (lists_in listed.u)
  v ← plane_told header b V (lists_in listed.v)
  Some (record { y = y; u = u; v = v })

-- the block that was told last
abbrev pub last_told : ListedSymbols → Option ListedBlock
last_told t = if t.blocks_told == 0 then None else slice_get t.blocks.now (t.blocks_told - 1)

abbrev pub levels_told : FrameSources → BlockInfo → ListedSymbols → Option (BlockLevels × ListedSymbols)
levels_told by b t = do
  block ← last_told t
  levels ← listed_levels by.header b block.levels
  Some (levels, t)

---- All of it ----

abbrev pub listed : Speaker ListedSymbols
listed = record { partition = partition_told; block = block_told; levels = levels_told }
