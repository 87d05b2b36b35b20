-- What inter blocks say, as it is drawn (6.4.16 to 6.4.18 of the standard: inter_block_mode_info, ref_frames, assign_mv).
use Rattle.std.specs.Prelude.{ℕ, Bool, true, false, ◌&&◌, List, [], ◌∷◌, map, Result, Ok, Err, if◌then◌else◌}
use Rattle.std.specs.Option.{is_some}
use Rattle.vp9_types.specs.declared.block.BlockSize.{BlockSize}
use Rattle.vp9_types.specs.declared.block.InterMode.{InterMode}
use Rattle.vp9_types.specs.declared.block.InterMode.TheVariants.{Zero, New}
use Rattle.vp9_types.specs.declared.block.InterpFilter.{InterpFilter}
use Rattle.vp9_types.specs.declared.block.InterpFilter.TheVariants.{Regular}
use Rattle.vp9_types.specs.declared.block.ReferenceFrame.TheVariants.{Last, Golden, Altref}
use Rattle.vp9_types.specs.declared.block.ReferenceMode.{ReferenceMode}
use Rattle.vp9_types.specs.declared.block.ReferenceMode.TheVariants.{Single, Compound, Selected}
use Rattle.vp9_types.specs.declared.rule.Rule.{Rule}
use Rattle.vp9_tables.specs.SymbolTrees.{filter_tree, inter_mode_tree}
use Rattle.block_geometry.specs.BlockSizes.{is_below_8x8}
use Rattle.block_geometry.specs.Quarters.{starting_quarters, with_part}
use Rattle.block_plan.specs.BlockMvs.{no_vector, vector_at}
use Rattle.block_plan.specs.declared.block.Mv.{Mv}
use Rattle.block_plan.specs.declared.block.ReferenceFrames.{ReferenceFrames}
use Rattle.mv_prediction.specs.Vectors.{is_short_vector}
use Rattle.mv_prediction.specs.declared.search.SignBiases.{SignBiases}
use Rattle.inter_contexts.specs.BlockReferences.{fixed_of, variable_by, with_fixed, single, allowed_or_rule}
use Rattle.inter_modes.specs.ModeInfo.{InterFrame, filter_of_symbol}
use Rattle.inter_modes.specs.BlockVectors.{Sources, best_mv, inter_of}
use Rattle.vector_writer.specs.declared.symbols.InterSymbols.{InterSymbols}
use Rattle.vector_writer.specs.declared.symbols.QuarterSymbols.{QuarterSymbols}
use Rattle.drawn_symbols.specs.Draws.{Drawn, stay, ◌>>=◌, draw_flag, draw_leaf}
use Rattle.drawn_symbols.specs.VectorDraws.{draw_difference}

---- References ----

unfoldable pub draw_is_compound : ReferenceMode → Drawn Bool
draw_is_compound Single = stay false
draw_is_compound Compound = stay true
draw_is_compound Selected = draw_flag

-- the frame's fixed reference, and one of the two others
unfoldable pub draw_compound : SignBiases → Drawn ReferenceFrames
draw_compound biases = draw_flag >>= λ one. stay (with_fixed biases (fixed_of biases) (variable_by (fixed_of biases) one))

unfoldable pub draw_golden_or_altref : Drawn ReferenceFrames
draw_golden_or_altref = draw_flag >>= λ altref. stay (single (if altref then Altref else Golden))

unfoldable pub draw_single : Drawn ReferenceFrames
draw_single = do
  other ← draw_flag
  if other then draw_golden_or_altref else stay (single Last)

unfoldable pub draw_references : ReferenceMode → SignBiases → Drawn ReferenceFrames
draw_references mode biases = do
  compound ← draw_is_compound mode
  if compound then draw_compound biases else draw_single

---- Modes and vectors ----

unfoldable pub draw_inter_mode : Drawn InterMode
draw_inter_mode = draw_leaf inter_mode_tree >>= λ n. stay (inter_of n)

unfoldable pub draw_filter : Drawn InterpFilter
draw_filter = draw_leaf filter_tree >>= λ n. stay (filter_of_symbol n)

-- a new vector's difference from the best one, by which it is told whether bits of high precision are coded; others say none
unfoldable pub draw_new : Bool → InterMode → Mv → Drawn Mv
draw_new allowed New best = draw_difference (allowed && is_short_vector best)
draw_new allowed _ best = stay no_vector

unfoldable pub draw_new_if : Bool → Bool → InterMode → Mv → Drawn Mv
draw_new_if coded allowed mode best = if coded then draw_new allowed mode best else stay no_vector

-- of each reference, by the best vectors
unfoldable pub draw_differences : Bool → List Mv → ReferenceFrames → InterMode → Drawn (List Mv)
draw_differences allowed best refs mode = do
  first ← draw_new allowed mode (vector_at best 0)
  second ← draw_new_if (is_some refs.second) allowed mode (vector_at best 1)
  stay (first ∷ second ∷ [])

unfoldable pub draw_quarter : Bool → List Mv → ReferenceFrames → Drawn QuarterSymbols
draw_quarter allowed best refs = do
  mode ← draw_inter_mode
  differences ← draw_differences allowed best refs mode
  stay (record { mode = mode; differences = differences })

---- Blocks ----

-- a block's, by quarter
abbrev pub symbols_of : ReferenceFrames → InterpFilter → List QuarterSymbols → InterSymbols
symbols_of refs filter quarters = record {
  references = refs;
  filter = filter;
  modes = map (λ q. q.mode) quarters;
  differences = map (λ q. q.differences) quarters;
}

abbrev pub in_all_quarters : QuarterSymbols → List QuarterSymbols
in_all_quarters q = q ∷ q ∷ q ∷ q ∷ []

-- what stands where nothing is coded
abbrev pub no_symbols : QuarterSymbols
no_symbols = record { mode = Zero; differences = no_vector ∷ no_vector ∷ [] }

-- 8x8 or more: the filter stands between mode and vectors
unfoldable pub draw_whole : Bool → List Mv → ReferenceFrames → Drawn InterSymbols
draw_whole allowed best refs = do
  mode ← draw_inter_mode
  filter ← draw_filter
  differences ← draw_differences allowed best refs mode
  stay (symbols_of refs filter (in_all_quarters (record { mode = mode; differences = differences })))

-- of the parts that begin at some quarters, one after another
unfoldable pub draw_each_quarter : Bool → List Mv → ReferenceFrames → BlockSize → List ℕ → List QuarterSymbols → Drawn (List QuarterSymbols)
draw_each_quarter allowed best refs size [] quarters = stay quarters
draw_each_quarter allowed best refs size (k ∷ rest) quarters = do
  q ← draw_quarter allowed best refs
  draw_each_quarter allowed best refs size rest (with_part size k q quarters)

-- below 8x8: the filter, and then the parts
unfoldable pub draw_quarters : Bool → List Mv → ReferenceFrames → BlockSize → Drawn InterSymbols
draw_quarters allowed best refs size = do
  filter ← draw_filter
  quarters ← draw_each_quarter allowed best refs size (starting_quarters size) (in_all_quarters no_symbols)
  stay (symbols_of refs filter quarters)

unfoldable pub draw_modes : Bool → List Mv → ReferenceFrames → BlockSize → Drawn InterSymbols
draw_modes allowed best refs size = if is_below_8x8 size then draw_quarters allowed best refs size else draw_whole allowed best refs

-- what a block says whose references are out of range: nothing more is coded
abbrev pub references_alone : ReferenceFrames → InterSymbols
references_alone refs = symbols_of refs Regular (in_all_quarters no_symbols)

abbrev pub draw_modes_if : Result ReferenceFrames Rule → Sources → ReferenceFrames → Drawn InterSymbols
draw_modes_if (Ok _) s refs = draw_modes s.allowed (best_mv s refs) refs s.search.at.size
draw_modes_if (Err _) s refs = stay (references_alone refs)

-- a block of an inter frame that is inter: its references, and the rest where they are in range
unfoldable pub draw_inter : InterFrame → Sources → Drawn InterSymbols
draw_inter f s = do
  refs ← draw_references f.modes.reference_mode s.search.biases
  draw_modes_if (allowed_or_rule f.header.size f.fields.references refs) s refs
