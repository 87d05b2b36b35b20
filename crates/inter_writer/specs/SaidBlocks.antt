-- The block that its symbols say (6.4.11 and 6.4.16 of the standard: inter_frame_mode_info, inter_block_mode_info).
use Rattle.std.specs.Prelude.{◌≡◌, List, Result, Ok}
use Rattle.vp9_types.specs.Results.{◌>>=◌}
use Rattle.vp9_types.specs.declared.rule.Rule.{Rule}
use Rattle.frame_headers.specs.declared.header.FrameKind.{FrameKind}
use Rattle.frame_headers.specs.declared.header.FrameKind.TheVariants as frame
use Rattle.block_plan.specs.declared.block.BlockAt.{BlockAt}
use Rattle.block_plan.specs.declared.block.BlockInfo.{BlockInfo}
use Rattle.block_plan.specs.declared.block.Prediction.TheVariants as prediction
use Rattle.inter_contexts.specs.BlockReferences.{allowed_or_rule}
use Rattle.inter_modes.specs.ModeInfo.{BlockSources, inter_frame, InterFrame, sources_of, block_with}
use Rattle.inter_modes.specs.BlockVectors.{Sources}
use Rattle.inter_modes.specs.declared.starts.BlockStart.{BlockStart}
use Rattle.vector_writer.specs.SaidVectors.{inter_said}
use Rattle.vector_writer.specs.declared.symbols.InterSymbols.{InterSymbols}
use Rattle.inter_writer.specs.declared.frame_blocks.BlockSymbols.{BlockSymbols}
use Rattle.inter_writer.specs.declared.frame_blocks.PredictionSymbols.{PredictionSymbols}
use Rattle.inter_writer.specs.declared.frame_blocks.PredictionSymbols.TheVariants.{Intra, Inter}

-- an inter block: its references must be in range, and its vectors
unfoldable pub inter_block_said : InterFrame → Sources → BlockStart → InterSymbols → Result BlockInfo Rule
inter_block_said f s start q =
    allowed_or_rule f.header.size f.fields.references q.references
    >>= λ refs. inter_said s q >>= λ p. Ok (block_with s.search.at start (prediction.Inter p))

-- a block of an inter frame
abbrev pub block_said : InterFrame → Sources → BlockStart → PredictionSymbols → Result BlockInfo Rule
block_said f s start (Intra p) = Ok (block_with s.search.at start (prediction.Intra p))
block_said f s start (Inter q) = inter_block_said f s start q

-- a block of an intra frame is intra
abbrev pub IsSaidIntra : BlockAt → BlockStart → PredictionSymbols → Result BlockInfo Rule → Type 0
IsSaidIntra at start (Intra p) r = r ≡ Ok (block_with at start (prediction.Intra p))
IsSaidIntra at start (Inter q) r = ⊥

-- a block of any frame
abbrev pub IsSaidBy : FrameKind → BlockSources → List BlockInfo → BlockAt → BlockStart → PredictionSymbols → Result BlockInfo Rule → Type 0
IsSaidBy (frame.Inter fields) by earlier at start p r = r ≡ block_said (inter_frame by fields) (sources_of (inter_frame by fields) earlier by.vectors at) start p
IsSaidBy _ by earlier at start p r = IsSaidIntra at start p r

abbrev pub IsSaid : BlockSources → List BlockInfo → BlockAt → BlockSymbols → Result BlockInfo Rule → Type 0
IsSaid by earlier at symbols r = IsSaidBy by.header.kind by earlier at symbols.start symbols.prediction r
