-- The walk that plans is the definition's.
use Rattle.std.proofs.Common.{◌≡◌, ◌++◌, ◌∷◌, [], ℕ, refl, ap, List, append_assoc}
use Rattle.counting_reader.specs.Counting.{lifted, settle, mapped}
use Rattle.counting_reader.proofs.Mapped.{mapped_after}
use Rattle.block_geometry.specs.declared.transform_blocks.FramePlaces.{FramePlaces}
use Rattle.block_plan.specs.Planned.{PlannedBlock}
use Rattle.block_plan.specs.declared.block.BlockAt.{BlockAt}
use Rattle.residue_syntax.specs.Residues as residues
use Rattle.inter_modes.specs.ModeInfo.{mode_info}
use Rattle.mode_syntax.specs.Laws.{squares_from}
use Rattle.mode_syntax.specs.Walk.{decode_tile}
use Rattle.mode_syntax.proofs.Mapped.{tile_everywhere}
use Rattle.frame_state.specs.FrameReading.{TileRead, infos, read_block, read_walk}
use Rattle.frame_state.specs.Sources.{block_sources, FrameSources}
use Rattle.frame_state.specs.declared.tile_places.TilePlaces.{TilePlaces}
use Rattle.tile_syntax.specs.Code.{plan_block, plan_view, plan_walk}

block_seen : (by : FrameSources) (at : BlockAt) (s : TileRead) → plan_block by at (plan_view s) ≡ mapped plan_view (read_block by at s)
unfolding plan_block read_block settle mapped
block_seen by at s =
    mapped_after plan_view (mode_info (block_sources by) (infos (s.earlier ++ s.blocks)) at) _ _
    (λ told. mapped_after plan_view (lifted told) _ _
    (λ info. mapped_after plan_view (residues.block_residue by.header by.contexts at.tile_from info s.sides) _ _
    (λ read. ap (λ (bs : List PlannedBlock). settle (record { blocks = bs; sides = read.1 })) (append_assoc s.earlier s.blocks (read.0 ∷ [])))))

pub tile_seen : (by : FrameSources) (frame : FramePlaces) (tile : TilePlaces) (columns r c n : ℕ) (s : TileRead)
    → decode_tile (plan_walk by frame tile.col_from tile.col_to) (squares_from (read_walk by frame tile) columns r c n) (plan_view s) ≡ mapped plan_view (decode_tile (read_walk by frame tile) (squares_from (read_walk by frame tile) columns r c n) s)
tile_seen by frame tile columns r c n s =
    tile_everywhere (read_walk by frame tile) (plan_block by) (λ s. infos s.blocks) plan_view (λ at s. block_seen by at s) (λ s. refl) columns r c n s
