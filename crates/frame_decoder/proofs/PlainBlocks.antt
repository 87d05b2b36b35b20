-- A block of a tile whose blocks are put in as they are read.
use Rattle.std.proofs.Common.{◌≡◌, ◌∙◌, ◌++◌, ◌∷◌, [], ℕ, ◌+◌, ◌-◌, refl, ap, Bool, List, sym}
use Rattle.std.specs.Prelude.{IfSome, Ok, Err, None, Option, Result, Some, true}
use Rattle.vp9_types.specs.Maps.{FrameMap}
use Rattle.vp9_types.specs.declared.rule.Rule.{Rule}
use Rattle.vp9_types.specs.declared.shape.Shape.{Shape}
use Rattle.counting_reader.specs.Counting.{Settled, lifted}
use Rattle.counting_reader.specs.Code.{Standing, run_counting}
use Rattle.counting_reader.proofs.CountingRuns.{counting_bind, run_settle}
use Rattle.block_plan.specs.Code.{planned_with}
use Rattle.block_plan.specs.Planned.{PlannedBlock}
use Rattle.block_plan.specs.declared.block.BlockAt.{BlockAt}
use Rattle.block_plan.specs.declared.block.BlockInfo.{BlockInfo}
use Rattle.block_plan.specs.declared.block.Prediction.{Prediction}
use Rattle.block_plan.specs.declared.block.Prediction.TheVariants.{Intra, Inter}
use Rattle.block_plan.specs.declared.residues.BlockResidues.{BlockResidues}
use Rattle.residue_syntax.specs.Residues.{listed}
use Rattle.residue_syntax.specs.Residues as residues
use Rattle.residue_syntax.specs.declared.sides.TileSides.{TileSides}
use Rattle.block_rebuild.specs.RebuiltBlocks.{put_planned, put_by, put_intra}
use Rattle.block_rebuild.specs.InterBlocks.{Rebuilding, predicted_part, put_inter, put_prediction}
use Rattle.inter_modes.specs.ModeInfo.{mode_info}
use Rattle.inter_places.specs.Places.{place_of}
use Rattle.vp9_types.specs.Syntax.{Syntax, broken}
use Rattle.frame_state.specs.Sources.{block_sources, FrameSources}
use Rattle.block_rebuild.specs.Code.{HasReference, HasReferences}
use Rattle.block_rebuild.specs.declared.references.Rebuilding as code
use Rattle.frame_headers.specs.declared.header.FrameKind.TheVariants as frame
use Rattle.frame_headers.specs.declared.header.Header.{Header}
use Rattle.frame_headers.specs.declared.header.InterFields.{InterFields}
use Rattle.inter_contexts.specs.BlockReferences.{second_in_range}
use Rattle.inter_modes.specs.Code.{RefersInRange}
use Rattle.planes.specs.Pictures.{map_of}
use Rattle.planes.specs.declared.picture.Picture.{Picture}
use Rattle.vp9_types.specs.declared.block.ReferenceFrame.{ReferenceFrame}
use Rattle.frame_decoder.specs.ReferencePictures.{HasPictures, has_row, row_width}
use Rattle.frame_decoder.specs.Code.{PlainTile, plain_block}

-- whether a block counts as skipped doesn't matter where it is put in
by_prediction : (by : Rebuilding) (shape : Shape) (tile_from : ℕ) (b : BlockInfo) (any : Bool) (r : BlockResidues) (p : Prediction) (m : FrameMap)
    → put_by by (planned_with shape tile_from b (listed b any) r) p m ≡ put_by by (planned_with shape tile_from b b r) p m
unfolding put_by put_intra put_inter put_prediction predicted_part place_of
by_prediction by shape tile_from b any r (Intra modes) m = refl
by_prediction by shape tile_from b any r (Inter modes) m = refl

pub put_listed : (by : Rebuilding) (shape : Shape) (tile_from : ℕ) (b info : BlockInfo) (any : Bool) (r : BlockResidues) (m new : FrameMap) → info ≡ listed b any
    → new ≡ put_planned by (planned_with shape tile_from b b r) m → new ≡ put_planned by (planned_with shape tile_from b info r) m
put_listed by shape tile_from b info any r m new is put =
    put ∙ sym (by_prediction by shape tile_from b any r b.prediction m) ∙ ap (λ (i : BlockInfo). put_planned by (planned_with shape tile_from b i r) m) (sym is)

abbrev plain : List BlockInfo → TileSides → FrameMap → PlainTile
plain blocks sides map = record { blocks = blocks; sides = sides; map = map }

abbrev modes_of : FrameSources → List BlockInfo → BlockAt → Syntax ℕ Rule (Settled (Result BlockInfo Rule))
modes_of by blocks at = mode_info (block_sources by) blocks at

pub block_read : (by : FrameSources) (put : Rebuilding) (at : BlockAt) (blocks : List BlockInfo) (sides after_it : TileSides) (old new : FrameMap)
    (a b d : Standing) (info : BlockInfo) (planned : PlannedBlock)
    → run_counting (modes_of by blocks at) a ≡ Ok (Ok info, b)
    → run_counting (residues.block_residue by.header by.contexts at.tile_from info sides) b ≡ Ok ((planned, after_it), d)
    → new ≡ put_planned put planned old
    → run_counting (plain_block by put at (plain blocks sides old)) a ≡ Ok (plain (blocks ++ planned.info ∷ []) after_it new, d)
unfolding plain_block lifted
block_read by put at blocks sides after_it old new a b d info planned modes_read residue put_so =
    counting_bind _ _ _ ∙ rw modes_read (counting_bind _ _ _ ∙ rw (run_settle info b) (counting_bind _ _ _ ∙ rw residue (run_settle _ d
    ∙ ap (λ (m : FrameMap). Ok (plain (blocks ++ planned.info ∷ []) after_it m, d)) (sym put_so))))

run_broken : {A : Type 0} (rule : Rule) (m : Standing) → run_counting {A = A} (broken rule) m ≡ Err rule
unfolding run_counting
run_broken rule m = refl

-- its modes break a rule
pub modes_broken : (by : FrameSources) (put : Rebuilding) (at : BlockAt) (blocks : List BlockInfo) (sides : TileSides) (map : FrameMap) (a b : Standing) (rule : Rule)
    → run_counting (modes_of by blocks at) a ≡ Ok (Err rule, b)
    → run_counting (plain_block by put at (plain blocks sides map)) a ≡ Err rule
unfolding plain_block lifted
modes_broken by put at blocks sides map a b rule modes_read =
    counting_bind _ _ _ ∙ rw modes_read (counting_bind _ _ _ ∙ rw (run_broken rule b) refl)

-- its residue does
pub block_broken : (by : FrameSources) (put : Rebuilding) (at : BlockAt) (blocks : List BlockInfo) (sides : TileSides) (map : FrameMap)
    (a b : Standing) (info : BlockInfo) (rule : Rule)
    → run_counting (modes_of by blocks at) a ≡ Ok (Ok info, b)
    → run_counting (residues.block_residue by.header by.contexts at.tile_from info sides) b ≡ Err rule
    → run_counting (plain_block by put at (plain blocks sides map)) a ≡ Err rule
unfolding plain_block lifted
block_broken by put at blocks sides map a b info rule modes_read residue =
    counting_bind _ _ _ ∙ rw modes_read (counting_bind _ _ _ ∙ rw (run_settle info b) (counting_bind _ _ _ ∙ rw residue refl))

-- the pictures that a block refers to are there
second_has : {X : Type 0} (header : Header) (pictures : code.Rebuilding (Picture X)) (fields : InterFields) (second : Option ReferenceFrame) → HasPictures header pictures → header.kind ≡ frame.Inter fields
    → second_in_range header.size fields.references second ≡ true → IfSome second (HasReference has_row row_width map_of pictures)
second_has header pictures fields None all kind range = tt
second_has header pictures fields (Some reference) all kind range = all fields reference kind range

pub has_references : {X : Type 0} (header : Header) (pictures : code.Rebuilding (Picture X)) (p : Prediction) → HasPictures header pictures → RefersInRange header p → HasReferences has_row row_width map_of pictures p
has_references header pictures (Intra modes) all range = tt
has_references header pictures (Inter modes) all range =
    (all range.0 modes.references.first range.1 range.2, second_has header pictures range.0 modes.references.second all range.1 range.3)
