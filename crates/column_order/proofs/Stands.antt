-- A block stands where it is read, and has a transform that fits it.
use Rattle.std.proofs.Common.{◌≡◌, ℕ, ◌&&◌, not, List, refl, ◌≤◌}
use Rattle.std.specs.Prelude.{IfOk, Option, Result, Ok, Err}
use Rattle.vp9_types.specs.Maps.{Map}
use Rattle.vp9_types.specs.declared.block.BlockSize.{BlockSize}
use Rattle.vp9_types.specs.declared.block.Modes.{Modes}
use Rattle.vp9_types.specs.declared.block.TxMode.{TxMode}
use Rattle.vp9_types.specs.declared.rule.Rule.{Rule}
use Rattle.vp9_tables.specs.BlockTables.{greatest_of}
use Rattle.vp9_tables.specs.Numbers.{tx_number}
use Rattle.frame_headers.specs.declared.header.FrameKind.{FrameKind}
use Rattle.frame_headers.specs.declared.header.FrameKind.TheVariants as frame
use Rattle.frame_headers.specs.declared.header.Header.{Header}
use Rattle.frame_headers.specs.declared.segments.Segmentation.{Segmentation}
use Rattle.prob_contexts.specs.ProbLists.{ContextLists}
use Rattle.block_plan.specs.declared.block.BlockAt.{BlockAt}
use Rattle.block_plan.specs.declared.block.BlockInfo.{BlockInfo}
use Rattle.counting_reader.specs.Counting.{Yields, lifted, settle}
use Rattle.counting_reader.proofs.Yields.{yields_bind}
use Rattle.mode_syntax.specs.IntraModeInfo.{intra_frame_mode_info, mode_info_beside}
use Rattle.inter_modes.specs.ModeInfo.{BlockSources, InterFrame, by_kind, inter_block, inter_frame, inter_frame_block, inter_frame_mode_info, intra_coded_block, intra_frame_block, mode_info}
use Rattle.inter_modes.specs.BlockStarts.{block_start, tx_size}
use Rattle.inter_modes.specs.BlockVectors.{Sources, carried, ◌>>?◌}
use Rattle.inter_modes.specs.declared.starts.BlockStart.{BlockStart}
use Rattle.column_order.proofs.TxFits.{Fits, Reads, allowed_fits, any_bind, either, tx_fits}

pub record StandsAt (at : BlockAt) (b : BlockInfo) : Type 0 where
  pub row : b.row ≡ at.row
  pub col : b.col ≡ at.col
  pub size : b.size ≡ at.size
  pub fits : tx_number b.tx ≤ greatest_of at.size

-- unless a rule is broken
abbrev pub Tells : BlockAt → Result BlockInfo Rule → Type 0
Tells at told = IfOk told (StandsAt at)

---- Intra frames ----

beside : (segmentation : Segmentation) (mode : TxMode) (contexts : ContextLists) (above left : Option BlockInfo) (at : BlockAt)
    → Yields (mode_info_beside segmentation mode contexts above left at) (StandsAt at)
unfolding mode_info_beside settle
beside segmentation mode contexts above left at =
    any_bind _ _ _ (λ segment. any_bind _ _ _ (λ skip. yields_bind _ _ (Fits at.size) (StandsAt at) (tx_fits _ _ _ at.size)
    (λ tx fits. any_bind _ _ _ (λ luma. any_bind _ _ _ (λ chroma. record { row = refl; col = refl; size = refl; fits = fits })))))

intra_frame : (header : Header) (modes : Modes) (contexts : ContextLists) (blocks : List BlockInfo) (at : BlockAt) → Yields (intra_frame_block header modes contexts blocks at) (Tells at)
unfolding intra_frame_block intra_frame_mode_info settle
intra_frame header modes contexts blocks at =
    yields_bind (intra_frame_mode_info header modes contexts blocks at) _ (StandsAt at) (Tells at) (beside _ _ _ _ _ at) (λ b stands. stands)

---- Inter frames ----

some_tx : (mode : TxMode) (contexts : ContextLists) (context : ℕ) (size : BlockSize) (coded : _) → Yields (tx_size mode contexts.tx context size coded) (Fits size)
unfolding tx_size settle
some_tx mode contexts context size coded = either coded _ _ (Fits size) (tx_fits mode contexts.tx context size) (allowed_fits mode size)

start_fits : (segmentation : Segmentation) (mode : TxMode) (contexts : ContextLists) (above left : Option BlockInfo) (size : BlockSize) (least : ℕ)
    → Yields (block_start segmentation mode contexts above left size least) (λ start. Fits size start.tx)
unfolding block_start settle
start_fits segmentation mode contexts above left size least =
    any_bind _ _ _ (λ segment. any_bind _ _ _ (λ skip. any_bind _ _ _ (λ is_inter.
    yields_bind _ _ (Fits size) (λ start. Fits size start.tx) (some_tx mode contexts _ size (not (is_inter && skip))) (λ tx fits. fits))))

carried_on : {A B : Type 0} (f : A → Reads (Result B Rule)) (Q : B → Type 0) → ((x : A) → Yields (f x) (λ r. IfOk r Q)) → (r : Result A Rule) → Yields (carried f r) (λ r. IfOk r Q)
unfolding settle
carried_on f Q h (Ok x) = h x
carried_on f Q h (Err rule) = tt

goes_on : {A B : Type 0} (s : Reads (Result A Rule)) (f : A → Reads (Result B Rule)) (Q : B → Type 0) → ((x : A) → Yields (f x) (λ r. IfOk r Q)) → Yields (s >>? f) (λ r. IfOk r Q)
goes_on s f Q h = any_bind s (carried f) (λ r. IfOk r Q) (carried_on f Q h)

inter_stands : (f : InterFrame) (s : Sources) (above left : Option BlockInfo) (start : BlockStart) → Fits s.search.at.size start.tx
    → Yields (inter_block f s above left start) (Tells s.search.at)
unfolding inter_block settle
inter_stands f s above left start fits =
    goes_on _ _ (StandsAt s.search.at) (λ refs. goes_on _ _ (StandsAt s.search.at) (λ p. record { row = refl; col = refl; size = refl; fits = fits }))

intra_stands : (f : InterFrame) (at : BlockAt) (start : BlockStart) → Fits at.size start.tx → Yields (intra_coded_block f at start) (Tells at)
unfolding intra_coded_block settle
intra_stands f at start fits = any_bind _ _ _ (λ p. record { row = refl; col = refl; size = refl; fits = fits })

inter_beside : (f : InterFrame) (s : Sources) (above left : Option BlockInfo) (least : ℕ) → Yields (inter_frame_block f s above left least) (Tells s.search.at)
unfolding inter_frame_block
inter_beside f s above left least =
    yields_bind (block_start f.header.params.segmentation f.modes.tx_mode f.contexts above left s.search.at.size least) _ (λ start. Fits s.search.at.size start.tx) (Tells s.search.at)
    (start_fits _ _ _ _ _ s.search.at.size least)
    (λ start fits. either start.is_inter _ _ (Tells s.search.at) (inter_stands f s above left start fits) (intra_stands f s.search.at start fits))

inter_stand : (f : InterFrame) (ids : Map) (earlier before : List BlockInfo) (at : BlockAt) → Yields (inter_frame_mode_info f ids earlier before at) (Tells at)
unfolding inter_frame_mode_info
inter_stand f ids earlier before at = inter_beside f _ _ _ _

---- All frames ----

of_kind : (kind : FrameKind) (by : BlockSources) (earlier : List BlockInfo) (at : BlockAt) → Yields (by_kind kind by earlier at) (Tells at)
of_kind (frame.Inter fields) by earlier at = inter_stand (inter_frame by fields) by.segments earlier by.vectors at
of_kind frame.Key by earlier at = intra_frame by.header by.modes by.contexts earlier at
of_kind frame.IntraOnly by earlier at = intra_frame by.header by.modes by.contexts earlier at

pub info_stands : (by : BlockSources) (earlier : List BlockInfo) (at : BlockAt) → Yields (mode_info by earlier at) (Tells at)
unfolding mode_info
info_stands by earlier at = of_kind by.header.kind by earlier at

pub lifted_stands : (at : BlockAt) (told : Result BlockInfo Rule) → Tells at told → Yields (lifted told) (StandsAt at)
unfolding lifted settle
lifted_stands at (Ok b) stands = stands
lifted_stands at (Err rule) stands = tt
