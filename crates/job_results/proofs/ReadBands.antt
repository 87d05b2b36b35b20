-- The bands that a row of superblocks reads of other frames are of frames that slots hold, and lie in them.
use Rattle.std.proofs.Common.{◌≡◌, ◌∙◌, ◌<◌, ◌≤◌, ◌+◌, ◌-◌, ◌/◌, ◌⊎◌, inl, inr, ℕ, zero, suc, Bool, true, false, List, [], ◌∷◌, get_or, length, map, refl, sym, ap, subst, arith}
use Rattle.std.specs.Prelude.{Contains, IfSome, nat_lt, Option, Some, None, Result, Ok, Err, slice_index_or, if◌then◌else◌}
use Rattle.std.specs.List.{All}
use Rattle.std.proofs.lemmas.Bool.{ltb-false}
use Rattle.std.proofs.lemmas.List.Elements.{All-drop, All-map, All-take}
use Rattle.vp9_types.specs.Shapes.{bands_of, mi_rows, plane_height}
use Rattle.vp9_types.specs.Sizes.{superblocks_along}
use Rattle.vp9_types.specs.declared.block.ReferenceFrame.{ReferenceFrame}
use Rattle.vp9_types.specs.declared.block.ReferenceFrame.TheVariants.{Last, Golden, Altref}
use Rattle.vp9_types.specs.declared.job.BandSpan.{BandSpan}
use Rattle.vp9_types.specs.declared.rule.Rule.{Rule}
use Rattle.vp9_types.specs.declared.shape.Plane.{Plane}
use Rattle.vp9_types.specs.declared.shape.Plane.TheVariants.{Y, U, V}
use Rattle.vp9_types.specs.declared.shape.Shape.{Shape}
use Rattle.band_cells.specs.Bands.{Picture as Shown, band_height}
use Rattle.band_needs.proofs.Exact.{needs_are}
use Rattle.band_needs.specs.BandReads.{AreRead, BlocksRead, IsRangeOf, ListReads, ReadsBand, ReadsBy, ReadsRow, part_in}
use Rattle.band_needs.specs.Code.{shapes_of}
use Rattle.band_needs.specs.Needs.{needs_of}
use Rattle.band_needs.specs.Ranges.{needs_at}
use Rattle.band_needs.specs.declared.ranges.BandNeeds.{BandNeeds}
use Rattle.band_needs.specs.declared.ranges.BandRange.{BandRange}
use Rattle.band_references.proofs.Heights.{band_inside, same_height}
use Rattle.block_plan.specs.Planned.{PlannedBlock}
use Rattle.block_plan.specs.declared.block.BlockInfo.{BlockInfo}
use Rattle.block_plan.specs.declared.block.InterPrediction.{InterPrediction}
use Rattle.block_plan.specs.declared.block.Prediction.{Prediction}
use Rattle.block_plan.specs.declared.block.Prediction.TheVariants as prediction
use Rattle.block_rebuild.specs.Laws.{IsRead}
use Rattle.frame_steps.proofs.of_column_order.ColumnFollows.{plan_follows}
use Rattle.counting_reader.specs.Counting.{Settled}
use Rattle.frame_headers.specs.HeaderState.{shape_of}
use Rattle.frame_headers.specs.declared.header.FrameKind.{FrameKind}
use Rattle.frame_headers.specs.declared.header.FrameKind.TheVariants.{Key, IntraOnly, Inter}
use Rattle.frame_headers.specs.declared.header.Header.{Header}
use Rattle.frame_headers.specs.declared.header.InterFields.{InterFields}
use Rattle.frame_headers.specs.declared.header.Reference.{Reference}
use Rattle.frame_output.specs.declared.rendering.Format.{Format}
use Rattle.numbered_frames.specs.frame_state.ColumnPlans.{ColumnRead, plan_of, tile_bytes}
use Rattle.numbered_frames.specs.frame_state.FrameReading.{infos}
use Rattle.frame_steps.specs.Kept.{number_in}
use Rattle.frame_steps.specs.StepResults.{row_needs_of, shapes_by}
use Rattle.inter_contexts.specs.BlockReferences.{reference_in}
use Rattle.inter_places.specs.Places.{place_of}
use Rattle.inter_predict.proofs.Agree.{place_below}
use Rattle.job_order.specs.Needs.{HasBand, IsInSpan}
use Rattle.numbered_frames.specs.Coded.{CodedFrame, IsFrameBefore, coded}
use Rattle.numbered_frames.specs.Films.{Film}
use Rattle.numbered_frames.specs.FrameNumbers.{before}
use Rattle.numbered_frames.specs.NumberedPictures.{pictures}
use Rattle.numbered_frames.proofs.SlotFrames.{slots_hold}
use Rattle.frame_steps.specs.recon_rows.RebuiltRows.{blocks_between}
use Rattle.numbered_frames.specs.seq_decoder.DecoderState.{Picture}
use Rattle.numbered_frames.specs.seq_decoder.Outputs.{Putting}
use Rattle.job_results.specs.Groups.{numbers_in as numbers_from, span_in, spans_in}
use Rattle.job_results.specs.RowReads.{no_spans, reads_from, row_reads, row_spans, span_of, spans_by}
use Rattle.job_results.specs.Slots.{slots_of}
use Rattle.job_results.proofs.CodedFrames.{before_is, coded_by, same_header, slot_at}
use Rattle.job_results.proofs.FrameHeights.{reference_has_row}
use Rattle.job_results.proofs.NamedSlots.{IsNamed, at_mapped, named_in}
use Rattle.job_results.proofs.SlotLists.{in_group_too, slot_in}

---- Bands lie in a frame that has a row ----

some_rows : (s : Shape) (p : Plane) → 1 ≤ s.h → 0 < plane_height s p
some_rows s Y some = omega (arith, some)
some_rows s U some = by s.h s.ss_y some
  where
    by : (n : ℕ) (ss : Bool) → 1 ≤ n → 0 < plane_height (record s { h = n; ss_y = ss }) U
    by n true some = omega (arith, some)
    by n false some = omega (arith, some)
some_rows s V some = by s.h s.ss_y some
  where
    by : (n : ℕ) (ss : Bool) → 1 ≤ n → 0 < plane_height (record s { h = n; ss_y = ss }) V
    by n true some = omega (arith, some)
    by n false some = omega (arith, some)

row_shown : (shape reference : Shape) (b : BlockInfo) (modes : InterPrediction) (p : Plane) (n list y : ℕ) → 1 ≤ reference.h → ReadsRow (place_of shape b modes (part_in p n list) reference) y → y < plane_height reference p
unfolding place_of
row_shown shape reference b modes p n list y some row =
    rw row.is (place_below (place_of shape b modes (part_in p n list) reference).down row.sample row.tap (some_rows reference p some))

list_shown : (shape reference : Shape) (b : BlockInfo) (modes : InterPrediction) (list : ℕ) (p : Plane) (y : ℕ) → 1 ≤ reference.h → ListReads shape reference b modes list p y → y < plane_height reference p
list_shown shape reference b modes list p y some reads = row_shown shape reference b modes p reads.number list y some reads.row

read_shown : (shape : Shape) (shapes : ReferenceFrame → Shape) (b : BlockInfo) (r : ReferenceFrame) (p : Plane) (y : ℕ) (modes : Prediction) → 1 ≤ (shapes r).h → ReadsBy shape shapes b modes r p y
    → y < plane_height (shapes r) p
read_shown shape shapes b r p y (prediction.Intra modes) some reads = absurd reads
read_shown shape shapes b r p y (prediction.Inter modes) some (inl first) = list_shown shape (shapes r) b modes 0 p y some first.1
read_shown shape shapes b r p y (prediction.Inter modes) some (inr second) = list_shown shape (shapes r) b modes 1 p y some second.1

band_shown : (shape : Shape) (shapes : ReferenceFrame → Shape) (b : BlockInfo) (r : ReferenceFrame) (band : ℕ) → 1 ≤ (shapes r).h → ReadsBand shape shapes b r band → band < bands_of (shapes r)
band_shown shape shapes b r band some reads =
    let shown = read_shown shape shapes b r reads.plane reads.row b.prediction some reads.reads in
    let same : band ≡ reads.row / band_height (shapes r) reads.plane = reads.is ∙ ap (λ h. reads.row / h) (same_height (shapes r) reads.plane) in
    subst (λ k. k < bands_of (shapes r)) (sym same) (band_inside (shapes r) reads.plane reads.row shown)

some_block : (blocks : List BlockInfo) (k : ℕ) → k < length blocks → BlockInfo
some_block [] k low = absurd (omega (arith, low))
some_block (b ∷ blocks) k low = b

last_inside : (shape : Shape) (shapes : ReferenceFrame → Shape) (blocks : List BlockInfo) (r : ReferenceFrame) (bands : BandRange) → All (λ b. b.row < mi_rows shape) blocks → 1 ≤ (shapes r).h
    → needs_at (needs_of shape shapes blocks) r ≡ Some bands → bands.last < bands_of (shapes r)
last_inside shape shapes blocks r bands inside some named =
    let range : IsRangeOf (BlocksRead shape shapes blocks (length blocks) r) bands =
    subst (AreRead (BlocksRead shape shapes blocks (length blocks) r)) named (needs_are shape shapes blocks r inside) in
    let d = some_block blocks range.last.block range.last.one in
    band_shown shape shapes (slice_index_or blocks range.last.block d) r bands.last some (range.last.reads d)

---- What a row reads ----

-- blocks of a tile column that is read begin in the frame, also those of one row of superblocks
begin_inside : (c : CodedFrame) (bytes : ℕ → List ℕ) (k r : ℕ) (read : Settled ColumnRead) → plan_of c.by bytes k ≡ Ok read
    → All (λ b. b.row < mi_rows (shape_of c.by.header)) (blocks_between (shape_of c.by.header) r (infos read.value.column.blocks))
begin_inside c bytes k r read is =
    let placed : All (IsRead (shape_of c.by.header)) read.value.column.blocks = (plan_follows c.by bytes k read is).placed in
    let all : All (λ (b : BlockInfo). b.row < mi_rows (shape_of c.by.header)) (infos read.value.column.blocks) =
    All-map (λ (b : BlockInfo). b.row < mi_rows (shape_of c.by.header)) (λ (b : PlannedBlock). b.info) read.value.column.blocks (λ n d low. (placed n d low).placed.row) in
    All-take (λ b. b.row < mi_rows (shape_of c.by.header)) _ _ (All-drop (λ b. b.row < mi_rows (shape_of c.by.header)) _ (infos read.value.column.blocks) all)

pub shapes_are : (kind : FrameKind) (fields : InterFields) (reference : ReferenceFrame) → kind ≡ Inter fields → shapes_of (shapes_by kind) reference ≡ (reference_in fields.references reference).shape
shapes_are kind fields Last is = ap (λ (k : FrameKind). shapes_of (shapes_by k) Last) is
shapes_are kind fields Golden is = ap (λ (k : FrameKind). shapes_of (shapes_by k) Golden) is
shapes_are kind fields Altref is = ap (λ (k : FrameKind). shapes_of (shapes_by k) Altref) is

module _ (format : Format) (film : Film) where
  -- a slot holds the frame before frame f, which has the band
  abbrev pub IsReadRight : ℕ → ℕ → ℕ → Type 0
  IsReadRight f g band = Contains (slots_of (before format film f)) g × (band < superblocks_along (mi_rows (pictures format film g).shape))

  slots_are : (f g : ℕ) (p : Putting) (picture : Picture) (slot : ℕ) → before format film f ≡ Some p → slice_index_or p.state.slots slot None ≡ Some picture → picture.frame ≡ g → Contains (slots_of (before format film f)) g
  slots_are f g p picture slot from held same =
      subst (λ (o : Option Putting). Contains (slots_of o) g) (sym from) (subst (λ n. Contains (slots_of (Some p)) n) same (slot_in p.state.slots slot picture held))

  module _ (f k r : ℕ) (c : CodedFrame) (read : Settled ColumnRead) (is : coded format film f ≡ Some c) (plans : plan_of c.by (tile_bytes c.bytes c.spans) k ≡ Ok read) where
    abbrev needs : BandNeeds
    needs = row_needs_of c.header r (infos read.value.column.blocks)

    low_of : (fields : InterFields) (reference : ReferenceFrame) (bands : BandRange) → c.header.kind ≡ Inter fields → needs_at needs reference ≡ Some bands
        → bands.last < bands_of (reference_in fields.references reference).shape
    low_of fields reference bands kind named =
        let own : c.by.header ≡ c.header = same_header _ _ c (coded_by format film f c is) in
        let shapes = shapes_of (shapes_by c.header.kind) in
        let begins : All (λ b. b.row < mi_rows (shape_of c.header)) (blocks_between (shape_of c.header) r (infos read.value.column.blocks)) =
        subst (λ (h : Header). All (λ b. b.row < mi_rows (shape_of h)) (blocks_between (shape_of h) r (infos read.value.column.blocks))) own (begin_inside c (tile_bytes c.bytes c.spans) k r read plans) in
        let same : shapes reference ≡ (reference_in fields.references reference).shape = shapes_are c.header.kind fields reference kind in
        let some : 1 ≤ (shapes reference).h = subst (λ (s : Shape). 1 ≤ s.h) (sym same) (reference_has_row format film f c fields reference is kind) in
        subst (λ (s : Shape). bands.last < bands_of s) same
        (last_inside (shape_of c.header) shapes (blocks_between (shape_of c.header) r (infos read.value.column.blocks)) reference bands begins some named)

    span_right : (fields : InterFields) (reference : ReferenceFrame) (o : Option BandRange) (g band : ℕ) → c.header.kind ≡ Inter fields → needs_at needs reference ≡ o
        → (named : IsNamed c (reference_in fields.references reference)) → IsInSpan (span_of (Some named.picture.frame) o) g band → IsReadRight f g band
    span_right fields reference None g band kind needed named h = absurd h
    span_right fields reference (Some bands) g band kind needed named h =
        let by = coded_by format film f c is in
        let slot = (reference_in fields.references reference).slot in
        let own : IsFrameBefore format film f named.picture = slot_at (λ x. IfSome x (IsFrameBefore format film f)) c.kept.state.slots slot named.picture (slots_hold format film f c.kept by.before) named.held in
        let shape : (reference_in fields.references reference).shape ≡ (pictures format film g).shape =
        sym named.shape ∙ (before_is format film f named.picture own).shape ∙ ap (λ n. (pictures format film n).shape) h.0 in
        let low : bands.last < bands_of (pictures format film g).shape = subst (λ (s : Shape). bands.last < bands_of s) shape (low_of fields reference bands kind needed) in
        (slots_are f g c.kept named.picture slot by.before named.held h.0, omega (arith, low, h.2))

    one_right : (fields : InterFields) (reference : ReferenceFrame) (g band : ℕ) → c.header.kind ≡ Inter fields
        → IsInSpan (span_of (slice_index_or (map number_in c.kept.state.slots) (reference_in fields.references reference).slot None) (needs_at needs reference)) g band → IsReadRight f g band
    one_right fields reference g band kind h =
        let named = named_in _ _ c fields reference (coded_by format film f c is) kind in
        let number : slice_index_or (map number_in c.kept.state.slots) (reference_in fields.references reference).slot None ≡ Some named.picture.frame =
        at_mapped number_in refl c.kept.state.slots (reference_in fields.references reference).slot ∙ ap number_in named.held in
        span_right fields reference (needs_at needs reference) g band kind refl named (subst (λ (o : Option ℕ). IsInSpan (span_of o (needs_at needs reference)) g band) number h)

    no_band : (g band : ℕ) → HasBand no_spans g band → ⊥
    no_band g band (inl h) = h
    no_band g band (inr (inl h)) = h
    no_band g band (inr (inr (inl h))) = h
    no_band g band (inr (inr (inr h))) = h

    kind_right : (kind : FrameKind) (g band : ℕ) → c.header.kind ≡ kind → HasBand (spans_by (map number_in c.kept.state.slots) kind needs) g band → IsReadRight f g band
    kind_right Key g band same h = absurd (no_band g band h)
    kind_right IntraOnly g band same h = absurd (no_band g band h)
    kind_right (Inter fields) g band same (inl h) = one_right fields Last g band same h
    kind_right (Inter fields) g band same (inr (inl h)) = one_right fields Golden g band same h
    kind_right (Inter fields) g band same (inr (inr (inl h))) = one_right fields Altref g band same h
    kind_right (Inter fields) g band same (inr (inr (inr h))) = absurd h

  row_right : (f k r : ℕ) (c : CodedFrame) (o : Result (Settled ColumnRead) (ℕ × Rule)) (g band : ℕ) → coded format film f ≡ Some c → plan_of c.by (tile_bytes c.bytes c.spans) k ≡ o → HasBand (row_spans c r o) g band
      → IsReadRight f g band
  row_right f k r c (Ok read) g band is plans h = kind_right f k r c read is plans c.header.kind g band refl h
  row_right f k r c (Err stop) g band is plans h = absurd (none g band h)
    where
      none : (g band : ℕ) → HasBand no_spans g band → ⊥
      none g band (inl h) = h
      none g band (inr (inl h)) = h
      none g band (inr (inr (inl h))) = h
      none g band (inr (inr (inr h))) = h

  coded_right : (f k r : ℕ) (o : Option CodedFrame) (g band : ℕ) → coded format film f ≡ o → HasBand (reads_from o k r) g band → IsReadRight f g band
  unfolding row_reads
  coded_right f k r None g band is h = absurd h
  coded_right f k r (Some c) g band is h = row_right f k r c (plan_of c.by (tile_bytes c.bytes c.spans) k) g band is refl h

  -- a band that a row of frame f reads
  pub reads_right : (f k r g band : ℕ) → HasBand (reads_from (coded format film f) k r) g band → IsReadRight f g band
  reads_right f k r g band h = coded_right f k r (coded format film f) g band refl h

---- Of a group ----

-- a band of a frame of the group is that of the film's frame
span_out : (n : ℕ) (s : BandSpan) (g band : ℕ) (low : Bool) → nat_lt s.frame n ≡ low → IsInSpan (if low then None else Some (record { frame = s.frame - n; first = s.first; last = s.last })) g band → IsInSpan (Some s) (n + g) band
span_out n s g band true is h = absurd h
span_out n s g band false is h = (let low = ltb-false s.frame n is in let same = h.0 in omega (arith, low, same), h.1, h.2)

one_out : (n : ℕ) (o : Option BandSpan) (g band : ℕ) → IsInSpan (span_in n o) g band → IsInSpan o (n + g) band
one_out n None g band h = absurd h
one_out n (Some s) g band h = span_out n s g band (nat_lt s.frame n) refl h

spans_out : (n : ℕ) (spans : List (Option BandSpan)) (g band : ℕ) → HasBand (spans_in n spans) g band → HasBand spans (n + g) band
spans_out n [] g band h = absurd h
spans_out n (o ∷ spans) g band (inl h) = inl (one_out n o g band h)
spans_out n (o ∷ spans) g band (inr h) = inr (spans_out n spans g band h)

pub group_reads : (n : ℕ) (format : Format) (film : Film) (f k r g band : ℕ) → HasBand (spans_in n (reads_from (coded format film (n + f)) k r)) g band
    → Contains (numbers_from n (slots_of (before format film (n + f)))) g × (band < superblocks_along (mi_rows (pictures format film (n + g)).shape))
group_reads n format film f k r g band h =
    let right = reads_right format film (n + f) k r (n + g) band (spans_out n (reads_from (coded format film (n + f)) k r) g band h) in
    (in_group_too n (slots_of (before format film (n + f))) g right.0, right.1)
