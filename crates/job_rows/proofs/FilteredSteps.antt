-- Rows of superblocks that are lent, and how a row is filtered with them.
use Rattle.std.proofs.Common.{◌≡◌, ◌∙◌, ◌<◌, ◌≤◌, ◌+◌, ◌-◌, ◌/◌, ◌^◌, inl, inr, ℕ, List, [], ◌∷◌, ◌++◌, length, get_or, map, refl, sym, ap, subst, arith, Bor}
use Rattle.std.specs.Prelude.{Option, Some, None, Ok, IsSome}
use Rattle.std.specs.Arc.{arc_value}
use Rattle.std.proofs.Math.Seq.{get_or-append_seam}
use Rattle.std.proofs.lemmas.Bool.{cases_lt}
use Rattle.std.proofs.lemmas.List.{get_or_append_left, length-append, length-map, map_push}
use Rattle.vp9_types.specs.Maps.{FrameMap}
use Rattle.vp9_types.specs.Shapes.{mi_cols, mi_rows}
use Rattle.vp9_types.specs.Sizes.{superblocks_along}
use Rattle.vp9_types.specs.declared.shape.Shape.{Shape}
use Rattle.block_plan.specs.declared.block.BlockInfo.{BlockInfo}
use Rattle.planes.specs.Pictures.{FitsPlanes, blank}
use Rattle.planes.specs.declared.frame_planes.FramePlanes.{FramePlanes}
use Rattle.band_cells.specs.Bands as bands
use Rattle.block_rebuild.specs.Strips.{with_blocks}
use Rattle.counting_reader.specs.Counting.{Settled}
use Rattle.frame_headers.specs.FrameSizes.{IsFrameSize}
use Rattle.frame_headers.specs.Spans.{tile_count, tile_spans}
use Rattle.frame_headers.specs.HeaderState.{shape_of}
use Rattle.frame_headers.specs.declared.header.FrameSize.{FrameSize}
use Rattle.frame_headers.specs.declared.header.Header.{Header}
use Rattle.frame_output.specs.declared.rendering.Format.{Format}
use Rattle.job_results.specs.frame_decoder.DecodedFrames.{raw, rebuilding}
use Rattle.loop_edges.specs.Cells.{setting_of}
use Rattle.loop_edges.specs.FrameEdges.{filtered_frame}
use Rattle.loop_edges.specs.declared.setting.EdgeSetting.{EdgeSetting}
use Rattle.loop_filter.specs.Code.{AllFit}
use Rattle.filter_rows.specs.Buffer.{AwaitsRow, HasFiltered}
use Rattle.filtered_rows.specs.Buffers.{IsFilteredAbove, StandsAbove}
use Rattle.filtered_rows.specs.BufferRows.{HasFinalRows, HoldRows, IsFiltered}
use Rattle.filtered_rows.proofs.Finals.{filtered_is_final}
use Rattle.filtered_rows.proofs.Held.{one_more_holds}
use Rattle.job_results.specs.frame_state.KeptColumns.{blocks_of}
use Rattle.job_results.specs.frame_state.declared.columns.TileColumn.{TileColumn}
use Rattle.job_results.specs.frame_state.ColumnPlans.{ColumnRead, plan_of, tile_bytes}
use Rattle.job_results.specs.frame_state.FrameReading.{FrameRead, all_blocks, blocks_read}
use Rattle.job_results.proofs.of_frame_state.ColumnBlocks.{all_fit}
use Rattle.job_results.proofs.of_frame_state.PlanReads.{reads_columns}
use Rattle.job_results.specs.column_order.ColumnStrips.{column_from, column_to}
use Rattle.column_strips.specs.Laws.{AreColumnStrips}
use Rattle.column_strips.specs.StripRows.{AreRow}
use Rattle.column_strips.proofs.RowOfStrips.{row_is}
use Rattle.column_strips.specs.recon_rows.OwnStrips.{HoldsStrip}
use Rattle.job_results.specs.seq_decoder.After.{last_of}
use Rattle.job_results.specs.seq_decoder.Code.{last_held, last_of_code}
use Rattle.job_results.specs.seq_decoder.Outputs.{Putting}
use Rattle.job_results.specs.seq_decoder.DecoderState.{LastFrame}
use Rattle.job_results.specs.seq_decoder.declared.last.LastFrame as code_last
use Rattle.job_results.specs.numbered_frames.Coded.{CodedFrame, coded, read_of, references, result_of}
use Rattle.job_results.specs.numbered_frames.NumberedPictures.{pictures}
use Rattle.job_results.specs.frame_steps.declared.beginning.BegunFrame.{BegunFrame}
use Rattle.job_results.specs.Lent.{IsBegunFrame}
use Rattle.job_results.specs.JobResults.{IsBuiltAs, IsClosedAs, IsFilteredAs, IsStripAs}
use Rattle.job_results.specs.declared.result.ClosedFrame.{ClosedFrame}
use Rattle.job_rows.specs.LentRows.{AreStrips, IsFilteredOver, raw_from, raw_frame, raw_read}
use Rattle.job_results.proofs.CodedFrames.{CodedBy, coded_by, inner, picture_is, same_coded, same_header}
use Rattle.job_rows.proofs.CodedFrames.{last_is}
use Rattle.job_results.specs.numbered_frames.Films.{Film}

same_read : (c : CodedFrame) (a b : FrameRead) → read_of c ≡ Ok a → read_of c ≡ Ok b → a ≡ b
same_read c a b is also = let same : ◌≡◌ {A = _} (Ok a) (Ok b) = sym is ∙ also in cc

---- Filtered rows are the picture's ----

result_by : (c : CodedFrame) (read : FrameRead) (h : Header) → h ≡ c.header
    → filtered_frame (setting_of h) (all_blocks (blocks_read read)) (raw (rebuilding h (references c)) read.blocks) ≡ filtered_frame (setting_of c.header) (all_blocks (blocks_read read)) (raw (rebuilding c.header (references c)) read.blocks)
result_by c read h same = ap (λ (x : Header). filtered_frame (setting_of x) (all_blocks (blocks_read read)) (raw (rebuilding x (references c)) read.blocks)) same

pub row_is_final : {X : Type 0} (format : Format) (film : Film) (f : ℕ) (c : CodedFrame) (row : ℕ) (planes : FramePlanes X) → coded format film f ≡ Some c → IsFilteredAs c row planes
    → HasFinalRows (pictures format film f) row planes
row_is_final format film f c row planes is h =
    let by = coded_by format film f c is in
    let picture = picture_is format film f c h.read is h.reads in
    let samples : (pictures format film f).map ≡ filtered_frame (setting_of c.header) (all_blocks (blocks_read h.read)) (raw (rebuilding c.header (references c)) h.read.blocks) =
    ap (λ (p : bands.Picture). p.map) picture ∙ result_by c h.read c.by.header (same_header _ _ c by) in
    let of : IsFiltered (setting_of c.header) (all_blocks (blocks_read h.read)) (raw (rebuilding c.header (references c)) h.read.blocks) (pictures format film f) = record {
      shape = sym (ap (λ (p : bands.Picture). p.shape) picture);
      map = λ plane y x low inner. ap (λ (m : FrameMap). m plane y x) samples;
    } in
    filtered_is_final (setting_of c.header) (all_blocks (blocks_read h.read)) (raw (rebuilding c.header (references c)) h.read.blocks) (pictures format film f) row planes of h.holds

lent_more : {X : Type 0} (lent all : List (Bor (FramePlanes X))) (one : Bor (FramePlanes X)) → all ≡ lent ++ one ∷ [] → map (λ b. b.now) all ≡ map (λ b. b.now) lent ++ one.now ∷ []
lent_more {X} lent all one is = ap (λ (l : List (Bor (FramePlanes X))). map (λ b. b.now) l) is ∙ map_push (λ (b : Bor (FramePlanes X)). b.now) lent one

-- one more of them
pub one_more_held : {X : Type 0} (picture : bands.Picture) (first row : ℕ) (lent all : List (Bor (FramePlanes X))) (one : Bor (FramePlanes X)) → all ≡ lent ++ one ∷ [] → length lent ≡ row - first → first ≤ row
    → row < superblocks_along (mi_rows picture.shape) → HoldRows picture first (map (λ b. b.now) lent) → HasFinalRows picture row one.now → HoldRows picture first (map (λ b. b.now) all)
one_more_held {X} picture first row lent all one is many order low held final =
    let long = length-map lent (λ b. b.now) in
    let at : row ≡ first + length (map (λ b. b.now) lent) = omega (arith, many, order, long) in
    let more = one_more_holds picture first (map (λ b. b.now) lent) one.now held (omega (arith, at, low)) (subst (λ n. HasFinalRows picture n one.now) at final) in
    subst (HoldRows picture first) (sym (lent_more lent all one is)) more

---- Strips ----

pub one_more_strip : {X : Type 0} (c : CodedFrame) (k row : ℕ) (lent all : List (Bor (FramePlanes X))) (one : Bor (FramePlanes X)) → all ≡ lent ++ one ∷ [] → AreStrips c k row (map (λ b. b.now) lent)
    → IsStripAs c k row one.now → AreStrips c (k + 1) row (map (λ b. b.now) all)
one_more_strip {X} c k row lent all one is strips more =
    let xs = map (λ b. b.now) lent in
    subst (AreStrips c (k + 1) row) (sym (lent_more lent all one is)) (record {
      many = omega (arith, length-append xs (one.now ∷ []), strips.many);
      each = λ j d low. elim (cases_lt j (length xs)) [
        | inl below ↦ subst (IsStripAs c j row) (sym (get_or_append_left xs (one.now ∷ []) d j below)) (strips.each j d below)
        | inr above ↦
            let at : j ≡ length xs = omega (arith, low, above, length-append xs (one.now ∷ [])) in
            let last : k ≡ j = omega (arith, at, strips.many) in
            subst (IsStripAs c j row) (sym (ap (λ n. get_or (xs ++ one.now ∷ []) n d) at ∙ get_or-append_seam xs one.now [] d)) (subst (λ n. IsStripAs c n row one.now) last more)
      ];
    })

pub no_strips : {X : Type 0} (c : CodedFrame) (row : ℕ) (lent : List (Bor (FramePlanes X))) → lent ≡ [] → AreStrips c 0 row (map (λ b. b.now) lent)
no_strips {X} c row lent none = subst (λ (l : List (Bor (FramePlanes X))). AreStrips c 0 row (map (λ b. b.now) l)) (sym none) (record { many = refl; each = λ j d low. absurd (omega (arith, low)) })

pub pushed_many : {X : Type 0} (xs all : List X) (x : X) → all ≡ xs ++ x ∷ [] → length all ≡ length xs + 1
pushed_many xs all x is = rw is (length-append xs (x ∷ []))

raw_is_with : (c : CodedFrame) (read : FrameRead) → with_blocks (rebuilding c.header (references c)) blank read.blocks ≡ raw (rebuilding c.header (references c)) read.blocks
unfolding with_blocks raw
raw_is_with c read = refl

strip_of : {X : Type 0} (c : CodedFrame) (k row : ℕ) (read : Settled ColumnRead) (f : FramePlanes X) → c.by.header ≡ c.header → plan_of c.by (tile_bytes c.bytes c.spans) k ≡ Ok read → IsStripAs c k row f
    → HoldsStrip (rebuilding c.by.header (references c)) (column_from c.by.header k) (column_to c.by.header k) row read.value.column.blocks f
strip_of c k row read f same reads h =
    let one : h.read ≡ read = (let all : ◌≡◌ {A = _} (Ok h.read) (Ok read) = sym h.reads ∙ reads in cc) in
    subst (λ (x : Header). HoldsStrip (rebuilding x (references c)) (column_from x k) (column_to x k) row read.value.column.blocks f) (sym same)
    (subst (λ (s : Settled ColumnRead). HoldsStrip (rebuilding c.header (references c)) (column_from c.header k) (column_to c.header k) row s.value.column.blocks f) one h.holds)

-- the strips of all tile columns are a row of the frame
pub strips_are_row : {X : Type 0} (from : Option Putting) (frame : Option (List ℕ)) (c : CodedFrame) (read : FrameRead) (columns row : ℕ) (strips : List (FramePlanes X)) → CodedBy from frame c → read_of c ≡ Ok read
    → columns ≡ 2 ^ c.header.params.tiles.columns_log2 → row < superblocks_along (mi_rows (shape_of c.header)) → AreStrips c columns row strips
    → AreRow (shape_of c.header) (raw (rebuilding c.header (references c)) read.blocks) row strips
strips_are_row from frame c read columns row strips by reads all low are =
    let same = same_header from frame c by in
    let cut : tile_spans c.bytes c.by.header c.compressed ≡ Ok c.spans = ap (λ (h : Header). tile_spans c.bytes h c.compressed) same ∙ by.spans in
    let plans = reads_columns c.by c.bytes c.compressed c.spans read cut reads in
    let wide : columns ≡ 2 ^ c.by.header.params.tiles.columns_log2 = all ∙ sym (ap (λ (h : Header). 2 ^ h.params.tiles.columns_log2) same) in
    let strips_of : AreColumnStrips (rebuilding c.by.header (references c)) c.by plans.0 row strips = record {
      many = are.many ∙ wide;
      each = λ k d there. strip_of c k row (plans.0 k) (get_or strips k d) same (plans.1 k) (are.each k d there);
    } in
    let made = row_is c.by c.bytes c.compressed read plans.0 (references c) row strips
    (record { spans = c.spans; cut = cut; frame = reads; columns = λ k there. plans.1 k }) (subst (λ (h : Header). row < superblocks_along (mi_rows (shape_of h))) (sym same) low) strips_of in
    subst (λ (m : FrameMap). AreRow (shape_of c.header) m row strips) (raw_is_with c read)
    (subst (λ (h : Header). AreRow (shape_of h) (with_blocks (rebuilding h (references c)) blank read.blocks) row strips) same made)

---- The blocks of a frame that is closed ----

-- they are its own, and have its places
pub record IsLastOf (c : CodedFrame) (read : FrameRead) (last : code_last.LastFrame) : Type 0 where
  pub size : last.header.size ≡ c.header.size
  pub blocks : all_blocks (blocks_of last.columns.items) ≡ all_blocks (blocks_read read)

some_last : (o : Option code_last.LastFrame) (last : LastFrame) → last_held o ≡ Some last → IsSome o
some_last None last is = absurd cc
some_last (Some x) last is = refl

held_last : (format : Format) (film : Film) (f : ℕ) (c : CodedFrame) (read : FrameRead) (k : ClosedFrame) → coded format film f ≡ Some c → read_of c ≡ Ok read → IsClosedAs format film f k
    → last_held (arc_value k.kept.last) ≡ Some (last_of c.header (result_of c read))
held_last format film f c read k is reads right = right.stands.last ∙ last_is format film f c read right.next is reads right.reached

pub last_there : (format : Format) (film : Film) (f : ℕ) (c : CodedFrame) (read : FrameRead) (k : ClosedFrame) → coded format film f ≡ Some c → read_of c ≡ Ok read → IsClosedAs format film f k
    → IsSome (arc_value k.kept.last)
last_there format film f c read k is reads right = some_last (arc_value k.kept.last) _ (held_last format film f c read k is reads right)

pub last_of_frame : (format : Format) (film : Film) (f : ℕ) (c : CodedFrame) (read : FrameRead) (k : ClosedFrame) (last : code_last.LastFrame) → coded format film f ≡ Some c → read_of c ≡ Ok read → IsClosedAs format film f k
    → arc_value k.kept.last ≡ Some last → IsLastOf c read last
last_of_frame format film f c read k last is reads right there =
    let all : Some (last_of_code last) ≡ Some (last_of c.header (result_of c read)) = sym (ap last_held there) ∙ held_last format film f c read k is reads right in
    let same : last_of_code last ≡ last_of c.header (result_of c read) = inner (last_of_code last) (last_of c.header (result_of c read)) all in
    record { size = ap (λ (l : LastFrame). l.size) same; blocks = ap (λ (l : LastFrame). l.blocks) same }

pub columns_of_close : (format : Format) (film : Film) (f : ℕ) (c : CodedFrame) (k : ClosedFrame) → coded format film f ≡ Some c → IsClosedAs format film f k → k.columns ≡ 2 ^ c.header.params.tiles.columns_log2
columns_of_close format film f c k is right = built (coded format film f) is right.built
  where
    built : (o : Option CodedFrame) → o ≡ Some c → IsBuiltAs o k → k.columns ≡ 2 ^ c.header.params.tiles.columns_log2
    built None same h = absurd cc
    built (Some d) same h = let one : d ≡ c = cc in h.0 ∙ ap (λ (x : CodedFrame). 2 ^ x.header.params.tiles.columns_log2) one

---- Filtering ----

-- how a frame has begun is by its header
pub header_of : (format : Format) (film : Film) (f : ℕ) (c : CodedFrame) (b : BegunFrame) → coded format film f ≡ Some c → IsBegunFrame format film f b → b.setting.header ≡ c.header
header_of format film f c b is begun = begun.2.header ∙ ap (λ (d : CodedFrame). d.header) (same_coded (coded format film f) begun.0 c begun.1 is)

pub raw_is : (format : Format) (film : Film) (f : ℕ) (c : CodedFrame) (read : FrameRead) → coded format film f ≡ Some c → read_of c ≡ Ok read → raw_frame format film f ≡ raw (rebuilding c.header (references c)) read.blocks
unfolding raw_frame
raw_is format film f c read is reads = ap raw_from is ∙ ap (raw_read c) reads

pub stands_above : {X : Type 0} (c : CodedFrame) (row : ℕ) (shape : Shape) (above : Option (FramePlanes X)) → shape ≡ shape_of c.header → IsFilteredOver c row above → StandsAbove shape row above
stands_above c row shape None same over = over
stands_above c row shape (Some f) same over = (over.0, rw same over.1.holds.place)

pub filtered_above : {X : Type 0} (c : CodedFrame) (read : FrameRead) (row : ℕ) (above : Option (FramePlanes X)) → read_of c ≡ Ok read → IsFilteredOver c row above
    → IsFilteredAbove (setting_of c.header) (all_blocks (blocks_read read)) (raw (rebuilding c.header (references c)) read.blocks) row above
filtered_above c read row None reads over = over
filtered_above c read row (Some f) reads over =
    (over.0, subst (λ (r : FrameRead). HasFiltered (setting_of c.header) (all_blocks (blocks_read r)) (raw (rebuilding c.header (references c)) r.blocks) (row - 1) f) (same_read c over.1.read read over.1.reads reads) over.1.holds)

-- what a frame's rows are filtered by
pub record FiltersBy (c : CodedFrame) (read : FrameRead) (edges : EdgeSetting) (blocks : List BlockInfo) (m : FrameMap) : Type 0 where
  pub reads : read_of c ≡ Ok read
  pub edges_are : edges ≡ setting_of c.header
  pub blocks_are : blocks ≡ all_blocks (blocks_read read)
  pub raw_is : m ≡ raw (rebuilding c.header (references c)) read.blocks

pub awaits_row : {X : Type 0} (c : CodedFrame) (read : FrameRead) (edges : EdgeSetting) (blocks : List BlockInfo) (m : FrameMap) (row : ℕ) (shape : Shape) (above : Option (FramePlanes X)) (planes : FramePlanes X)
    → FiltersBy c read edges blocks m → shape ≡ shape_of c.header → IsFilteredOver c row above
    → ((f : EdgeSetting) (blocks : List BlockInfo) (raw : FrameMap) → f.shape ≡ shape → IsFilteredAbove f blocks raw row above → AwaitsRow f blocks raw row planes) → AwaitsRow edges blocks m row planes
awaits_row c read edges blocks m row shape above planes by same over awaits =
    rw (by.edges_are, by.blocks_are, by.raw_is)
    (awaits (setting_of c.header) (all_blocks (blocks_read read)) (raw (rebuilding c.header (references c)) read.blocks) (sym same) (filtered_above c read row above by.reads over))

pub row_is_filtered : {X : Type 0} (c : CodedFrame) (read : FrameRead) (edges : EdgeSetting) (blocks : List BlockInfo) (m : FrameMap) (row : ℕ) (planes : FramePlanes X) → FiltersBy c read edges blocks m
    → HasFiltered edges blocks m row planes → IsFilteredAs c row planes
row_is_filtered c read edges blocks m row planes by h = record { read = read; reads = by.reads; holds = rw (by.edges_are, by.blocks_are, by.raw_is) at h }

-- the blocks of a closed frame, as the filter asks for them
pub record HasBlocks (c : CodedFrame) (read : FrameRead) (header : Header) (columns : List TileColumn) : Type 0 where
  pub blocks : all_blocks (blocks_of columns) ≡ all_blocks (blocks_read read)
  pub rows : mi_rows (shape_of header) ≡ mi_rows (shape_of c.header)
  pub cols : mi_cols (shape_of header) ≡ mi_cols (shape_of c.header)
  pub fit : AllFit (all_blocks (blocks_of columns))

pub has_blocks : (c : CodedFrame) (read : FrameRead) (last : code_last.LastFrame) (header : Header) (columns : List TileColumn) → IsLastOf c read last → header ≡ last.header → columns ≡ last.columns.items
    → HasBlocks c read header columns
has_blocks c read last header columns of same all =
    let size : header.size ≡ c.header.size = ap (λ (h : Header). h.size) same ∙ of.size in
    record {
      blocks = ap (λ cs. all_blocks (blocks_of cs)) all ∙ of.blocks;
      rows = ap (λ (s : FrameSize). (s.height + 7) / 8) size;
      cols = ap (λ (s : FrameSize). (s.width + 7) / 8) size;
      fit = rw all (all_fit last.header (tile_count last.header) last.columns.items last.are.are);
    }

pub fits : (header : Header) (shape : Shape) → IsFrameSize header.size → shape ≡ shape_of header → FitsPlanes shape
fits header shape size same = rw same (record { wide = size.1; high = size.3 })
