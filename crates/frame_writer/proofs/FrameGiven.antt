-- A frame's bytes are read back as its header and its tiles.
use Rattle.std.proofs.Common.{◌≡◌, ◌∙◌, ℕ, zero, suc, ◌+◌, ◌-◌, ◌*◌, ◌/◌, ◌^◌, ◌<◌, ◌≤◌, List, [], ◌∷◌, ◌++◌, Bool, true, false, length, refl, sym, ap, subst, inr, append_assoc, arith}
use Rattle.std.specs.Prelude.{IfSome, Option, Some, None, Result, Ok, Err, ◌==◌, nat_le, nat_lt, slice_index, slice_range, if◌then◌else◌}
use Rattle.std.proofs.lemmas.Bool.{le-ltb}
use Rattle.std.proofs.lemmas.List.{append-nil, length-append}
use Rattle.vp9_types.specs.declared.block.Modes.{Modes}
use Rattle.vp9_types.specs.declared.job.Span.{Span}
use Rattle.vp9_types.specs.declared.rule.Rule.{Rule}
use Rattle.bool_lists.specs.BoolLists.{BoolList, bytes_taken}
use Rattle.bool_lists.proofs.Ways.{bytes_are}
use Rattle.compressed_header.specs.CompressedHeader.{IsForward, compressed_header, forward}
use Rattle.compressed_writer.specs.HeaderBytes.{IsWrittenHeader}
use Rattle.compressed_writer.specs.Spelling.{spelled_compressed}
use Rattle.frame_headers.specs.Header.{head_of}
use Rattle.frame_headers.specs.Tiles.{AreFewTiles, least, max_log2, min_log2, superblocks}
use Rattle.frame_headers.specs.declared.header.Header.{Header}
use Rattle.frame_headers.specs.declared.header.Uncompressed.TheVariants as uncompressed
use Rattle.frame_headers.specs.declared.persist.Persist.{Persist}
use Rattle.header_writer.specs.HeaderReads.{HoldsHeader}
use Rattle.header_writer.specs.Spelling.{IsSpelled}
use Rattle.header_writer.specs.WellFormed.{IsWellFormed}
use Rattle.header_writer.specs.declared.choices.Choices.{Choices}
use Rattle.prob_contexts.specs.ProbLists.{ContextLists, lists_of}
use Rattle.prob_contexts.specs.declared.contexts.Contexts.{Contexts}
use Rattle.frame_state.specs.FrameReading.{read_all_tiles, FrameRead}
use Rattle.frame_state.specs.Sources.{FramePast, FrameSources}
use Rattle.frame_writer.specs.FrameBytes.{IsLaidOut, frame_bytes, tile_bytes, with_size, without_index}
use Rattle.frame_writer.specs.Code.{AreHeaders, AreTiles, GivesAll, GivesFrame, GivesRest, IsBytes, IsFrame, IsTooLong, IsUntold, ReadsFrame, compressed_size, input_with, sources_with}
use Rattle.frame_writer.specs.FrameSymbols.{Speaker}
use Rattle.frame_writer.specs.declared.frame.FrameToWrite.{FrameToWrite}
use Rattle.frame_writer.specs.declared.written.NotWritten.{NotWritten}
use Rattle.frame_writer.specs.declared.written.NotWritten.TheVariants.{Unsaid, TooLong, OutOfMemory}
use Rattle.frame_writer.specs.declared.written.Written.{Written}
use Rattle.frame_writer.proofs.OneBytes.{laid_is}
use Rattle.frame_writer.proofs.SpansRead.{all_read, in_middle}
use Rattle.frame_state.proofs.TileSpans.{frame_reads, tiles_break}

-- the size isn't read with the rest of the compressed header
same_forward : (header : Header) (size : ℕ) (before : ContextLists) (bytes : List ℕ) → forward (with_size header size) before bytes ≡ forward header before bytes
unfolding forward compressed_header
same_forward header size before bytes = refl

-- nor are its bools others
same_updates : (header : Header) (size : ℕ) (before after : ContextLists) (modes : Modes) (bytes : List ℕ) → IsWrittenHeader header before after modes bytes
    → IsWrittenHeader (with_size header size) before after modes bytes
unfolding compressed_header spelled_compressed
same_updates header size before after modes bytes h = record { part = h.part; put = h.put; spelled = h.spelled; ends = h.ends }

ends_so : (bytes : List ℕ) → (tail : List ℕ) × (without_index bytes ≡ bytes ++ tail)
unfolding without_index
ends_so bytes = by_test (slice_index bytes (length bytes - 1) / 32 == 6)
  where
    by_test : (b : Bool) → (tail : List ℕ) × ((if b then bytes ++ 0 ∷ [] else bytes) ≡ bytes ++ tail)
    by_test true = (0 ∷ [], refl)
    by_test false = ([], sym (append-nil bytes))

-- where the compressed header lies
abbrev span_at : List ℕ → List ℕ → Span
span_at front compressed = record { from = length front; to = length front + length compressed }

-- the lists of bools of its tiles, where they break no rule
abbrev lists_in : {T : Type 0} (speaker : Speaker T) (by : FrameSources) (t new : T) (front out : List ℕ) (broken : Option Rule) → GivesAll speaker by t front broken out new → Option (List BoolList)
lists_in speaker by t new front out None gives = Some gives.1
lists_in speaker by t new front out (Some rule) gives = None

reads_so : {T : Type 0} (speaker : Speaker T) (frame : FrameToWrite) (past : FramePast) (t new : T) (front compressed out tail bytes : List ℕ) (broken : Option Rule)
    → bytes ≡ out ++ tail → forward (with_size frame.header (length compressed)) past.contexts (slice_range bytes (length front) (length front + length compressed)) ≡ Ok (lists_of frame.contexts, frame.modes)
    → (gives : GivesAll speaker (sources_with frame past (length compressed)) t (front ++ compressed) broken out new)
    → ReadsFrame speaker (input_with frame past (length compressed) (span_at front compressed) bytes) (sources_with frame past (length compressed)) t broken
    (lists_in speaker (sources_with frame past (length compressed)) t new (front ++ compressed) out broken gives) new
reads_so speaker frame past t new front compressed out tail bytes None is made gives =
    let by = sources_with frame past (length compressed) in
    let f = input_with frame past (length compressed) (span_at front compressed) bytes in
    let all = all_read by (Some gives.1) (front ++ compressed) out tail (span_at front compressed) (Ok gives.0) (sym (length-append front compressed)) gives.2 in (
      gives.0,
      frame_reads f (lists_of frame.contexts, frame.modes) gives.0 made (ap (λ bytes. read_all_tiles by bytes (span_at front compressed)) is ∙ all),
      gives.3,
    )
reads_so speaker frame past t new front compressed out tail bytes (Some rule) is made gives =
    let by = sources_with frame past (length compressed) in
    let f = input_with frame past (length compressed) (span_at front compressed) bytes in
    let all = all_read by None (front ++ compressed) out tail (span_at front compressed) (Err rule) (sym (length-append front compressed)) gives.0 in (
      tiles_break f (lists_of frame.contexts, frame.modes) rule made (ap (λ bytes. read_all_tiles by bytes (span_at front compressed)) is ∙ all),
      gives.1,
    )

-- its tiles, whatever is read of them
tiles_in : {T : Type 0} (speaker : Speaker T) (by : FrameSources) (t new : T) (front out : List ℕ) (broken : Option Rule) → (gives : GivesAll speaker by t front broken out new)
    → (r : Result FrameRead Rule) × AreTiles by (lists_in speaker by t new front out broken gives) front out r
tiles_in speaker by t new front out None gives = (Ok gives.0, gives.2)
tiles_in speaker by t new front out (Some rule) gives = (Err rule, gives.0)

laid_so : (before : Persist) (choices : Choices) (by : FrameSources) (lists : Option (List BoolList)) (bytes : List ℕ) → IsLaidOut before choices by lists bytes → IsBytes bytes
    → IfSome lists (λ lists. bytes ≡ frame_bytes before choices by lists)
laid_so before choices by None bytes laid low = tt
laid_so before choices by (Some lists) bytes laid low = laid_is before choices by lists bytes laid low

frame_is : {T : Type 0} (speaker : Speaker T) (before : Persist) (frame : FrameToWrite) (past : FramePast) (t new : T) (front compressed out : List ℕ) (broken : Option Rule) (old : Contexts)
    → past.contexts ≡ lists_of old → IsForward frame.header old compressed (Ok (frame.contexts, frame.modes))
    → IsWrittenHeader frame.header (lists_of old) (lists_of frame.contexts) frame.modes compressed
    → HoldsHeader before (uncompressed.Coded (with_size frame.header (length compressed))) front
    → IsSpelled before frame.choices (uncompressed.Coded (with_size frame.header (length compressed))) front
    → length compressed < 2 ^ 16 → IsBytes (without_index out)
    → GivesAll speaker (sources_with frame past (length compressed)) t (front ++ compressed) broken out new
    → IsFrame speaker before frame past (length compressed) t (without_index out) broken new
frame_is speaker before frame past t new front compressed out broken old from made updates holds spelled short low gives =
    let end = ends_so out in
    let are = (tiles_in speaker (sources_with frame past (length compressed)) t new (front ++ compressed) out broken gives).1 in
    let rest = tile_bytes are.tiles are.last in
    let bytes = without_index out in
    let more = compressed ++ (rest ++ end.0) in
    let whole : bytes ≡ front ++ more =
    end.1 ∙ ap (λ l. l ++ end.0) are.put ∙ append_assoc (front ++ compressed) rest end.0 ∙ append_assoc front compressed (rest ++ end.0) in
    let size = length compressed in
    let enough : nat_lt (length more) size ≡ false = le-ltb (length more) size (omega (arith, length-append compressed (rest ++ end.0))) in
    let here : slice_range bytes (length front) (length front + size) ≡ compressed = in_middle bytes front compressed (rest ++ end.0) (length front) (length front + size) whole refl refl in
    let lists = lists_in speaker (sources_with frame past (length compressed)) t new (front ++ compressed) out broken gives in
    let laid : IsLaidOut before frame.choices (sources_with frame past size) lists bytes = record {
      front = front;
      compressed = compressed;
      tiles = are.tiles;
      last = are.last;
      put = ap without_index are.put;
      holds = holds;
      spelled = spelled;
      size = refl;
      updates = same_updates frame.header size past.contexts _ _ compressed
          (subst (λ before. IsWrittenHeader frame.header before (lists_of frame.contexts) frame.modes compressed) (sym from) updates);
      many = are.many;
      sizes = are.sizes;
      bools = are.bools;
      exact = are.exact;
    } in
    record {
      short = short;
      compressed = span_at front compressed;
      lists = lists;
      head = ap (head_of before) whole ∙ holds.head more ∙ (rw enough refl);
      read = reads_so speaker frame past t new front compressed out end.0 bytes broken end.1
          (same_forward frame.header size past.contexts _ ∙ (λ i. forward frame.header (from i) (here i)) ∙ made) gives;
      laid = laid;
      exact = laid_so before frame.choices (sources_with frame past size) lists bytes laid low;
    }

abbrev sources_by : Header → FrameToWrite → FramePast → FrameSources
sources_by header frame past = record { header = header; modes = frame.modes; contexts = lists_of frame.contexts; past = past }

sources_are : (before : Persist) (frame : FrameToWrite) (past : FramePast) (old : Contexts) (header : Header) (bytes : List ℕ) (h : AreHeaders before frame old header bytes)
    → sources_by header frame past ≡ sources_with frame past (length h.compressed)
sources_are before frame past old header bytes h = ap (λ header. sources_by header frame past) h.size

-- the compressed header has as many bytes as its bools take
size_is : (before : Persist) (frame : FrameToWrite) (past : FramePast) (old : Contexts) (header : Header) (bytes : List ℕ) → past.contexts ≡ lists_of old → (h : AreHeaders before frame old header bytes)
    → length h.compressed ≡ compressed_size frame past
size_is before frame past old header bytes from h =
    let w = h.bools in
    bytes_are (spelled_compressed frame.header (lists_of old) (lists_of frame.contexts) frame.modes) w.part h.compressed w.spelled w.ends
    ∙ ap (λ lists. bytes_taken (spelled_compressed frame.header lists (lists_of frame.contexts) frame.modes)) (sym from)

-- so what its blocks are read by
sized_so : (before : Persist) (frame : FrameToWrite) (past : FramePast) (old : Contexts) (header : Header) (bytes : List ℕ) → past.contexts ≡ lists_of old → AreHeaders before frame old header bytes
    → sources_by header frame past ≡ sources_with frame past (compressed_size frame past)
sized_so before frame past old header bytes from h = sources_are before frame past old header bytes h ∙ ap (sources_with frame past) (size_is before frame past old header bytes from h)

frame_by : {T : Type 0} (speaker : Speaker T) (before : Persist) (frame : FrameToWrite) (past : FramePast) (t new : T) (old : Contexts) (header : Header) (bytes : List ℕ) (result : Result Written NotWritten)
    → past.contexts ≡ lists_of old → AreHeaders before frame old header bytes → GivesRest speaker (sources_by header frame past) t bytes result new
    → GivesFrame speaker before frame past t result new
frame_by speaker before frame past t new old header bytes (Ok w) from h gives =
    let holds = rw h.size at h.holds in
    let spelled = rw h.size at h.spelled in
    let all = subst (λ by. GivesAll speaker by t bytes w.broken gives.0 new) (sources_are before frame past old header bytes h) gives.3 in
    subst (λ size. IsFrame speaker before frame past size t w.bytes.items w.broken new) (size_is before frame past old header bytes from h)
    (rw gives.1 (frame_is speaker before frame past t new h.front h.compressed gives.0 w.broken old from h.makes h.bools holds spelled h.short (subst IsBytes gives.1 gives.2) (rw h.put at all)))
frame_by speaker before frame past t new old header bytes (Err Unsaid) from h gives = subst (λ by. IsUntold speaker by t) (sized_so before frame past old header bytes from h) gives
frame_by speaker before frame past t new old header bytes (Err TooLong) from h gives = inr (subst (λ by. IsTooLong speaker by t) (sized_so before frame past old header bytes from h) gives)
frame_by speaker before frame past t new old header bytes (Err OutOfMemory) from h gives = tt

pub frame_given : {T : Type 0} (speaker : Speaker T) (before : Persist) (frame : FrameToWrite) (past : FramePast) (by : FrameSources) (t new : T) (old : Contexts) (header : Header) (bytes : List ℕ) (result : Result Written NotWritten)
    → past.contexts ≡ lists_of old → AreHeaders before frame old header bytes → by ≡ sources_by header frame past → GivesRest speaker by t bytes result new
    → GivesFrame speaker before frame past t result new
frame_given speaker before frame past by t new old header bytes result from h is gives =
    frame_by speaker before frame past t new old header bytes result from h (subst (λ by. GivesRest speaker by t bytes result new) is gives)

least_low : (test : ℕ → Bool) (k n : ℕ) → least test k n ≤ n + k
least_low test zero n = omega arith
least_low test (suc k) n = by_test (test n) (least_low test k (n + 1))
  where
    by_test : (b : Bool) → least test k (n + 1) ≤ n + 1 + k → (if b then n else least test k (n + 1)) ≤ n + suc k
    by_test true low = omega arith
    by_test false low = omega (arith, low)

-- it has few tiles
pub few_tiles : (before : Persist) (header : Header) → IsWellFormed before (uncompressed.Coded header) → AreFewTiles header.params.tiles
unfolding min_log2 max_log2
few_tiles before header h =
    let columns = superblocks header.size.width in
    let low : min_log2 columns ≤ 8 = least_low (λ n. nat_le columns (64 * 2 ^ n)) 8 0 in
    let high : max_log2 columns ≤ 8 = least_low (λ n. nat_lt (columns / 2 ^ (n + 1)) 4) 8 0 in
    let most = h.params.tiles.most in
    (omega (arith, low, high, most), h.params.tiles.rows)
