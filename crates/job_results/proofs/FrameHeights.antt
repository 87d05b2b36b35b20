-- A coded frame has a row of samples at least, and so has each frame that it refers to.
use Rattle.std.proofs.Common.{◌≡◌, ◌∙◌, ◌<◌, ◌≤◌, ◌+◌, ℕ, zero, suc, List, Bool, true, false, refl, sym, ap, subst, arith}
use Rattle.std.specs.Prelude.{IfSome, Option, Some, Result, Ok, Err, nat_lt, ◌/◌, length, if◌then◌else◌}
use Rattle.vp9_types.specs.Bits.{bits_of}
use Rattle.vp9_types.specs.Reading.{after, run, field_at, read_bits}
use Rattle.vp9_types.specs.Syntax.{Syntax, done, broken, ask, check, ◌>>=◌}
use Rattle.vp9_types.specs.declared.block.ReferenceFrame.{ReferenceFrame}
use Rattle.vp9_types.specs.declared.block.ReferenceFrame.TheVariants.{Last, Golden, Altref}
use Rattle.vp9_types.specs.declared.job.Span.{Span}
use Rattle.vp9_types.specs.declared.rule.Rule.{Rule}
use Rattle.vp9_types.specs.declared.rule.Rule.TheVariants as rule
use Rattle.vp9_types.specs.declared.shape.Shape.{Shape}
use Rattle.frame_headers.specs.Fields.{past, f, flag_field}
use Rattle.frame_headers.specs.FrameSizes.{frame_size, render_size}
use Rattle.frame_headers.specs.Header.{coded_frame, forgets, frame_contexts, frame_fields, frame_params, frame_profile, frame_start, frame_sync_code, head_of, intra_and_reset, intra_only_fields, kept_deltas, kept_features, key_fields, other_fields, placed, placed_if_read, uncompressed_header}
use Rattle.frame_headers.specs.Color.{color_config, intra_only_color}
use Rattle.frame_headers.specs.References.{all_of, found_size, has_allowed_scale, has_format, inter_fields, interpolation_filter, references, slot_shape, some_of}
use Rattle.frame_headers.specs.declared.field.FieldName.TheVariants as name
use Rattle.frame_headers.specs.declared.header.FrameFields.{FrameFields}
use Rattle.frame_headers.specs.declared.header.FrameHead.{FrameHead}
use Rattle.frame_headers.specs.declared.header.FrameHead.TheVariants as head
use Rattle.frame_headers.specs.declared.header.FrameKind.{FrameKind}
use Rattle.frame_headers.specs.declared.header.FrameKind.TheVariants.{Key, IntraOnly, Inter}
use Rattle.frame_headers.specs.declared.header.FrameSize.{FrameSize}
use Rattle.frame_headers.specs.declared.header.FrameStart.{FrameStart}
use Rattle.frame_headers.specs.declared.header.Header.{Header}
use Rattle.frame_headers.specs.declared.header.InterFields.{InterFields}
use Rattle.frame_headers.specs.declared.header.References.{References}
use Rattle.frame_headers.specs.declared.header.Uncompressed.{Uncompressed}
use Rattle.frame_headers.specs.declared.header.Uncompressed.TheVariants as uncompressed
use Rattle.frame_headers.specs.declared.persist.Persist.{Persist}
use Rattle.frame_output.specs.declared.rendering.Format.{Format}
use Rattle.inter_contexts.specs.BlockReferences.{reference_in}
use Rattle.numbered_frames.specs.Coded.{CodedFrame, IsFrameBefore, coded}
use Rattle.numbered_frames.specs.Films.{Film}
use Rattle.numbered_frames.specs.FrameNumbers.{before, frame_at}
use Rattle.numbered_frames.proofs.SlotFrames.{slots_hold}
use Rattle.numbered_frames.specs.seq_decoder.DecoderState.{Picture, persist_of}
use Rattle.job_results.proofs.CodedFrames.{coded_by, slot_at}
use Rattle.job_results.proofs.NamedSlots.{IsNamed, named_in}

---- What a syntax settles on, whatever is answered ----

abbrev Settles : {Q E A : Type 0} → Syntax Q E A → (A → Type 0) → Type 0
Settles (done x) P = P x
Settles (broken e) P = Unit {0}
Settles (ask q k) P = (v : ℕ) → Settles (k v) P

settles_bind : {Q E A B : Type 0} (s : Syntax Q E A) (k : A → Syntax Q E B) (P : A → Type 0) (R : B → Type 0) → Settles s P → ((x : A) → P x → Settles (k x) R) → Settles (s >>= k) R
settles_bind (done x) k P R h g = g x h
settles_bind (broken e) k P R h g = tt
settles_bind (ask q next) k P R h g = λ v. settles_bind (next v) k P R (h v) g

settles_all : {Q E A : Type 0} (s : Syntax Q E A) → Settles s (λ x. Unit {0})
settles_all (done x) = tt
settles_all (broken e) = tt
settles_all (ask q k) = λ v. settles_all (k v)

-- where nothing of the first matters
settles_then : {Q E A B : Type 0} (s : Syntax Q E A) (k : A → Syntax Q E B) (R : B → Type 0) → ((x : A) → Settles (k x) R) → Settles (s >>= k) R
settles_then s k R g = settles_bind s k (λ x. Unit {0}) R (settles_all s) (λ x _. g x)

settles_if : {Q E A : Type 0} (test : Bool) (s t : Syntax Q E A) (P : A → Type 0) → Settles s P → Settles t P → Settles (if test then s else t) P
settles_if true s t P hs ht = hs
settles_if false s t P hs ht = ht

answered : {Q E A M : Type 0} (answer : Q → M → Result (ℕ × M) E) (r : Result (ℕ × M) E) (k : ℕ → Syntax Q E A) (x : A) (rest : M) (P : A → Type 0)
    → ((v : ℕ) (m : M) → run answer (k v) m ≡ Ok (x, rest) → P x) → after r (λ v m. run answer (k v) m) ≡ Ok (x, rest) → P x
answered answer (Ok p) k x rest P each h = each p.0 p.1 h
answered answer (Err e) k x rest P each h = let no : ⊥ = cc in absurd no

-- what is read is what the syntax settles on
run_settles : {Q E A M : Type 0} (answer : Q → M → Result (ℕ × M) E) (s : Syntax Q E A) (m : M) (x : A) (rest : M) (P : A → Type 0) → Settles s P → run answer s m ≡ Ok (x, rest) → P x
run_settles {A} {M} answer (done y) m x rest P settles h =
    let both : ◌≡◌ {A = A × M} (y, m) (x, rest) = cc in
    subst P (ap (λ z. z.0) both) settles
run_settles answer (broken e) m x rest P settles h = let no : ⊥ = cc in absurd no
run_settles answer (ask q k) m x rest P settles h = answered answer (answer q m) k x rest P (λ v n read. run_settles answer (k v) n x rest P (settles v) read) h

---- Headers ----

abbrev HaveRows : References → Type 0
HaveRows refs = (1 ≤ refs.last.shape.h) × (1 ≤ refs.golden.shape.h) × (1 ≤ refs.altref.shape.h)

-- a frame of this kind and size has a row; an inter one where its references have
abbrev HasRow : FrameKind → FrameSize → Type 0
HasRow Key size = 1 ≤ size.height
HasRow IntraOnly size = 1 ≤ size.height
HasRow (Inter fields) size = HaveRows fields.references → 1 ≤ size.height

abbrev FieldsHaveRow : FrameFields → Type 0
FieldsHaveRow fields = HasRow fields.kind fields.size

abbrev UncompressedHasRow : Uncompressed → Type 0
UncompressedHasRow (uncompressed.ShowExisting slot) = Unit {0}
UncompressedHasRow (uncompressed.Coded header) = HasRow header.kind header.size

size_settles : Settles frame_size (λ size. 1 ≤ size.height)
unfolding frame_size f
size_settles = λ width height. omega arith

found_settles : (refs : References) → Settles (found_size refs) (λ size. HaveRows refs → 1 ≤ size.height)
unfolding found_size
found_settles refs =
    settles_then (flag_field name.FoundRef) _ _
    (λ last. settles_if last _ _ _ (λ have. have.0) (settles_then (flag_field name.FoundRef) _ _
    (λ golden. settles_if golden _ _ _ (λ have. have.1) (settles_then (flag_field name.FoundRef) _ _
    (λ altref. settles_if altref _ _ _ (λ have. have.2) (settles_own frame_size size_settles))))))
  where
    settles_own : {Q E : Type 0} (s : Syntax Q E FrameSize) → Settles s (λ size. 1 ≤ size.height) → Settles s (λ size. HaveRows refs → 1 ≤ size.height)
    settles_own (done x) h = λ have. h
    settles_own (broken e) h = tt
    settles_own (ask q k) h = λ v. settles_own (k v) (h v)

inter_settles : (before : Persist) (resilient : Bool) (reset : ℕ) → Settles (inter_fields before resilient reset) FieldsHaveRow
unfolding inter_fields
inter_settles before resilient reset =
    settles_then (f name.RefreshFrameFlags 8) _ _
    (λ refresh. settles_then (references before resilient) _ _
    (λ refs. settles_then (check (all_of (has_format before.color) refs) rule.RefFormat) _ _
    (λ u. settles_bind (found_size refs) _ (λ size. HaveRows refs → 1 ≤ size.height) _ (found_settles refs)
    (λ size has. settles_then (check (some_of (has_allowed_scale size) refs) rule.RefScale) _ _
    (λ v. settles_then render_size _ _
    (λ w. settles_then (flag_field name.AllowHighPrecisionMv) _ _ (λ precise. settles_then interpolation_filter _ _ (λ filter. has))))))))

key_settles : (profile : ℕ) → Settles (key_fields profile) FieldsHaveRow
unfolding key_fields
key_settles profile =
    settles_then frame_sync_code _ _
    (λ u. settles_then (color_config profile) _ _
    (λ color. settles_bind frame_size _ (λ size. 1 ≤ size.height) _ size_settles (λ size has. settles_then render_size _ _ (λ v. has))))

intra_only_settles : (profile reset : ℕ) → Settles (intra_only_fields profile reset) FieldsHaveRow
unfolding intra_only_fields
intra_only_settles profile reset =
    settles_then frame_sync_code _ _
    (λ u. settles_then (intra_only_color profile) _ _
    (λ color. settles_then (f name.RefreshFrameFlags 8) _ _
    (λ refresh. settles_bind frame_size _ (λ size. 1 ≤ size.height) _ size_settles (λ size has. settles_then render_size _ _ (λ v. has)))))

other_settles : (before : Persist) (profile : ℕ) (show resilient : Bool) → Settles (other_fields before profile show resilient) FieldsHaveRow
unfolding other_fields
other_settles before profile show resilient =
    settles_then (intra_and_reset show resilient) _ _
    (λ kind. settles_if kind.0 (intra_only_fields profile kind.1) (inter_fields before resilient kind.1) FieldsHaveRow
    (intra_only_settles profile kind.1) (inter_settles before resilient kind.1))

fields_settle : (before : Persist) (profile : ℕ) (start : FrameStart) → Settles (frame_fields before profile start) FieldsHaveRow
unfolding frame_fields
fields_settle before profile start =
    settles_if start.is_key (key_fields profile) (other_fields before profile start.show_frame start.error_resilient) FieldsHaveRow
    (key_settles profile) (other_settles before profile start.show_frame start.error_resilient)

coded_settles : (before : Persist) (profile : ℕ) → Settles (coded_frame before profile) (λ header. HasRow header.kind header.size)
unfolding coded_frame
coded_settles before profile =
    settles_then frame_start _ _
    (λ start. settles_bind (frame_fields before profile start) _ FieldsHaveRow _ (fields_settle before profile start)
    (λ fields has. settles_then (frame_contexts start.error_resilient) _ _
    (λ contexts. settles_then
    (frame_params (kept_deltas before (forgets fields.kind start.error_resilient)) (kept_features before (forgets fields.kind start.error_resilient)) fields.size.width) _ _
    (λ params. has))))

header_settles : (before : Persist) → Settles (uncompressed_header before) UncompressedHasRow
unfolding uncompressed_header
header_settles before =
    settles_then frame_profile _ _
    (λ profile. settles_then (flag_field name.ShowExistingFrame) _ _
    (λ existing. settles_if existing
    (slot_shape name.FrameToShowMapIdx before rule.ShowMissing >>= λ held. done (uncompressed.ShowExisting held.0))
    (coded_frame before profile >>= λ header. done (uncompressed.Coded header)) UncompressedHasRow
    (settles_then (slot_shape name.FrameToShowMapIdx before rule.ShowMissing) _ _ (λ held. tt))
    (settles_bind (coded_frame before profile) _ (λ header. HasRow header.kind header.size) _ (coded_settles before profile) (λ header has. has))))

placed_if : (long : Bool) (own header : Header) (span compressed : Span) → HasRow own.kind own.size
    → ◌≡◌ {A = Result FrameHead Rule} (if long then Err rule.HeaderSizeLong else Ok (head.Coded own span)) (Ok (head.Coded header compressed)) → HasRow header.kind header.size
placed_if true own header span compressed has is = let no : ⊥ = cc in absurd no
placed_if false own header span compressed has is =
    let same : own ≡ header = cc in
    subst (λ (x : Header). HasRow x.kind x.size) same has

placed_has : (bytes : ℕ) (read : Uncompressed) (rest : List ℕ) (header : Header) (compressed : Span) → UncompressedHasRow read → placed bytes read rest ≡ Ok (head.Coded header compressed)
    → HasRow header.kind header.size
unfolding placed
placed_has bytes (uncompressed.ShowExisting slot) rest header compressed has is = let no : ⊥ = cc in absurd no
placed_has bytes (uncompressed.Coded own) rest header compressed has is = placed_if (nat_lt (length rest / 8) own.params.compressed_size) own header _ compressed has is

read_has : (bytes : ℕ) (read : Result (Uncompressed × List ℕ) Rule) (header : Header) (compressed : Span) → ((x : Uncompressed) (rest : List ℕ) → read ≡ Ok (x, rest) → UncompressedHasRow x)
    → placed_if_read bytes read ≡ Ok (head.Coded header compressed) → HasRow header.kind header.size
read_has bytes (Ok p) header compressed settles is = placed_has bytes p.0 p.1 header compressed (settles p.0 p.1 refl) is
read_has bytes (Err fault) header compressed settles is = let no : ⊥ = cc in absurd no

header_has : (before : Persist) (frame : List ℕ) (header : Header) (compressed : Span) → head_of before frame ≡ Ok (head.Coded header compressed) → HasRow header.kind header.size
unfolding head_of
header_has before frame header compressed is =
    read_has (length frame) (read_bits past (uncompressed_header before) (bits_of frame)) header compressed
    (λ x rest read. run_settles (field_at past) (uncompressed_header before) (bits_of frame) x rest UncompressedHasRow (header_settles before) read) is

---- Frames ----

row_by : (kind : FrameKind) (size : FrameSize) → HasRow kind size → ((fields : InterFields) → kind ≡ Inter fields → HaveRows fields.references) → 1 ≤ size.height
row_by Key size has have = has
row_by IntraOnly size has have = has
row_by (Inter fields) size has have = has (have fields refl)

module _ (format : Format) (film : Film) where
  -- what a slot holds is a coded frame that comes before
  held_before : (g : ℕ) (c : CodedFrame) (fields : InterFields) (reference : ReferenceFrame) → coded format film g ≡ Some c → c.header.kind ≡ Inter fields
      → (picture : Picture) × IsFrameBefore format film g picture × (picture.shape ≡ (reference_in fields.references reference).shape)
  held_before g c fields reference is kind =
      let by = coded_by format film g c is in
      let named : IsNamed c (reference_in fields.references reference) = named_in _ _ c fields reference by kind in (
        named.picture,
        slot_at (λ slot. IfSome slot (IsFrameBefore format film g)) c.kept.state.slots (reference_in fields.references reference).slot named.picture (slots_hold format film g c.kept by.before) named.held,
        named.shape,
      )

  -- a reference has a row, where each coded frame before has
  one_has : (g : ℕ) (c : CodedFrame) (fields : InterFields) (reference : ReferenceFrame) → coded format film g ≡ Some c → c.header.kind ≡ Inter fields
      → ((earlier : ℕ) (d : CodedFrame) → earlier < g → coded format film earlier ≡ Some d → 1 ≤ d.header.size.height) → 1 ≤ (reference_in fields.references reference).shape.h
  one_has g c fields reference is kind before =
      let held = held_before g c fields reference is kind in
      let h = held.1 in
      subst (λ (s : Shape). 1 ≤ s.h) (sym (ap (λ (p : Picture). p.shape) h.same) ∙ held.2) (before held.0.frame h.frame h.earlier h.is)

  rows_below : (n g : ℕ) (c : CodedFrame) → g < n → coded format film g ≡ Some c → 1 ≤ c.header.size.height
  rows_below zero g c low is = absurd (omega (arith, low))
  rows_below (suc n) g c low is =
      let before : (earlier : ℕ) (d : CodedFrame) → earlier < g → coded format film earlier ≡ Some d → 1 ≤ d.header.size.height = λ earlier d less there. rows_below n earlier d (omega (arith, low, less)) there in
      row_by c.header.kind c.header.size (header_has (persist_of c.kept.state) c.bytes c.header c.compressed (coded_by format film g c is).head)
      (λ fields kind. (one_has g c fields Last is kind before, one_has g c fields Golden is kind before, one_has g c fields Altref is kind before))

  pub reference_has_row : (g : ℕ) (c : CodedFrame) (fields : InterFields) (reference : ReferenceFrame) → coded format film g ≡ Some c → c.header.kind ≡ Inter fields
      → 1 ≤ (reference_in fields.references reference).shape.h
  reference_has_row g c fields reference is kind = one_has g c fields reference is kind (λ earlier d less there. rows_below g earlier d less there)
