-- What the references of a header are: each is what its slot holds, in the frame's format.
use Rattle.std.proofs.Common.{◌≡◌, ℕ, List, refl, ap, subst, Bool, true, false}
use Rattle.std.specs.Prelude.{Result, Ok, Err, Option, Some, None, slice_index_or, nat_lt, ◌&&◌, ◌==◌, ◌/◌, length, if◌then◌else◌}
use Rattle.std.proofs.lemmas.Bool.{and_parts, eqb-true}
use Rattle.vp9_types.specs.Bits.{bits_of}
use Rattle.vp9_types.specs.Reading.{Field, after, run, field_at, read_bits}
use Rattle.vp9_types.specs.Shapes.{depth_bits}
use Rattle.vp9_types.specs.Syntax.{Syntax, done, broken, ask, ◌>>=◌, check}
use Rattle.vp9_types.specs.declared.job.Span.{Span}
use Rattle.vp9_types.specs.declared.rule.Rule.{Rule}
use Rattle.vp9_types.specs.declared.rule.Rule.TheVariants as rule
use Rattle.vp9_types.specs.declared.shape.Depth.{Depth}
use Rattle.vp9_types.specs.declared.shape.Depth.TheVariants.{Eight, Ten, Twelve}
use Rattle.vp9_types.specs.declared.shape.Shape.{Shape}
use Rattle.frame_headers.specs.declared.color.ColorConfig.{ColorConfig}
use Rattle.frame_headers.specs.declared.field.FieldName.{FieldName}
use Rattle.frame_headers.specs.declared.field.FieldName.TheVariants as name
use Rattle.frame_headers.specs.declared.header.FrameFields.{FrameFields}
use Rattle.frame_headers.specs.declared.header.FrameHead.{FrameHead}
use Rattle.frame_headers.specs.declared.header.FrameHead.TheVariants as head
use Rattle.frame_headers.specs.declared.header.FrameKind.{FrameKind}
use Rattle.frame_headers.specs.declared.header.FrameKind.TheVariants.{Key, IntraOnly, Inter}
use Rattle.frame_headers.specs.declared.header.FrameStart.{FrameStart}
use Rattle.frame_headers.specs.declared.header.Header.{Header}
use Rattle.frame_headers.specs.declared.header.InterFields.{InterFields}
use Rattle.frame_headers.specs.declared.header.Reference.{Reference}
use Rattle.frame_headers.specs.declared.header.References.{References}
use Rattle.frame_headers.specs.declared.header.Uncompressed.{Uncompressed}
use Rattle.frame_headers.specs.declared.header.Uncompressed.TheVariants as uncompressed
use Rattle.frame_headers.specs.declared.persist.Persist.{Persist}
use Rattle.frame_headers.specs.Fields.{past, f, flag_field}
use Rattle.frame_headers.specs.Color.{color_config, intra_only_color}
use Rattle.frame_headers.specs.FrameSizes.{frame_size, render_size}
use Rattle.frame_headers.specs.Header.{frame_profile, frame_sync_code, frame_start, frame_contexts, frame_params, forgets, kept_deltas, kept_features, key_fields, intra_only_fields, other_fields, intra_and_reset, frame_fields, coded_frame, uncompressed_header, placed, placed_if_read, head_of}
use Rattle.frame_headers.specs.References.{held_by, slot_shape, reference, references, same_bit, has_format, all_of, some_of, has_allowed_scale, found_size, interpolation_filter, inter_fields}

-- what a slot holds, in the format of a frame's colour
pub record HoldsReference (slots : List (Option Shape)) (color : ColorConfig) (r : Reference) : Type 0 where
  pub held : slice_index_or slots r.slot None ≡ Some r.shape
  pub depth : r.shape.depth ≡ color.depth
  pub ss_x : r.shape.ss_x ≡ color.ss_x
  pub ss_y : r.shape.ss_y ≡ color.ss_y

---- What a syntax settles on, whatever is answered ----

abbrev Settles : {Q E A : Type 0} → Syntax Q E A → (A → Type 0) → Type 0
Settles (done x) P = P x
Settles (broken e) P = Unit {0}
Settles (ask q k) P = (v : ℕ) → Settles (k v) P

settles_bind : {Q E A B : Type 0} (s : Syntax Q E A) (k : A → Syntax Q E B) (P : A → Type 0) (R : B → Type 0)
    → Settles s P → ((x : A) → P x → Settles (k x) R) → Settles (s >>= k) R
settles_bind (done x) k P R h g = g x h
settles_bind (broken e) k P R h g = tt
settles_bind (ask q next) k P R h g = λ v. settles_bind (next v) k P R (h v) g

settles_all : {Q E A : Type 0} (s : Syntax Q E A) → Settles s (λ x. Unit {0})
settles_all (done x) = tt
settles_all (broken e) = tt
settles_all (ask q k) = λ v. settles_all (k v)

-- where nothing of the first matters
settles_then : {Q E A B : Type 0} (s : Syntax Q E A) (k : A → Syntax Q E B) (R : B → Type 0) → ((x : A) → Settles (k x) R) → Settles (s >>= k) R
settles_then s k R g = settles_bind s k (λ x. Unit {0}) R (settles_all s) (λ x _. g x)

settles_check : (test : Bool) (e : Rule) → Settles {Q = Field FieldName} (check test e) (λ u. test ≡ true)
settles_check true e = refl
settles_check false e = tt

settles_if : {Q E A : Type 0} (test : Bool) (s t : Syntax Q E A) (P : A → Type 0) → Settles s P → Settles t P → Settles (if test then s else t) P
settles_if true s t P hs ht = hs
settles_if false s t P hs ht = ht

answered : {Q E A M : Type 0} (answer : Q → M → Result (ℕ × M) E) (r : Result (ℕ × M) E) (k : ℕ → Syntax Q E A) (x : A) (rest : M) (P : A → Type 0)
    → ((v : ℕ) (m : M) → run answer (k v) m ≡ Ok (x, rest) → P x) → after r (λ v m. run answer (k v) m) ≡ Ok (x, rest) → P x
answered answer (Ok p) k x rest P each h = each p.0 p.1 h
answered answer (Err e) k x rest P each h = let no : ⊥ = cc in absurd no

-- what is read is what the syntax settles on
run_settles : {Q E A M : Type 0} (answer : Q → M → Result (ℕ × M) E) (s : Syntax Q E A) (m : M) (x : A) (rest : M) (P : A → Type 0)
    → Settles s P → run answer s m ≡ Ok (x, rest) → P x
run_settles {A} {M} answer (done y) m x rest P settles h =
    let both : ◌≡◌ {A = A × M} (y, m) (x, rest) = cc in
    subst P (ap (λ z. z.0) both) settles
run_settles answer (broken e) m x rest P settles h = let no : ⊥ = cc in absurd no
run_settles answer (ask q k) m x rest P settles h =
    answered answer (answer q m) k x rest P (λ v n read. run_settles answer (k v) n x rest P (settles v) read) h

---- References ----

abbrev IsHeld : List (Option Shape) → Reference → Type 0
IsHeld slots r = slice_index_or slots r.slot None ≡ Some r.shape

abbrev AreHeld : List (Option Shape) → References → Type 0
AreHeld slots refs = IsHeld slots refs.last × IsHeld slots refs.golden × IsHeld slots refs.altref

abbrev HoldReferences : List (Option Shape) → ColorConfig → References → Type 0
HoldReferences slots color refs = HoldsReference slots color refs.last × HoldsReference slots color refs.golden × HoldsReference slots color refs.altref

held_settles : (slot : ℕ) (missing : Rule) (found : Option Shape) → Settles (held_by slot missing found) (λ h. (h.0 ≡ slot) × (found ≡ Some h.1))
held_settles slot missing (Some shape) = (refl, refl)
held_settles slot missing None = tt

slot_settles : (field : FieldName) (before : Persist) (missing : Rule)
    → Settles (slot_shape field before missing) (λ h. slice_index_or before.slots h.0 None ≡ Some h.1)
unfolding slot_shape f
slot_settles field before missing = λ slot.
    settles_map (held_by slot missing (slice_index_or before.slots slot None)) _ _ (held_settles slot missing (slice_index_or before.slots slot None))
    (λ h is. rw is.0 is.1)
  where
    settles_map : {Q E A : Type 0} (s : Syntax Q E A) (P R : A → Type 0) → Settles s P → ((x : A) → P x → R x) → Settles s R
    settles_map (done x) P R h g = g x h
    settles_map (broken e) P R h g = tt
    settles_map (ask q k) P R h g = λ v. settles_map (k v) P R (h v) g

reference_settles : (before : Persist) (resilient : Bool) → Settles (reference before resilient) (IsHeld before.slots)
unfolding reference
reference_settles before resilient =
    settles_bind (slot_shape name.RefFrameIdx before rule.RefMissing) _ (λ h. slice_index_or before.slots h.0 None ≡ Some h.1) _
    (slot_settles name.RefFrameIdx before rule.RefMissing)
    (λ h is. settles_then (flag_field name.RefFrameSignBias) _ _ (λ bias. is))

references_settle : (before : Persist) (resilient : Bool) → Settles (references before resilient) (AreHeld before.slots)
unfolding references
references_settle before resilient =
    let one = reference_settles before resilient in
    settles_bind (reference before resilient) _ (IsHeld before.slots) _ one
    (λ last a. settles_bind (reference before resilient) _ (IsHeld before.slots) _ one
    (λ golden b. settles_bind (reference before resilient) _ (IsHeld before.slots) _ one
    (λ altref c. (a, b, c))))

---- Formats ----

depth_is : (a b : Depth) → depth_bits a ≡ depth_bits b → a ≡ b
depth_is Eight Eight h = refl
depth_is Eight Ten h = let no : ⊥ = cc in absurd no
depth_is Eight Twelve h = let no : ⊥ = cc in absurd no
depth_is Ten Eight h = let no : ⊥ = cc in absurd no
depth_is Ten Ten h = refl
depth_is Ten Twelve h = let no : ⊥ = cc in absurd no
depth_is Twelve Eight h = let no : ⊥ = cc in absurd no
depth_is Twelve Ten h = let no : ⊥ = cc in absurd no
depth_is Twelve Twelve h = refl

bit_is : (a b : Bool) → same_bit a b ≡ true → a ≡ b
bit_is true true h = refl
bit_is true false h = let no : ⊥ = cc in absurd no
bit_is false true h = let no : ⊥ = cc in absurd no
bit_is false false h = refl

formatted : (slots : List (Option Shape)) (color : ColorConfig) (r : Reference) → IsHeld slots r → has_format color r ≡ true → HoldsReference slots color r
formatted slots color r is tested =
    let parts = and_parts (depth_bits r.shape.depth == depth_bits color.depth && same_bit r.shape.ss_x color.ss_x) (same_bit r.shape.ss_y color.ss_y) tested in
    let front = and_parts (depth_bits r.shape.depth == depth_bits color.depth) (same_bit r.shape.ss_x color.ss_x) parts.0 in
    record {
      held = is;
      depth = depth_is r.shape.depth color.depth (eqb-true _ _ front.0);
      ss_x = bit_is r.shape.ss_x color.ss_x front.1;
      ss_y = bit_is r.shape.ss_y color.ss_y parts.1;
    }

all_formatted : (slots : List (Option Shape)) (color : ColorConfig) (refs : References) → AreHeld slots refs → all_of (has_format color) refs ≡ true
    → HoldReferences slots color refs
all_formatted slots color refs are tested =
    let parts = and_parts (has_format color refs.last && has_format color refs.golden) (has_format color refs.altref) tested in
    let front = and_parts (has_format color refs.last) (has_format color refs.golden) parts.0 in
    (formatted slots color refs.last are.0 front.0, formatted slots color refs.golden are.1 front.1, formatted slots color refs.altref are.2 parts.1)

---- Headers ----

-- where a frame is inter, its references are held in its format
abbrev KindHolds : List (Option Shape) → ColorConfig → FrameKind → Type 0
KindHolds slots color kind = (fields : InterFields) → kind ≡ Inter fields → HoldReferences slots color fields.references

abbrev FieldsHold : Persist → FrameFields → Type 0
FieldsHold before fields = KindHolds before.slots fields.color fields.kind

abbrev UncompressedHolds : Persist → Uncompressed → Type 0
UncompressedHolds before (uncompressed.ShowExisting slot) = Unit {0}
UncompressedHolds before (uncompressed.Coded header) = KindHolds before.slots header.color header.kind

inter_holds : (slots : List (Option Shape)) (color : ColorConfig) (own : InterFields) → HoldReferences slots color own.references → KindHolds slots color (Inter own)
inter_holds slots color own all = λ fields is.
    let same : own ≡ fields = cc in
    subst (λ (x : InterFields). HoldReferences slots color x.references) same all

key_holds : (slots : List (Option Shape)) (color : ColorConfig) → KindHolds slots color Key
key_holds slots color = λ fields is. let no : ⊥ = cc in absurd no

intra_only_holds : (slots : List (Option Shape)) (color : ColorConfig) → KindHolds slots color IntraOnly
intra_only_holds slots color = λ fields is. let no : ⊥ = cc in absurd no

inter_settles : (before : Persist) (resilient : Bool) (reset : ℕ) → Settles (inter_fields before resilient reset) (FieldsHold before)
unfolding inter_fields
inter_settles before resilient reset =
    settles_then (f name.RefreshFrameFlags 8) _ _
    (λ refresh. settles_bind (references before resilient) _ (AreHeld before.slots) _ (references_settle before resilient)
    (λ refs are. settles_bind (check (all_of (has_format before.color) refs) rule.RefFormat) _ (λ u. all_of (has_format before.color) refs ≡ true) _
    (settles_check (all_of (has_format before.color) refs) rule.RefFormat)
    (λ u tested. settles_then (found_size refs) _ _
    (λ size. settles_bind (check (some_of (has_allowed_scale size) refs) rule.RefScale) _ (λ u. some_of (has_allowed_scale size) refs ≡ true) _
    (settles_check (some_of (has_allowed_scale size) refs) rule.RefScale)
    (λ v scaled. settles_then render_size _ _
    (λ w. settles_then (flag_field name.AllowHighPrecisionMv) _ _
    (λ precise. settles_then interpolation_filter _ _
    (λ filter. inter_holds before.slots before.color (record { references = refs; high_precision = precise; filter = filter })
    (all_formatted before.slots before.color refs are tested)))))))))

key_settles : (before : Persist) (profile : ℕ) → Settles (key_fields profile) (FieldsHold before)
unfolding key_fields
key_settles before profile =
    settles_then frame_sync_code _ _
    (λ u. settles_then (color_config profile) _ _
    (λ color. settles_then frame_size _ _ (λ size. settles_then render_size _ _ (λ v. key_holds before.slots color))))

intra_only_settles : (before : Persist) (profile reset : ℕ) → Settles (intra_only_fields profile reset) (FieldsHold before)
unfolding intra_only_fields
intra_only_settles before profile reset =
    settles_then frame_sync_code _ _
    (λ u. settles_then (intra_only_color profile) _ _
    (λ color. settles_then (f name.RefreshFrameFlags 8) _ _
    (λ refresh. settles_then frame_size _ _ (λ size. settles_then render_size _ _ (λ v. intra_only_holds before.slots color)))))

other_settles : (before : Persist) (profile : ℕ) (show resilient : Bool) → Settles (other_fields before profile show resilient) (FieldsHold before)
unfolding other_fields
other_settles before profile show resilient =
    settles_then (intra_and_reset show resilient) _ _
    (λ kind. settles_if kind.0 (intra_only_fields profile kind.1) (inter_fields before resilient kind.1) (FieldsHold before)
    (intra_only_settles before profile kind.1) (inter_settles before resilient kind.1))

fields_settle : (before : Persist) (profile : ℕ) (start : FrameStart) → Settles (frame_fields before profile start) (FieldsHold before)
unfolding frame_fields
fields_settle before profile start =
    settles_if start.is_key (key_fields profile) (other_fields before profile start.show_frame start.error_resilient) (FieldsHold before)
    (key_settles before profile) (other_settles before profile start.show_frame start.error_resilient)

coded_settles : (before : Persist) (profile : ℕ) → Settles (coded_frame before profile) (λ header. KindHolds before.slots header.color header.kind)
unfolding coded_frame
coded_settles before profile =
    settles_then frame_start _ _
    (λ start. settles_bind (frame_fields before profile start) _ (FieldsHold before) _ (fields_settle before profile start)
    (λ fields holds. settles_then (frame_contexts start.error_resilient) _ _
    (λ contexts. settles_then
    (frame_params (kept_deltas before (forgets fields.kind start.error_resilient)) (kept_features before (forgets fields.kind start.error_resilient)) fields.size.width) _ _
    (λ params. holds))))

header_settles : (before : Persist) → Settles (uncompressed_header before) (UncompressedHolds before)
unfolding uncompressed_header
header_settles before =
    settles_then frame_profile _ _
    (λ profile. settles_then (flag_field name.ShowExistingFrame) _ _
    (λ existing. settles_if existing
    (slot_shape name.FrameToShowMapIdx before rule.ShowMissing >>= λ held. done (uncompressed.ShowExisting held.0))
    (coded_frame before profile >>= λ header. done (uncompressed.Coded header)) (UncompressedHolds before)
    (settles_then (slot_shape name.FrameToShowMapIdx before rule.ShowMissing) _ _ (λ held. tt))
    (settles_bind (coded_frame before profile) _ (λ header. KindHolds before.slots header.color header.kind) _ (coded_settles before profile) (λ header holds. holds))))

placed_if : (before : Persist) (long : Bool) (own header : Header) (span compressed : Span) → KindHolds before.slots own.color own.kind
    → ◌≡◌ {A = Result FrameHead Rule} (if long then Err rule.HeaderSizeLong else Ok (head.Coded own span)) (Ok (head.Coded header compressed))
    → KindHolds before.slots header.color header.kind
placed_if before true own header span compressed holds is = let no : ⊥ = cc in absurd no
placed_if before false own header span compressed holds is =
    let same : own ≡ header = cc in
    subst (λ (x : Header). KindHolds before.slots x.color x.kind) same holds

placed_holds : (before : Persist) (bytes : ℕ) (read : Uncompressed) (rest : List ℕ) (header : Header) (compressed : Span) → UncompressedHolds before read
    → placed bytes read rest ≡ Ok (head.Coded header compressed) → KindHolds before.slots header.color header.kind
unfolding placed
placed_holds before bytes (uncompressed.ShowExisting slot) rest header compressed holds is = let no : ⊥ = cc in absurd no
placed_holds before bytes (uncompressed.Coded own) rest header compressed holds is =
    placed_if before (nat_lt (length rest / 8) own.params.compressed_size) own header _ compressed holds is

read_holds : (before : Persist) (bytes : ℕ) (read : Result (Uncompressed × List ℕ) Rule) (header : Header) (compressed : Span)
    → ((x : Uncompressed) (rest : List ℕ) → read ≡ Ok (x, rest) → UncompressedHolds before x)
    → placed_if_read bytes read ≡ Ok (head.Coded header compressed) → KindHolds before.slots header.color header.kind
read_holds before bytes (Ok p) header compressed settles is = placed_holds before bytes p.0 p.1 header compressed (settles p.0 p.1 refl) is
read_holds before bytes (Err fault) header compressed settles is = let no : ⊥ = cc in absurd no

pub references_held : (before : Persist) (frame : List ℕ) (header : Header) (compressed : Span) (fields : InterFields)
    → head_of before frame ≡ Ok (head.Coded header compressed) → header.kind ≡ Inter fields
    → HoldsReference before.slots header.color fields.references.last × HoldsReference before.slots header.color fields.references.golden
    × HoldsReference before.slots header.color fields.references.altref
unfolding head_of
references_held before frame header compressed fields is kind =
    read_holds before (length frame) (read_bits past (uncompressed_header before) (bits_of frame)) header compressed
    (λ x rest read. run_settles (field_at past) (uncompressed_header before) (bits_of frame) x rest (UncompressedHolds before) (header_settles before) read)
    is fields kind
