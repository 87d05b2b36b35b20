-- A slot that a header shows holds a picture, so the frame shows one.
use Rattle.std.proofs.Common.{◌≡◌, ◌∙◌, ℕ, List, length, refl, ap, sym, subst, Bool, true, false}
use Rattle.std.specs.Prelude.{Result, Ok, Err, Option, Some, None, get_or, slice_index_or, nat_lt, ◌/◌, if◌then◌else◌}
use Rattle.std.proofs.Math.ListN.{get_or-map}
use Rattle.vp9_types.specs.Bits.{bits_of}
use Rattle.vp9_types.specs.Reading.{after, run, field_at, read_bits}
use Rattle.vp9_types.specs.Syntax.{Syntax, done, broken, ask, ◌>>=◌}
use Rattle.vp9_types.specs.declared.rule.Rule.{Rule}
use Rattle.vp9_types.specs.declared.rule.Rule.TheVariants as rule
use Rattle.vp9_types.specs.declared.shape.Shape.{Shape}
use Rattle.frame_headers.specs.declared.field.FieldName.{FieldName}
use Rattle.frame_headers.specs.declared.field.FieldName.TheVariants as name
use Rattle.frame_headers.specs.declared.header.FrameHead.{FrameHead}
use Rattle.frame_headers.specs.declared.header.FrameHead.TheVariants as head
use Rattle.frame_headers.specs.declared.header.Uncompressed.{Uncompressed}
use Rattle.frame_headers.specs.declared.header.Uncompressed.TheVariants as uncompressed
use Rattle.frame_headers.specs.declared.persist.Persist.{Persist}
use Rattle.frame_headers.specs.Fields.{past, f, flag_field}
use Rattle.frame_headers.specs.Header.{frame_profile, coded_frame, uncompressed_header, placed, placed_if_read, head_of}
use Rattle.frame_headers.specs.References.{held_by, slot_shape}
use Rattle.job_decoder.specs.seq_decoder.Runs.{shown_list}
use Rattle.job_decoder.specs.seq_decoder.DecoderState as state
use Rattle.job_decoder.specs.seq_decoder.DecoderState.{Picture, State, persist_of}

---- What a syntax settles on, whatever is answered ----

abbrev Settles : {Q E A : Type 0} → Syntax Q E A → (A → Type 0) → Type 0
Settles (done x) P = P x
Settles (broken e) P = Unit {0}
Settles (ask q k) P = (v : ℕ) → Settles (k v) P

settles_bind : {Q E A B : Type 0} (s : Syntax Q E A) (k : A → Syntax Q E B) (P : A → Type 0) (R : B → Type 0)
    → Settles s P → ((x : A) → P x → Settles (k x) R) → Settles (s >>= k) R
settles_bind (done x) k P R h g = g x h
settles_bind (broken e) k P R h g = tt
settles_bind (ask q next) k P R h g = λ v. settles_bind (next v) k P R (h v) g

settles_all : {Q E A : Type 0} (s : Syntax Q E A) → Settles s (λ x. Unit {0})
settles_all (done x) = tt
settles_all (broken e) = tt
settles_all (ask q k) = λ v. settles_all (k v)

settles_then : {Q E A B : Type 0} (s : Syntax Q E A) (k : A → Syntax Q E B) (R : B → Type 0) → ((x : A) → Settles (k x) R) → Settles (s >>= k) R
settles_then s k R g = settles_bind s k (λ x. Unit {0}) R (settles_all s) (λ x _. g x)

settles_if : {Q E A : Type 0} (test : Bool) (s t : Syntax Q E A) (P : A → Type 0) → Settles s P → Settles t P → Settles (if test then s else t) P
settles_if true s t P hs ht = hs
settles_if false s t P hs ht = ht

answered : {Q E A M : Type 0} (answer : Q → M → Result (ℕ × M) E) (r : Result (ℕ × M) E) (k : ℕ → Syntax Q E A) (x : A) (rest : M) (P : A → Type 0)
    → ((v : ℕ) (m : M) → run answer (k v) m ≡ Ok (x, rest) → P x) → after r (λ v m. run answer (k v) m) ≡ Ok (x, rest) → P x
answered answer (Ok p) k x rest P each h = each p.0 p.1 h
answered answer (Err e) k x rest P each h = let no : ⊥ = cc in absurd no

-- what is read is what the syntax settles on
run_settles : {Q E A M : Type 0} (answer : Q → M → Result (ℕ × M) E) (s : Syntax Q E A) (m : M) (x : A) (rest : M) (P : A → Type 0)
    → Settles s P → run answer s m ≡ Ok (x, rest) → P x
run_settles {A} {M} answer (done y) m x rest P settles h =
    let both : ◌≡◌ {A = A × M} (y, m) (x, rest) = cc in
    subst P (ap (λ z. z.0) both) settles
run_settles answer (broken e) m x rest P settles h = let no : ⊥ = cc in absurd no
run_settles answer (ask q k) m x rest P settles h =
    answered answer (answer q m) k x rest P (λ v n read. run_settles answer (k v) n x rest P (settles v) read) h

---- A header that shows a slot ----

abbrev IsHeld : Persist → ℕ → Type 0
IsHeld before slot = (shape : Shape) × (slice_index_or before.slots slot None ≡ Some shape)

held_settles : (before : Persist) (slot : ℕ) (missing : Rule) (found : Option Shape) → slice_index_or before.slots slot None ≡ found
    → Settles (held_by slot missing found) (λ h. IsHeld before h.0)
held_settles before slot missing (Some shape) is = (shape, is)
held_settles before slot missing None is = tt

slot_settles : (field : FieldName) (before : Persist) (missing : Rule) → Settles (slot_shape field before missing) (λ h. IsHeld before h.0)
unfolding slot_shape f
slot_settles field before missing = λ slot. held_settles before slot missing (slice_index_or before.slots slot None) refl

abbrev ShowsHeld : Persist → Uncompressed → Type 0
ShowsHeld before (uncompressed.ShowExisting slot) = IsHeld before slot
ShowsHeld before (uncompressed.Coded header) = Unit {0}

header_settles : (before : Persist) → Settles (uncompressed_header before) (ShowsHeld before)
unfolding uncompressed_header
header_settles before =
    settles_then frame_profile _ _
    (λ profile. settles_then (flag_field name.ShowExistingFrame) _ _
    (λ existing. settles_if existing
    (slot_shape name.FrameToShowMapIdx before rule.ShowMissing >>= λ held. done (uncompressed.ShowExisting held.0))
    (coded_frame before profile >>= λ header. done (uncompressed.Coded header)) (ShowsHeld before)
    (settles_bind (slot_shape name.FrameToShowMapIdx before rule.ShowMissing) _ (λ h. IsHeld before h.0) _ (slot_settles name.FrameToShowMapIdx before rule.ShowMissing) (λ h held. held))
    (settles_then (coded_frame before profile) _ _ (λ header. tt))))

no_slot : (long : Bool) (other : FrameHead) (slot : ℕ) → (other ≡ head.ShowExisting slot → ⊥)
    → ◌≡◌ {A = Result FrameHead Rule} (if long then Err rule.HeaderSizeLong else Ok other) (Ok (head.ShowExisting slot)) → ⊥
no_slot true other slot differs is = cc
no_slot false other slot differs is =
    let same : other ≡ head.ShowExisting slot = cc in
    differs same

placed_shows : (before : Persist) (bytes : ℕ) (read : Uncompressed) (rest : List ℕ) (slot : ℕ) → ShowsHeld before read
    → placed bytes read rest ≡ Ok (head.ShowExisting slot) → IsHeld before slot
unfolding placed
placed_shows before bytes (uncompressed.ShowExisting own) rest slot held is =
    let same : own ≡ slot = cc in
    subst (IsHeld before) same held
placed_shows before bytes (uncompressed.Coded header) rest slot held is =
    absurd (no_slot (nat_lt (length rest / 8) header.params.compressed_size) _ slot (λ same. cc) is)

read_shows : (before : Persist) (bytes : ℕ) (read : Result (Uncompressed × List ℕ) Rule) (slot : ℕ)
    → ((x : Uncompressed) (rest : List ℕ) → read ≡ Ok (x, rest) → ShowsHeld before x)
    → placed_if_read bytes read ≡ Ok (head.ShowExisting slot) → IsHeld before slot
read_shows before bytes (Ok p) slot settles is = placed_shows before bytes p.0 p.1 slot (settles p.0 p.1 refl) is
read_shows before bytes (Err fault) slot settles is = let no : ⊥ = cc in absurd no

slot_held : (before : Persist) (frame : List ℕ) (slot : ℕ) → head_of before frame ≡ Ok (head.ShowExisting slot) → IsHeld before slot
unfolding head_of
slot_held before frame slot is =
    read_shows before (length frame) (read_bits past (uncompressed_header before) (bits_of frame)) slot
    (λ x rest read. run_settles (field_at past) (uncompressed_header before) (bits_of frame) x rest (ShowsHeld before) (header_settles before) read)
    is

---- What the frame shows ----

one_shown : (held : Option Picture) (shape : Shape) → state.shape_in_slot held ≡ Some shape → length (shown_list held) ≡ 1
one_shown None shape is = let no : ⊥ = cc in absurd no
one_shown (Some picture) shape is = refl

pub slot_shows_one : (s : State) (frame : List ℕ) (slot : ℕ) → head_of (persist_of s) frame ≡ Ok (head.ShowExisting slot) → length (shown_list (get_or s.slots slot None)) ≡ 1
slot_shows_one s frame slot is =
    let held = slot_held (persist_of s) frame slot is in
    one_shown (get_or s.slots slot None) held.0 (sym (get_or-map state.shape_in_slot s.slots slot None) ∙ held.1)
