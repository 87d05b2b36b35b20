-- What persists behind a drawn header.
use Rattle.std.proofs.Common.{◌≡◌, ◌∙◌, ℕ, zero, suc, ◌+◌, ◌*◌, ◌/◌, ◌%◌, ◌^◌, ◌<◌, ◌≤◌, List, [], ◌∷◌, length, Bool, true, false, inl, inr, refl, ap, arith}
use Rattle.std.specs.Prelude.{Option, Some, None, slice_index_or, ◌==◌, if◌then◌else◌}
use Rattle.std.proofs.lemmas.Nat.{pow-add}
use Rattle.vp9_types.specs.declared.shape.Shape.{Shape}
use Rattle.frame_headers.specs.HeaderState.{shape_of, held, refreshed, next_persist}
use Rattle.frame_headers.specs.declared.header.FrameFields.{FrameFields}
use Rattle.frame_headers.specs.declared.header.FrameKind.{FrameKind}
use Rattle.frame_headers.specs.declared.header.FrameKind.TheVariants.{Key, IntraOnly, Inter}
use Rattle.frame_headers.specs.declared.header.Header.{Header}
use Rattle.frame_headers.specs.declared.header.Uncompressed.{Uncompressed}
use Rattle.frame_headers.specs.declared.header.Uncompressed.TheVariants.{ShowExisting, Coded}
use Rattle.frame_headers.specs.declared.persist.Persist.{Persist}
use Rattle.header_writer.specs.Code.{fields_of}
use Rattle.drawn_frames.specs.Code.{IsMadeKind, IsMadeHeader, IsMadeHead, IfCoded}
use Rattle.drawn_frames.specs.MadeFrames.{IsMadeSize, IsMadeColor, IsMadeShape, IsMadeSlot, IsMade}

---- Slots ----

some_shape : (slot : Option Shape) → IsMadeSlot slot → (shape : Shape) × (slot ≡ Some shape)
some_shape (Some shape) made = (shape, refl)
some_shape None made = absurd made

pub slot_holds : (before : Persist) (i : ℕ) → IsMade before → i < 8 → (shape : Shape) × (slice_index_or before.slots i None ≡ Some shape)
slot_holds before i made low = some_shape (slice_index_or before.slots i None) (made.slots i low)

chosen_made : (new : Bool) (shape : Shape) (old : Option Shape) → IsMadeShape shape → IsMadeSlot old → IsMadeSlot (if new then Some shape else old)
chosen_made true shape old made h = made
chosen_made false shape old made h = h

-- a slot that held a frame holds one again
some_refreshed : (flags : ℕ) (shape : Shape) (slots : List (Option Shape)) (i : ℕ) → IsMadeShape shape → IsMadeSlot (slice_index_or slots i None)
    → IsMadeSlot (slice_index_or (refreshed flags shape slots) i None)
some_refreshed flags shape [] i made h = h
some_refreshed flags shape (slot ∷ slots) zero made h = chosen_made (flags % 2 == 1) shape slot made h
some_refreshed flags shape (slot ∷ slots) (suc i) made h = some_refreshed (flags / 2) shape slots i made h

doubled : (k : ℕ) → 2 ^ suc k ≡ 2 ^ k * 2
doubled k = let e : suc k ≡ k + 1 = omega arith in ap (λ m. 2 ^ m) e ∙ pow-add 2 k 1

held_new : (flags : ℕ) (shape : Shape) (old : Option Shape) → flags % 2 ≡ 1 → IsMadeShape shape → IsMadeSlot (held flags shape old)
held_new flags shape old odd made = rw odd made

-- k flags of 1 refresh the first k slots
all_refreshed : (k flags : ℕ) (shape : Shape) (slots : List (Option Shape)) (i : ℕ) → k ≤ length slots → flags + 1 ≡ 2 ^ k → i < k → IsMadeShape shape
    → IsMadeSlot (slice_index_or (refreshed flags shape slots) i None)
all_refreshed zero flags shape slots i long ones low made = absurd (omega (arith, low))
all_refreshed (suc k) flags shape [] i long ones low made = absurd (omega (arith, long))
all_refreshed (suc k) flags shape (slot ∷ slots) zero long ones low made =
    let twice = doubled k in held_new flags shape slot (omega (arith, ones, twice)) made
all_refreshed (suc k) flags shape (slot ∷ slots) (suc i) long ones low made =
    let twice = doubled k in
    all_refreshed k (flags / 2) shape slots i (omega (arith, long)) (omega (arith, ones, twice)) (omega (arith, low)) made

---- Kinds ----

pub of_kind : (before : Persist) (resilient show : Bool) (fields : FrameFields) (k kind : FrameKind)
    → IsMadeKind before resilient show fields kind → IsMadeKind before resilient show (record fields { kind = k }) kind
of_kind before resilient show fields k Key h = h
of_kind before resilient show fields k IntraOnly h = h
of_kind before resilient show fields k (Inter inter) h = h

color_made : (before : Persist) (resilient show : Bool) (fields : FrameFields) (kind : FrameKind) → IsMadeKind before resilient show fields kind → IsMadeColor fields.color
color_made before resilient show fields Key h = inl h.1
color_made before resilient show fields IntraOnly h = inr h.2
color_made before resilient show fields (Inter inter) h = rw h.1 h.0.color

slots_made : (before : Persist) (resilient show : Bool) (fields : FrameFields) (kind : FrameKind) (shape : Shape) → length before.slots ≡ 8 → IsMadeShape shape
    → IsMadeKind before resilient show fields kind → (i : ℕ) → i < 8 → IsMadeSlot (slice_index_or (refreshed fields.refresh shape before.slots) i None)
slots_made before resilient show fields Key shape eight made h i low = rw h.0 (all_refreshed 8 255 shape before.slots i (omega (arith, eight)) refl low made)
slots_made before resilient show fields IntraOnly shape eight made h i low = some_refreshed fields.refresh shape before.slots i made (h.0.slots i low)
slots_made before resilient show fields (Inter inter) shape eight made h i low = some_refreshed fields.refresh shape before.slots i made (h.0.slots i low)

---- Headers ----

shape_made : (header : Header) → IsMadeSize header.size → IsMadeColor header.color → IsMadeShape (shape_of header)
shape_made header size color = elim size [
  | inl whole ↦ elim color [ inl key ↦ inl (rw (whole, key) refl) | inr plain ↦ inl (rw (whole, plain) refl) ]
  | inr small ↦ elim color [ inl key ↦ inr (rw (small, key) refl) | inr plain ↦ inr (rw (small, plain) refl) ]
]

next_made : (before : Persist) (header : Header) → length before.slots ≡ 8 → IsMadeHeader before header → IsMade (next_persist header before)
next_made before header eight h =
    let color = color_made before header.error_resilient header.show_frame (fields_of header) header.kind h.kind in
    record {
      slots = slots_made before header.error_resilient header.show_frame (fields_of header) header.kind (shape_of header) eight (shape_made header h.size color) h.kind;
      color = color;
      deltas = h.params.deltas;
      features = h.params.plain;
    }

pub head_made : (before : Persist) (x : Uncompressed) → length before.slots ≡ 8 → IsMadeHead before x → IfCoded x (λ header. IsMade (next_persist header before))
head_made before (ShowExisting slot) eight h = tt
head_made before (Coded header) eight h = next_made before header eight h
