-- Slots and the sizes of what they hold.
use Rattle.std.proofs.Common.{◌≡◌, ℕ, zero, suc, ◌%◌, ◌/◌, List, [], ◌∷◌, get_or, subst}
use Rattle.std.specs.Prelude.{All, IfSome, Option, Some, None, Bool, true, false, ◌==◌, if◌then◌else◌}
use Rattle.std.proofs.lemmas.List.Elements.{All-nil, All-cons, All-head, All-tail, All-replicate}
use Rattle.vp9_types.specs.declared.shape.Shape.{Shape}
use Rattle.frame_headers.specs.declared.header.Header.{Header}
use Rattle.frame_headers.specs.declared.persist.Persist.{Persist}
use Rattle.frame_headers.specs.FrameSizes.{IsFrameSize, HasFrameSize}
use Rattle.frame_headers.specs.HeaderState.{held, refreshed, next_persist, start_persist, SlotsHaveSizes}

abbrev IsSized : Option Shape → Type 0
IsSized slot = IfSome slot HasFrameSize

held_is_sized : (slots : List (Option Shape)) (i : ℕ) (shape : Shape) → get_or slots i None ≡ Some shape → All IsSized slots → HasFrameSize shape
held_is_sized [] i shape is h = let no : ⊥ = cc in absurd no
held_is_sized (slot ∷ slots) zero shape is h = subst IsSized is (All-head IsSized slot slots h)
held_is_sized (slot ∷ slots) (suc i) shape is h = held_is_sized slots i shape is (All-tail IsSized slot slots h)

pub slot_has_size : (before : Persist) (i : ℕ) (shape : Shape) → get_or before.slots i None ≡ Some shape → SlotsHaveSizes before → HasFrameSize shape
unfolding SlotsHaveSizes
slot_has_size before i shape is h = held_is_sized before.slots i shape is h

chosen_is_sized : (new : Bool) (shape : Shape) (old : Option Shape) → HasFrameSize shape → IsSized old → IsSized (if new then Some shape else old)
chosen_is_sized true shape old size h = size
chosen_is_sized false shape old size h = h

refreshed_are_sized : (flags : ℕ) (shape : Shape) (slots : List (Option Shape)) → HasFrameSize shape → All IsSized slots → All IsSized (refreshed flags shape slots)
refreshed_are_sized flags shape [] size h = All-nil IsSized
refreshed_are_sized flags shape (slot ∷ slots) size h = All-cons IsSized (held flags shape slot) (refreshed (flags / 2) shape slots)
    (chosen_is_sized (flags % 2 == 1) shape slot size (All-head IsSized slot slots h))
    (refreshed_are_sized (flags / 2) shape slots size (All-tail IsSized slot slots h))

pub next_has_sizes : (header : Header) (before : Persist) → IsFrameSize header.size → SlotsHaveSizes before → SlotsHaveSizes (next_persist header before)
unfolding SlotsHaveSizes
next_has_sizes header before size h = refreshed_are_sized header.refresh _ before.slots size h

pub start_has_sizes : SlotsHaveSizes start_persist
unfolding SlotsHaveSizes
start_has_sizes = All-replicate IsSized 8 None tt
