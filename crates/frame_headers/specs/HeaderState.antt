-- What persists from frame to frame (7.2 and 8.10 of the standard).
use Rattle.std.specs.Prelude.{ℕ, ◌%◌, ◌/◌, ◌==◌, Bool, true, false, List, [], ◌∷◌, Option, Some, None, pos, negsuc, replicate, All, IfSome, if◌then◌else◌}
use Rattle.vp9_types.specs.declared.shape.Shape.{Shape}
use Rattle.frame_headers.specs.declared.filter.LoopDeltas.{LoopDeltas}
use Rattle.frame_headers.specs.declared.header.FrameKind.{FrameKind}
use Rattle.frame_headers.specs.declared.header.FrameKind.TheVariants.{Key, IntraOnly, Inter}
use Rattle.frame_headers.specs.declared.header.Header.{Header}
use Rattle.frame_headers.specs.declared.persist.Persist.{Persist}
use Rattle.frame_headers.specs.Color.{default_color}
use Rattle.frame_headers.specs.Segments.{no_features}
use Rattle.frame_headers.specs.FrameSizes.{HasFrameSize}

abbrev pub shape_of : Header → Shape
shape_of header = record { w = header.size.width; h = header.size.height; depth = header.color.depth; ss_x = header.color.ss_x; ss_y = header.color.ss_y }

abbrev pub is_key : FrameKind → Bool
is_key Key = true
is_key IntraOnly = false
is_key (Inter fields) = false

-- what a slot holds after a frame, by the lowest flag
abbrev pub held : {A : Type 0} → ℕ → A → Option A → Option A
held flags frame old = if flags % 2 == 1 then Some frame else old

-- bit i of the flags says that slot i holds the frame from now on (8.10)
abbrev pub refreshed : {A : Type 0} → ℕ → A → List (Option A) → List (Option A)
refreshed flags frame [] = []
refreshed flags frame (slot ∷ slots) = held flags frame slot ∷ refreshed (flags / 2) frame slots

abbrev pub next_persist : Header → Persist → Persist
next_persist header before = record {
  slots = refreshed header.refresh (shape_of header) before.slots;
  color = header.color;
  deltas = header.params.loop_filter.deltas;
  features = header.params.segmentation.features;
  size = Some header.size;
}

abbrev pub default_deltas : LoopDeltas
default_deltas = record { reference = pos 1 ∷ pos 0 ∷ negsuc 0 ∷ negsuc 0 ∷ []; mode = pos 0 ∷ pos 0 ∷ [] }

-- before the first frame
abbrev pub start_persist : Persist
start_persist = record {
  slots = replicate 8 None;
  color = default_color;
  deltas = default_deltas;
  features = no_features;
  size = None;
}

-- each slot that holds a frame holds one of a size that a frame can have
unfoldable pub SlotsHaveSizes : Persist → Type 0
SlotsHaveSizes persist = All (λ slot. IfSome slot HasFrameSize) persist.slots
