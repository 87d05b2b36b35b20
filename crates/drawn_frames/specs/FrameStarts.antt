-- What is drawn of a frame first: its fields up to its size (6.2 of the standard: uncompressed_header).
use Rattle.std.specs.Prelude.{ℕ, ◌^◌, Bool, true, false, not, nat_eq, [], ◌∷◌, Option, Some, None, slice_index_or, if◌then◌else◌}
use Rattle.vp9_types.specs.declared.shape.Shape.{Shape}
use Rattle.frame_headers.specs.Color.{default_color}
use Rattle.frame_headers.specs.References.{size_of}
use Rattle.frame_headers.specs.declared.color.ColorConfig.{ColorConfig}
use Rattle.frame_headers.specs.declared.header.FrameFilter.TheVariants.{Switchable}
use Rattle.frame_headers.specs.declared.header.FrameKind.{FrameKind}
use Rattle.frame_headers.specs.declared.header.FrameKind.TheVariants.{Key, IntraOnly, Inter}
use Rattle.frame_headers.specs.declared.header.FrameSize.{FrameSize}
use Rattle.frame_headers.specs.declared.header.Reference.{Reference}
use Rattle.frame_headers.specs.declared.header.References.{References}
use Rattle.frame_headers.specs.declared.persist.Persist.{Persist}
use Rattle.header_writer.specs.declared.choices.Choices.{Choices}
use Rattle.drawn_symbols.specs.Draws.{Drawn, stay, ◌>>=◌, draw, draw_flag}
use Rattle.drawn_frames.specs.MadeFrames.{whole_size, small_size, key_color, made_shape}
use Rattle.drawn_frames.specs.declared.starts.Start.{Start}

-- one chance of n
unfoldable pub draw_chance : ℕ → Drawn Bool
draw_chance n = draw n >>= λ v. stay (nat_eq v 0)

-- neither deltas nor features are coded; the altref's bias is, also where it counts as 0
abbrev pub choices_of : Bool → Bool → Choices
choices_of bias own_size = record { biases = false ∷ false ∷ bias ∷ []; own_size = own_size; deltas = false; features = false }

abbrev pub intra_start : FrameKind → Bool → ℕ → ColorConfig → Start
intra_start kind show refresh color = record {
  show_frame = show;
  fields = record { kind = kind; reset_context = 0; refresh = refresh; color = color; size = whole_size };
  choices = choices_of false false;
}

-- a key frame is shown, and refreshes all slots
abbrev pub key_start : Start
key_start = intra_start Key true 255 key_color

-- an intra-only frame is hidden, and refreshes one slot
unfoldable pub draw_intra_only : Drawn Start
draw_intra_only = draw 8 >>= λ slot. stay (intra_start IntraOnly false (2 ^ slot) default_color)

---- Inter frames ----

-- no slot is empty behind the first frame
abbrev pub shape_in : Option Shape → Shape
shape_in (Some shape) = shape
shape_in None = made_shape whole_size

unfoldable pub draw_reference : Persist → Drawn Reference
draw_reference before = draw 8 >>= λ slot. stay (record { slot = slot; sign_bias = false; shape = shape_in (slice_index_or before.slots slot None) })

-- the altref alone can lie on the other side in time
unfoldable pub draw_frame_references : Persist → Drawn References
draw_frame_references before = do
  last ← draw_reference before
  golden ← draw_reference before
  altref ← draw_reference before
  bias ← draw_flag
  stay (record { last = last; golden = golden; altref = record { slot = altref.slot; sign_bias = bias; shape = altref.shape } })

-- a size of its own, or that of the first reference
unfoldable pub draw_frame_size : Bool → Reference → Drawn FrameSize
draw_frame_size own_size last = if own_size then (draw_flag >>= λ small. stay (if small then small_size else whole_size)) else stay (size_of last)

-- whether its vectors have high precision is drawn later
abbrev pub inter_start : Bool → ℕ → References → Bool → FrameSize → ColorConfig → Start
inter_start show refresh refs own_size size color = record {
  show_frame = show;
  fields = record {
    kind = Inter (record { references = refs; high_precision = false; filter = Switchable });
    reset_context = 0;
    refresh = refresh;
    color = color;
    size = size;
  };
  choices = choices_of refs.altref.sign_bias own_size;
}

-- one of four is hidden
unfoldable pub draw_inter_fields : Persist → Drawn Start
draw_inter_fields before = do
  hidden ← draw_chance 4
  refresh ← draw 256
  refs ← draw_frame_references before
  own_size ← draw_chance 16
  size ← draw_frame_size own_size refs.last
  stay (inter_start (not hidden) refresh refs own_size size before.color)
