-- The references of inter frames (6.2, 6.2.5, 6.2.7 and 7.2 of the standard).
use Rattle.std.specs.Prelude.{ℕ, ◌*◌, Bool, true, false, not, ◌&&◌, ◌||◌, ◌==◌, nat_le, slice_index_or, Option, Some, None, if◌then◌else◌}
use Rattle.vp9_types.specs.declared.block.InterpFilter.{InterpFilter}
use Rattle.vp9_types.specs.declared.block.InterpFilter.TheVariants.{Regular, Smooth, Sharp, Bilinear}
use Rattle.vp9_types.specs.declared.rule.Rule.{Rule}
use Rattle.vp9_types.specs.declared.rule.Rule.TheVariants as rule
use Rattle.vp9_types.specs.declared.shape.Shape.{Shape}
use Rattle.vp9_types.specs.Shapes.{depth_bits}
use Rattle.vp9_types.specs.Syntax.{done, broken, ◌>>=◌, ◌>>◌, check}
use Rattle.frame_headers.specs.declared.color.ColorConfig.{ColorConfig}
use Rattle.frame_headers.specs.declared.field.FieldName.{FieldName}
use Rattle.frame_headers.specs.declared.field.FieldName.TheVariants as name
use Rattle.frame_headers.specs.declared.header.FrameFields.{FrameFields}
use Rattle.frame_headers.specs.declared.header.FrameFilter.{FrameFilter}
use Rattle.frame_headers.specs.declared.header.FrameFilter.TheVariants.{Fixed, Switchable}
use Rattle.frame_headers.specs.declared.header.FrameKind.TheVariants.{Inter}
use Rattle.frame_headers.specs.declared.header.FrameSize.{FrameSize}
use Rattle.frame_headers.specs.declared.header.Reference.{Reference}
use Rattle.frame_headers.specs.declared.header.References.{References}
use Rattle.frame_headers.specs.declared.persist.Persist.{Persist}
use Rattle.frame_headers.specs.Fields.{Table, f, flag_field}
use Rattle.frame_headers.specs.FrameSizes.{frame_size, render_size, HasFrameSize}

-- what a slot holds, which is broken where it is empty
abbrev pub held_by : ℕ → Rule → Option Shape → Table (ℕ × Shape)
held_by slot missing (Some shape) = done (slot, shape)
held_by slot missing None = broken missing

unfoldable pub slot_shape : FieldName → Persist → Rule → Table (ℕ × Shape)
slot_shape field before missing = do
  slot ← f field 3
  held_by slot missing (slice_index_or before.slots slot None)

-- In an error-resilient frame the sign bias is read, and counts as 0.
unfoldable pub reference : Persist → Bool → Table Reference
reference before resilient = do
  held ← slot_shape name.RefFrameIdx before rule.RefMissing
  bias ← flag_field name.RefFrameSignBias
  done (record { slot = held.0; sign_bias = not resilient && bias; shape = held.1 })

unfoldable pub references : Persist → Bool → Table References
references before resilient = do
  last ← reference before resilient
  golden ← reference before resilient
  altref ← reference before resilient
  done (record { last = last; golden = golden; altref = altref })

abbrev pub same_bit : Bool → Bool → Bool
same_bit true b = b
same_bit false b = not b

-- a reference has the frame's depth and subsampling
abbrev pub has_format : ColorConfig → Reference → Bool
has_format color r = depth_bits r.shape.depth == depth_bits color.depth && same_bit r.shape.ss_x color.ss_x && same_bit r.shape.ss_y color.ss_y

-- at most twice as large as the frame, and at most 16 times smaller (7.2.5)
abbrev pub has_allowed_scale : FrameSize → Reference → Bool
has_allowed_scale size r =
    nat_le r.shape.w (2 * size.width) && nat_le r.shape.h (2 * size.height) && nat_le size.width (16 * r.shape.w) && nat_le size.height (16 * r.shape.h)

abbrev pub size_of : Reference → FrameSize
size_of r = record { width = r.shape.w; height = r.shape.h }

-- the references have sizes that a frame can have
abbrev pub HaveFrameSizes : References → Type 0
HaveFrameSizes refs = HasFrameSize refs.last.shape × HasFrameSize refs.golden.shape × HasFrameSize refs.altref.shape

-- frame_size_with_refs (6.2.5): the size of the first reference that is found to have it, or else a size of its own
unfoldable pub found_size : References → Table FrameSize
found_size refs = do
  last ← flag_field name.FoundRef
  if last then done (size_of refs.last) else do
    golden ← flag_field name.FoundRef
    if golden then done (size_of refs.golden) else do
      altref ← flag_field name.FoundRef
      if altref then done (size_of refs.altref) else frame_size

abbrev pub all_of : (Reference → Bool) → References → Bool
all_of test refs = test refs.last && test refs.golden && test refs.altref

abbrev pub some_of : (Reference → Bool) → References → Bool
some_of test refs = test refs.last || test refs.golden || test refs.altref

-- literal_to_type (7.2.7)
abbrev pub filter_of : ℕ → InterpFilter
filter_of code = if code == 0 then Smooth else (if code == 1 then Regular else (if code == 2 then Sharp else Bilinear))

-- 6.2.7
unfoldable pub interpolation_filter : Table FrameFilter
interpolation_filter = do
  switchable ← flag_field name.IsFilterSwitchable
  if switchable then done Switchable else (f name.RawInterpolationFilter 2 >>= λ code. done (Fixed (filter_of code)))

-- an inter frame from its refreshed slots on
unfoldable pub inter_fields : Persist → Bool → ℕ → Table FrameFields
inter_fields before resilient reset = do
  refresh ← f name.RefreshFrameFlags 8
  refs ← references before resilient
  check (all_of (has_format before.color) refs) rule.RefFormat
  size ← found_size refs
  check (some_of (has_allowed_scale size) refs) rule.RefScale
  render_size
  precise ← flag_field name.AllowHighPrecisionMv
  filter ← interpolation_filter
  done (record {
    kind = Inter (record { references = refs; high_precision = precise; filter = filter });
    reset_context = reset;
    refresh = refresh;
    color = before.color;
    size = size;
  })
