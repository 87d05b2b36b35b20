-- Tests of headers (6.2 of the standard).
use Rattle.std.specs.Prelude.{ℕ, Bool, true, not, ◌&&◌, ◌||◌, nat_eq, nat_le, nat_lt, slice_index_or, None}
use Rattle.std.specs.Option.{is_some}
use Rattle.frame_headers.specs.Header.{forgets, kept_deltas, kept_features}
use Rattle.frame_headers.specs.References.{all_of, has_format, has_allowed_scale, some_of}
use Rattle.frame_headers.specs.declared.header.FrameContexts.{FrameContexts}
use Rattle.frame_headers.specs.declared.header.FrameKind.{FrameKind}
use Rattle.frame_headers.specs.declared.header.FrameKind.TheVariants.{Key, IntraOnly, Inter}
use Rattle.frame_headers.specs.declared.header.FrameSize.{FrameSize}
use Rattle.frame_headers.specs.declared.header.Header.{Header}
use Rattle.frame_headers.specs.declared.header.Reference.{Reference}
use Rattle.frame_headers.specs.declared.header.References.{References}
use Rattle.frame_headers.specs.declared.header.Uncompressed.{Uncompressed}
use Rattle.frame_headers.specs.declared.header.Uncompressed.TheVariants.{ShowExisting, Coded}
use Rattle.frame_headers.specs.declared.persist.Persist.{Persist}
use Rattle.header_writer.specs.declared.choices.Choices.{Choices}
use Rattle.header_checks.specs.ColorTests.{is_color, is_intra_only_color}
use Rattle.header_checks.specs.Params.{are_params}
use Rattle.header_checks.specs.Same.{holds, same_color, same_deltas, same_features}

-- an error-resilient frame codes neither of the two flags
abbrev pub are_contexts : Bool → FrameContexts → Bool
are_contexts resilient contexts = nat_lt contexts.index 4 && (not resilient || not contexts.refresh && contexts.parallel)

-- an error-resilient frame resets all contexts, and codes no number
abbrev pub is_reset : Bool → ℕ → Bool
is_reset resilient reset = nat_lt reset 4 && (not resilient || nat_eq reset 0)

-- sizes are coded in 16 bits
abbrev pub is_frame_size : FrameSize → Bool
is_frame_size size = nat_le 1 size.width && nat_le size.width 65536 && nat_le 1 size.height && nat_le size.height 65536

---- References ----

-- its slot holds a frame of its shape
unfoldable pub is_reference : Persist → Bool → Reference → Bool
is_reference before resilient r = nat_lt r.slot 8 && holds (slice_index_or before.slots r.slot None) r.shape && not (resilient && r.sign_bias)

-- all have the frame's format, one is in range of its size
unfoldable pub are_references : Persist → Bool → FrameSize → References → Bool
are_references before resilient size refs =
    all_of (is_reference before resilient) refs && all_of (has_format before.color) refs && some_of (has_allowed_scale size) refs

---- Headers ----

-- a key frame refreshes all slots, and a shown frame isn't intra only
abbrev pub is_of_kind : Persist → Header → FrameKind → Bool
is_of_kind before header Key = nat_eq header.reset_context 0 && nat_eq header.refresh 255 && is_color header.profile header.color
is_of_kind before header IntraOnly =
    not header.show_frame && is_reset header.error_resilient header.reset_context && is_intra_only_color header.profile header.color
is_of_kind before header (Inter fields) =
    is_reset header.error_resilient header.reset_context && same_color header.color before.color
    && are_references before header.error_resilient header.size fields.references

-- by the deltas and features that it starts from
abbrev pub has_params : Persist → Header → Bool
has_params before header =
    are_params (kept_deltas before (forgets header.kind header.error_resilient)) (kept_features before (forgets header.kind header.error_resilient))
    header.size.width header.params

unfoldable pub is_header : Persist → Header → Bool
is_header before header =
    nat_lt header.profile 4 && is_frame_size header.size && is_of_kind before header header.kind
    && are_contexts header.error_resilient header.contexts && has_params before header

-- a slot that is shown holds a frame
abbrev pub is_well_formed : Persist → Uncompressed → Bool
is_well_formed before (ShowExisting slot) = nat_lt slot 8 && is_some (slice_index_or before.slots slot None)
is_well_formed before (Coded header) = is_header before header

---- Choices ----

-- what isn't coded is as it was before
abbrev pub can_choose : Persist → Choices → Uncompressed → Bool
can_choose before choices (ShowExisting slot) = true
can_choose before choices (Coded header) =
    (choices.deltas || same_deltas header.params.loop_filter.deltas (kept_deltas before (forgets header.kind header.error_resilient)))
    && (choices.features || same_features header.params.segmentation.features (kept_features before (forgets header.kind header.error_resilient)))
