-- The uncompressed headers of a made stream (6.2 of the standard), as they are drawn.
use Rattle.std.specs.Prelude.{ℕ, Bool, true, false, not, ◌&&◌, nat_eq, if◌then◌else◌}
use Rattle.frame_headers.specs.declared.header.FrameContexts.{FrameContexts}
use Rattle.frame_headers.specs.declared.header.FrameKind.{FrameKind}
use Rattle.frame_headers.specs.declared.header.FrameKind.TheVariants.{Key, IntraOnly, Inter}
use Rattle.frame_headers.specs.declared.header.FrameParams.{FrameParams}
use Rattle.frame_headers.specs.declared.header.Header.{Header}
use Rattle.frame_headers.specs.declared.header.Reference.{Reference}
use Rattle.frame_headers.specs.declared.header.References.{References}
use Rattle.frame_headers.specs.declared.header.Uncompressed.TheVariants.{ShowExisting, Coded}
use Rattle.frame_headers.specs.declared.persist.Persist.{Persist}
use Rattle.drawn_symbols.specs.Draws.{Drawn, stay, ◌>>=◌, draw, draw_flag}
use Rattle.drawn_frames.specs.Params.{draw_params}
use Rattle.drawn_frames.specs.FrameStarts.{draw_chance, choices_of, key_start, draw_intra_only, draw_inter_fields}
use Rattle.drawn_frames.specs.declared.heads.DrawnHead.{DrawnHead}
use Rattle.drawn_frames.specs.declared.starts.Start.{Start}

-- an error-resilient frame codes neither of the two flags
unfoldable pub draw_contexts : Bool → Drawn FrameContexts
draw_contexts true = do
  index ← draw 4
  stay (record { refresh = false; parallel = true; index = index })
draw_contexts false = do
  refresh ← draw_flag
  parallel ← draw_flag
  index ← draw 4
  stay (record { refresh = refresh; parallel = parallel; index = index })

-- in an error-resilient frame the bias counts as 0
abbrev pub counted : Bool → Reference → Reference
counted resilient r = record { slot = r.slot; sign_bias = not resilient && r.sign_bias; shape = r.shape }

abbrev pub all_counted : Bool → References → References
all_counted resilient refs = record { last = counted resilient refs.last; golden = counted resilient refs.golden; altref = counted resilient refs.altref }

-- of an inter frame, whether its vectors have high precision
unfoldable pub draw_kind : Bool → FrameKind → Drawn FrameKind
draw_kind resilient Key = stay Key
draw_kind resilient IntraOnly = stay IntraOnly
draw_kind resilient (Inter fields) =
    draw_flag >>= λ precise. stay (Inter (record { references = all_counted resilient fields.references; high_precision = precise; filter = fields.filter }))

abbrev pub header_of : Start → Bool → FrameContexts → FrameKind → FrameParams → Header
header_of start resilient contexts kind params = record {
  profile = 0;
  kind = kind;
  show_frame = start.show_frame;
  error_resilient = resilient;
  reset_context = start.fields.reset_context;
  color = start.fields.color;
  size = start.fields.size;
  refresh = start.fields.refresh;
  contexts = contexts;
  params = params;
}

-- the rest of a header; one frame of eight is error-resilient
unfoldable pub draw_rest : Start → Drawn Header
draw_rest start = do
  resilient ← draw_chance 8
  contexts ← draw_contexts resilient
  kind ← draw_kind resilient start.fields.kind
  params ← draw_params start.fields.size.width
  stay (header_of start resilient contexts kind params)

unfoldable pub draw_coded : Start → Drawn DrawnHead
draw_coded start = do
  header ← draw_rest start
  stay (record { header = Coded header; choices = start.choices })

-- a slot is shown again
unfoldable pub draw_shown : Drawn DrawnHead
draw_shown = draw 8 >>= λ slot. stay (record { header = ShowExisting slot; choices = choices_of false false })

-- of eight frames one is a key frame, one intra only, one shown again, and five are inter frames
abbrev pub draw_by : ℕ → Persist → Drawn DrawnHead
draw_by choice before =
    if nat_eq choice 0 then draw_coded key_start
    else (if nat_eq choice 1 then (draw_intra_only >>= λ start. draw_coded start)
    else (if nat_eq choice 2 then draw_shown
    else (draw_inter_fields before >>= λ start. draw_coded start)))

unfoldable pub draw_later : Persist → Drawn DrawnHead
draw_later before = draw 8 >>= λ choice. draw_by choice before

-- the header of a frame; the first is a key frame
unfoldable pub draw_head : Bool → Persist → Drawn DrawnHead
draw_head first before = if first then draw_coded key_start else draw_later before
