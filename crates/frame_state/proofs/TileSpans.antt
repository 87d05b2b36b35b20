-- The tiles of a frame, one after another.
use Rattle.std.proofs.Common.{◌≡◌, ◌∙◌, ◌∷◌, [], ℕ, zero, suc, ◌-◌, ◌+◌, ◌≤◌, refl, sym, ap, List, length, slice_range, arith}
use Rattle.std.specs.Prelude.{Some, Ok, Err, Result, drop, slice_get, IfOk, IsOk}
use Rattle.std.proofs.lemmas.List.{drop_all, drop_more}
use Rattle.std.proofs.lemmas.Option.{get_or_from_slice_get, slice_get_within}
use Rattle.vp9_types.specs.Results.{◌>>=◌}
use Rattle.vp9_types.specs.declared.block.Modes.{Modes}
use Rattle.vp9_types.specs.declared.job.Span.{Span}
use Rattle.vp9_types.specs.declared.rule.Rule.{Rule}
use Rattle.bool_decoder.specs.Window.{started}
use Rattle.compressed_header.specs.CompressedHeader.{forward}
use Rattle.frame_headers.specs.Spans.{span_then, in_front, tile_count, tile_spans, tiles_from, tile_at as tile_at_place}
use Rattle.frame_headers.specs.HeaderState.{shape_of}
use Rattle.frame_headers.specs.declared.header.Header.{Header}
use Rattle.prob_contexts.specs.ProbLists.{ContextLists}
use Rattle.block_geometry.specs.FrameShapes.{places_of}
use Rattle.frame_state.specs.FrameReading.{FrameInput, read_all_tiles, read_frame, sources, FrameRead, nothing_read, read_tile_of, read_tiles}
use Rattle.frame_state.specs.Sources.{FrameSources}
use Rattle.frame_state.specs.TilePlaces.{tile_places}
use Rattle.frame_state.specs.declared.tile_places.TilePlaces.{TilePlaces}

abbrev pub tile_at : Header → ℕ → TilePlaces
tile_at header n = tile_places (places_of (shape_of header)) header.params.tiles n

in_front_long : (span : Span) (r : Result (List Span) Rule) (n : ℕ) (spans : List Span) → ((rest : List Span) → r ≡ Ok rest → length rest ≡ n) → in_front span r ≡ Ok spans
    → length spans ≡ suc n
in_front_long span (Ok rest) n spans h is = let same : span ∷ rest ≡ spans = cc in ap length (sym same) ∙ ap (λ n. suc n) (h rest refl)
in_front_long span (Err rule) n spans h is = let no : ⊥ = cc in absurd no

behind_first : (r : Result Span Rule) (more : Span → Result (List Span) Rule) (n : ℕ) (spans : List Span) → ((span : Span) (rest : List Span) → more span ≡ Ok rest → length rest ≡ n)
    → span_then r more ≡ Ok spans → length spans ≡ suc n
behind_first (Ok span) more n spans h is = in_front_long span (more span) n spans (h span) is
behind_first (Err rule) more n spans h is = let no : ⊥ = cc in absurd no

-- as many as there are tiles
many_from : (frame : List ℕ) (n at : ℕ) (spans : List Span) → tiles_from frame n at ≡ Ok spans → length spans ≡ n
many_from frame zero at spans is = let same : [] ≡ spans = cc in ap length (sym same)
many_from frame (suc n) at spans is = behind_first (tile_at_place frame n at) (λ span. tiles_from frame n span.to) n spans (λ span rest so. many_from frame n span.to rest so) is

pub many_spans : (frame : List ℕ) (header : Header) (compressed : Span) (spans : List Span) → tile_spans frame header compressed ≡ Ok spans → length spans ≡ tile_count header
unfolding tile_spans
many_spans frame header compressed spans is = many_from frame (tile_count header) compressed.to spans is

drop_at : {X : Type 0} (xs : List X) (n : ℕ) (x : X) → slice_get xs n ≡ Some x → drop n xs ≡ x ∷ drop (n + 1) xs
drop_at xs n x is = drop_more xs n x (slice_get_within xs n x is) ∙ ap (λ y. y ∷ drop (n + 1) xs) (get_or_from_slice_get xs n x x is)

-- reading goes on from the n-th tile on, and leads to this
abbrev pub IsLeft : FrameSources → List ℕ → Span → ℕ → FrameRead → Type 0
IsLeft by bytes compressed n f = (spans : List Span) × (tile_spans bytes by.header compressed ≡ Ok spans)
    × (read_all_tiles by bytes compressed ≡ read_tiles by bytes n (drop n spans) f)

pub all_left : (by : FrameSources) (bytes : List ℕ) (compressed : Span)
    → IsOk (tile_spans bytes by.header compressed) → IsLeft by bytes compressed 0 (nothing_read by.header)
all_left by bytes compressed tested = by_spans (tile_spans bytes by.header compressed) refl tested
  where
    by_spans : (r : Result (List Span) Rule) → tile_spans bytes by.header compressed ≡ r → IsOk r → IsLeft by bytes compressed 0 (nothing_read by.header)
    by_spans (Ok spans) is ok = (spans, is, rw is refl)
    by_spans (Err rule) is ok = absurd cc

span_at : (r : Result (List Span) Rule) (spans : List Span) (n : ℕ) (span : Span) → r ≡ Ok spans → IfOk r (λ spans. slice_get spans n ≡ Some span) → slice_get spans n ≡ Some span
span_at r spans n span is h = rw is at h

next : (by : FrameSources) (bytes : List ℕ) (compressed span : Span) (n : ℕ) (f : FrameRead)
    (left : IsLeft by bytes compressed n f) → IfOk (tile_spans bytes by.header compressed) (λ spans. slice_get spans n ≡ Some span)
    → read_all_tiles by bytes compressed
    ≡ (read_tile_of by n (slice_range bytes span.from span.to) f >>= read_tiles by bytes (n + 1) (drop (n + 1) left.0))
unfolding read_tiles
next by bytes compressed span n f left is =
    let at = span_at (tile_spans bytes by.header compressed) left.0 n span left.1 is in
    left.2 ∙ ap (λ spans. read_tiles by bytes n spans f) (drop_at left.0 n span at)

-- the frame breaks the rule that the n-th tile breaks
pub frame_breaks : (by : FrameSources) (bytes : List ℕ) (compressed span : Span) (n : ℕ) (f : FrameRead) (rule : Rule)
    → IsLeft by bytes compressed n f → IfOk (tile_spans bytes by.header compressed) (λ spans. slice_get spans n ≡ Some span)
    → read_tile_of by n (slice_range bytes span.from span.to) f ≡ Err rule → read_all_tiles by bytes compressed ≡ Err rule
frame_breaks by bytes compressed span n f rule left is breaks =
    next by bytes compressed span n f left is
    ∙ ap (λ r. r >>= read_tiles by bytes (n + 1) (drop (n + 1) left.0)) breaks

pub goes_on : (by : FrameSources) (bytes : List ℕ) (compressed span : Span) (n : ℕ) (f g : FrameRead)
    → IsLeft by bytes compressed n f → IfOk (tile_spans bytes by.header compressed) (λ spans. slice_get spans n ≡ Some span)
    → read_tile_of by n (slice_range bytes span.from span.to) f ≡ Ok g → IsLeft by bytes compressed (n + 1) g
goes_on by bytes compressed span n f g left is reads = (
  left.0,
  left.1,
  next by bytes compressed span n f left is
      ∙ ap (λ r. r >>= read_tiles by bytes (n + 1) (drop (n + 1) left.0)) reads,
)

-- all tiles are read
pub ends : (by : FrameSources) (bytes : List ℕ) (compressed : Span) (n : ℕ) (f : FrameRead)
    → tile_count by.header ≤ n → IsLeft by bytes compressed n f → read_all_tiles by bytes compressed ≡ Ok f
unfolding read_tiles
ends by bytes compressed n f all left =
    let many : length left.0 ≤ n = omega (arith, all, many_spans bytes by.header compressed left.0 left.1) in
    left.2 ∙ ap (λ spans. read_tiles by bytes n spans f) (drop_all n left.0 many)

---- What comes before them ----

pub forward_breaks : (f : FrameInput) (rule : Rule) → forward f.header f.past.contexts (slice_range f.bytes f.compressed.from f.compressed.to) ≡ Err rule → read_frame f ≡ Err rule
unfolding read_frame
forward_breaks f rule is = rw is refl

pub forward_not_started : (header : Header) (before : ContextLists) (bytes : List ℕ) (rule : Rule) → started bytes ≡ Err rule → forward header before bytes ≡ Err rule
unfolding forward
forward_not_started header before bytes rule is = rw is refl

pub sizes_break : (f : FrameInput) (updated : ContextLists × Modes) (rule : Rule)
    → forward f.header f.past.contexts (slice_range f.bytes f.compressed.from f.compressed.to) ≡ Ok updated → tile_spans f.bytes f.header f.compressed ≡ Err rule
    → read_frame f ≡ Err rule
unfolding read_frame
sizes_break f updated rule made is = rw (made, is) refl

pub tiles_break : (f : FrameInput) (updated : ContextLists × Modes) (rule : Rule)
    → forward f.header f.past.contexts (slice_range f.bytes f.compressed.from f.compressed.to) ≡ Ok updated
    → read_all_tiles (sources f updated) f.bytes f.compressed ≡ Err rule → read_frame f ≡ Err rule
unfolding read_frame
tiles_break f updated rule made is = rw made (rw is refl)

pub frame_reads : (f : FrameInput) (updated : ContextLists × Modes) (read : FrameRead)
    → forward f.header f.past.contexts (slice_range f.bytes f.compressed.from f.compressed.to) ≡ Ok updated
    → read_all_tiles (sources f updated) f.bytes f.compressed ≡ Ok read → read_frame f ≡ Ok (read, sources f updated)
unfolding read_frame
frame_reads f updated read made reads = rw made (rw reads refl)
