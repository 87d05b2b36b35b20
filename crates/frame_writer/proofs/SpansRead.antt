-- Tiles one behind another, each but the last with its size before it: they are found and read so.
use Rattle.std.proofs.Common.{◌≡◌, ◌∙◌, ℕ, suc, ◌+◌, ◌-◌, ◌^◌, ◌<◌, ◌≤◌, List, [], ◌∷◌, ◌++◌, length, take, false, refl, sym, ap, append_assoc, arith}
use Rattle.std.specs.Prelude.{Option, Result, Ok, Err, nat_eq, slice_range}
use Rattle.std.specs.List.{flat_map, All}
use Rattle.std.proofs.Math.Nat.{mod-eq_of_lt}
use Rattle.std.proofs.Math.Seq.{drop-append_seam, take-append_seam}
use Rattle.std.proofs.lemmas.Bool.{le-ltb, ne_eqb}
use Rattle.std.proofs.lemmas.List.{append-nil, length-append}
use Rattle.byteorder.specs.Endian.{big_bytes, big_number}
use Rattle.byteorder.specs.Numbers.{big_from-bytes, length-bytes_high_first}
use Rattle.vp9_types.specs.Results.{◌>>=◌}
use Rattle.vp9_types.specs.declared.job.Span.{Span}
use Rattle.vp9_types.specs.declared.rule.Rule.{Rule}
use Rattle.bool_lists.specs.BoolLists.{BoolList}
use Rattle.frame_headers.specs.Spans.{in_front, last_tile, sized_tile, tile_at, tile_count, tile_size, tile_spans, tiles_from}
use Rattle.frame_state.specs.FrameReading.{read_all_tiles, FrameRead, nothing_read, read_tile_of, read_tiles}
use Rattle.frame_state.specs.Sources.{FrameSources}
use Rattle.frame_writer.specs.FrameBytes.{HasSize, read_each, tile_with_size, tile_bytes}
use Rattle.frame_writer.specs.Code.{AreTiles}

-- a part in the middle
pub middle : (front mid back : List ℕ) → slice_range (front ++ (mid ++ back)) (length front) (length front + length mid) ≡ mid
middle front mid back =
    let so : length front + length mid - length front ≡ length mid = omega arith in
    rw so (ap (take (length mid)) (drop-append_seam front (mid ++ back)) ∙ take-append_seam mid back)

pub in_middle : (all front mid back : List ℕ) (from to : ℕ) → all ≡ front ++ (mid ++ back) → from ≡ length front → to ≡ from + length mid → slice_range all from to ≡ mid
in_middle all front mid back from to is start end = rw (is, end, start) (middle front mid back)

some_left : (n : ℕ) → 1 ≤ n → nat_eq n 0 ≡ false
some_left n some = ne_eqb n 0 (λ h. let e : n ≡ 0 = h in omega (arith, e, some))

last_there : (frame : List ℕ) (at : ℕ) → 1 ≤ length frame - at → last_tile frame at ≡ Ok (record { from = at; to = length frame })
last_there frame at some = rw (some_left (length frame - at) some) refl

sized_there : (frame : List ℕ) (at size : ℕ) → tile_size frame at ≡ size → 1 ≤ size → at + 4 + size ≤ length frame → sized_tile frame at ≡ Ok (record { from = at + 4; to = at + 4 + size })
sized_there frame at size is some room =
    rw (le-ltb (length frame - at) 4 (omega arith), is, le-ltb (length frame - at - 4) size (omega arith), some_left size some) refl

-- the tiles are found, and read one after another
pub record AreSpans (by : FrameSources) (frame : List ℕ) (at : ℕ) (tiles : List (List ℕ)) (last : List ℕ) : Type 0 where
  pub spans : List Span
  pub are : tiles_from frame (suc (length tiles)) at ≡ Ok spans
  pub read : (n : ℕ) (f : FrameRead) → read_tiles by frame n spans f ≡ read_each by n (tiles ++ last ∷ []) f

same_behind : (r : Result FrameRead Rule) (f g : FrameRead → Result FrameRead Rule) → ((x : FrameRead) → f x ≡ g x) → (r >>= f) ≡ (r >>= g)
same_behind (Ok x) f g same = same x
same_behind (Err e) f g same = refl

last_span : (by : FrameSources) (frame front last : List ℕ) → frame ≡ front ++ last → 1 ≤ length last → AreSpans by frame (length front) [] last
unfolding tile_at read_tiles read_each
last_span by frame front last is some =
    let at = length front in
    let long : length frame ≡ at + length last = ap length is ∙ length-append front last in
    let here : slice_range frame at (length frame) ≡ last =
    in_middle frame front last [] at (length frame) (is ∙ ap (λ l. front ++ l) (sym (append-nil last))) refl long in
    record {
      spans = record { from = at; to = length frame } ∷ [];
      are = rw (last_there frame at (omega (arith, long, some))) refl;
      read = λ n f.
          ap (λ tile. read_tile_of by n tile f >>= read_tiles by frame (n + 1) []) here
          ∙ same_behind (read_tile_of by n last f) (read_tiles by frame (n + 1) []) (read_each by (n + 1) []) (λ x. refl);
    }

size_there : (frame front tile back : List ℕ) → frame ≡ front ++ (tile_with_size tile ++ back) → length tile < 2 ^ 32 → tile_size frame (length front) ≡ length tile
size_there frame front tile back is small =
    let size = big_bytes 4 (length tile) in
    let four : length size ≡ 4 = length-bytes_high_first 4 (length tile) in
    let here : slice_range frame (length front) (length front + 4) ≡ size =
    in_middle frame front size (tile ++ back) (length front) (length front + 4) (is ∙ ap (λ l. front ++ l) (append_assoc size tile back)) refl (ap (λ n. length front + n) (sym four)) in
    let number : big_number 4 (size ++ []) ≡ length tile = big_from-bytes 4 (length tile) [] ∙ mod-eq_of_lt (omega (arith, small)) in
    ap (big_number 4) (here ∙ sym (append-nil size)) ∙ number

pub spans_of : (by : FrameSources) (frame front : List ℕ) (tiles : List (List ℕ)) (last : List ℕ) → frame ≡ front ++ tile_bytes tiles last → All HasSize tiles → 1 ≤ length last
    → AreSpans by frame (length front) tiles last
unfolding tile_at read_tiles read_each
spans_of by frame front [] last is sizes some = last_span by frame front last is some
spans_of by frame front (tile ∷ tiles) last is sizes some =
    let at = length front in
    let size = big_bytes 4 (length tile) in
    let rest = tile_bytes tiles last in
    let four : length size ≡ 4 = length-bytes_high_first 4 (length tile) in
    let one : HasSize tile = sizes 0 [] (omega arith) in
    let whole : frame ≡ front ++ (tile_with_size tile ++ rest) = is ∙ ap (λ l. front ++ l) (append_assoc (tile_with_size tile) (flat_map tile_with_size tiles) last) in
    let next : length (front ++ tile_with_size tile) ≡ at + 4 + length tile = length-append front (tile_with_size tile) ∙ ap (λ n. at + n) (length-append size tile) ∙ omega (arith, four) in
    let long : length frame ≡ length (front ++ tile_with_size tile) + length rest = ap length (whole ∙ sym (append_assoc front (tile_with_size tile) rest)) ∙ length-append (front ++ tile_with_size tile) rest in
    let behind = spans_of by frame (front ++ tile_with_size tile) tiles last (whole ∙ sym (append_assoc front (tile_with_size tile) rest)) (λ i d low. sizes (suc i) d (omega (arith, low))) some in
    let there : sized_tile frame at ≡ Ok (record { from = at + 4; to = at + 4 + length tile }) =
    sized_there frame at (length tile) (size_there frame front tile rest whole one.1) one.0 (omega (arith, long, next)) in
    let here : slice_range frame (at + 4) (at + 4 + length tile) ≡ tile =
    in_middle frame (front ++ size) tile rest (at + 4) (at + 4 + length tile)
    (whole ∙ ap (λ l. front ++ l) (append_assoc size tile rest) ∙ sym (append_assoc front size (tile ++ rest))) (omega (arith, four, length-append front size)) refl in
    record {
      spans = record { from = at + 4; to = at + 4 + length tile } ∷ behind.spans;
      are = rw there (ap (in_front (record { from = at + 4; to = at + 4 + length tile })) (ap (tiles_from frame (suc (length tiles))) (sym next) ∙ behind.are));
      read = λ n f.
          ap (λ tile. read_tile_of by n tile f >>= read_tiles by frame (n + 1) behind.spans) here
          ∙ same_behind (read_tile_of by n tile f) (read_tiles by frame (n + 1) behind.spans) (read_each by (n + 1) (tiles ++ last ∷ [])) (λ x. behind.read (n + 1) x);
    }

-- all tiles of a frame, behind its compressed header
pub all_read : (by : FrameSources) (lists : Option (List BoolList)) (front out tail : List ℕ) (compressed : Span) (r : Result FrameRead Rule) → compressed.to ≡ length front → AreTiles by lists front out r
    → read_all_tiles by (out ++ tail) compressed ≡ r
unfolding tile_spans
all_read by lists front out tail compressed r at are =
    let bytes : out ++ tail ≡ front ++ tile_bytes are.tiles (are.last ++ tail) =
    ap (λ l. l ++ tail) are.put ∙ append_assoc front (tile_bytes are.tiles are.last) tail ∙ ap (λ l. front ++ l) (append_assoc (flat_map tile_with_size are.tiles) are.last tail) in
    let some : 1 ≤ length (are.last ++ tail) = omega (arith, length-append are.last tail, are.some) in
    let spans = spans_of by (out ++ tail) front are.tiles (are.last ++ tail) bytes are.sizes some in
    let many : suc (length are.tiles) ≡ tile_count by.header = omega (arith, are.many) in
    let found : tiles_from (out ++ tail) (tile_count by.header) compressed.to ≡ Ok spans.spans =
    ap (λ n. tiles_from (out ++ tail) n compressed.to) (sym many) ∙ ap (tiles_from (out ++ tail) (suc (length are.tiles))) at ∙ spans.are in
    rw found (spans.read 0 (nothing_read by.header) ∙ are.read tail)
