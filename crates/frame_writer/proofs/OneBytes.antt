-- Bytes are spelled in one way.
use Rattle.std.proofs.Common.{◌≡◌, ◌∙◌, ℕ, zero, suc, ◌+◌, ◌-◌, ◌*◌, ◌/◌, ◌%◌, ◌<◌, List, [], ◌∷◌, ◌++◌, length, refl, sym, ap, append_assoc, arith, Bool, true, false, subst}
use Rattle.std.specs.Prelude.{Some, map, slice_index, ◌==◌, if◌then◌else◌}
use Rattle.std.specs.List.{flat_map}
use Rattle.std.proofs.lemmas.List.{length-append}
use Rattle.byteorder.specs.Endian.{big_bytes}
use Rattle.vp9_types.specs.Bits.{bits_of, bits_of_byte, number_of, spelled}
use Rattle.vp9_types.proofs.Spells.{length-spelled}
use Rattle.bool_encoder.specs.Part.{NumberPart, Finishes, behind_marker, after_bools}
use Rattle.bool_lists.specs.BoolLists.{BoolList, HasPut}
use Rattle.frame_headers.specs.declared.header.Uncompressed.{Uncompressed}
use Rattle.frame_headers.specs.declared.header.Uncompressed.TheVariants.{Coded}
use Rattle.frame_headers.specs.declared.persist.Persist.{Persist}
use Rattle.header_writer.specs.WrittenFields.{IsPadded}
use Rattle.header_writer.specs.Spelling.{IsSpelled, bits_put, spelled_header}
use Rattle.header_writer.specs.declared.choices.Choices.{Choices}
use Rattle.frame_state.specs.Sources.{FrameSources}
use Rattle.frame_writer.specs.Code.{IsBytes}
use Rattle.frame_writer.specs.FrameBytes.{AreAllBytesOf, AreBytesOf, IsLaidOut, bytes_of, bytes_of_bits, compressed_bools, frame_bytes, header_bytes, joined_tiles, padded, tile_with_size, tile_bytes, without_index}

first_bytes : (a b : List ℕ) → IsBytes (a ++ b) → IsBytes a
first_bytes [] b h zero = omega arith
first_bytes [] b h (suc i) = omega arith
first_bytes (x ∷ a) b h zero = h zero
first_bytes (x ∷ a) b h (suc i) = first_bytes a b (λ i. h (suc i)) i

last_bytes : (a b : List ℕ) → IsBytes (a ++ b) → IsBytes b
last_bytes [] b h = h
last_bytes (x ∷ a) b h = last_bytes a b (λ i. h (suc i))

---- Of bits ----

one_byte : (b : ℕ) → b < 256 → number_of (bits_of_byte b) ≡ b
one_byte b low = omega arith

bytes_again : (bytes : List ℕ) → IsBytes bytes → bytes_of_bits (bits_of bytes) ≡ bytes
unfolding bytes_of_bits bits_of
bytes_again [] h = refl
bytes_again (b ∷ bytes) h = λ i. one_byte b (h zero) i ∷ bytes_again bytes (λ i. h (suc i)) i

bits_long : (bytes : List ℕ) → length (bits_of bytes) ≡ 8 * length bytes
unfolding bits_of
bits_long [] = refl
bits_long (b ∷ bytes) = let there = bits_long bytes in omega (arith, there)

pub padded_are : (bits bytes : List ℕ) → IsPadded bits bytes → IsBytes bytes → bytes ≡ padded bits
unfolding padded
padded_are bits bytes h low =
    let long : 8 * length bytes ≡ length bits + h.0 = sym (bits_long bytes) ∙ ap length h.2 ∙ length-append bits (spelled h.0 0) ∙ ap (λ k. length bits + k) (length-spelled h.0 0) in
    let few = h.1 in
    let count : h.0 ≡ 7 - (length bits + 7) % 8 = omega (arith, long, few) in
    sym (bytes_again bytes low) ∙ ap bytes_of_bits (h.2 ∙ ap (λ k. bits ++ spelled k 0) count)

pub header_are : (before : Persist) (choices : Choices) (header : Uncompressed) (bytes : List ℕ) → IsSpelled before choices header bytes → IsBytes bytes → bytes ≡ header_bytes before choices header
unfolding IsSpelled
header_are before choices header bytes h low = padded_are (bits_put (spelled_header before choices header)) bytes h low

---- Of bools ----

finished_are : (e : NumberPart) (bytes : List ℕ) → Finishes e bytes → IsBytes bytes → bytes ≡ padded (spelled (8 + e.n) e.low)
finished_are e bytes h low =
    let size = h.size in
    let k : 8 * length bytes - (8 + e.n) < 8 = omega (arith, size) in
    padded_are (spelled (8 + e.n) e.low) bytes (8 * length bytes - (8 + e.n), k, h.bits) low

pub bools_are : (bools : BoolList) (bytes : List ℕ) → AreBytesOf bools bytes → IsBytes bytes → bytes ≡ bytes_of bools
unfolding bytes_of
bools_are bools bytes h low = finished_are (after_bools bools behind_marker) bytes h low

put_are : (bools : BoolList) (part : NumberPart) (bytes : List ℕ) → HasPut behind_marker bools part → Finishes part bytes → IsBytes bytes → bytes ≡ bytes_of bools
unfolding HasPut
put_are bools part bytes put ends low = bools_are bools bytes (subst (λ part. Finishes part bytes) put ends) low

---- Of tiles ----

tiles_are : (lists : List BoolList) (tiles : List (List ℕ)) (last : List ℕ) → AreAllBytesOf lists (tiles ++ last ∷ []) → IsBytes (tile_bytes tiles last) → tile_bytes tiles last ≡ joined_tiles (map bytes_of lists)
unfolding joined_tiles
tiles_are [] [] last h low = absurd h
tiles_are [] (tile ∷ tiles) last h low = absurd h
tiles_are (bools ∷ []) [] last h low = bools_are bools last h.0 low
tiles_are (bools ∷ next ∷ lists) [] last h low = absurd h.1
tiles_are (bools ∷ []) (tile ∷ []) last h low = absurd h.1
tiles_are (bools ∷ []) (tile ∷ other ∷ tiles) last h low = absurd h.1
tiles_are (bools ∷ next ∷ lists) (tile ∷ tiles) last h low =
    let split : tile_bytes (tile ∷ tiles) last ≡ tile_with_size tile ++ tile_bytes tiles last = append_assoc (tile_with_size tile) (flat_map tile_with_size tiles) last in
    let both : IsBytes (tile_with_size tile ++ tile_bytes tiles last) = subst IsBytes split low in
    let own = last_bytes (big_bytes 4 (length tile)) tile (first_bytes (tile_with_size tile) (tile_bytes tiles last) both) in
    let rest = tiles_are (next ∷ lists) tiles last h.1 (last_bytes (tile_with_size tile) (tile_bytes tiles last) both) in
    split ∙ (λ i. tile_with_size (bools_are bools tile h.0 own i) ++ rest i)

---- Of a frame ----

indexed : (bytes : List ℕ) → IsBytes (without_index bytes) → IsBytes bytes
unfolding without_index
indexed bytes = by_test (slice_index bytes (length bytes - 1) / 32 == 6)
  where
    by_test : (b : Bool) → IsBytes (if b then bytes ++ 0 ∷ [] else bytes) → IsBytes bytes
    by_test true low = first_bytes bytes (0 ∷ []) low
    by_test false low = low

pub laid_is : (before : Persist) (choices : Choices) (by : FrameSources) (lists : List BoolList) (bytes : List ℕ) → IsLaidOut before choices by (Some lists) bytes → IsBytes bytes
    → bytes ≡ frame_bytes before choices by lists
unfolding frame_bytes
laid_is before choices by lists bytes laid low =
    let rest = tile_bytes laid.tiles laid.last in
    let all : IsBytes (laid.front ++ laid.compressed ++ rest) = indexed (laid.front ++ laid.compressed ++ rest) (subst IsBytes laid.put low) in
    let headers = first_bytes (laid.front ++ laid.compressed) rest all in
    let front = header_are before choices (Coded by.header) laid.front laid.spelled (first_bytes laid.front laid.compressed headers) in
    let updates = laid.updates in
    let compressed = put_are (compressed_bools by) updates.part laid.compressed updates.spelled updates.ends (last_bytes laid.front laid.compressed headers) in
    let tiles = tiles_are lists laid.tiles laid.last laid.exact (last_bytes (laid.front ++ laid.compressed) rest all) in
    laid.put ∙ (λ i. without_index (front i ++ compressed i ++ tiles i))
