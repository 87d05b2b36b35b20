-- What is read as it was drawn is the file that is made.
use Rattle.std.proofs.Common.{◌≡◌, ◌∙◌, ◌⊎◌, inl, inr, ℕ, zero, suc, ◌+◌, ◌-◌, ◌*◌, ◌/◌, ◌%◌, ◌^◌, ◌≤◌, List, [], ◌∷◌, ◌++◌, length, Bool, true, false, refl, sym, ap, subst, arith}
use Rattle.std.specs.Prelude.{IfOk, Option, Some, None, Result, Ok, Err, map, nat_lt, slice_index, ◌==◌, if◌then◌else◌}
use Rattle.std.proofs.lemmas.Bool.{le-ltb, lt-ltb}
use Rattle.std.proofs.lemmas.List.{length-append}
use Rattle.byteorder.specs.Endian.{big_bytes}
use Rattle.vp9_types.specs.Bits.{spelled}
use Rattle.vp9_types.specs.Results.{◌>>=◌}
use Rattle.vp9_types.proofs.Spells.{length-spelled}
use Rattle.bool_encoder.specs.Part.{behind_marker, after_bools}
use Rattle.bool_lists.specs.BoolLists.{BoolList, bytes_taken}
use Rattle.frame_headers.specs.Spans.{tile_count}
use Rattle.frame_headers.specs.declared.header.Uncompressed.{Uncompressed}
use Rattle.frame_headers.specs.declared.header.Uncompressed.TheVariants.{ShowExisting, Coded}
use Rattle.frame_headers.specs.declared.persist.Persist.{Persist}
use Rattle.header_writer.specs.declared.choices.Choices.{Choices}
use Rattle.seq_decoder.specs.frame_state.FrameReading.{FrameRead, TileRead}
use Rattle.seq_decoder.specs.frame_state.Sources.{FrameSources}
use Rattle.seq_decoder.specs.frame_state.TilePlaces.{column_of}
use Rattle.drawn_frames.specs.tile_writer.SaidTiles.{Said, SaidSoFar}
use Rattle.drawn_frames.specs.tile_writer.declared.unwritten.Unwritten.{Unwritten}
use Rattle.drawn_frames.specs.frame_writer.FrameBytes.{bytes_of, bytes_of_bits, compressed_bools, frame_bytes, header_bytes, joined_tiles, padded, tile_with_size, without_index}
use Rattle.drawn_frames.specs.frame_writer.Code.{IsLong, IsLongTile, IsTooLong}
use Rattle.drawn_frames.specs.frame_writer.SaidFrames.{FrameTold, frame_told, nth_syntax, nth_tile_told, nth_told, said_of, tiles_told, told_so_far, with_tile_said}
use Rattle.drawn_frames.specs.frame_writer.FrameSymbols.{Speaker}
use Rattle.drawn_frames.specs.SymbolDraws.{drawing}
use Rattle.drawn_frames.specs.declared.symbols.DrawnSymbols.{DrawnSymbols}
use Rattle.container_writer.specs.Files.{file_header}
use Rattle.seq_decoder.specs.After.{step}
use Rattle.seq_decoder.specs.DecoderState.{State, persist_of, start_state}
use Rattle.stream_forge.specs.MadeFiles.{MadeFrame, left_behind_head, choices_at, drawn_blocks, drawn_sources, drawn_updates, frame_from, frame_of, head_at, made, made_frame, made_frames, packet_bytes_from, rest_behind, with_rest}
use Rattle.stream_forge.specs.FileReads.{AreMade, EndsBefore, IsFrameOf, IsNone, IsReadAsDrawn}

---- A frame that is made ----

frame_is : (state : State) (choices : Choices) (header : Uncompressed) (x : ℕ) (bytes : List ℕ) (next : ℕ) → IsFrameOf state choices header x bytes next
    → frame_of state choices header x ≡ Some (record { bytes = bytes; next = next })
unfolding frame_of
frame_is state choices (ShowExisting slot) x bytes next f = λ i. Some (record { bytes = sym f.2 i; next = sym f.1 i })
frame_is state choices (Coded header) x bytes next f =
    let fits : nat_lt (bytes_taken (drawn_updates state header x)) (2 ^ 16) ≡ true = lt-ltb _ _ f.short in
    rw fits (ap (frame_from state choices (drawn_sources state header x)) f.told ∙ (λ i. Some (record { bytes = sym f.is i; next = next })))

---- How long a frame is ----

-- eight bits each
eighth : (m : ℕ) (bits : List ℕ) → length bits ≡ 8 * m → length (bytes_of_bits bits) ≡ m
unfolding bytes_of_bits
eighth zero [] is = refl
eighth zero (a ∷ bits) is = absurd (omega (arith, is))
eighth (suc m) [] is = absurd (omega (arith, is))
eighth (suc m) (a ∷ []) is = absurd (omega (arith, is))
eighth (suc m) (a ∷ b ∷ []) is = absurd (omega (arith, is))
eighth (suc m) (a ∷ b ∷ c ∷ []) is = absurd (omega (arith, is))
eighth (suc m) (a ∷ b ∷ c ∷ d ∷ []) is = absurd (omega (arith, is))
eighth (suc m) (a ∷ b ∷ c ∷ d ∷ e ∷ []) is = absurd (omega (arith, is))
eighth (suc m) (a ∷ b ∷ c ∷ d ∷ e ∷ f ∷ []) is = absurd (omega (arith, is))
eighth (suc m) (a ∷ b ∷ c ∷ d ∷ e ∷ f ∷ g ∷ []) is = absurd (omega (arith, is))
eighth (suc m) (a ∷ b ∷ c ∷ d ∷ e ∷ f ∷ g ∷ h ∷ bits) is = ap suc (eighth m bits (omega (arith, is)))

padded_long : (bits : List ℕ) → length (padded bits) ≡ (length bits + 7) / 8
unfolding padded
padded_long bits =
    let k = 7 - (length bits + 7) % 8 in
    let all : length (bits ++ spelled k 0) ≡ length bits + k = length-append bits (spelled k 0) ∙ ap (λ n. length bits + n) (length-spelled k 0) in
    eighth ((length bits + 7) / 8) (bits ++ spelled k 0) (all ∙ omega arith)

bools_long : (bools : BoolList) → length (bytes_of bools) ≡ bytes_taken bools
unfolding bytes_of bytes_taken
bools_long bools =
    let e = after_bools bools behind_marker in
    padded_long (spelled (8 + e.n) e.low) ∙ ap (λ n. (n + 7) / 8) (length-spelled (8 + e.n) e.low)

-- one of the lists is this one
abbrev Has : BoolList → List BoolList → Type 0
Has b [] = ⊥
Has b (x ∷ xs) = (x ≡ b) ⊎ Has b xs

has_last : (b : BoolList) (xs : List BoolList) → Has b (xs ++ b ∷ [])
has_last b [] = inl refl
has_last b (x ∷ xs) = inr (has_last b xs)

has_more : (b c : BoolList) (xs : List BoolList) → Has b xs → Has b (xs ++ c ∷ [])
has_more b c [] has = absurd has
has_more b c (x ∷ xs) (inl is) = inl is
has_more b c (x ∷ xs) (inr has) = inr (has_more b c xs has)

sized_long : (tile rest : List ℕ) → (length tile ≤ length (tile_with_size tile ++ rest)) × (length rest ≤ length (tile_with_size tile ++ rest))
sized_long tile rest =
    let all = length-append (tile_with_size tile) rest in
    let own = length-append (big_bytes 4 (length tile)) tile in (omega (arith, all, own), omega (arith, all))

tiles_long : (b : BoolList) (lists : List BoolList) → Has b lists → bytes_taken b ≤ length (joined_tiles (map bytes_of lists))
unfolding joined_tiles
tiles_long b [] has = absurd has
tiles_long b (x ∷ []) (inl is) = let long = bools_long x ∙ ap bytes_taken is in omega (arith, long)
tiles_long b (x ∷ []) (inr has) = absurd has
tiles_long b (x ∷ y ∷ lists) (inl is) =
    let long = bools_long x ∙ ap bytes_taken is in
    let all = sized_long (bytes_of x) (joined_tiles (map bytes_of (y ∷ lists))) in
    omega (arith, long, all.0)
tiles_long b (x ∷ y ∷ lists) (inr has) =
    let rest = tiles_long b (y ∷ lists) has in
    let all = sized_long (bytes_of x) (joined_tiles (map bytes_of (y ∷ lists))) in
    omega (arith, rest, all.1)

index_long : (bytes : List ℕ) → length bytes ≤ length (without_index bytes)
unfolding without_index
index_long bytes = by_test (slice_index bytes (length bytes - 1) / 32 == 6)
  where
    by_test : (b : Bool) → length bytes ≤ length (if b then bytes ++ 0 ∷ [] else bytes)
    by_test true = omega (arith, length-append bytes (0 ∷ []))
    by_test false = omega arith

frame_long : (before : Persist) (choices : Choices) (by : FrameSources) (b : BoolList) (lists : List BoolList) → Has b lists → bytes_taken b ≤ length (frame_bytes before choices by lists)
unfolding frame_bytes
frame_long before choices by b lists has =
    let headers = header_bytes before choices (Coded by.header) ++ bytes_of (compressed_bools by) in
    let tiles = joined_tiles (map bytes_of lists) in
    omega (arith, tiles_long b lists has, length-append headers tiles, index_long (headers ++ tiles))

---- A frame that can't be ----

-- there is none, or none that a packet holds
abbrev NoPacket : Option MadeFrame → Type 0
NoPacket None = Unit {0}
NoPacket (Some frame) = 2 ^ 32 ≤ length frame.bytes

-- one of its tiles has this list
abbrev HasTile : {T : Type 0} → BoolList → Result (FrameTold T) Unwritten → Type 0
HasTile b r = IfOk r (λ q. Has b q.tiles)

one_more : {T : Type 0} (said : SaidSoFar TileRead T → FrameTold T) (b : BoolList) (tile : Said TileRead T) → ((s : SaidSoFar TileRead T) → Has b (said s).tiles) → HasTile b (tile >>= λ s. Ok (said s))
one_more said b (Ok s) has = has s
one_more said b (Err why) has = tt

nth_keeps : {T : Type 0} (speaker : Speaker T) (by : FrameSources) (n : ℕ) (p : FrameTold T) (b : BoolList) → Has b p.tiles → HasTile b (nth_told speaker by n p)
unfolding nth_told
nth_keeps speaker by n p b has = one_more _ b _ (λ s. has_more b s.bools p.tiles has)

then_keeps : {T : Type 0} (b : BoolList) (r : Result (FrameTold T) Unwritten) (f : FrameTold T → Result (FrameTold T) Unwritten) → HasTile b r → ((q : FrameTold T) → Has b q.tiles → HasTile b (f q))
    → HasTile b (r >>= f)
then_keeps b (Ok q) f has keeps = keeps q has
then_keeps b (Err why) f has keeps = tt

-- those before stay, whatever is told behind them
tiles_keep : {T : Type 0} (speaker : Speaker T) (by : FrameSources) (m n : ℕ) (p : FrameTold T) (b : BoolList) → Has b p.tiles → HasTile b (tiles_told speaker by n m p)
unfolding tiles_told
tiles_keep speaker by zero n p b has = has
tiles_keep speaker by (suc m) n p b has =
    then_keeps b (nth_told speaker by n p) (tiles_told speaker by (n + 1) m) (nth_keeps speaker by n p b has) (λ q has. tiles_keep speaker by m (n + 1) q b has)

held_not : (state : State) (choices : Choices) (by : FrameSources) (b : BoolList) (r : Result (FrameTold DrawnSymbols) Unwritten) → HasTile b r → 2 ^ 32 ≤ bytes_taken b → NoPacket (frame_from state choices by r)
held_not state choices by b (Ok q) has long = let all = frame_long (persist_of state) choices by b q.tiles has in omega (arith, all, long)
held_not state choices by b (Err why) has long = tt

-- the n-th tile is too long
tile_lost : (state : State) (choices : Choices) (by : FrameSources) (n m : ℕ) (read : FrameRead) (now : DrawnSymbols) (lists : List BoolList) → IsLongTile drawing by n read now
    → NoPacket (frame_from state choices by (tiles_told drawing by n (suc m) (told_so_far (said_of read) now lists)))
unfolding tiles_told nth_told
tile_lost state choices by n m read now lists long = by_tile (nth_tile_told drawing by n read now) long
  where
    by_tile : (tile : Said TileRead DrawnSymbols) → IsLong (nth_syntax by n read) tile
        → NoPacket (frame_from state choices by ((tile >>= λ s. Ok (told_so_far (with_tile_said (column_of by.header.params.tiles n) (said_of read) s.state) s.told (lists ++ s.bools ∷ []))) >>= tiles_told drawing by (n + 1) m))
    by_tile (Ok s) long = held_not state choices by s.bools _ (tiles_keep drawing by m (n + 1) _ s.bools (has_last s.bools lists)) long
    by_tile (Err why) long = tt

long_lost : (state : State) (choices : Choices) (by : FrameSources) (t : DrawnSymbols) → IsTooLong drawing by t → NoPacket (frame_from state choices by (frame_told drawing by t))
long_lost state choices by t (inl (n, read, now, lists, below, is, long)) =
    let count : tile_count by.header - n ≡ suc (tile_count by.header - (n + 1)) = omega (arith, below) in
    let so : frame_told drawing by t ≡ tiles_told drawing by n (suc (tile_count by.header - (n + 1))) (told_so_far (said_of read) now lists) =
    is ∙ ap (λ m. tiles_told drawing by n m (told_so_far (said_of read) now lists)) count in
    subst (λ r. NoPacket (frame_from state choices by r)) (sym so) (tile_lost state choices by n (tile_count by.header - (n + 1)) read now lists long)
long_lost state choices by t (inr (rule, is)) = subst (λ r. NoPacket (frame_from state choices by r)) (sym is) tt

if_fits : (state : State) (choices : Choices) (by : FrameSources) (b : Bool) (r : Result (FrameTold DrawnSymbols) Unwritten) → NoPacket (frame_from state choices by r)
    → NoPacket (if b then frame_from state choices by r else None)
if_fits state choices by true r none = none
if_fits state choices by false r none = tt

none_is : (state : State) (choices : Choices) (header : Uncompressed) (x : ℕ) → IsNone state header x → NoPacket (frame_of state choices header x)
unfolding frame_of
none_is state choices (ShowExisting slot) x none = absurd none
none_is state choices (Coded header) x (inl unsaid) =
    if_fits state choices (drawn_sources state header x) _ (drawn_blocks state header x) (subst (λ r. NoPacket (frame_from state choices (drawn_sources state header x) r)) (sym unsaid.1) tt)
none_is state choices (Coded header) x (inr (inl long)) =
    let over : nat_lt (bytes_taken (drawn_updates state header x)) (2 ^ 16) ≡ false = le-ltb _ _ long in
    rw over tt
none_is state choices (Coded header) x (inr (inr long)) =
    if_fits state choices (drawn_sources state header x) _ (drawn_blocks state header x) (long_lost state choices (drawn_sources state header x) _ long)

---- All frames ----

ends_before : (n : ℕ) (state : State) (x : ℕ) → EndsBefore n state x → NoPacket (made_frame n state x)
ends_before n state x (inl none) = none_is state (choices_at n state x) (head_at n state x) (left_behind_head n state x) none
ends_before n state x (inr (bytes, next, is, long)) =
    subst NoPacket (sym (frame_is state (choices_at n state x) (head_at n state x) (left_behind_head n state x) bytes next is)) long

no_rest : (rest : State → ℕ → List (List ℕ)) (n : ℕ) (state : State) (frame : Option MadeFrame) → NoPacket frame → [] ≡ with_rest rest n state frame
no_rest rest n state None none = refl
no_rest rest n state (Some frame) long =
    let over : nat_lt (length frame.bytes) (2 ^ 32) ≡ false = le-ltb _ _ long in
    rw over refl

frames_are : (left n : ℕ) (state : State) (x : ℕ) (frames : List (List ℕ)) → AreMade n left state x frames → frames ≡ made_frames n left state x
unfolding made_frames
frames_are zero n state x [] made = refl
frames_are zero n state x (frame ∷ frames) made = absurd made
frames_are (suc left) n state x [] ends = no_rest (made_frames (n + 1) left) n state (made_frame n state x) (ends_before n state x ends)
frames_are (suc left) n state x (frame ∷ frames) (next, is, small, (stepped, steps, made)) =
    let this = frame_is state (choices_at n state x) (head_at n state x) (left_behind_head n state x) frame next is in
    let fits : nat_lt (length frame) (2 ^ 32) ≡ true = lt-ltb _ _ small in
    let behind : frames ≡ rest_behind (λ state. made_frames (n + 1) left state next) (step n state frame) =
    frames_are left (n + 1) stepped.state next frames made ∙ ap (rest_behind (λ state. made_frames (n + 1) left state next)) (sym steps) in
    rw this (rw fits (ap (λ frames. frame ∷ frames) behind))

pub file_is : (number count : ℕ) (file : List ℕ) → IsReadAsDrawn number count file → file ≡ made number count
unfolding made
file_is number count file h = h.bytes ∙ ap (λ frames. file_header 520 136 30 1 count ++ packet_bytes_from 0 frames) (frames_are count 0 start_state number h.frames h.made)
