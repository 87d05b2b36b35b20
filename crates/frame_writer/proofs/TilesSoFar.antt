-- The tiles of a frame, as they are written one after another.
use Rattle.std.proofs.Common.{◌≡◌, ◌∙◌, ℕ, zero, suc, ◌+◌, ◌-◌, ◌<◌, ◌≤◌, List, [], ◌∷◌, ◌++◌, length, refl, sym, ap, subst, inl, inr, append_assoc, arith}
use Rattle.std.specs.Prelude.{Option, Some, None, Result, Ok, Err}
use Rattle.std.specs.List.{flat_map, All}
use Rattle.std.proofs.lemmas.Grind.{flat_map-append}
use Rattle.std.proofs.lemmas.List.{append-nil, length-append}
use Rattle.std.proofs.lemmas.List.Elements.{All-append}
use Rattle.vp9_types.specs.Results.{◌>>=◌}
use Rattle.vp9_types.specs.declared.rule.Rule.{Rule}
use Rattle.frame_headers.specs.Spans.{tile_count}
use Rattle.frame_state.specs.FrameReading.{FrameRead, nothing_read, read_tile_of}
use Rattle.frame_state.specs.Code.{sources_of}
use Rattle.frame_state.specs.Sources.{FrameSources}
use Rattle.frame_state.specs.declared.sources.FrameSources as code
use Rattle.frame_state.specs.declared.columns.TileColumn.{TileColumn}
use Rattle.tile_writer.specs.declared.unwritten.Unwritten.{Unwritten}
use Rattle.tile_writer.specs.declared.unwritten.Unwritten.TheVariants as unwritten
use Rattle.bool_lists.specs.BoolLists.{BoolList}
use Rattle.frame_writer.specs.FrameBytes.{AreAllBytesOf, AreBytesOf, HasItsBools, HasSize, HaveTheirBools, read_each, tile_with_size}
use Rattle.frame_writer.specs.Code.{AreSoFar, GivesAll, GivesNth, GivesNthTo, GivesTiles, HoldsColumns, IsTooLong, IsUntold, StandsAt, first_broken}
use Rattle.frame_writer.specs.SaidFrames.{FrameTold, nth_told, said_of, tiles_told, told_so_far}
use Rattle.frame_writer.specs.FrameSymbols.{Speaker}
use Rattle.frame_writer.specs.declared.written.NotWritten.{NotWritten}
use Rattle.frame_writer.specs.declared.written.NotWritten.TheVariants.{Unsaid, TooLong, OutOfMemory}
use Rattle.frame_writer.specs.declared.written.Written.{Written}

none_less : (n : ℕ) → n ≡ n - 0
none_less n = omega arith

pub none_so_far : {T : Type 0} (speaker : Speaker T) (by : FrameSources) (t : T) (front : List ℕ) (columns : List TileColumn) → HoldsColumns columns (nothing_read by.header)
    → AreSoFar speaker by t front 0 None columns front t
none_so_far speaker by t front columns holds = record {
  tiles = [];
  many = refl;
  sizes = λ i d low. absurd (omega (arith, low));
  put = sym (append-nil front);
  bools = tt;
  stands = (nothing_read by.header, [], λ more. refl, holds, tt, ap (λ n. tiles_told speaker by 0 n (told_so_far (said_of (nothing_read by.header)) t [])) (none_less (tile_count by.header)));
}

-- the tiles from the n-th on, of which there is one more at least
told_next : {T : Type 0} (speaker : Speaker T) (by : FrameSources) (n count : ℕ) (p q : FrameTold T) → n < count → nth_told speaker by n p ≡ Ok q
    → tiles_told speaker by n (count - n) p ≡ tiles_told speaker by (n + 1) (count - (n + 1)) q
unfolding tiles_told
told_next speaker by n count p q below is =
    let more : count - n ≡ suc (count - (n + 1)) = omega (arith, below) in
    rw more (rw is refl)

told_ends : {T : Type 0} (speaker : Speaker T) (by : FrameSources) (n count : ℕ) (p : FrameTold T) (why : Unwritten) → n < count
    → nth_told speaker by n p ≡ Err why → tiles_told speaker by n (count - n) p ≡ Err why
unfolding tiles_told
told_ends speaker by n count p why below is =
    let more : count - n ≡ suc (count - (n + 1)) = omega (arith, below) in
    rw more (rw is refl)

told_all : {T : Type 0} (speaker : Speaker T) (by : FrameSources) (n count : ℕ) (p : FrameTold T) → count ≤ n → tiles_told speaker by n (count - n) p ≡ Ok p
unfolding tiles_told
told_all speaker by n count p all =
    let none : count - n ≡ 0 = omega (arith, all) in
    rw none refl

-- a tile more, of its own list
bytes_more : (lists : List BoolList) (tiles : List (List ℕ)) (bools : BoolList) (bytes : List ℕ) → AreAllBytesOf lists tiles → AreBytesOf bools bytes
    → AreAllBytesOf (lists ++ bools ∷ []) (tiles ++ bytes ∷ [])
bytes_more [] [] bools bytes all last = (last, tt)
bytes_more [] (tile ∷ tiles) bools bytes all last = absurd all
bytes_more (first ∷ lists) [] bools bytes all last = absurd all
bytes_more (first ∷ lists) (tile ∷ tiles) bools bytes all last = (all.0, bytes_more lists tiles bools bytes all.1 last)

each_next : (by : FrameSources) (n : ℕ) (tile : List ℕ) (more : List (List ℕ)) (read : FrameRead) (r : Result FrameRead Rule) → read_tile_of by n tile read ≡ r
    → read_each by n (tile ∷ more) read ≡ (r >>= read_each by (n + 1) more)
unfolding read_each
each_next by n tile more read r is = ap (λ r. r >>= read_each by (n + 1) more) is

none_left : (by : FrameSources) (n : ℕ) (f : FrameRead) → read_each by n [] f ≡ Ok f
unfolding read_each
none_left by n f = refl

-- a tile more
stands_more : {T : Type 0} (speaker : Speaker T) (by : FrameSources) (t : T) (tiles : List (List ℕ)) (n : ℕ) (before broken : Option Rule) (columns others : List TileColumn) (bytes : List ℕ) (now then_it : T)
    → n < tile_count by.header → StandsAt speaker by t tiles n before columns now
    → ((read : FrameRead) → HoldsColumns columns read → GivesNthTo speaker by n read now bytes broken others then_it)
    → StandsAt speaker by t (tiles ++ bytes ∷ []) (n + 1) (first_broken before broken) others then_it
stands_more speaker by t tiles n (Some rule) broken columns others bytes now then_it below stands gives = (
  λ more. ap (λ l. read_each by 0 l (nothing_read by.header)) (append_assoc tiles (bytes ∷ []) more) ∙ stands.0 (bytes ∷ more),
  stands.1,
)
stands_more speaker by t tiles n None None columns others bytes now then_it below stands gives =
    let g = gives stands.0 stands.3 in
    let here : read_tile_of by n bytes stands.0 ≡ Ok g.0 = rw (append-nil bytes) at (g.2 []) in (
      g.0,
      stands.1 ++ g.1 ∷ [],
      λ more.
          ap (λ l. read_each by 0 l (nothing_read by.header)) (append_assoc tiles (bytes ∷ []) more) ∙ stands.2 (bytes ∷ more)
          ∙ each_next by n bytes more stands.0 (Ok g.0) here,
      g.3,
      bytes_more stands.1 tiles g.1 bytes stands.4 g.5,
      stands.5 ∙ told_next speaker by n (tile_count by.header) _ _ below (g.6 stands.1),
    )
stands_more speaker by t tiles n None (Some rule) columns others bytes now then_it below stands gives =
    let g = gives stands.0 stands.3 in
    let here : read_tile_of by n bytes stands.0 ≡ Err rule = rw (append-nil bytes) at (g.0 []) in (
      λ more.
          ap (λ l. read_each by 0 l (nothing_read by.header)) (append_assoc tiles (bytes ∷ []) more) ∙ stands.2 (bytes ∷ more)
          ∙ each_next by n bytes more stands.0 (Err rule) here,
      stands.5 ∙ told_ends speaker by n (tile_count by.header) _ (unwritten.Broken rule) below (g.2 stands.1),
    )

---- The bools of each tile ----

-- a tile more, behind what is read of those before
bools_more : (by : FrameSources) (n m : ℕ) (f : FrameRead) (tiles : List (List ℕ)) (bytes : List ℕ) → m ≡ n + length tiles → HaveTheirBools by n f tiles
    → ((read : FrameRead) → read_each by n tiles f ≡ Ok read → HasItsBools by m read bytes) → HaveTheirBools by n f (tiles ++ bytes ∷ [])
unfolding read_each
bools_more by n m f [] bytes at bools last =
    let here : m ≡ n = omega (arith, at) in
    (subst (λ m. HasItsBools by m f bytes) here (last f refl), λ next is. tt)
bools_more by n m f (tile ∷ tiles) bytes at bools last = (
  bools.0,
  λ next is. bools_more by (n + 1) m next tiles bytes (omega (arith, at)) (bools.1 next is) (λ read each. last read (ap (λ r. r >>= read_each by (n + 1) tiles) is ∙ each)),
)

same_read : (x y : FrameRead) → ◌≡◌ {A = Result FrameRead Rule} (Ok x) (Ok y) → x ≡ y
same_read x y h = cc

not_both : (x : FrameRead) (rule : Rule) → ◌≡◌ {A = Result FrameRead Rule} (Ok x) (Err rule) → ⊥
not_both x rule h = cc

bools_in : {T : Type 0} (speaker : Speaker T) (by : FrameSources) (n : ℕ) (read : FrameRead) (broken : Option Rule) (columns : List TileColumn) (bytes : List ℕ) (now last : T)
    → GivesNthTo speaker by n read now bytes broken columns last → HasItsBools by n read bytes
bools_in speaker by n read None columns bytes now last gives = gives.4
bools_in speaker by n read (Some rule) columns bytes now last gives = gives.1

-- behind those so far: the tile's own, or any behind a broken rule
its_bools : {T : Type 0} (speaker : Speaker T) (by : FrameSources) (t : T) (tiles : List (List ℕ)) (n : ℕ) (before broken : Option Rule) (columns others : List TileColumn) (bytes : List ℕ) (now then_it : T)
    → StandsAt speaker by t tiles n before columns now → ((read : FrameRead) → HoldsColumns columns read → GivesNthTo speaker by n read now bytes broken others then_it)
    → (read : FrameRead) → read_each by 0 tiles (nothing_read by.header) ≡ Ok read → HasItsBools by n read bytes
its_bools speaker by t tiles n (Some rule) broken columns others bytes now then_it stands gives read each =
    absurd (not_both read rule (sym each ∙ ap (λ l. read_each by 0 l (nothing_read by.header)) (sym (append-nil tiles)) ∙ stands.0 []))
its_bools speaker by t tiles n None broken columns others bytes now then_it stands gives read each =
    let same = same_read stands.0 read
    (sym (ap (λ l. read_each by 0 l (nothing_read by.header)) (sym (append-nil tiles)) ∙ stands.2 [] ∙ none_left by n stands.0) ∙ each) in
    subst (λ read. HasItsBools by n read bytes) same (bools_in speaker by n stands.0 broken others bytes now then_it (gives stands.0 stands.3))

with_bools : {T : Type 0} (speaker : Speaker T) (by : FrameSources) (t : T) (front out : List ℕ) (n : ℕ) (before broken : Option Rule) (columns others : List TileColumn) (bytes : List ℕ) (now then_it : T)
    → (far : AreSoFar speaker by t front n before columns out now) → ((read : FrameRead) → HoldsColumns columns read → GivesNthTo speaker by n read now bytes broken others then_it)
    → HaveTheirBools by 0 (nothing_read by.header) (far.tiles ++ bytes ∷ [])
with_bools speaker by t front out n before broken columns others bytes now then_it far gives =
    bools_more by 0 n (nothing_read by.header) far.tiles bytes (omega (arith, far.many)) far.bools
    (its_bools speaker by t far.tiles n before broken columns others bytes now then_it far.stands gives)

one_sized : (tile : List ℕ) → HasSize tile → All HasSize (tile ∷ [])
one_sized tile h zero d low = h
one_sized tile h (suc i) d low = absurd (omega (arith, low))

pub one_more : {T : Type 0} (speaker : Speaker T) (by : FrameSources) (t : T) (front out more : List ℕ) (n : ℕ) (broken : Option Rule) (columns others : List TileColumn) (w : Written) (now then_it : T)
    → n < tile_count by.header → HasSize w.bytes.items → more ≡ out ++ tile_with_size w.bytes.items → AreSoFar speaker by t front n broken columns out now
    → ((read : FrameRead) → HoldsColumns columns read → GivesNth speaker by n read now (Ok w) others then_it)
    → AreSoFar speaker by t front (n + 1) (first_broken broken w.broken) others more then_it
one_more speaker by t front out more n broken columns others w now then_it below some put far gives = record {
  tiles = far.tiles ++ w.bytes.items ∷ [];
  many = length-append far.tiles (w.bytes.items ∷ []) ∙ ap (λ n. n + 1) far.many;
  sizes = All-append HasSize far.tiles (w.bytes.items ∷ []) far.sizes (one_sized w.bytes.items some);
  put = put ∙ ap (λ l. l ++ tile_with_size w.bytes.items) far.put ∙ append_assoc front (flat_map tile_with_size far.tiles) (tile_with_size w.bytes.items)
      ∙ ap (λ l. front ++ l) (ap (λ l. flat_map tile_with_size far.tiles ++ l) (sym (append-nil (tile_with_size w.bytes.items))) ∙ sym (flat_map-append tile_with_size far.tiles (w.bytes.items ∷ [])));
  bools = with_bools speaker by t front out n broken w.broken columns others w.bytes.items now then_it far gives;
  stands = stands_more speaker by t far.tiles n broken w.broken columns others w.bytes.items now then_it below far.stands gives;
}

-- nothing more is told
untold_at : {T : Type 0} (speaker : Speaker T) (by : FrameSources) (t : T) (tiles : List (List ℕ)) (n : ℕ) (broken : Option Rule) (columns others : List TileColumn) (now then_it : T)
    → n < tile_count by.header → StandsAt speaker by t tiles n broken columns now
    → ((read : FrameRead) → HoldsColumns columns read → GivesNth speaker by n read now (Err Unsaid) others then_it) → IsUntold speaker by t
untold_at speaker by t tiles n (Some rule) columns others now then_it below stands gives = inr (rule, stands.1)
untold_at speaker by t tiles n None columns others now then_it below stands gives =
    inl (stands.5 ∙ told_ends speaker by n (tile_count by.header) _ unwritten.Unsaid below (gives stands.0 stands.3 stands.1))

-- or a tile is too long
long_at : {T : Type 0} (speaker : Speaker T) (by : FrameSources) (t : T) (tiles : List (List ℕ)) (n : ℕ) (broken : Option Rule) (columns others : List TileColumn) (now then_it : T)
    → n < tile_count by.header → StandsAt speaker by t tiles n broken columns now
    → ((read : FrameRead) → HoldsColumns columns read → GivesNth speaker by n read now (Err TooLong) others then_it) → IsTooLong speaker by t
long_at speaker by t tiles n (Some rule) columns others now then_it below stands gives = inr (rule, stands.1)
long_at speaker by t tiles n None columns others now then_it below stands gives = inl (n, stands.0, now, stands.1, below, stands.5, gives stands.0 stands.3)

pub refused_at : {T : Type 0} (speaker : Speaker T) (by : FrameSources) (t : T) (front out ending : List ℕ) (n : ℕ) (broken : Option Rule) (columns others : List TileColumn) (why : NotWritten) (now then_it : T)
    → n < tile_count by.header → AreSoFar speaker by t front n broken columns out now
    → ((read : FrameRead) → HoldsColumns columns read → GivesNth speaker by n read now (Err why) others then_it) → GivesTiles speaker by t front (Err why) ending then_it
refused_at speaker by t front out ending n broken columns others Unsaid now then_it below far gives = untold_at speaker by t far.tiles n broken columns others now then_it below far.stands gives
refused_at speaker by t front out ending n broken columns others TooLong now then_it below far gives = long_at speaker by t far.tiles n broken columns others now then_it below far.stands gives
refused_at speaker by t front out ending n broken columns others OutOfMemory now then_it below far gives = tt

---- The last tile ----

last_given : {T : Type 0} (speaker : Speaker T) (by : FrameSources) (t : T) (front out : List ℕ) (n : ℕ) (before broken : Option Rule) (columns others : List TileColumn) (bytes : List ℕ) (now then_it : T)
    → n + 1 ≡ tile_count by.header → 1 ≤ length bytes → (far : AreSoFar speaker by t front n before columns out now)
    → ((read : FrameRead) → HoldsColumns columns read → GivesNthTo speaker by n read now bytes broken others then_it)
    → GivesAll speaker by t front (first_broken before broken) (out ++ bytes) then_it
last_given speaker by t front out n (Some rule) broken columns others bytes now then_it last some far gives = (
  record {
    tiles = far.tiles;
    last = bytes;
    many = ap (λ n. n + 1) far.many ∙ last;
    sizes = far.sizes;
    some = some;
    put = ap (λ l. l ++ bytes) far.put ∙ append_assoc front (flat_map tile_with_size far.tiles) bytes;
    bools = with_bools speaker by t front out n (Some rule) broken columns others bytes now then_it far gives;
    exact = tt;
    read = λ tail. far.stands.0 ((bytes ++ tail) ∷ []);
  },
  far.stands.1,
)
last_given speaker by t front out n None None columns others bytes now then_it last some far gives =
    let stands = far.stands in
    let g = gives stands.0 stands.3 in
    let count = tile_count by.header in (
      g.0,
      stands.1 ++ g.1 ∷ [],
      record {
        tiles = far.tiles;
        last = bytes;
        many = ap (λ n. n + 1) far.many ∙ last;
        sizes = far.sizes;
        some = some;
        put = ap (λ l. l ++ bytes) far.put ∙ append_assoc front (flat_map tile_with_size far.tiles) bytes;
        bools = with_bools speaker by t front out n None None columns others bytes now then_it far gives;
        exact = bytes_more stands.1 far.tiles g.1 bytes stands.4 g.5;
        read = λ tail. stands.2 ((bytes ++ tail) ∷ []) ∙ each_next by n (bytes ++ tail) [] stands.0 (Ok g.0) (g.2 tail) ∙ none_left by (n + 1) g.0;
      },
      stands.5 ∙ told_next speaker by n count _ _ (omega (arith, last)) (g.6 stands.1) ∙ told_all speaker by (n + 1) count _ (omega (arith, last)),
    )
last_given speaker by t front out n None (Some rule) columns others bytes now then_it last some far gives =
    let stands = far.stands in
    let g = gives stands.0 stands.3 in (
      record {
        tiles = far.tiles;
        last = bytes;
        many = ap (λ n. n + 1) far.many ∙ last;
        sizes = far.sizes;
        some = some;
        put = ap (λ l. l ++ bytes) far.put ∙ append_assoc front (flat_map tile_with_size far.tiles) bytes;
        bools = with_bools speaker by t front out n None (Some rule) columns others bytes now then_it far gives;
        exact = tt;
        read = λ tail. stands.2 ((bytes ++ tail) ∷ []) ∙ each_next by n (bytes ++ tail) [] stands.0 (Err rule) (g.0 tail);
      },
      stands.5 ∙ told_ends speaker by n (tile_count by.header) _ (unwritten.Broken rule) (omega (arith, last)) (g.2 stands.1),
    )

pub all_given : {T : Type 0} (speaker : Speaker T) (by : FrameSources) (t : T) (front out ending : List ℕ) (n : ℕ) (broken : Option Rule) (columns others : List TileColumn) (w : Written) (now then_it : T)
    → n + 1 ≡ tile_count by.header → HasSize w.bytes.items → ending ≡ out ++ w.bytes.items → AreSoFar speaker by t front n broken columns out now
    → ((read : FrameRead) → HoldsColumns columns read → GivesNth speaker by n read now (Ok w) others then_it)
    → GivesAll speaker by t front (first_broken broken w.broken) ending then_it
all_given speaker by t front out ending n broken columns others w now then_it last some put far gives =
    rw put (last_given speaker by t front out n broken w.broken columns others w.bytes.items now then_it last some.0 far gives)

-- by what is the same as before the tiles
pub by_sources : {T : Type 0} (speaker : Speaker T) (by others : code.FrameSources) (n : ℕ) (columns : List TileColumn) (result : Result Written NotWritten) (now : T) (after_it : List TileColumn) (last : T)
    → others ≡ by → ((read : FrameRead) → HoldsColumns columns read → GivesNth speaker (sources_of others) n read now result after_it last)
    → (read : FrameRead) → HoldsColumns columns read → GivesNth speaker (sources_of by) n read now result after_it last
by_sources speaker by others n columns result now after_it last same gives =
    subst (λ (by : code.FrameSources). (read : FrameRead) → HoldsColumns columns read → GivesNth speaker (sources_of by) n read now result after_it last) same gives

pub so_far_at : {T : Type 0} (speaker : Speaker T) (by : FrameSources) (t : T) (front : List ℕ) (n m : ℕ) (broken : Option Rule) (columns : List TileColumn) (out : List ℕ) (now : T) → n ≡ m
    → AreSoFar speaker by t front n broken columns out now → AreSoFar speaker by t front m broken columns out now
so_far_at speaker by t front n m broken columns out now is far = subst (λ n. AreSoFar speaker by t front n broken columns out now) is far
