-- The tiles of a frame in order, and each of its tile columns by itself.
use Rattle.std.proofs.Common.{◌≡◌, ◌∙◌, ◌++◌, ◌∷◌, [], ℕ, zero, suc, ◌+◌, ◌<◌, Bool, List, length, inl, inr, refl, sym, ap, arith, append_assoc}
use Rattle.std.specs.Prelude.{Result, Ok, Err, get_or, count_by, sum_by, slice_range}
use Rattle.std.specs.List.{flat_map, range_with_len}
use Rattle.std.proofs.lemmas.Nat.{mod_below}
use Rattle.std.proofs.Math.Nat.{one-le-pow}
use Rattle.std.proofs.lemmas.Bool.{cases_eq, eq-eqb, ne_eqb}
use Rattle.std.proofs.lemmas.List.{append-nil, get_or-replicate, length-replicate, get_or-set_same, get_or-set_other, length-set}
use Rattle.vp9_types.specs.Results.{◌>>=◌, map_ok}
use Rattle.vp9_types.specs.Syntax.{Syntax}
use Rattle.vp9_types.specs.declared.job.Span.{Span}
use Rattle.vp9_types.specs.declared.rule.Rule.{Rule}
use Rattle.bool_decoder.specs.Bools.{run_bools}
use Rattle.bool_decoder.specs.Window.{Window, started}
use Rattle.frame_headers.specs.Spans.{tile_count, tile_spans}
use Rattle.frame_headers.specs.HeaderState.{shape_of}
use Rattle.frame_headers.specs.declared.header.Header.{Header}
use Rattle.counting_reader.specs.Counting.{Settled}
use Rattle.prob_contexts.specs.declared.kind.CountedBool.{CountedBool}
use Rattle.block_geometry.specs.FrameShapes.{places_of}
use Rattle.block_plan.specs.Planned.{PlannedBlock}
use Rattle.mode_syntax.specs.TileColumns.{AreSeparate, by_column, column_alone, counted_of, read_all, then_rest, viewed, with_column, with_counted}
use Rattle.mode_syntax.proofs.Columns.{all_read, counts_add, first_broken, columns_separate}
use Rattle.frame_state.specs.Code.{read_whole, settled_of}
use Rattle.frame_state.specs.FrameReading.{read_all_tiles, Column, FrameRead, TileRead, column_after, column_at, no_column, nothing_read, read_tile, read_tile_of, read_tiles, with_tile}
use Rattle.frame_state.specs.Laws.{AreReadAll, IsFirstBroken, columns_across}
use Rattle.frame_state.specs.ColumnPlans.{ColumnRead, column_tile, no_tiles, plan_of, tile_bytes, with_its_tile}
use Rattle.frame_state.specs.Sources.{FrameSources}
use Rattle.frame_state.specs.TilePlaces.{column_of, tile_places}
use Rattle.frame_state.proofs.CountSums.{flat_first, parts_add_up}
use Rattle.frame_state.proofs.TileSpans.{many_spans}

---- A tile ----

by_whole : {X : Type 0} (f : Settled TileRead → X) (r : Result (Settled TileRead × Window) Rule) → (r >>= λ read. Ok (f read.0)) ≡ map_ok f (settled_of r)
by_whole f (Ok p) = refl
by_whole f (Err e) = refl

by_start : {X : Type 0} (f : Settled TileRead → X) (s : Syntax ℕ Rule (Settled TileRead)) (w : Result Window Rule)
    → (w >>= λ window. run_bools s window >>= λ read. Ok (f read.0)) ≡ map_ok f (w >>= λ window. settled_of (run_bools s window))
by_start f s (Ok window) = by_whole f (run_bools s window)
by_start f s (Err e) = refl

-- the n-th tile
abbrev pub tile_of : FrameSources → ℕ → Column → Syntax ℕ Rule (Settled TileRead)
tile_of by n c = read_tile by (tile_places (places_of (shape_of by.header)) by.header.params.tiles n) c

-- where its column stands so
abbrev pub tile_from : FrameSources → ℕ → List ℕ → Column → Result (Settled TileRead) Rule
tile_from by n bytes c = read_whole (tile_of by n c) bytes

whole_tile : (by : FrameSources) (n : ℕ) (bytes : List ℕ) (f : FrameRead)
    → read_tile_of by n bytes f ≡ map_ok (with_tile (column_of by.header.params.tiles n) f) (tile_from by n bytes (column_at by.header f (column_of by.header.params.tiles n)))
unfolding read_tile_of read_whole
whole_tile by n bytes f =
    by_start (with_tile (column_of by.header.params.tiles n) f) (tile_of by n (column_at by.header f (column_of by.header.params.tiles n))) (started bytes)

pub column_whole : (by : FrameSources) (n : ℕ) (bytes : ℕ → List ℕ) (c : ColumnRead) → column_tile by bytes n c ≡ map_ok (with_its_tile n c) (tile_from by n (bytes n) c.column)
unfolding column_tile read_whole
column_whole by n bytes c = by_start (with_its_tile n c) (tile_of by n c.column) (started (bytes n))

---- What is read of a frame and of its columns ----

abbrev Columns : Type 0
Columns = ℕ → ColumnRead

-- the blocks of the n-th tile
abbrev blocks_at : Header → Columns → ℕ → List PlannedBlock
blocks_at header s n = (s (column_of header.params.tiles n)).tiles n

-- the columns hold what is read of the first n tiles
pub record Holds (header : Header) (n : ℕ) (f : FrameRead) (s : Columns) : Type 0 where
  pub long : length f.columns ≡ columns_across header
  pub each : (k : ℕ) → k < columns_across header → column_at header f k ≡ (s k).column
  pub blocks : f.blocks ≡ flat_map (blocks_at header s) (range_with_len 0 n)

-- a list that is the same below
same_below : {A : Type 0} (f g : ℕ → List A) (a n : ℕ) → ((m : ℕ) → m < a + n → f m ≡ g m) → flat_map f (range_with_len a n) ≡ flat_map g (range_with_len a n)
same_below f g a zero same = refl
same_below f g a (suc n) same = λ i. same a (omega arith) i ++ same_below f g (a + 1) n (λ m low. same m (omega (arith, low))) i

-- a tile more
abbrev columns_with : Header → ℕ → Columns → Settled TileRead → Columns
columns_with header n s p = with_column (column_of header.params.tiles n) (with_its_tile n (s (column_of header.params.tiles n)) p).value s

with_same : {T : Type 0} (c : ℕ) (t : T) (s : ℕ → T) → with_column c t s c ≡ t
with_same c t s = rw (eq-eqb c c refl) refl

with_other : {T : Type 0} (c k : ℕ) (t : T) (s : ℕ → T) → (c ≡ k → ⊥) → with_column c t s k ≡ s k
with_other c k t s other = rw (ne_eqb c k other) refl

tile_here : (n : ℕ) (c : ColumnRead) (p : Settled TileRead) → (with_its_tile n c p).value.tiles n ≡ p.value.blocks
tile_here n c p = rw (eq-eqb n n refl) refl

tile_before : (n m : ℕ) (c : ColumnRead) (p : Settled TileRead) → (m ≡ n → ⊥) → (with_its_tile n c p).value.tiles m ≡ c.tiles m
tile_before n m c p other = rw (ne_eqb m n other) refl

blocks_before : (header : Header) (n m : ℕ) (s : Columns) (p : Settled TileRead) → (m ≡ n → ⊥) → blocks_at header s m ≡ blocks_at header (columns_with header n s p) m
blocks_before header n m s p other =
    let k = column_of header.params.tiles n in
    let t = (with_its_tile n (s k) p).value in
    elim (cases_eq k (column_of header.params.tiles m)) [
      | inl same ↦ ap (λ j. (s j).tiles m) (sym same) ∙ (sym (tile_before n m (s k) p other)
          ∙ ap (λ (c : ColumnRead). c.tiles m) (sym (with_same k t s) ∙ ap (with_column k t s) same))
      | inr apart ↦ ap (λ (c : ColumnRead). c.tiles m) (sym (with_other k (column_of header.params.tiles m) t s apart))
    ]

blocks_here : (header : Header) (n : ℕ) (s : Columns) (p : Settled TileRead) → p.value.blocks ≡ blocks_at header (columns_with header n s p) n
blocks_here header n s p =
    let k = column_of header.params.tiles n in
    sym (tile_here n (s k) p) ∙ ap (λ (c : ColumnRead). c.tiles n) (sym (with_same k (with_its_tile n (s k) p).value s))

column_now : (header : Header) (n k : ℕ) (f : FrameRead) (s : Columns) (p : Settled TileRead) → length f.columns ≡ columns_across header → k < columns_across header → column_at header f k ≡ (s k).column
    → column_at header (with_tile (column_of header.params.tiles n) f p) k ≡ (columns_with header n s p k).column
column_now header n k f s p long low before = elim (cases_eq (column_of header.params.tiles n) k) [
  | inl same ↦ rw (eq-eqb (column_of header.params.tiles n) k same) (rw same (get_or-set_same f.columns k (column_after p.value) (no_column (shape_of header)) (omega (arith, long, low))))
  | inr apart ↦ rw (ne_eqb (column_of header.params.tiles n) k apart)
      (get_or-set_other f.columns (column_of header.params.tiles n) k (column_after p.value) (no_column (shape_of header)) (λ is. apart (sym is)) ∙ before)
]

holds_more : (header : Header) (n : ℕ) (f : FrameRead) (s : Columns) (p : Settled TileRead) → Holds header n f s
    → Holds header (n + 1) (with_tile (column_of header.params.tiles n) f p) (columns_with header n s p)
holds_more header n f s p h =
    let next : n + 1 ≡ suc n = omega arith in record {
      long = length-set f.columns (column_of header.params.tiles n) (column_after p.value) ∙ h.long;
      each = λ k low. column_now header n k f s p h.long low (h.each k low);
      blocks = rw next
          ((λ i. (h.blocks ∙ same_below (blocks_at header s) (blocks_at header (columns_with header n s p)) 0 n (λ m low. blocks_before header n m s p (λ is. omega (arith, low, is)))) i ++ blocks_here header n s p i)
          ∙ sym (flat_first (blocks_at header (columns_with header n s p)) n));
    }

---- All tiles ----

abbrev bytes_by : FrameSources → (ℕ → List ℕ) → ℕ → Columns → Result (Settled Columns) Rule
bytes_by by bytes = by_column (column_of by.header.params.tiles) (column_tile by bytes)

-- reading a frame on, after which so many tiles are read, comes to what its columns come to
abbrev Matches : Header → ℕ → FrameRead → Result (Settled Columns) (ℕ × Rule) → Result FrameRead Rule → Type 0
Matches header total f (Ok t) r = (g : FrameRead) × (r ≡ Ok g) × Holds header total g t.value × (g.counted ≡ f.counted ++ t.counted)
Matches header total f (Err e) r = r ≡ Err e.1

matches_behind : (header : Header) (total : ℕ) (f g : FrameRead) (bools : List CountedBool) (x : Result (Settled Columns) (ℕ × Rule)) (r : Result FrameRead Rule) → g.counted ≡ f.counted ++ bools
    → Matches header total g x r → Matches header total f (with_counted bools x) r
matches_behind header total f g bools (Ok t) r counts h =
    (h.0, h.1, h.2, h.3 ∙ (ap (λ xs. xs ++ t.counted) counts ∙ append_assoc f.counted bools t.counted))
matches_behind header total f g bools (Err e) r counts h = h

-- one tile, and those behind it
tile_matches : (by : FrameSources) (n total : ℕ) (f : FrameRead) (s : Columns) (r : Result (Settled TileRead) Rule) (rest : FrameRead → Result FrameRead Rule) (columns_rest : Columns → Result (Settled Columns) (ℕ × Rule))
    → ((p : Settled TileRead) → r ≡ Ok p → Matches by.header total (with_tile (column_of by.header.params.tiles n) f p) (columns_rest (columns_with by.header n s p)) (rest (with_tile (column_of by.header.params.tiles n) f p)))
    → Matches by.header total f (then_rest n (viewed (λ t. with_column (column_of by.header.params.tiles n) t s) (map_ok (with_its_tile n (s (column_of by.header.params.tiles n))) r)) columns_rest)
    (map_ok (with_tile (column_of by.header.params.tiles n) f) r >>= rest)
tile_matches by n total f s (Ok p) rest columns_rest h =
    matches_behind by.header total f (with_tile (column_of by.header.params.tiles n) f p) p.counted (columns_rest (columns_with by.header n s p)) (rest (with_tile (column_of by.header.params.tiles n) f p)) refl (h p refl)
tile_matches by n total f s (Err e) rest columns_rest h = refl

pub few_columns : (header : Header) (n : ℕ) → column_of header.params.tiles n < columns_across header
few_columns header n = mod_below n (columns_across header) (one-le-pow header.params.tiles.columns_log2 2 (omega arith))

-- the spans from the n-th on
abbrev AreFrom : List Span → ℕ → List Span → Type 0
AreFrom spans n rest = (m : ℕ) (d : Span) → m < length rest → get_or rest m d ≡ get_or spans (n + m) d

tiles_match : (by : FrameSources) (bytes : List ℕ) (spans rest : List Span) (n total : ℕ) (f : FrameRead) (s : Columns) → AreFrom spans n rest → total ≡ n + length rest → Holds by.header n f s
    → Matches by.header total f (read_all (bytes_by by (tile_bytes bytes spans)) (range_with_len n (length rest)) s) (read_tiles by bytes n rest f)
unfolding read_all read_tiles
tiles_match by bytes spans [] n total f s from all h =
    let same : total ≡ n = omega (arith, all) in
    (f, refl, rw same h, sym (append-nil f.counted))
tiles_match by bytes spans (span ∷ rest) n total f s from all h =
    let k = column_of by.header.params.tiles n in
    let none : Span = record { from = 0; to = 0 } in
    let start : n + 0 ≡ n = omega arith in
    let first : span ≡ get_or spans n none = rw start at (from 0 none (omega arith)) in
    let there : slice_range bytes span.from span.to ≡ tile_bytes bytes spans n = ap (λ (x : Span). slice_range bytes x.from x.to) first in
    let more : (p : Settled TileRead) → Matches by.header total (with_tile k f p) (read_all (bytes_by by (tile_bytes bytes spans)) (range_with_len (n + 1) (length rest)) (columns_with by.header n s p)) (read_tiles by bytes (n + 1) rest (with_tile k f p)) =
    λ p. tiles_match by bytes spans rest (n + 1) total (with_tile k f p) (columns_with by.header n s p)
    (λ m d low. let place : n + suc m ≡ n + 1 + m = omega arith in rw place at (from (suc m) d (omega (arith, low)))) (omega (arith, all)) (holds_more by.header n f s p h) in
    rw (whole_tile by n (slice_range bytes span.from span.to) f, there, h.each k (few_columns by.header n), column_whole by n (tile_bytes bytes spans) (s k))
    (tile_matches by n total f s (tile_from by n (tile_bytes bytes spans n) (s k).column) (read_tiles by bytes (n + 1) rest)
    (read_all (bytes_by by (tile_bytes bytes spans)) (range_with_len (n + 1) (length rest))) (λ p is. more p))

nothing_holds : (header : Header) → Holds header 0 (nothing_read header) (λ k. no_tiles header)
nothing_holds header = record {
  long = length-replicate (columns_across header) (no_column (shape_of header));
  each = λ k low. get_or-replicate (columns_across header) k (no_column (shape_of header)) (no_column (shape_of header)) low;
  blocks = refl;
}

-- the tiles of a frame whose sizes are tested, and its columns
abbrev all_columns : FrameSources → List ℕ → List Span → Result (Settled Columns) (ℕ × Rule)
all_columns by bytes spans = read_all (bytes_by by (tile_bytes bytes spans)) (range_with_len 0 (tile_count by.header)) (λ k. no_tiles by.header)

frame_matches : (by : FrameSources) (bytes : List ℕ) (compressed : Span) (spans : List Span) → tile_spans bytes by.header compressed ≡ Ok spans
    → Matches by.header (tile_count by.header) (nothing_read by.header) (all_columns by bytes spans) (read_all_tiles by bytes compressed)
frame_matches by bytes compressed spans is =
    let many = many_spans bytes by.header compressed spans is in
    let from_all : AreFrom spans 0 spans = λ m d low. let here : m ≡ 0 + m = omega arith in ap (λ k. get_or spans k d) here in
    let whole : length spans ≡ 0 + length spans = omega arith in
    rw (is, sym many) (tiles_match by bytes spans spans 0 (length spans) (nothing_read by.header) (λ k. no_tiles by.header) from_all whole (nothing_holds by.header))

-- a column of them
abbrev column_in : ℕ → Columns → ColumnRead
column_in k s = s k

separate : (by : FrameSources) (bytes : List ℕ) (spans : List Span)
    → AreSeparate (column_of by.header.params.tiles) (bytes_by by (tile_bytes bytes spans)) column_in (column_tile by (tile_bytes bytes spans))
separate by bytes spans = columns_separate (column_of by.header.params.tiles) (column_tile by (tile_bytes bytes spans))

plan_is : (by : FrameSources) (bytes : List ℕ) (spans : List Span) (k : ℕ)
    → column_alone (column_of by.header.params.tiles) column_in (column_tile by (tile_bytes bytes spans)) (range_with_len 0 (tile_count by.header)) (λ k. no_tiles by.header) k
    ≡ plan_of by (tile_bytes bytes spans) k
unfolding plan_of
plan_is by bytes spans k = refl

-- what a frame's columns come to
abbrev pub ReadsColumns : FrameSources → List ℕ → List Span → FrameRead → Type 0
ReadsColumns by bytes spans read = (plans : ℕ → Settled ColumnRead) × ((k : ℕ) → plan_of by (tile_bytes bytes spans) k ≡ Ok (plans k)) × AreReadAll by.header read plans

blocks_by : (header : Header) (t : Columns) (plans : ℕ → Settled ColumnRead) (n : ℕ) → ((k : ℕ) → (plans k).value ≡ t k) → (m : ℕ) → m < 0 + n → blocks_at header t m ≡ (plans (column_of header.params.tiles m)).value.tiles m
blocks_by header t plans n same m low = ap (λ (c : ColumnRead). c.tiles m) (sym (same (column_of header.params.tiles m)))

counts_by_plan : (p : CountedBool → Bool) (r : ℕ → Result (Settled ColumnRead) (ℕ × Rule)) (plans : ℕ → Settled ColumnRead) (ks : List ℕ) → ((k : ℕ) → r k ≡ Ok (plans k))
    → sum_by (λ k. count_by p (counted_of (r k))) ks ≡ sum_by (λ k. count_by p (plans k).counted) ks
counts_by_plan p r plans ks is = λ i. sum_by (λ k. count_by p (counted_of (is k i))) ks

by_columns : (by : FrameSources) (bytes : List ℕ) (compressed : Span) (spans : List Span) (read : FrameRead) (x : Result (Settled Columns) (ℕ × Rule)) → all_columns by bytes spans ≡ x
    → Matches by.header (tile_count by.header) (nothing_read by.header) x (read_all_tiles by bytes compressed) → read_all_tiles by bytes compressed ≡ Ok read → ReadsColumns by bytes spans read
by_columns by bytes compressed spans read (Ok t) so h is =
    let same : h.0 ≡ read = cc in
    let col = column_of by.header.params.tiles in
    let ns = range_with_len 0 (tile_count by.header) in
    let alone = λ (k : ℕ). all_read col (bytes_by by (tile_bytes bytes spans)) column_in (column_tile by (tile_bytes bytes spans)) (separate by bytes spans) ns (λ k. no_tiles by.header) t so k in
    let plans = λ (k : ℕ). (alone k).0 in
    let are : (k : ℕ) → plan_of by (tile_bytes bytes spans) k ≡ Ok (plans k) = λ k. sym (plan_is by bytes spans k) ∙ (alone k).1 in
    let counts : (p : CountedBool → Bool) → count_by p read.counted ≡ sum_by (λ k. count_by p (plans k).counted) (range_with_len 0 (columns_across by.header)) = λ p.
    ap (λ (f : FrameRead). count_by p f.counted) (sym same)
    ∙ (ap (count_by p) h.3
    ∙ (counts_add col (bytes_by by (tile_bytes bytes spans)) column_in (column_tile by (tile_bytes bytes spans)) (separate by bytes spans) p (columns_across by.header) (few_columns by.header) ns (λ k. no_tiles by.header) t so
    ∙ counts_by_plan p (column_alone col column_in (column_tile by (tile_bytes bytes spans)) ns (λ k. no_tiles by.header)) plans (range_with_len 0 (columns_across by.header)) (λ k. (alone k).1))) in (
      plans,
      are,
      record {
        columns = λ k low. ap (λ (f : FrameRead). column_at by.header f k) (sym same) ∙ (h.2.each k low ∙ ap (λ (c : ColumnRead). c.column) (sym (alone k).2));
        blocks = ap (λ (f : FrameRead). f.blocks) (sym same)
            ∙ (h.2.blocks ∙ same_below (blocks_at by.header t.value) (λ n. (plans (col n)).value.tiles n) 0 (tile_count by.header) (blocks_by by.header t.value plans (tile_count by.header) (λ k. (alone k).2)));
        counted = counts;
        counts = parts_add_up read.counted (λ k. (plans k).counted) (columns_across by.header) counts;
      },
    )
by_columns by bytes compressed spans read (Err e) so h is = let no : ⊥ = cc in absurd no

pub reads_columns : (by : FrameSources) (bytes : List ℕ) (compressed : Span) (spans : List Span) (read : FrameRead) → tile_spans bytes by.header compressed ≡ Ok spans
    → read_all_tiles by bytes compressed ≡ Ok read → ReadsColumns by bytes spans read
reads_columns by bytes compressed spans read is reads = by_columns by bytes compressed spans read (all_columns by bytes spans) refl (frame_matches by bytes compressed spans is) reads

broken_by : (by : FrameSources) (bytes : List ℕ) (compressed : Span) (spans : List Span) (rule : Rule) (x : Result (Settled Columns) (ℕ × Rule)) → all_columns by bytes spans ≡ x
    → Matches by.header (tile_count by.header) (nothing_read by.header) x (read_all_tiles by bytes compressed) → read_all_tiles by bytes compressed ≡ Err rule
    → (n : ℕ) × IsFirstBroken by.header (plan_of by (tile_bytes bytes spans)) n rule
broken_by by bytes compressed spans rule (Ok t) so h is = let no : ⊥ = cc in absurd no
broken_by by bytes compressed spans rule (Err (n, e)) so h is =
    let same : e ≡ rule = cc in
    let col = column_of by.header.params.tiles in
    let first = first_broken col (bytes_by by (tile_bytes bytes spans)) column_in (column_tile by (tile_bytes bytes spans)) (separate by bytes spans) 0 (tile_count by.header) (λ k. no_tiles by.header) n e so in (
      n,
      record {
        own = sym (plan_is by bytes spans (col n)) ∙ (first.0 ∙ ap (λ (r : Rule). Err (n, r)) same);
        others = λ k j other apart fails. first.1 k j other apart (plan_is by bytes spans k ∙ fails);
      },
    )

pub broken_first : (by : FrameSources) (bytes : List ℕ) (compressed : Span) (spans : List Span) (rule : Rule) → tile_spans bytes by.header compressed ≡ Ok spans
    → read_all_tiles by bytes compressed ≡ Err rule → (n : ℕ) × IsFirstBroken by.header (plan_of by (tile_bytes bytes spans)) n rule
broken_first by bytes compressed spans rule is breaks = broken_by by bytes compressed spans rule (all_columns by bytes spans) refl (frame_matches by bytes compressed spans is) breaks
