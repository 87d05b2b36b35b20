-- The tiles of a column, row by row of tiles.
use Rattle.std.proofs.Common.{◌≡◌, ◌∙◌, ◌++◌, ◌∷◌, [], ℕ, zero, suc, ◌+◌, ◌-◌, ◌*◌, ◌%◌, ◌^◌, ◌<◌, ◌≤◌, Bool, true, false, List, inl, inr, refl, sym, ap, arith, append_assoc, length}
use Rattle.std.specs.Prelude.{Result, Ok, Err, IfOk, Some, filter, nat_eq, slice_get, slice_range}
use Rattle.std.specs.List.{range_with_len}
use Rattle.std.proofs.lemmas.Bool.{cases_eq, eq-eqb, ne_eqb}
use Rattle.std.proofs.lemmas.List.{append-nil}
use Rattle.std.proofs.lemmas.List.Elements.{filter-append}
use Rattle.std.proofs.lemmas.List.Sums.{fold-append}
use Rattle.std.proofs.lemmas.Option.{get_or_from_slice_get}
use Rattle.std.proofs.lemmas.Nat.{mod-mul-add}
use Rattle.std.proofs.Math.Nat.{mul-le-mul_right}
use Rattle.vp9_types.specs.declared.job.Span.{Span}
use Rattle.vp9_types.specs.declared.rule.Rule.{Rule}
use Rattle.frame_headers.specs.Spans.{tile_count, tile_spans}
use Rattle.frame_headers.specs.declared.header.Header.{Header}
use Rattle.frame_headers.specs.declared.tiles.TileInfo.{TileInfo}
use Rattle.prob_contexts.specs.Code.{counts_after, no_counts, with_bool}
use Rattle.prob_contexts.specs.declared.kind.CountedBool.{CountedBool}
use Rattle.counting_reader.specs.Counting.{Settled}
use Rattle.counting_reader.specs.Code.{counted_if}
use Rattle.mode_syntax.specs.TileColumns.{read_all, then_rest, tiles_of, with_counted}
use Rattle.block_plan.specs.declared.block.BlockInfo.{BlockInfo}
use Rattle.column_plan.specs.PlannedBlocks.{planned_blocks, total}
use Rattle.frame_state.specs.Code.{column_as_listed, column_of_code, counts_if}
use Rattle.frame_state.specs.KeptColumns.{IsTileColumn}
use Rattle.frame_state.specs.ColumnPlans.{ColumnRead, column_tile, no_tiles, plan_of, tile_bytes}
use Rattle.frame_state.specs.FrameReading.{no_column}
use Rattle.frame_state.specs.Sources.{FrameSources}
use Rattle.frame_state.specs.TilePlaces.{column_of}
use Rattle.frame_state.specs.declared.columns.TileColumn.{TileColumn}
use Rattle.frame_state.specs.declared.halt.Halt.{Halt}
use Rattle.frame_state.specs.declared.halt.Halt.TheVariants as halt
use Rattle.vp9_types.specs.declared.shape.Shape.{Shape}
use Rattle.tile_syntax.specs.Code.{BreaksWhole, GivesPlan, HoldsColumn, rule_of, unplanned_at, IsKept}
use Rattle.tile_syntax.specs.declared.plans.ColumnPlan.{ColumnPlan}
use Rattle.frame_headers.specs.HeaderState.{shape_of}
use Rattle.column_plan.proofs.RowStarts.{none_noted}

---- Their numbers ----

none_there : (p : ℕ → Bool) (a n : ℕ) → ((m : ℕ) → a ≤ m → m < a + n → p m ≡ false) → filter p (range_with_len a n) ≡ []
none_there p a zero none = refl
none_there p a (suc n) none = rw (none a (omega arith) (omega arith)) (none_there p (a + 1) n (λ m low high. none m (omega (arith, low)) (omega (arith, high))))

one_there : (p : ℕ → Bool) (a n c : ℕ) → a ≤ c → c < a + n → p c ≡ true → ((m : ℕ) → a ≤ m → m < a + n → (m ≡ c → ⊥) → p m ≡ false) → filter p (range_with_len a n) ≡ c ∷ []
one_there p a zero c low high is none = absurd (omega (arith, low, high))
one_there p a (suc n) c low high is none = elim (cases_eq a c) [
  | inl here ↦
      let first : p a ≡ true = ap p here ∙ is in
      rw first (λ i. here i ∷ none_there p (a + 1) n (λ m low high. none m (omega (arith, low)) (omega (arith, high)) (λ same. omega (arith, same, low, here))) i)
  | inr there ↦
      rw (none a (omega arith) (omega arith) there)
      (one_there p (a + 1) n c (let apart : (a ≡ c → ⊥) = there in omega (arith, low, apart)) (omega (arith, high)) is (λ m low high. none m (omega (arith, low)) (omega (arith, high))))
]

range_append : (a n m : ℕ) → range_with_len a (n + m) ≡ range_with_len a n ++ range_with_len (a + n) m
range_append a zero m = let here : a + 0 ≡ a = omega arith in let none : 0 + m ≡ m = omega arith in rw (here, none) refl
range_append a (suc n) m =
    let more : suc n + m ≡ suc (n + m) = omega arith in
    let place : a + 1 + n ≡ a + suc n = omega arith in
    rw more (ap (λ xs. a ∷ xs) (range_append (a + 1) n m ∙ ap (λ p. range_with_len (a + 1) n ++ range_with_len p m) place))

-- the k-th of each row of so many, from the i-th row on
pub row_tiles : ℕ → ℕ → ℕ → ℕ → List ℕ
row_tiles columns k i zero = []
row_tiles columns k i (suc m) = (i * columns + k) ∷ row_tiles columns k (i + 1) m

abbrev is_in : ℕ → ℕ → ℕ → Bool
is_in columns k n = nat_eq (n % columns) k

one_in_row : (columns k i : ℕ) → k < columns → filter (is_in columns k) (range_with_len (i * columns) columns) ≡ (i * columns + k) ∷ []
one_in_row columns k i low =
    one_there (is_in columns k) (i * columns) columns (i * columns + k) (omega arith) (omega (arith, low)) (eq-eqb ((i * columns + k) % columns) k (mod-mul-add i columns k low))
    (λ m from to apart.
    let place : m ≡ i * columns + (m - i * columns) = omega (arith, from) in
    let within : m - i * columns < columns = omega (arith, from, to) in
    let is : m % columns ≡ m - i * columns = ap (λ x. x % columns) place ∙ mod-mul-add i columns (m - i * columns) within in
    ne_eqb (m % columns) k (λ same. apart (let j : m - i * columns ≡ k = sym is ∙ same in omega (arith, from, j))))

tiles_by_row : (columns k i m : ℕ) → k < columns → filter (is_in columns k) (range_with_len (i * columns) (m * columns)) ≡ row_tiles columns k i m
unfolding row_tiles
tiles_by_row columns k i zero low = let none : 0 * columns ≡ 0 = omega arith in rw none refl
tiles_by_row columns k i (suc m) low =
    let whole : suc m * columns ≡ columns + m * columns = grind arith in
    let next : i * columns + columns ≡ (i + 1) * columns = grind arith in
    ap (λ n. filter (is_in columns k) (range_with_len (i * columns) n)) whole
    ∙ (ap (filter (is_in columns k)) (range_append (i * columns) columns (m * columns))
    ∙ (filter-append (is_in columns k) (range_with_len (i * columns) columns) (range_with_len (i * columns + columns) (m * columns))
    ∙ (λ j. one_in_row columns k i low j ++ (ap (λ a. filter (is_in columns k) (range_with_len a (m * columns))) next ∙ tiles_by_row columns k (i + 1) m low) j)))

---- Reading them in order ----

abbrev Tiled : Type 0
Tiled = Result (Settled ColumnRead) (ℕ × Rule)

-- reading goes on from the i-th row of tiles, with these counted before
abbrev pub IsLeft : FrameSources → (ℕ → List ℕ) → ℕ → ℕ → ColumnRead → List CountedBool → Type 0
IsLeft by bytes k i read counted =
    plan_of by bytes k ≡ with_counted counted (read_all (column_tile by bytes) (row_tiles (2 ^ by.header.params.tiles.columns_log2) k i (2 ^ by.header.params.tiles.rows_log2 - i)) read)

none_before : (x : Tiled) → x ≡ with_counted [] x
none_before (Ok s) = refl
none_before (Err e) = refl

counted_before : (a b : List CountedBool) (x : Tiled) → with_counted a (with_counted b x) ≡ with_counted (a ++ b) x
counted_before a b (Ok s) = λ i. Ok (record { value = s.value; counted = sym (append_assoc a b s.counted) i })
counted_before a b (Err e) = refl

pub begins : (by : FrameSources) (bytes : ℕ → List ℕ) (k : ℕ) → k < 2 ^ by.header.params.tiles.columns_log2 → IsLeft by bytes k 0 (no_tiles by.header) []
unfolding plan_of
begins by bytes k low =
    let columns = 2 ^ by.header.params.tiles.columns_log2 in
    let rows = 2 ^ by.header.params.tiles.rows_log2 in
    let all : tile_count by.header ≡ rows * columns = grind arith in
    let first : 0 ≡ 0 * columns = omega arith in
    let left : rows ≡ rows - 0 = omega arith in
    let numbers : tiles_of (column_of by.header.params.tiles) k (range_with_len 0 (tile_count by.header)) ≡ row_tiles columns k 0 (rows - 0) =
    (λ i. filter (is_in columns k) (range_with_len (first i) (all i))) ∙ (tiles_by_row columns k 0 rows low ∙ ap (row_tiles columns k 0) left) in
    ap (λ ns. read_all (column_tile by bytes) ns (no_tiles by.header)) numbers ∙ none_before _

next : (by : FrameSources) (bytes : ℕ → List ℕ) (k i : ℕ) (read : ColumnRead) (counted : List CountedBool) → i < 2 ^ by.header.params.tiles.rows_log2 → IsLeft by bytes k i read counted
    → plan_of by bytes k ≡ with_counted counted (then_rest (i * 2 ^ by.header.params.tiles.columns_log2 + k) (column_tile by bytes (i * 2 ^ by.header.params.tiles.columns_log2 + k) read)
    (read_all (column_tile by bytes) (row_tiles (2 ^ by.header.params.tiles.columns_log2) k (i + 1) (2 ^ by.header.params.tiles.rows_log2 - (i + 1)))))
unfolding read_all column_tile row_tiles
next by bytes k i read counted more left =
    let rows = 2 ^ by.header.params.tiles.rows_log2 in
    let one : rows - i ≡ suc (rows - (i + 1)) = omega (arith, more) in
    left ∙ ap (λ m. with_counted counted (read_all (column_tile by bytes) (row_tiles (2 ^ by.header.params.tiles.columns_log2) k i m) read)) one

pub goes_on : (by : FrameSources) (bytes : ℕ → List ℕ) (k i n : ℕ) (read : ColumnRead) (counted : List CountedBool) (s : Settled ColumnRead) → n ≡ i * 2 ^ by.header.params.tiles.columns_log2 + k
    → i < 2 ^ by.header.params.tiles.rows_log2 → IsLeft by bytes k i read counted → column_tile by bytes n read ≡ Ok s → IsLeft by bytes k (i + 1) s.value (counted ++ s.counted)
goes_on by bytes k i n read counted s at more left reads =
    let rest = read_all (column_tile by bytes) (row_tiles (2 ^ by.header.params.tiles.columns_log2) k (i + 1) (2 ^ by.header.params.tiles.rows_log2 - (i + 1))) in
    next by bytes k i read counted more left
    ∙ (ap (λ m. with_counted counted (then_rest m (column_tile by bytes m read) rest)) (sym at)
    ∙ (ap (λ r. with_counted counted (then_rest n r rest)) reads ∙ counted_before counted s.counted (rest s.value)))

pub breaks : (by : FrameSources) (bytes : ℕ → List ℕ) (k i n : ℕ) (read : ColumnRead) (counted : List CountedBool) (rule : Rule) → n ≡ i * 2 ^ by.header.params.tiles.columns_log2 + k
    → i < 2 ^ by.header.params.tiles.rows_log2 → IsLeft by bytes k i read counted → column_tile by bytes n read ≡ Err rule → plan_of by bytes k ≡ Err (n, rule)
breaks by bytes k i n read counted rule at more left fails =
    let rest = read_all (column_tile by bytes) (row_tiles (2 ^ by.header.params.tiles.columns_log2) k (i + 1) (2 ^ by.header.params.tiles.rows_log2 - (i + 1))) in
    next by bytes k i read counted more left
    ∙ (ap (λ m. with_counted counted (then_rest m (column_tile by bytes m read) rest)) (sym at)
    ∙ ap (λ r. with_counted counted (then_rest n r rest)) fails)

pub ends : (by : FrameSources) (bytes : ℕ → List ℕ) (k i : ℕ) (read : ColumnRead) (counted : List CountedBool) → 2 ^ by.header.params.tiles.rows_log2 ≤ i
    → IsLeft by bytes k i read counted → plan_of by bytes k ≡ Ok (record { value = read; counted = counted })
unfolding read_all row_tiles
ends by bytes k i read counted done left =
    let none : 2 ^ by.header.params.tiles.rows_log2 - i ≡ 0 = omega (arith, done) in
    left ∙ (ap (λ m. with_counted counted (read_all (column_tile by bytes) (row_tiles (2 ^ by.header.params.tiles.columns_log2) k i m) read)) none
    ∙ ap (λ xs. Ok (counted_so read xs)) (append-nil counted))
  where
    counted_so : ColumnRead → List CountedBool → Settled ColumnRead
    counted_so read xs = record { value = read; counted = xs }

-- the n-th tile breaks off
pub breaks_off : (by : FrameSources) (bytes : ℕ → List ℕ) (k i n : ℕ) (read : ColumnRead) (counted : List CountedBool) (counting : Bool) (e : Halt) (shape : Shape) (plan : ColumnPlan)
    → n ≡ i * 2 ^ by.header.params.tiles.columns_log2 + k → i < 2 ^ by.header.params.tiles.rows_log2 → IsLeft by bytes k i read counted
    → BreaksWhole (rule_of e) (column_tile by bytes n read) → GivesPlan counting (plan_of by bytes k) (Err (unplanned_at n e)) shape plan
breaks_off by bytes k i n read counted counting (halt.Broken rule) shape plan at more left fails = breaks by bytes k i n read counted rule at more left fails
breaks_off by bytes k i n read counted counting halt.OutOfMemory shape plan at more left fails = tt

---- The code's column ----

pub later_by : (header : Header) (n m k : ℕ) (c : TileColumn) → n ≤ m → IsTileColumn header n k c → IsTileColumn header m k c
later_by header n m k c most h = record {
  rows = h.rows;
  from = h.from;
  to = h.to;
  fit = h.fit;
  room = λ r low. h.room r (omega (arith, low, most));
  fit_blocks = h.fit_blocks;
  lie = h.lie;
  starts = h.starts;
  small = h.small;
}

-- the bytes of a tile that lies there
pub bytes_there : (bytes : List ℕ) (header : Header) (compressed span : Span) (spans : List Span) (n : ℕ) → tile_spans bytes header compressed ≡ Ok spans
    → IfOk (tile_spans bytes header compressed) (λ spans. slice_get spans n ≡ Some span) → tile_bytes bytes spans n ≡ slice_range bytes span.from span.to
bytes_there bytes header compressed span spans n is at =
    let found : slice_get spans n ≡ Some span = rw is at at in
    ap (λ (x : Span). slice_range bytes x.from x.to) (get_or_from_slice_get spans n span (record { from = 0; to = 0 }) found)

-- the n-th tile is one of the column's
pub own_tile : (tiles : TileInfo) (i k n : ℕ) → k < 2 ^ tiles.columns_log2 → n ≡ i * 2 ^ tiles.columns_log2 + k → column_of tiles n ≡ k
own_tile tiles i k n low at = ap (λ m. m % 2 ^ tiles.columns_log2) at ∙ mod-mul-add i (2 ^ tiles.columns_log2) k low

pub row_below : (columns i k n : ℕ) → k < columns → n ≡ i * columns + k → (i * columns ≤ n) × (n + 1 ≤ (i + 1) * columns)
row_below columns i k n low at =
    let sum : (i + 1) * columns ≡ i * columns + columns = grind arith in
    (omega (arith, at), omega (arith, at, sum, low))

---- Counts ----

counted_on : (counting : Bool) (xs ys : List CountedBool) → counted_if counting (counts_if counting xs) ys ≡ counts_if counting (xs ++ ys)
unfolding counts_after
counted_on true xs ys = sym (fold-append with_bool no_counts xs ys)
counted_on false xs ys = refl

pub counts_on : (counting : Bool) (before now : List ℕ) (xs ys : List CountedBool) → before ≡ counts_if counting xs → now ≡ counted_if counting before ys → now ≡ counts_if counting (xs ++ ys)
counts_on counting before now xs ys so_far more = more ∙ (ap (λ counts. counted_if counting counts ys) so_far ∙ counted_on counting xs ys)

pub all_below : (columns rows i last : ℕ) → i ≤ last → last ≡ rows → i * columns ≤ columns * rows
all_below columns rows i last low is =
    let less : i * columns ≤ last * columns = mul-le-mul_right columns low in
    let same : last * columns ≡ rows * columns = ap (λ n. n * columns) is in
    let turned : rows * columns ≡ columns * rows = grind arith in
    omega (arith, less, same, turned)

---- Where it begins ----

pub nothing_held : (shape : Shape) (p : ColumnPlan) → column_of_code p.column ≡ column_as_listed (no_column shape) → HoldsColumn shape p (no_column shape)
unfolding planned_blocks
nothing_held shape p told = record {
  blocks = ap (λ (z : List BlockInfo × List Bool × List Bool × List Bool). planned_blocks shape p.column.grid.from z.0 p.residues) told;
  y = ap (λ z. z.1) told;
  u = ap (λ z. z.2) told;
  v = ap (λ z. z.3) told;
}

pub nothing_kept : (header : Header) (p : ColumnPlan) → p.column.grid.blocks ≡ [] → p.residues ≡ [] → p.rows.places.items ≡ [] → IsKept header p
unfolding planned_blocks
nothing_kept header p blocks residues rows = record {
  all = (λ i. total (shape_of header) (blocks i)) ∙ ap length (sym residues);
  rows = rw (blocks, rows) (none_noted (shape_of header));
  refer = rw blocks (λ i d low. absurd (omega (arith, low)));
  small = rw blocks (λ i d low. absurd (omega (arith, low)));
  whole = rw blocks (λ i d low. absurd (omega (arith, low)));
}
