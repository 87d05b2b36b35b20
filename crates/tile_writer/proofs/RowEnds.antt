-- Rows of superblocks, one superblock after another, and rows one after another: whatever ends what is still to be put ends all.
use Rattle.std.proofs.Common.{◌≡◌, ◌∙◌, ℕ, zero, suc, List, [], ◌∷◌, ◌++◌, map, ◌+◌, ◌-◌, ◌*◌, ◌^◌, ◌<◌, ◌≤◌, refl, sym, subst, ap, arith}
use Rattle.std.specs.List.{flat_map, range_with_len}
use Rattle.std.specs.Prelude.{Result, Ok, Err}
use Rattle.std.proofs.Math.Nat.{mul-le-mul_left}
use Rattle.mode_syntax.specs.Laws.{square_at, decode_row, decode_rows, squares_from}
use Rattle.mode_syntax.specs.Superblocks.{superblock_from, superblocks_of}
use Rattle.mode_syntax.specs.Walk.{TileWalk, decode_tile}
use Rattle.mode_syntax.specs.declared.square_at.SquareAt.{SquareAt}
use Rattle.mode_syntax.proofs.RowByRow.{tile_is}
use Rattle.tile_writer.specs.SaidTiles.{SaidSoFar, Said, Teller, then_said, said_at_level, said_tile}
use Rattle.tile_writer.specs.Code.{Tile, SameTile, Rest, EndsTile, then_rest, said_row, said_rows, square_rest, row_rest, rows_rest, tile_rest}
use Rattle.tile_writer.specs.declared.unwritten.Unwritten.{Unwritten}
use Rattle.tile_writer.proofs.Endings.{as_rest, ends_here, ends_more, stops_any, then_ends, then_stops, same_here, same_on}
use Rattle.tile_writer.proofs.SquareEnds.{moved, SquareEnds}

-- of a walk and its teller, n turns from a place on; and one of them
abbrev pub Turns : Type 0 → Type 0 → Type 0
Turns S T = TileWalk S → Teller S T → ℕ → ℕ → Rest S T

abbrev pub Turn : Type 0 → Type 0 → Type 0
Turn S T = TileWalk S → Teller S T → ℕ → Rest S T

-- i of n turns are done, of k blocks each at most: whatever ends the rest ends all
pub record IsLeft {S H T : Type 0} (f : Turns S T) (c n k i : ℕ) (start now : Tile S H T) : Type 0 where
  pub same : SameTile start now
  pub room : start.room ≤ now.room + k * i
  pub ends : (m : ℕ) (result : Result (Unit {0}) Unwritten) (new : Tile S H T) → EndsTile (f start.walk start.teller (c + 8 * i) (n - i)) m now result new
      → EndsTile (f start.walk start.teller c n) (k * i + m) start result new

pub begins : {S H T : Type 0} (f : Turns S T) (c n k : ℕ) (t : Tile S H T) → IsLeft f c n k 0 t t
begins f c n k t = record {
  same = same_here t;
  room = omega arith;
  ends = λ m result new h.
      let here : c + 8 * 0 ≡ c = omega arith in
      let all : n - 0 ≡ n = omega arith in
      let none : m ≡ k * 0 + m = omega arith in
      subst (λ x. EndsTile (f t.walk t.teller c n) x t result new) none
      (subst (λ x. EndsTile (f t.walk t.teller x n) m t result new) here (subst (λ x. EndsTile (f t.walk t.teller (c + 8 * 0) x) m t result new) all h));
}

-- a turn, and then the others
abbrev TakesTurns : {S T : Type 0} → Type 0 → Turns S T → Turn S T → Type 0
TakesTurns {S} {T} H f turn = (walk : TileWalk S) (teller : Teller S T) (c n m : ℕ) (t new : Tile S H T) (result : Result (Unit {0}) Unwritten)
    → EndsTile (then_rest (turn walk teller c) (f walk teller (c + 8) n)) m t result new → EndsTile (f walk teller c (suc n)) m t result new

abbrev EndsTurns : {S T : Type 0} → Type 0 → Turns S T → Type 0
EndsTurns {S} {T} H f = (walk : TileWalk S) (teller : Teller S T) (c m : ℕ) (t : Tile S H T) → EndsTile (f walk teller c 0) m t (Ok tt) t

next : {S H T : Type 0} (f : Turns S T) (turn : Turn S T) → TakesTurns H f turn → (walk : TileWalk S) (teller : Teller S T) (c n i m : ℕ) (now new : Tile S H T) (result : Result (Unit {0}) Unwritten)
    → i < n → EndsTile (then_rest (turn walk teller (c + 8 * i)) (f walk teller (c + 8 * (i + 1)) (n - (i + 1)))) m now result new
    → EndsTile (f walk teller (c + 8 * i) (n - i)) m now result new
next f turn takes walk teller c n i m now new result more h =
    let left : suc (n - (i + 1)) ≡ n - i = omega (arith, more) in
    let place : c + 8 * (i + 1) ≡ c + 8 * i + 8 = omega arith in
    subst (λ x. EndsTile (f walk teller (c + 8 * i) x) m now result new) left
    (takes walk teller (c + 8 * i) (n - (i + 1)) m now new result
    (subst (λ x. EndsTile (then_rest (turn walk teller (c + 8 * i)) (f walk teller x (n - (i + 1)))) m now result new) place h))

pub goes_on : {S H T : Type 0} (f : Turns S T) (turn : Turn S T) → TakesTurns H f turn → (c n k i : ℕ) (start now after : Tile S H T) → i < n
    → IsLeft f c n k i start now → EndsTile (turn now.walk now.teller (c + 8 * i)) k now (Ok tt) after → IsLeft f c n k (i + 1) start after
goes_on f turn takes c n k i start now after more left h =
    let there : EndsTile (turn start.walk start.teller (c + 8 * i)) k now (Ok tt) after = moved (λ w u. turn w u (c + 8 * i)) k start now after (Ok tt) left.same h in
    let room = h.2 in
    let before = left.room in
    let sum : k * (i + 1) ≡ k * i + k = omega arith in record {
      same = same_on start now after left.same h.1;
      room = omega (arith, room, before, sum);
      ends = λ m result new rest.
          let count : k * i + (k + m) ≡ k * (i + 1) + m = omega (arith, sum) in
          subst (λ x. EndsTile (f start.walk start.teller c n) x start result new) count
          (left.ends (k + m) result new (next f turn takes start.walk start.teller c n i (k + m) now new result more
          (then_ends (turn start.walk start.teller (c + 8 * i)) (f start.walk start.teller (c + 8 * (i + 1)) (n - (i + 1))) k m now after new result there rest)));
    }

pub stops : {S H T : Type 0} (f : Turns S T) (turn : Turn S T) → TakesTurns H f turn → (c n k i m : ℕ) (start now new : Tile S H T) (e : Unwritten) → i < n
    → IsLeft f c n k i start now → EndsTile (turn now.walk now.teller (c + 8 * i)) k now (Err e) new → EndsTile (f start.walk start.teller c n) m start (Err e) new
stops f turn takes c n k i m start now new e more left h =
    let there : EndsTile (turn start.walk start.teller (c + 8 * i)) k now (Err e) new = moved (λ w u. turn w u (c + 8 * i)) k start now new (Err e) left.same h in
    stops_any (f start.walk start.teller c n) (k * i + m) m start new e
    (left.ends m (Err e) new (next f turn takes start.walk start.teller c n i m now new (Err e) more
    (then_stops (turn start.walk start.teller (c + 8 * i)) (f start.walk start.teller (c + 8 * (i + 1)) (n - (i + 1))) k m now new e there)))

pub ends : {S H T : Type 0} (f : Turns S T) → EndsTurns H f → (c n k i m : ℕ) (start now : Tile S H T) → n ≤ i → k * i ≤ m
    → IsLeft f c n k i start now → EndsTile (f start.walk start.teller c n) m start (Ok tt) now
ends f none c n k i m start now done most left =
    let no_more : 0 ≡ n - i = omega (arith, done) in
    let all : k * i + 0 ≤ m = omega (arith, most) in
    ends_more (f start.walk start.teller c n) (k * i + 0) m start now (Ok tt) all
    (left.ends 0 (Ok tt) now (subst (λ x. EndsTile (f start.walk start.teller (c + 8 * i) x) 0 now (Ok tt) now) no_more (none start.walk start.teller (c + 8 * i) 0 now)))

abbrev pub square_turn : {S T : Type 0} → ℕ → Turn S T
square_turn r walk teller c = square_rest walk teller 3 r c

abbrev pub row_turn : {S T : Type 0} → ℕ → ℕ → Turn S T
row_turn columns c walk teller r = row_rest r walk teller c columns

pub row_turns : {S H T : Type 0} (r : ℕ) → TakesTurns {S = S} {T = T} H (row_rest r) (square_turn r)
unfolding decode_row said_row
row_turns r walk teller c n m t new result h = h

pub row_end : {S H T : Type 0} (r : ℕ) → EndsTurns {S = S} {T = T} H (row_rest r)
unfolding decode_row said_row
row_end r walk teller c m t = ends_here (row_rest r walk teller c 0) m t (λ s. refl) (λ p. refl)

pub tile_turns : {S H T : Type 0} (columns c : ℕ) → TakesTurns {S = S} {T = T} H (rows_rest columns c) (row_turn columns c)
unfolding decode_rows said_rows
tile_turns columns c walk teller r n m t new result h = h

pub tile_end : {S H T : Type 0} (columns c : ℕ) → EndsTurns {S = S} {T = T} H (rows_rest columns c)
unfolding decode_rows said_rows
tile_end columns c walk teller r m t = ends_here (rows_rest columns c walk teller r 0) m t (λ s. refl) (λ p. refl)

---- A tile's superblocks say what its rows say ----

said_again : {S T : Type 0} (r : Said S T) (f g : SaidSoFar S T → Said S T) → then_said (then_said r f) g ≡ then_said r (λ p. then_said (f p) g)
said_again (Ok p) f g = refl
said_again (Err e) f g = refl

said_both : {S T : Type 0} (walk : TileWalk S) (teller : Teller S T) (xs ys : List SquareAt) (p : SaidSoFar S T)
    → said_tile walk teller (xs ++ ys) p ≡ then_said (said_tile walk teller xs p) (said_tile walk teller ys)
unfolding said_tile
said_both walk teller [] ys p = refl
said_both walk teller (at ∷ xs) ys p =
    (λ i. then_said (said_at_level walk teller at.level at p) (λ q. said_both walk teller xs ys q i))
    ∙ sym (said_again (said_at_level walk teller at.level at p) (said_tile walk teller xs) (said_tile walk teller ys))

next_place : (c j : ℕ) → c + 8 * (j + 1) ≡ c + 8 * j + 8
next_place c j = omega arith

first_place : (c : ℕ) → c + 8 * 0 ≡ c
first_place c = omega arith

module _ {S T : Type 0} (walk : TileWalk S) (teller : Teller S T) (r c : ℕ) where
  row_says : (i j n : ℕ) (p : SaidSoFar S T)
      → said_tile walk teller (map (λ j. superblock_from (square_at walk 3 r c) i j) (range_with_len j n)) p ≡ said_row walk teller (r + 8 * i) (c + 8 * j) n p
  unfolding said_tile said_row
  row_says i j zero p = refl
  row_says i j (suc n) p =
      (λ k. then_said (said_at_level walk teller 3 (square_at walk 3 (r + 8 * i) (c + 8 * j)) p) (λ q. row_says i (j + 1) n q k))
      ∙ ap (λ d. then_said (said_at_level walk teller 3 (square_at walk 3 (r + 8 * i) (c + 8 * j)) p) (said_row walk teller (r + 8 * i) d n)) (next_place c j)

  rows_say : (columns i n : ℕ) (p : SaidSoFar S T)
      → said_tile walk teller (flat_map (λ i. map (λ j. superblock_from (square_at walk 3 r c) i j) (range_with_len 0 columns)) (range_with_len i n)) p
      ≡ said_rows walk teller columns (r + 8 * i) c n p
  unfolding said_tile said_rows
  rows_say columns i zero p = refl
  rows_say columns i (suc n) p =
      said_both walk teller (map (λ j. superblock_from (square_at walk 3 r c) i j) (range_with_len 0 columns))
      (flat_map (λ i. map (λ j. superblock_from (square_at walk 3 r c) i j) (range_with_len 0 columns)) (range_with_len (i + 1) n)) p
      ∙ ((λ k. then_said (row_says i 0 columns p k) (λ q. rows_say columns (i + 1) n q k))
      ∙ (ap (λ d. then_said (said_row walk teller (r + 8 * i) d columns p) (said_rows walk teller columns (r + 8 * (i + 1)) c n)) (first_place c)
      ∙ ap (λ d. then_said (said_row walk teller (r + 8 * i) c columns p) (said_rows walk teller columns d c n)) (next_place r i)))

tile_says : {S T : Type 0} (walk : TileWalk S) (teller : Teller S T) (columns r c n : ℕ) (p : SaidSoFar S T)
    → said_tile walk teller (squares_from walk columns r c n) p ≡ said_rows walk teller columns r c n p
tile_says walk teller columns r c n p = rows_say walk teller r c columns 0 n p ∙ ap (λ d. said_rows walk teller columns d c n p) (first_place r)

pub tile_ends : {S H T : Type 0} (t new : Tile S H T) (first : SquareAt) (columns rows m : ℕ) (result : Result (Unit {0}) Unwritten)
    → first.col ≡ first.tile_from → first.tile_from ≡ t.walk.tile_from → first.tile_to ≡ t.walk.tile_to
    → EndsTile (rows_rest columns first.tile_from t.walk t.teller first.row rows) m t result new → EndsTile (tile_rest t.walk t.teller (superblocks_of first rows columns)) m t result new
tile_ends t new first columns rows m result begin from to h =
    let same : superblocks_of first rows columns ≡ squares_from t.walk columns first.row first.tile_from rows =
    λ i. superblocks_of (record { row = first.row; col = begin i; level = 3; tile_from = from i; tile_to = to i }) rows columns in
    as_rest (rows_rest columns first.tile_from t.walk t.teller first.row rows) (tile_rest t.walk t.teller (superblocks_of first rows columns)) m t new result
    (λ s. sym (ap (λ squares. decode_tile t.walk squares s) same ∙ tile_is t.walk columns first.row first.tile_from rows s))
    (λ p. sym (ap (λ squares. said_tile t.walk t.teller squares p) same ∙ tile_says t.walk t.teller columns first.row first.tile_from rows p)) h

-- the i-th superblock of a row
pub row_turn_of : {S H T : Type 0} (now new : Tile S H T) (first : SquareAt) (i : ℕ) (result : Result (Unit {0}) Unwritten) → first.level ≡ 3 → first.col ≡ first.tile_from
    → SquareEnds now.walk now.teller first.level first.row (first.col + 8 * i) now (4 ^ first.level) result new
    → EndsTile (square_turn first.row now.walk now.teller (first.tile_from + 8 * i)) 64 now result new
row_turn_of now new first i result level begin h =
    subst (λ (c : ℕ). SquareEnds now.walk now.teller 3 first.row (c + 8 * i) now (4 ^ 3) result new) begin
    (subst (λ (n : ℕ). SquareEnds now.walk now.teller n first.row (first.col + 8 * i) now (4 ^ n) result new) level h)

pub counted_to : (columns rows i : ℕ) → i ≤ rows → 64 * columns * i ≤ 64 * (columns * rows)
counted_to columns rows i most = let less = mul-le-mul_left columns most in omega (arith, less)
