-- Rows of superblocks, one superblock after another, and rows one after another: whatever ends what is still to be read ends all.
use Rattle.std.proofs.Common.{◌≡◌, ℕ, suc, ◌+◌, ◌-◌, ◌*◌, ◌^◌, ◌<◌, ◌≤◌, refl, sym, subst, arith, ◌∙◌}
use Rattle.std.specs.Prelude.{Result, Ok, Err}
use Rattle.std.proofs.Math.Nat.{mul-le-mul_left}
use Rattle.mode_syntax.specs.Laws.{decode_square, decode_row, decode_rows}
use Rattle.mode_syntax.specs.Superblocks.{superblocks_of}
use Rattle.mode_syntax.specs.Walk.{TileWalk, decode_tile}
use Rattle.mode_syntax.specs.declared.square_at.SquareAt.{SquareAt}
use Rattle.mode_syntax.proofs.RowByRow.{tile_is}
use Rattle.tile_reader.specs.Code.{Tile, SameTile, Rest, EndsTile, then_rest}
use Rattle.tile_reader.proofs.Endings.{as_rest, ends_here, ends_more, then_ends, then_breaks, same_here, same_on}
use Rattle.tile_reader.proofs.SquareEnds.{moved, SquareEnds}

-- n turns of a walk from a place on, and one of them
abbrev pub Turns : Type 0 → Type 0
Turns S = TileWalk S → ℕ → ℕ → Rest S

abbrev pub Turn : Type 0 → Type 0
Turn S = TileWalk S → ℕ → Rest S

-- i of n turns are done, of k blocks each at most: whatever ends the rest ends all
pub record IsLeft {S H : Type 0} (f : Turns S) (c n k i : ℕ) (start now : Tile S H) : Type 0 where
  pub same : SameTile start now
  pub room : start.room ≤ now.room + k * i
  pub ends : (m : ℕ) (result : Result (Unit {0}) H) (new : Tile S H) → EndsTile (f start.walk (c + 8 * i) (n - i)) m now result new
      → EndsTile (f start.walk c n) (k * i + m) start result new

pub begins : {S H : Type 0} (f : Turns S) (c n k : ℕ) (t : Tile S H) → IsLeft f c n k 0 t t
begins f c n k t = record {
  same = same_here t;
  room = omega arith;
  ends = λ m result new h.
      let here : c + 8 * 0 ≡ c = omega arith in
      let all : n - 0 ≡ n = omega arith in
      let none : m ≡ k * 0 + m = omega arith in
      subst (λ x. EndsTile (f t.walk c n) x t result new) none
      (subst (λ x. EndsTile (f t.walk x n) m t result new) here (subst (λ x. EndsTile (f t.walk (c + 8 * 0) x) m t result new) all h));
}

-- n superblocks of a row, and n rows
abbrev pub row_rest : {S : Type 0} → ℕ → Turns S
row_rest r walk c n = decode_row walk r c n

abbrev pub tile_rest : {S : Type 0} → ℕ → ℕ → Turns S
tile_rest columns c walk r n = decode_rows walk columns r c n

-- a turn, and then the others
abbrev TakesTurns : {S : Type 0} → Type 0 → Turns S → Turn S → Type 0
TakesTurns {S} H f turn = (walk : TileWalk S) (c n m : ℕ) (t new : Tile S H) (result : Result (Unit {0}) H)
    → EndsTile (then_rest (turn walk c) (f walk (c + 8) n)) m t result new → EndsTile (f walk c (suc n)) m t result new

abbrev EndsTurns : {S : Type 0} → Type 0 → Turns S → Type 0
EndsTurns {S} H f = (walk : TileWalk S) (c m : ℕ) (t : Tile S H) → EndsTile (f walk c 0) m t (Ok tt) t

next : {S H : Type 0} (f : Turns S) (turn : Turn S) → TakesTurns H f turn → (walk : TileWalk S) (c n i m : ℕ) (now new : Tile S H) (result : Result (Unit {0}) H)
    → i < n → EndsTile (then_rest (turn walk (c + 8 * i)) (f walk (c + 8 * (i + 1)) (n - (i + 1)))) m now result new
    → EndsTile (f walk (c + 8 * i) (n - i)) m now result new
next f turn takes walk c n i m now new result more h =
    let left : suc (n - (i + 1)) ≡ n - i = omega (arith, more) in
    let place : c + 8 * (i + 1) ≡ c + 8 * i + 8 = omega arith in
    subst (λ x. EndsTile (f walk (c + 8 * i) x) m now result new) left
    (takes walk (c + 8 * i) (n - (i + 1)) m now new result
    (subst (λ x. EndsTile (then_rest (turn walk (c + 8 * i)) (f walk x (n - (i + 1)))) m now result new) place h))

pub goes_on : {S H : Type 0} (f : Turns S) (turn : Turn S) → TakesTurns H f turn → (c n k i : ℕ) (start now after : Tile S H) → i < n
    → IsLeft f c n k i start now → EndsTile (turn now.walk (c + 8 * i)) k now (Ok tt) after → IsLeft f c n k (i + 1) start after
goes_on f turn takes c n k i start now after more left h =
    let there : EndsTile (turn start.walk (c + 8 * i)) k now (Ok tt) after = moved (λ w. turn w (c + 8 * i)) k start now after (Ok tt) left.same h in
    let room = h.2 in
    let before = left.room in
    let sum : k * (i + 1) ≡ k * i + k = omega arith in record {
      same = same_on start now after left.same h.1;
      room = omega (arith, room, before, sum);
      ends = λ m result new rest.
          let count : k * i + (k + m) ≡ k * (i + 1) + m = omega (arith, sum) in
          subst (λ x. EndsTile (f start.walk c n) x start result new) count
          (left.ends (k + m) result new (next f turn takes start.walk c n i (k + m) now new result more
          (then_ends (turn start.walk (c + 8 * i)) (f start.walk (c + 8 * (i + 1)) (n - (i + 1))) k m now after new result there rest)));
    }

pub stops : {S H : Type 0} (f : Turns S) (turn : Turn S) → TakesTurns H f turn → (c n k i m : ℕ) (start now new : Tile S H) (e : H) → i < n
    → IsLeft f c n k i start now → EndsTile (turn now.walk (c + 8 * i)) k now (Err e) new → EndsTile (f start.walk c n) m start (Err e) new
stops f turn takes c n k i m start now new e more left h =
    let there : EndsTile (turn start.walk (c + 8 * i)) k now (Err e) new = moved (λ w. turn w (c + 8 * i)) k start now new (Err e) left.same h in
    (left.ends m (Err e) new (next f turn takes start.walk c n i m now new (Err e) more
    (then_breaks (turn start.walk (c + 8 * i)) (f start.walk (c + 8 * (i + 1)) (n - (i + 1))) k m now new e there)))

pub ends : {S H : Type 0} (f : Turns S) → EndsTurns H f → (c n k i m : ℕ) (start now : Tile S H) → n ≤ i → k * i ≤ m
    → IsLeft f c n k i start now → EndsTile (f start.walk c n) m start (Ok tt) now
ends f none c n k i m start now done most left =
    let no_more : 0 ≡ n - i = omega (arith, done) in
    let all : k * i + 0 ≤ m = omega (arith, most) in
    ends_more (f start.walk c n) (k * i + 0) m start now (Ok tt) all
    (left.ends 0 (Ok tt) now (subst (λ x. EndsTile (f start.walk (c + 8 * i) x) 0 now (Ok tt) now) no_more (none start.walk (c + 8 * i) 0 now)))

abbrev pub square_turn : {S : Type 0} → ℕ → Turn S
square_turn r walk c = decode_square walk 3 r c

abbrev pub row_turn : {S : Type 0} → ℕ → ℕ → Turn S
row_turn columns c walk r = row_rest r walk c columns

pub row_turns : {S H : Type 0} (r : ℕ) → TakesTurns {S = S} H (row_rest r) (square_turn r)
unfolding decode_row
row_turns r walk c n m t new result h = h

pub row_end : {S H : Type 0} (r : ℕ) → EndsTurns {S = S} H (row_rest r)
unfolding decode_row
row_end r walk c m t = ends_here (row_rest r walk c 0) m t (λ s. refl)

pub tile_turns : {S H : Type 0} (columns c : ℕ) → TakesTurns {S = S} H (tile_rest columns c) (row_turn columns c)
unfolding decode_rows
tile_turns columns c walk r n m t new result h = h

pub tile_end : {S H : Type 0} (columns c : ℕ) → EndsTurns {S = S} H (tile_rest columns c)
unfolding decode_rows
tile_end columns c walk r m t = ends_here (tile_rest columns c walk r 0) m t (λ s. refl)

-- the rows of a tile are its superblocks
pub tile_ends : {S H : Type 0} (t new : Tile S H) (first : SquareAt) (columns rows m : ℕ) (result : Result (Unit {0}) H)
    → first.col ≡ first.tile_from → first.tile_from ≡ t.walk.tile_from → first.tile_to ≡ t.walk.tile_to
    → EndsTile (tile_rest columns first.tile_from t.walk first.row rows) m t result new → EndsTile (decode_tile t.walk (superblocks_of first rows columns)) m t result new
tile_ends {S} t new first columns rows m result begin from to h =
    as_rest (tile_rest columns first.tile_from t.walk first.row rows) (decode_tile t.walk (superblocks_of first rows columns)) m t new result
    (λ s. sym ((λ i. decode_tile t.walk (superblocks_of (record { row = first.row; col = begin i; level = 3; tile_from = from i; tile_to = to i }) rows columns) s)
    ∙ tile_is t.walk columns first.row first.tile_from rows s)) h

-- the i-th superblock of a row
pub row_turn_of : {S H : Type 0} (now new : Tile S H) (first : SquareAt) (i : ℕ) (result : Result (Unit {0}) H) → first.level ≡ 3 → first.col ≡ first.tile_from
    → SquareEnds now.walk first.level first.row (first.col + 8 * i) now (4 ^ first.level) result new
    → EndsTile (square_turn first.row now.walk (first.tile_from + 8 * i)) 64 now result new
row_turn_of now new first i result level begin h =
    subst (λ (c : ℕ). SquareEnds now.walk 3 first.row (c + 8 * i) now (4 ^ 3) result new) begin
    (subst (λ (n : ℕ). SquareEnds now.walk n first.row (first.col + 8 * i) now (4 ^ n) result new) level h)

pub counted_to : (columns rows i : ℕ) → i ≤ rows → 64 * columns * i ≤ 64 * (columns * rows)
counted_to columns rows i most = let less = mul-le-mul_left columns most in omega (arith, less)
