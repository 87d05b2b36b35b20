-- How a square is read, by whether it starts inside the frame and by its partition.
use Rattle.std.proofs.Common.{◌≡◌, ◌∙◌, ℕ, zero, suc, ◌+◌, ◌-◌, ◌*◌, ◌/◌, ◌%◌, ◌^◌, ◌<◌, ◌≤◌, refl, sym, subst, ap, arith, true, false, rules}
use Rattle.std.specs.Prelude.{Result, Ok}
use Rattle.std.proofs.Math.Nat.{one-le-pow, pow-suc}
use Rattle.vp9_types.specs.Syntax.{Syntax}
use Rattle.vp9_types.specs.declared.block.BlockSize.{BlockSize}
use Rattle.vp9_types.specs.declared.block.Partition.{Partition}
use Rattle.vp9_types.specs.declared.block.Partition.TheVariants.{Whole, Horizontal, Vertical, Split}
use Rattle.vp9_types.specs.declared.rule.Rule.{Rule}
use Rattle.block_geometry.specs.SplitSquares.{part_size}
use Rattle.block_plan.specs.declared.block.BlockAt.{BlockAt}
use Rattle.counting_reader.specs.Counting.{Settled, settle}
use Rattle.counting_reader.specs.Code.{run_counting}
use Rattle.mode_syntax.specs.Partitions.{partition_at}
use Rattle.mode_syntax.specs.Laws.{square_at, decode_square, square_parts}
use Rattle.mode_syntax.specs.Superblocks.{quarter_square}
use Rattle.mode_syntax.specs.Walk.{TileWalk, block_at, starts_inside, block_inside, smallest_parts, parts, decode_at_level}
use Rattle.mode_syntax.specs.declared.square_at.SquareAt.{SquareAt}
use Rattle.mode_syntax.proofs.SquareParts.{rows_are, columns_are, quarters_are}
use Rattle.tile_reader.specs.Code.{Tile, SameTile, Rest, EndsTile, ReadsPartition, StandsIn, then_rest}
use Rattle.tile_reader.proofs.Endings.{as_rest, ends_here, symbol_rest, symbol_ends, then_ends, same_here}

inside : {S : Type 0} (walk : TileWalk S) (r c : ℕ) → r < walk.frame.rows → c < walk.frame.cols → starts_inside walk r c ≡ true
inside walk r c row col = search rules

pub below : {S : Type 0} (walk : TileWalk S) (r c : ℕ) → walk.frame.rows ≤ r → starts_inside walk r c ≡ false
below walk r c row = search rules

pub beside : {S : Type 0} (walk : TileWalk S) (r c : ℕ) → walk.frame.cols ≤ c → starts_inside walk r c ≡ false
beside walk r c col = search rules

-- the same of another tile further on
pub moved : {S H : Type 0} (f : TileWalk S → Rest S) (n : ℕ) (old mid new : Tile S H) (result : Result (Unit {0}) H) → SameTile old mid
    → EndsTile (f mid.walk) n mid result new → EndsTile (f old.walk) n mid result new
moved {S = S} f n old mid new result same h = subst (λ (w : TileWalk S). EndsTile (f w) n mid result new) same.walk h

---- A block that may start outside ----

block_is : {S : Type 0} (walk : TileWalk S) (at : BlockAt) → at.tile_from ≡ walk.tile_from → at.tile_to ≡ walk.tile_to → at ≡ block_at walk at.row at.col at.size
block_is walk at from to = λ i. record { row = at.row; col = at.col; size = at.size; tile_from = from i; tile_to = to i }

inside_is : {S : Type 0} (walk : TileWalk S) (r c : ℕ) (size : BlockSize) (s : S) → starts_inside walk r c ≡ true
    → walk.block (block_at walk r c size) s ≡ block_inside walk r c size s
unfolding block_inside
inside_is walk r c size s is = rw is refl

pub inside_ends : {S H : Type 0} (t new : Tile S H) (at : BlockAt) (n : ℕ) (result : Result (Unit {0}) H) → at.row < t.walk.frame.rows → at.col < t.walk.frame.cols → StandsIn t at
    → EndsTile (t.walk.block at) n t result new → EndsTile (block_inside t.walk at.row at.col at.size) n t result new
inside_ends t new at n result row col stands h =
    let is = inside t.walk at.row at.col row col in
    as_rest (t.walk.block (block_at t.walk at.row at.col at.size)) (block_inside t.walk at.row at.col at.size) n t new result
    (λ s. inside_is t.walk at.row at.col at.size s is)
    (subst (λ (b : BlockAt). EndsTile (t.walk.block b) n t result new) (block_is t.walk at stands.from stands.to) h)

outside_is : {S : Type 0} (walk : TileWalk S) (r c : ℕ) (size : BlockSize) (s : S) → starts_inside walk r c ≡ false → block_inside walk r c size s ≡ settle s
unfolding block_inside
outside_is walk r c size s none = rw none refl

pub inside_none : {S H : Type 0} (t : Tile S H) (r c : ℕ) (size : BlockSize) (n : ℕ) → starts_inside t.walk r c ≡ false → EndsTile (block_inside t.walk r c size) n t (Ok tt) t
inside_none t r c size n none = ends_here (block_inside t.walk r c size) n t (λ s. outside_is t.walk r c size s none)

pub halves_end : {S H : Type 0} (old mid new : Tile S H) (first : BlockAt) (r c : ℕ) (size : BlockSize) (result : Result (Unit {0}) H)
    → EndsTile (old.walk.block first) 1 old (Ok tt) mid → EndsTile (block_inside mid.walk r c size) 1 mid result new
    → EndsTile (then_rest (old.walk.block first) (block_inside old.walk r c size)) 2 old result new
halves_end old mid new first r c size result h k =
    then_ends (old.walk.block first) (block_inside old.walk r c size) 1 1 old mid new result h (moved (λ w. block_inside w r c size) 1 old mid new result h.1 k)

---- Squares that start outside ----

square_is_none : {S : Type 0} (walk : TileWalk S) (level r c : ℕ) (s : S) → starts_inside walk r c ≡ false → decode_square walk level r c s ≡ settle s
unfolding decode_at_level
square_is_none walk zero r c s none = rw none refl
square_is_none walk (suc k) r c s none = rw none refl

pub square_none : {S H : Type 0} (t : Tile S H) (level r c n : ℕ) → starts_inside t.walk r c ≡ false → EndsTile (decode_square t.walk level r c) n t (Ok tt) t
square_none t level r c n none = ends_here (decode_square t.walk level r c) n t (λ s. square_is_none t.walk level r c s none)

---- The parts of a square ----

abbrev part_at : SquareAt → ℕ → ℕ → BlockSize → BlockAt
part_at at r c size = record { row = r; col = c; size = size; tile_from = at.tile_from; tile_to = at.tile_to }

-- a square of a tile's columns
pub record IsOf {S H : Type 0} (t : Tile S H) (at : SquareAt) : Type 0 where
  pub from : at.tile_from ≡ t.walk.tile_from
  pub to : at.tile_to ≡ t.walk.tile_to

-- the parts of a square whose quarters have a level
abbrev pub parts_rest : {S : Type 0} → TileWalk S → ℕ → ℕ → ℕ → Partition → Rest S
parts_rest walk k r c partition = λ s. square_parts walk k r c s partition

part_is : {S H : Type 0} (t : Tile S H) (at : SquareAt) (r c : ℕ) (size sized : BlockSize) → IsOf t at → size ≡ sized → part_at at r c size ≡ block_at t.walk r c sized
part_is t at r c size sized of same = λ i. record { row = r; col = c; size = same i; tile_from = of.from i; tile_to = of.to i }

as_whole : {S H : Type 0} (t new : Tile S H) (k r c n : ℕ) (result : Result (Unit {0}) H)
    → EndsTile (t.walk.block (block_at t.walk r c (part_size Whole (suc k)))) n t result new → EndsTile (parts_rest t.walk k r c Whole) n t result new
unfolding parts
as_whole t new k r c n result h = h

pub whole_ends : {S H : Type 0} (t new : Tile S H) (at : SquareAt) (k : ℕ) (first : BlockAt) (size : BlockSize) (result : Result (Unit {0}) H) → IsOf t at → at.level ≡ suc k
    → size ≡ part_size Whole at.level → first ≡ part_at at at.row at.col size → EndsTile (t.walk.block first) 1 t result new
    → EndsTile (parts_rest t.walk k at.row at.col Whole) 1 t result new
whole_ends t new at k first size result of level sized is h =
    let place : first ≡ block_at t.walk at.row at.col (part_size Whole (suc k)) = is ∙ part_is t at at.row at.col size (part_size Whole (suc k)) of (sized ∙ ap (part_size Whole) level) in
    as_whole t new k at.row at.col 1 result (subst (λ (b : BlockAt). EndsTile (t.walk.block b) 1 t result new) place h)

abbrev HalvesEnd : {S H : Type 0} → Tile S H → BlockAt → ℕ → ℕ → BlockSize → Result (Unit {0}) H → Tile S H → Type 0
HalvesEnd t first r c size result new = EndsTile (then_rest (t.walk.block first) (block_inside t.walk r c size)) 2 t result new

as_rows : {S H : Type 0} (t new : Tile S H) (k r c : ℕ) (result : Result (Unit {0}) H)
    → HalvesEnd t (block_at t.walk r c (part_size Horizontal (suc k))) (r + 2 ^ k) c (part_size Horizontal (suc k)) result new → EndsTile (parts_rest t.walk k r c Horizontal) 2 t result new
as_rows t new k r c result h =
    let size = part_size Horizontal (suc k) in
    as_rest (then_rest (t.walk.block (block_at t.walk r c size)) (block_inside t.walk (r + 2 ^ k) c size)) (parts_rest t.walk k r c Horizontal) 2 t new result (λ s. sym (rows_are t.walk k r c s)) h

as_columns : {S H : Type 0} (t new : Tile S H) (k r c : ℕ) (result : Result (Unit {0}) H)
    → HalvesEnd t (block_at t.walk r c (part_size Vertical (suc k))) r (c + 2 ^ k) (part_size Vertical (suc k)) result new → EndsTile (parts_rest t.walk k r c Vertical) 2 t result new
as_columns t new k r c result h =
    let size = part_size Vertical (suc k) in
    as_rest (then_rest (t.walk.block (block_at t.walk r c size)) (block_inside t.walk r (c + 2 ^ k) size)) (parts_rest t.walk k r c Vertical) 2 t new result (λ s. sym (columns_are t.walk k r c s)) h

pub rows_end : {S H : Type 0} (t new : Tile S H) (at : SquareAt) (k half : ℕ) (first : BlockAt) (size : BlockSize) (result : Result (Unit {0}) H) → IsOf t at → at.level ≡ suc k → half ≡ 2 ^ k
    → size ≡ part_size Horizontal at.level → first ≡ part_at at at.row at.col size → HalvesEnd t first (at.row + half) at.col size result new
    → EndsTile (parts_rest t.walk k at.row at.col Horizontal) 2 t result new
rows_end t new at k half first size result of level side sized is h =
    let exact : size ≡ part_size Horizontal (suc k) = sized ∙ ap (part_size Horizontal) level in
    let place : first ≡ block_at t.walk at.row at.col (part_size Horizontal (suc k)) = is ∙ part_is t at at.row at.col size (part_size Horizontal (suc k)) of exact in
    as_rows t new k at.row at.col result (subst (λ (b : BlockAt). HalvesEnd t b (at.row + 2 ^ k) at.col (part_size Horizontal (suc k)) result new) place
    (subst (λ (z : BlockSize). HalvesEnd t first (at.row + 2 ^ k) at.col z result new) exact (subst (λ (n : ℕ). HalvesEnd t first (at.row + n) at.col size result new) side h)))

pub columns_end : {S H : Type 0} (t new : Tile S H) (at : SquareAt) (k half : ℕ) (first : BlockAt) (size : BlockSize) (result : Result (Unit {0}) H) → IsOf t at → at.level ≡ suc k → half ≡ 2 ^ k
    → size ≡ part_size Vertical at.level → first ≡ part_at at at.row at.col size → HalvesEnd t first at.row (at.col + half) size result new
    → EndsTile (parts_rest t.walk k at.row at.col Vertical) 2 t result new
columns_end t new at k half first size result of level side sized is h =
    let exact : size ≡ part_size Vertical (suc k) = sized ∙ ap (part_size Vertical) level in
    let place : first ≡ block_at t.walk at.row at.col (part_size Vertical (suc k)) = is ∙ part_is t at at.row at.col size (part_size Vertical (suc k)) of exact in
    as_columns t new k at.row at.col result (subst (λ (b : BlockAt). HalvesEnd t b at.row (at.col + 2 ^ k) (part_size Vertical (suc k)) result new) place
    (subst (λ (z : BlockSize). HalvesEnd t first at.row (at.col + 2 ^ k) z result new) exact (subst (λ (n : ℕ). HalvesEnd t first at.row (at.col + n) size result new) side h)))

---- Quarters ----

abbrev pub SquareEnds : {S H : Type 0} → TileWalk S → ℕ → ℕ → ℕ → Tile S H → ℕ → Result (Unit {0}) H → Tile S H → Type 0
SquareEnds walk level r c t n result new = EndsTile (decode_square walk level r c) n t result new

-- the i-th quarter of a square, at a row and column
pub quarter_ends : {S H : Type 0} (old mid new : Tile S H) (at q : SquareAt) (i r c : ℕ) (result : Result (Unit {0}) H) → SameTile old mid → q ≡ quarter_square at i
    → at.row + 2 ^ (at.level - 1) * (i / 2) ≡ r → at.col + 2 ^ (at.level - 1) * (i % 2) ≡ c
    → SquareEnds mid.walk q.level q.row q.col mid (4 ^ q.level) result new → SquareEnds old.walk (at.level - 1) r c mid (4 ^ (at.level - 1)) result new
quarter_ends old mid new at q i r c result same is row col h =
    moved (λ w. decode_square w (at.level - 1) r c) (4 ^ (at.level - 1)) old mid new result same
    (subst (λ (x : ℕ). SquareEnds mid.walk (at.level - 1) x c mid (4 ^ (at.level - 1)) result new) row
    (subst (λ (x : ℕ). SquareEnds mid.walk (at.level - 1) (at.row + 2 ^ (at.level - 1) * (i / 2)) x mid (4 ^ (at.level - 1)) result new) col
    (subst (λ (s : SquareAt). SquareEnds mid.walk s.level s.row s.col mid (4 ^ s.level) result new) is h)))

near : (n r : ℕ) → r + 2 ^ n * 0 ≡ r
near n r = omega arith

far : (n r : ℕ) → r + 2 ^ n * 1 ≡ r + 2 ^ n
far n r = omega arith

pub first_quarter : {S H : Type 0} (old new : Tile S H) (at q : SquareAt) (result : Result (Unit {0}) H) → q ≡ quarter_square at 0
    → SquareEnds old.walk q.level q.row q.col old (4 ^ q.level) result new → SquareEnds old.walk (at.level - 1) at.row at.col old (4 ^ (at.level - 1)) result new
first_quarter old new at q result is h = quarter_ends old old new at q 0 at.row at.col result (same_here old) is (near (at.level - 1) at.row) (near (at.level - 1) at.col) h

pub second_quarter : {S H : Type 0} (old mid new : Tile S H) (at q : SquareAt) (result : Result (Unit {0}) H) → SameTile old mid → q ≡ quarter_square at 1
    → SquareEnds mid.walk q.level q.row q.col mid (4 ^ q.level) result new → SquareEnds old.walk (at.level - 1) at.row (at.col + 2 ^ (at.level - 1)) mid (4 ^ (at.level - 1)) result new
second_quarter old mid new at q result same is h =
    quarter_ends old mid new at q 1 at.row (at.col + 2 ^ (at.level - 1)) result same is (near (at.level - 1) at.row) (far (at.level - 1) at.col) h

pub third_quarter : {S H : Type 0} (old mid new : Tile S H) (at q : SquareAt) (result : Result (Unit {0}) H) → SameTile old mid → q ≡ quarter_square at 2
    → SquareEnds mid.walk q.level q.row q.col mid (4 ^ q.level) result new → SquareEnds old.walk (at.level - 1) (at.row + 2 ^ (at.level - 1)) at.col mid (4 ^ (at.level - 1)) result new
third_quarter old mid new at q result same is h =
    quarter_ends old mid new at q 2 (at.row + 2 ^ (at.level - 1)) at.col result same is (far (at.level - 1) at.row) (near (at.level - 1) at.col) h

pub fourth_quarter : {S H : Type 0} (old mid new : Tile S H) (at q : SquareAt) (result : Result (Unit {0}) H) → SameTile old mid → q ≡ quarter_square at 3
    → SquareEnds mid.walk q.level q.row q.col mid (4 ^ q.level) result new → SquareEnds old.walk (at.level - 1) (at.row + 2 ^ (at.level - 1)) (at.col + 2 ^ (at.level - 1)) mid (4 ^ (at.level - 1)) result new
fourth_quarter old mid new at q result same is h =
    quarter_ends old mid new at q 3 (at.row + 2 ^ (at.level - 1)) (at.col + 2 ^ (at.level - 1)) result same is (far (at.level - 1) at.row) (far (at.level - 1) at.col) h

abbrev pub one_quarter : {S H : Type 0} → Tile S H → SquareAt → ℕ → ℕ → Rest S
one_quarter t at r c = decode_square t.walk (at.level - 1) r c

abbrev pub from_fourth : {S H : Type 0} → Tile S H → SquareAt → Rest S
from_fourth t at = one_quarter t at (at.row + 2 ^ (at.level - 1)) (at.col + 2 ^ (at.level - 1))

abbrev pub from_third : {S H : Type 0} → Tile S H → SquareAt → Rest S
from_third t at = then_rest (one_quarter t at (at.row + 2 ^ (at.level - 1)) at.col) (from_fourth t at)

abbrev pub from_second : {S H : Type 0} → Tile S H → SquareAt → Rest S
from_second t at = then_rest (one_quarter t at at.row (at.col + 2 ^ (at.level - 1))) (from_third t at)

abbrev pub from_first : {S H : Type 0} → Tile S H → SquareAt → Rest S
from_first t at = then_rest (one_quarter t at at.row at.col) (from_second t at)

-- all four are the parts of a square that is split
pub split_ends : {S H : Type 0} (t new : Tile S H) (at : SquareAt) (n : ℕ) (result : Result (Unit {0}) H) → EndsTile (from_first t at) n t result new
    → EndsTile (parts_rest t.walk (at.level - 1) at.row at.col Split) n t result new
split_ends t new at n result h =
    as_rest (from_first t at) (parts_rest t.walk (at.level - 1) at.row at.col Split) n t new result (λ s. sym (quarters_are t.walk (at.level - 1) at.row at.col s)) h

---- A square that starts inside the frame ----

square_is : {S H : Type 0} (t : Tile S H) (at : SquareAt) → IsOf t at → at ≡ square_at t.walk at.level at.row at.col
square_is t at of = λ i. record { row = at.row; col = at.col; level = at.level; tile_from = of.from i; tile_to = of.to i }

abbrev asked : {S : Type 0} → TileWalk S → SquareAt → S → Syntax ℕ Rule (Settled Partition)
asked walk at s = partition_at walk.intra walk.probs (walk.blocks s) walk.frame at

-- its partition, and what stands behind it
abbrev opened_rest : {S H : Type 0} → Tile S H → ℕ → ℕ → ℕ → (Partition → Rest S) → Rest S
opened_rest t level r c f = symbol_rest (asked t.walk (square_at t.walk level r c)) f

opened_ends : {S H : Type 0} (old mid new : Tile S H) (at : SquareAt) (p : Partition) (f : Partition → Rest S) (n : ℕ) (result : Result (Unit {0}) H)
    → IsOf old at → ReadsPartition at old mid p → EndsTile (f p) n mid result new → EndsTile (opened_rest old at.level at.row at.col f) n old result new
opened_ends old mid new at p f n result of opened h =
    symbol_ends old mid new (asked old.walk (square_at old.walk at.level at.row at.col)) p f n result
    (subst (λ (q : SquareAt). run_counting (asked old.walk q old.state) old.standing ≡ Ok (p, mid.standing)) (square_is old at of) opened.read) opened.state opened.room opened.same h

-- a square of 8x8
smallest_by : {S H : Type 0} (t new : Tile S H) (level r c n : ℕ) (result : Result (Unit {0}) H) → level ≡ 0 → starts_inside t.walk r c ≡ true
    → EndsTile (opened_rest t 0 r c (λ p. t.walk.block (block_at t.walk r c (part_size p 0)))) n t result new → SquareEnds t.walk level r c t n result new
unfolding decode_at_level smallest_parts
smallest_by t new zero r c n result least is h =
    as_rest (opened_rest t 0 r c (λ p. t.walk.block (block_at t.walk r c (part_size p 0)))) (decode_square t.walk 0 r c) n t new result (λ s. rw is refl) h
smallest_by t new (suc k) r c n result least is h = absurd (omega (arith, least))

pub smallest_ends : {S H : Type 0} (old mid new : Tile S H) (at : SquareAt) (p : Partition) (first : BlockAt) (size : BlockSize) (result : Result (Unit {0}) H) → at.level ≡ 0
    → at.row < old.walk.frame.rows → at.col < old.walk.frame.cols → IsOf old at → ReadsPartition at old mid p
    → size ≡ part_size p 0 → first ≡ part_at at at.row at.col size → EndsTile (mid.walk.block first) 1 mid result new
    → SquareEnds old.walk at.level at.row at.col old (4 ^ at.level) result new
smallest_ends old mid new at p first size result low row col of opened sized is h =
    let place : first ≡ block_at old.walk at.row at.col (part_size p 0) = is ∙ part_is old at at.row at.col size (part_size p 0) of sized in
    let one : 1 ≡ 4 ^ at.level = rw low refl in
    let f : Partition → Rest _ = λ p. old.walk.block (block_at old.walk at.row at.col (part_size p 0)) in
    let there : EndsTile (f p) 1 mid result new = subst (λ (b : BlockAt). EndsTile (old.walk.block b) 1 mid result new) place
    (moved (λ w. w.block first) 1 old mid new result opened.same h) in
    subst (λ (n : ℕ). SquareEnds old.walk at.level at.row at.col old n result new) one
    (smallest_by old new at.level at.row at.col 1 result low (inside old.walk at.row at.col row col)
    (subst (λ (n : ℕ). EndsTile (opened_rest old n at.row at.col f) 1 old result new) low (opened_ends old mid new at p f 1 result of opened there)))

-- a larger one
larger_by : {S H : Type 0} (t new : Tile S H) (level k r c n : ℕ) (result : Result (Unit {0}) H) → level ≡ suc k → starts_inside t.walk r c ≡ true
    → EndsTile (opened_rest t (suc k) r c (parts_rest t.walk k r c)) n t result new → SquareEnds t.walk level r c t n result new
unfolding decode_at_level
larger_by t new zero k r c n result next is h = absurd (omega (arith, next))
larger_by t new (suc j) k r c n result next is h =
    let down : k ≡ j = omega (arith, next) in
    subst (λ (m : ℕ). SquareEnds t.walk (suc m) r c t n result new) down
    (as_rest (opened_rest t (suc k) r c (parts_rest t.walk k r c)) (decode_square t.walk (suc k) r c) n t new result (λ s. rw is refl) h)

pub larger_ends : {S H : Type 0} (old mid new : Tile S H) (at : SquareAt) (p : Partition) (n : ℕ) (result : Result (Unit {0}) H) → 1 ≤ at.level
    → at.row < old.walk.frame.rows → at.col < old.walk.frame.cols → IsOf old at → ReadsPartition at old mid p
    → EndsTile (parts_rest mid.walk (at.level - 1) at.row at.col p) n mid result new → SquareEnds old.walk at.level at.row at.col old n result new
larger_ends old mid new at p n result some row col of opened h =
    let next : at.level ≡ suc (at.level - 1) = omega (arith, some) in
    let f : Partition → Rest _ = parts_rest old.walk (at.level - 1) at.row at.col in
    larger_by old new at.level (at.level - 1) at.row at.col n result next (inside old.walk at.row at.col row col)
    (subst (λ (m : ℕ). EndsTile (opened_rest old m at.row at.col f) n old result new) next
    (opened_ends old mid new at p f n result of opened (moved (λ w. parts_rest w (at.level - 1) at.row at.col p) n old mid new result opened.same h)))

---- Room ----

quarters_of : (n : ℕ) → 1 ≤ n → 4 ^ n ≡ 4 * 4 ^ (n - 1)
quarters_of zero some = absurd (omega arith)
quarters_of (suc n) some = let same : suc n - 1 ≡ n = omega arith in rw same (omega (arith, pow-suc 4 n))

pub enough : (n : ℕ) → 1 ≤ 4 ^ n
enough n = one-le-pow n 4 (omega arith)

pub four_quarters : (n : ℕ) → 1 ≤ n → 2 ≤ 4 ^ n
four_quarters n some = let all = quarters_of n some in let one = enough (n - 1) in omega arith

pub all_quarters : (n : ℕ) → 1 ≤ n → 4 ^ (n - 1) + (4 ^ (n - 1) + (4 ^ (n - 1) + 4 ^ (n - 1))) ≤ 4 ^ n
all_quarters n some = let all = quarters_of n some in omega arith
