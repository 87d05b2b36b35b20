-- The blocks of a row of superblocks, one after another.
use Rattle.std.proofs.Common.{◌≡◌, ◌∙◌, ◌++◌, ◌∷◌, [], ℕ, ℤ, zero, suc, ◌+◌, ◌-◌, ◌<◌, ◌≤◌, List, length, take, get_or, refl, sym, ap, subst, arith}
use Rattle.std.specs.Prelude.{drop, slice_range}
use Rattle.std.specs.List.{All, fold}
use Rattle.std.proofs.Math.Seq.{take-add}
use Rattle.std.proofs.lemmas.List.{drop-drop, get_or-drop, get_or-take, length-drop, length-take, take-append-drop, take_more}
use Rattle.std.proofs.lemmas.List.Sums.{fold-append}
use Rattle.vp9_types.specs.Maps.{FrameMap}
use Rattle.vp9_types.specs.declared.shape.Shape.{Shape}
use Rattle.block_plan.specs.Planned.{PlannedBlock}
use Rattle.block_plan.specs.declared.block.BlockInfo.{BlockInfo}
use Rattle.block_plan.specs.Code.{HoldsSmall}
use Rattle.block_rebuild.specs.RebuiltBlocks.{put_planned}
use Rattle.block_rebuild.specs.InterBlocks.{Rebuilding}
use Rattle.block_rebuild.specs.Strips.{with_blocks}
use Rattle.column_plan.specs.PlannedBlocks.{count_of, planned_blocks, planned_from, total}
use Rattle.column_plan.specs.Code.{HoldsWhole}
use Rattle.column_plan.proofs.Held.{parts_are}
use Rattle.frame_headers.specs.HeaderState.{shape_of}
use Rattle.frame_headers.specs.declared.header.Header.{Header}
use Rattle.tile_syntax.specs.Code.{IsKept}
use Rattle.tile_syntax.specs.declared.plans.ColumnPlan.{ColumnPlan}
use Rattle.recon_rows.specs.RebuiltRows.{blocks_between, planned_between}
use Rattle.column_plan.proofs.RowStarts.{before_few, fewer_before, first_taken, row_between, rows_lie}
use Rattle.column_plan.specs.PlanRows.{AreInOrder, before_row, place_of_row, planned_in_row}
use Rattle.column_plan.specs.declared.rows.RowPlace.{RowPlace}

---- One of a column's blocks ----

length_planned : (shape : Shape) (tile_from : ℕ) (blocks : List BlockInfo) (pieces : List (List ℤ)) → length (planned_blocks shape tile_from blocks pieces) ≡ length blocks
unfolding planned_blocks
length_planned shape tile_from [] pieces = refl
length_planned shape tile_from (b ∷ blocks) pieces = ap (λ n. suc n) (length_planned shape tile_from blocks (drop (count_of shape b) pieces))

-- the k-th planned block begins with the piece behind those of the blocks before it
kth_planned : (shape : Shape) (tile_from : ℕ) (blocks : List BlockInfo) (pieces : List (List ℤ)) (k : ℕ) (e : BlockInfo) (d : PlannedBlock) → k < length blocks
    → get_or (planned_blocks shape tile_from blocks pieces) k d ≡ planned_from shape tile_from (get_or blocks k e) (drop (total shape (take k blocks)) pieces)
unfolding planned_blocks
kth_planned shape tile_from [] pieces k e d low = absurd (omega (arith, low))
kth_planned shape tile_from (b ∷ blocks) pieces zero e d low = refl
kth_planned shape tile_from (b ∷ blocks) pieces (suc k) e d low =
    kth_planned shape tile_from blocks (drop (count_of shape b) pieces) k e d (omega (arith, low))
    ∙ ap (planned_from shape tile_from (get_or blocks k e)) (drop-drop (total shape (take k blocks)) (count_of shape b) pieces)

-- what holds of all planned blocks holds of the k-th
pub this_planned : (P : PlannedBlock → Type 0) (shape : Shape) (tile_from : ℕ) (blocks : List BlockInfo) (pieces : List (List ℤ)) (k piece : ℕ) (b : BlockInfo) → All P (planned_blocks shape tile_from blocks pieces)
    → k < length blocks → b ≡ get_or blocks k b → piece ≡ total shape (take k blocks) → P (planned_from shape tile_from b (drop piece pieces))
this_planned P shape tile_from blocks pieces k piece b all low is at =
    let d = planned_from shape tile_from b pieces in
    let same : get_or (planned_blocks shape tile_from blocks pieces) k d ≡ planned_from shape tile_from b (drop piece pieces) =
    kth_planned shape tile_from blocks pieces k b d low ∙ (λ i. planned_from shape tile_from (sym is i) (drop (sym at i) pieces)) in
    subst P same (all k d (rw (length_planned shape tile_from blocks pieces) low))

---- How many transform blocks ----

pub total_append : (shape : Shape) (xs ys : List BlockInfo) → total shape (xs ++ ys) ≡ total shape xs + total shape ys
total_append shape [] ys = nothing (total shape ys)
  where
    nothing : (n : ℕ) → n ≡ 0 + n
    nothing n = omega arith
total_append shape (x ∷ xs) ys = ap (λ n. count_of shape x + n) (total_append shape xs ys) ∙ sum (count_of shape x) (total shape xs) (total shape ys)
  where
    sum : (a b c : ℕ) → a + (b + c) ≡ a + b + c
    sum a b c = omega arith

total_one : (shape : Shape) (b : BlockInfo) → total shape (b ∷ []) ≡ count_of shape b
total_one shape b = last (count_of shape b)
  where
    last : (n : ℕ) → n + 0 ≡ n
    last n = omega arith

-- counted on by a block
pub counted_on : (shape : Shape) (blocks : List BlockInfo) (k piece next : ℕ) (b : BlockInfo) → k < length blocks → b ≡ get_or blocks k b → piece ≡ total shape (take k blocks)
    → next ≡ piece + count_of shape b → next ≡ total shape (take (k + 1) blocks)
counted_on shape blocks k piece next b low is at so =
    so ∙ (λ i. at i + sym (total_one shape b) i) ∙ (sym (total_append shape (take k blocks) (b ∷ [])) ∙ ap (total shape) (ap (λ (x : BlockInfo). take k blocks ++ x ∷ []) is ∙ sym (take_more blocks k b low)))

-- no more than there are
pub pieces_left : (shape : Shape) (blocks : List BlockInfo) (n k piece : ℕ) (b : BlockInfo) → total shape blocks ≡ n → k < length blocks → b ≡ get_or blocks k b → piece ≡ total shape (take k blocks)
    → piece + count_of shape b ≤ n
pieces_left shape blocks n k piece b all low is at =
    let next = counted_on shape blocks k piece (piece + count_of shape b) b low is at refl in
    let parts = ap (total shape) (take-append-drop (k + 1) blocks) in
    let sum = total_append shape (take (k + 1) blocks) (drop (k + 1) blocks) in
    omega (arith, next, parts, sum, all)

---- One block more ----

range_more : (blocks : List BlockInfo) (a k : ℕ) (b : BlockInfo) → a ≤ k → k < length blocks → b ≡ get_or blocks k b → slice_range blocks a (k + 1) ≡ slice_range blocks a k ++ b ∷ []
range_more blocks a k b least low is =
    let step : k + 1 - a ≡ k - a + 1 = omega (arith, least) in
    let left : k - a < length (drop a blocks) = rw (length-drop a blocks) (omega (arith, least, low)) in
    let at : a + (k - a) ≡ k = omega (arith, least) in
    ap (λ n. take n (drop a blocks)) step ∙ (take_more (drop a blocks) (k - a) b left
    ∙ ap (λ (x : BlockInfo). take (k - a) (drop a blocks) ++ x ∷ []) (get_or-drop a blocks (k - a) b ∙ (ap (λ n. get_or blocks n b) at ∙ sym is)))

-- the pieces of a row so far are those before the next block's first one
range_total : (shape : Shape) (blocks : List BlockInfo) (a k : ℕ) → a ≤ k → total shape (take a blocks) + total shape (slice_range blocks a k) ≡ total shape (take k blocks)
range_total shape blocks a k least =
    let at : a + (k - a) ≡ k = omega (arith, least) in
    sym (total_append shape (take a blocks) (take (k - a) (drop a blocks))) ∙ ap (total shape) (sym (take-add a (k - a) blocks) ∙ ap (λ n. take n blocks) at)

-- none yet
pub none_put : (by : Rebuilding) (shape : Shape) (tile_from : ℕ) (blocks : List BlockInfo) (pieces : List (List ℤ)) (a : ℕ) (m : FrameMap) → m ≡ with_blocks by m (planned_blocks shape tile_from (slice_range blocks a a) pieces)
unfolding with_blocks planned_blocks
none_put by shape tile_from blocks pieces a m = let none : a - a ≡ 0 = omega arith in rw none refl

-- one block more is put
pub one_put : (by : Rebuilding) (shape : Shape) (tile_from : ℕ) (blocks : List BlockInfo) (pieces : List (List ℤ)) (a first k piece : ℕ) (b : BlockInfo) (start m new : FrameMap) → a ≤ k → k < length blocks
    → b ≡ get_or blocks k b → first ≡ total shape (take a blocks) → piece ≡ total shape (take k blocks)
    → m ≡ with_blocks by start (planned_blocks shape tile_from (slice_range blocks a k) (drop first pieces)) → new ≡ put_planned by (planned_from shape tile_from b (drop piece pieces)) m
    → new ≡ with_blocks by start (planned_blocks shape tile_from (slice_range blocks a (k + 1)) (drop first pieces))
unfolding with_blocks planned_blocks
one_put by shape tile_from blocks pieces a first k piece b start m new least low is from at so put =
    let row = slice_range blocks a k in
    let here : drop (total shape row) (drop first pieces) ≡ drop piece pieces =
    drop-drop (total shape row) first pieces ∙ ap (λ n. drop n pieces) (ap (λ n. n + total shape row) from ∙ (range_total shape blocks a k least ∙ sym at)) in
    let list : planned_blocks shape tile_from (slice_range blocks a (k + 1)) (drop first pieces) ≡ planned_blocks shape tile_from row (drop first pieces) ++ planned_from shape tile_from b (drop piece pieces) ∷ [] =
    ap (λ (bs : List BlockInfo). planned_blocks shape tile_from bs (drop first pieces)) (range_more blocks a k b least low is)
    ∙ (parts_are shape tile_from row (b ∷ []) (drop first pieces) ∙ ap (λ ps. planned_blocks shape tile_from row (drop first pieces) ++ planned_from shape tile_from b ps ∷ []) here) in
    put
    ∙ (ap (put_planned by (planned_from shape tile_from b (drop piece pieces))) so
    ∙ (sym (fold-append (λ z c. put_planned by c z) start (planned_blocks shape tile_from row (drop first pieces)) (planned_from shape tile_from b (drop piece pieces) ∷ []))
    ∙ ap (fold (λ z c. put_planned by c z) start) (sym list)))

---- The row's places ----

pub first_piece : (shape : Shape) (row : ℕ) (blocks : List BlockInfo) (p : RowPlace) → p ≡ place_of_row shape row blocks → p.piece ≡ total shape (take p.block blocks)
first_piece shape row blocks p is = rw is (ap (total shape) (sym (first_taken row blocks)))

-- a block between two rows' places is one of the column's, and of the row's
pub in_column : (shape : Shape) (row k : ℕ) (blocks : List BlockInfo) (next : RowPlace) → next ≡ place_of_row shape row blocks → k < next.block → k < length blocks
in_column shape row k blocks next is low =
    let few = before_few row blocks in
    let at : next.block ≡ length (before_row row blocks) = ap (λ (p : RowPlace). p.block) is in
    omega (arith, few, at, low)

pub this_in_row : (P : BlockInfo → Type 0) (blocks : List BlockInfo) (a e k : ℕ) (b : BlockInfo) → All P (slice_range blocks a e) → a ≤ k → k < e → k < length blocks → b ≡ get_or blocks k b → P b
this_in_row P blocks a e k b all least before low is =
    let left : k - a < e - a = omega (arith, least, before) in
    let there : k - a < length (drop a blocks) = rw (length-drop a blocks) (omega (arith, least, low)) in
    let at : a + (k - a) ≡ k = omega (arith, least) in
    let long : k - a < length (slice_range blocks a e) = rw (length-take (e - a) (drop a blocks)) (omega (arith, left, there)) in
    let same : get_or (slice_range blocks a e) (k - a) b ≡ b = get_or-take (e - a) (drop a blocks) (k - a) b left ∙ (get_or-drop a blocks (k - a) b ∙ (ap (λ n. get_or blocks n b) at ∙ sym is)) in
    subst P same (all (k - a) b long)

---- As the code has it ----

-- a block behind a slice is the one that is found there
at_index : (blocks : List BlockInfo) (k : ℕ) (d : BlockInfo) → k < length blocks → get_or blocks k d ≡ get_or blocks k (get_or blocks k d)
at_index [] k d low = absurd (omega (arith, low))
at_index (b ∷ blocks) zero d low = refl
at_index (b ∷ blocks) (suc k) d low = other blocks k d (get_or blocks k d) (omega (arith, low))
  where
    other : (blocks : List BlockInfo) (k : ℕ) (d e : BlockInfo) → k < length blocks → get_or blocks k d ≡ get_or blocks k e
    other [] k d e low = absurd (omega (arith, low))
    other (b ∷ blocks) zero d e low = refl
    other (b ∷ blocks) (suc k) d e low = other blocks k d e (omega (arith, low))

-- what a plan keeps, for its frame's shape and its column's blocks
pub record IsRowsPlan (shape : Shape) (tile_from : ℕ) (blocks : List BlockInfo) (pieces : List (List ℤ)) : Type 0 where
  pub all : total shape blocks ≡ length pieces
  pub small : All HoldsSmall (planned_blocks shape tile_from blocks pieces)
  pub whole : All (HoldsWhole shape) (planned_blocks shape tile_from blocks pieces)

pub plan_kept : (header : Header) (shape : Shape) (plan : ColumnPlan) (tile_from : ℕ) (blocks : List BlockInfo) → shape_of header ≡ shape → tile_from ≡ plan.column.grid.from → blocks ≡ plan.column.grid.blocks
    → IsKept header plan → IsRowsPlan shape tile_from blocks plan.residues
plan_kept header shape plan tile_from blocks same from is kept = record {
  all = (λ i. total (sym same i) (is i)) ∙ kept.all;
  small = subst (λ (x : List PlannedBlock). All HoldsSmall x) (λ i. planned_blocks (same i) (sym from i) (sym is i) plan.residues) kept.small;
  whole = subst (λ (x : List PlannedBlock). All (HoldsWhole shape) x) (λ i. planned_blocks shape (sym from i) (sym is i) plan.residues)
      (subst (λ (s : Shape). All (HoldsWhole s) (planned_blocks s plan.column.grid.from plan.column.grid.blocks plan.residues)) same kept.whole);
}

pub room_at : (shape : Shape) (tile_from : ℕ) (blocks : List BlockInfo) (pieces : List (List ℤ)) (k piece : ℕ) (d : BlockInfo) → IsRowsPlan shape tile_from blocks pieces → k < length blocks
    → piece ≡ total shape (take k blocks) → piece + count_of shape (get_or blocks k d) ≤ length pieces
room_at shape tile_from blocks pieces k piece d kept low at = pieces_left shape blocks (length pieces) k piece (get_or blocks k d) kept.all low (at_index blocks k d low) at

pub room_there : (shape : Shape) (tile_from : ℕ) (blocks : List BlockInfo) (pieces held : List (List ℤ)) (k piece y : ℕ) (d : BlockInfo) → IsRowsPlan shape tile_from blocks pieces → k < length blocks
    → piece ≡ total shape (take k blocks) → y ≡ piece → held ≡ pieces → y + count_of shape (get_or blocks k d) ≤ length held
room_there shape tile_from blocks pieces held k piece y d kept low at first same = rw same (room_at shape tile_from blocks pieces k y d kept low (first ∙ at))

pub planned_at : (P : PlannedBlock → Type 0) (shape : Shape) (tile_from : ℕ) (blocks : List BlockInfo) (pieces held : List (List ℤ)) (k piece y : ℕ) (d : BlockInfo)
    → All P (planned_blocks shape tile_from blocks pieces) → k < length blocks → piece ≡ total shape (take k blocks) → y ≡ piece → held ≡ pieces
    → P (planned_from shape tile_from (get_or blocks k d) (drop y held))
planned_at P shape tile_from blocks pieces held k piece y d all low at first same =
    subst (λ (l : List (List ℤ)). P (planned_from shape tile_from (get_or blocks k d) (drop y l))) (sym same)
    (this_planned P shape tile_from blocks pieces k y (get_or blocks k d) all low (at_index blocks k d low) (first ∙ at))

row_is : (shape : Shape) (row : ℕ) (blocks listed : List BlockInfo) (first next : RowPlace) → blocks ≡ listed → first ≡ place_of_row shape row blocks → next ≡ place_of_row shape (row + 1) blocks
    → slice_range blocks first.block next.block ≡ blocks_between shape row listed
row_is shape row blocks listed first next is from to = (λ i. slice_range blocks (from i).block (to i).block) ∙ (λ i. blocks_between shape row (is i))

pub provided_at : (P : BlockInfo → Type 0) (shape : Shape) (row k : ℕ) (blocks listed : List BlockInfo) (first next : RowPlace) (d : BlockInfo) → blocks ≡ listed → first ≡ place_of_row shape row blocks
    → next ≡ place_of_row shape (row + 1) blocks → All P (blocks_between shape row listed) → first.block ≤ k → k < next.block → P (get_or blocks k d)
provided_at P shape row k blocks listed first next d is from to all least before =
    let low = in_column shape (row + 1) k blocks next to before in
    this_in_row P blocks first.block next.block k (get_or blocks k d) (subst (λ (bs : List BlockInfo). All P bs) (sym (row_is shape row blocks listed first next is from to)) all) least before low (at_index blocks k d low)

pub end_at : (shape : Shape) (blocks : List BlockInfo) (k piece next : ℕ) (d : BlockInfo) → k < length blocks → piece ≡ total shape (take k blocks) → next ≡ piece + count_of shape (get_or blocks k d)
    → next ≡ total shape (take (k + 1) blocks)
end_at shape blocks k piece next d low at so = counted_on shape blocks k piece next (get_or blocks k d) low (at_index blocks k d low) at so

pub put_at : (by : Rebuilding) (shape : Shape) (tile_from : ℕ) (blocks : List BlockInfo) (pieces held : List (List ℤ)) (a first k piece y : ℕ) (d : BlockInfo) (start m new : FrameMap) → a ≤ k → k < length blocks
    → first ≡ total shape (take a blocks) → piece ≡ total shape (take k blocks) → y ≡ piece → held ≡ pieces
    → m ≡ with_blocks by start (planned_blocks shape tile_from (slice_range blocks a k) (drop first pieces)) → new ≡ put_planned by (planned_from shape tile_from (get_or blocks k d) (drop y held)) m
    → new ≡ with_blocks by start (planned_blocks shape tile_from (slice_range blocks a (k + 1)) (drop first pieces))
put_at by shape tile_from blocks pieces held a first k piece y d start m new least low from at here same so put =
    one_put by shape tile_from blocks pieces a first k y (get_or blocks k d) start m new least low (at_index blocks k d low) from (here ∙ at) so
    (put ∙ ap (λ (l : List (List ℤ)). put_planned by (planned_from shape tile_from (get_or blocks k d) (drop y l)) m) same)

-- no row's place lies behind the next one's
pub places_rise : (shape : Shape) (row : ℕ) (blocks : List BlockInfo) (first next : RowPlace) → first ≡ place_of_row shape row blocks → next ≡ place_of_row shape (row + 1) blocks → first.block ≤ next.block
places_rise shape row blocks first next from to =
    let a : first.block ≡ length (before_row row blocks) = ap (λ (p : RowPlace). p.block) from in
    let e : next.block ≡ length (before_row (row + 1) blocks) = ap (λ (p : RowPlace). p.block) to in
    let rise = fewer_before row blocks in
    omega (arith, a, e, rise)

-- all are put
pub all_put : (by : Rebuilding) (shape : Shape) (tile_from row k : ℕ) (blocks listed : List BlockInfo) (pieces : List (List ℤ)) (first next : RowPlace) (start m : FrameMap) → blocks ≡ listed
    → first ≡ place_of_row shape row blocks → next ≡ place_of_row shape (row + 1) blocks → k ≤ next.block → next.block ≤ k
    → m ≡ with_blocks by start (planned_blocks shape tile_from (slice_range blocks first.block k) (drop first.piece pieces)) → m ≡ with_blocks by start (planned_between shape tile_from row listed pieces)
all_put by shape tile_from row k blocks listed pieces first next start m is from to most least so =
    let last : k ≡ next.block = omega (arith, most, least) in
    let place : first ≡ place_of_row shape row listed = from ∙ (λ i. place_of_row shape row (is i)) in
    so ∙ ((λ i. with_blocks by start (planned_blocks shape tile_from (slice_range blocks first.block (last i)) (drop first.piece pieces)))
    ∙ (λ i. with_blocks by start (planned_blocks shape tile_from (row_is shape row blocks listed first next is from to i) (drop (place i).piece pieces))))

-- the blocks between are the row's
pub row_planned : (shape : Shape) (tile_from row : ℕ) (blocks : List BlockInfo) (pieces : List (List ℤ)) → AreInOrder blocks
    → planned_between shape tile_from row blocks pieces ≡ planned_in_row row (planned_blocks shape tile_from blocks pieces)
row_planned shape tile_from row blocks pieces order =
    (λ i. planned_blocks shape tile_from (row_between shape row blocks order i) (drop (place_of_row shape row blocks).piece pieces)) ∙ sym (rows_lie shape tile_from row blocks pieces order).1
