-- Where the rows of superblocks of a tile column begin in its plan.
use Rattle.std.proofs.Common.{◌≡◌, ◌∙◌, ◌++◌, ◌∷◌, [], ℕ, ℤ, zero, suc, ◌+◌, ◌-◌, ◌<◌, ◌≤◌, true, false, List, length, replicate, get_or, inl, inr, refl, sym, ap, arith, append_assoc}
use Rattle.std.specs.Prelude.{All, drop, take, nat_eq, nat_lt, slice_range, if◌then◌else◌}
use Rattle.std.proofs.Math.Seq.{get_or-append_right}
use Rattle.std.proofs.Math.ListN.{get_or-append}
use Rattle.std.proofs.lemmas.Bool.{cases_lt, cases_eq, eq-eqb, le-ltb, lt-ltb, ne_eqb}
use Rattle.std.proofs.lemmas.List.{drop-drop, drop-take, get_or-replicate, length-append, length-replicate, replicate-append-replicate}
use Rattle.std.proofs.lemmas.List.Elements.{All-push}
use Rattle.vp9_types.specs.declared.shape.Shape.{Shape}
use Rattle.block_plan.specs.declared.block.BlockInfo.{BlockInfo}
use Rattle.column_plan.specs.Code.{AreRowPlaces}
use Rattle.column_plan.specs.PlannedBlocks.{count_of, planned_blocks, planned_from, total}
use Rattle.column_plan.specs.PlanRows.{AreInOrder, before_row, in_row, place_of_row, planned_in_row, row_of}
use Rattle.column_plan.specs.declared.rows.RowPlace.{RowPlace}

---- The blocks before a row ----

stops : (r : ℕ) (b : BlockInfo) (blocks : List BlockInfo) → r ≤ row_of b → before_row r (b ∷ blocks) ≡ []
unfolding before_row
stops r b blocks low = rw (le-ltb (row_of b) r low) refl

goes : (r : ℕ) (b : BlockInfo) (blocks : List BlockInfo) → row_of b < r → before_row r (b ∷ blocks) ≡ b ∷ before_row r blocks
unfolding before_row
goes r b blocks high = rw (lt-ltb (row_of b) r high) refl

nothing_before : (r : ℕ) → before_row r [] ≡ []
unfolding before_row
nothing_before r = refl

tail_all : (P : BlockInfo → Type 0) (b : BlockInfo) (blocks : List BlockInfo) → All P (b ∷ blocks) → All P blocks
tail_all P b blocks all = λ i d low. all (suc i) d (omega (arith, low))

head_all : (P : BlockInfo → Type 0) (b : BlockInfo) (blocks : List BlockInfo) → All P (b ∷ blocks) → P b
head_all P b blocks all = all zero b (omega arith)

all_before : (r : ℕ) (blocks : List BlockInfo) → All (λ b. row_of b < r) blocks → before_row r blocks ≡ blocks
all_before r [] all = nothing_before r
all_before r (b ∷ blocks) all =
    goes r b blocks (head_all (λ b. row_of b < r) b blocks all) ∙ ap (λ bs. b ∷ bs) (all_before r blocks (tail_all (λ b. row_of b < r) b blocks all))

none_before : (r : ℕ) (blocks : List BlockInfo) → All (λ b. r ≤ row_of b) blocks → before_row r blocks ≡ []
none_before r [] all = nothing_before r
none_before r (b ∷ blocks) all = stops r b blocks (head_all (λ b. r ≤ row_of b) b blocks all)

-- blocks behind the one where they end change nothing
still_before : (r : ℕ) (blocks more : List BlockInfo) → length (before_row r blocks) < length blocks → before_row r (blocks ++ more) ≡ before_row r blocks
still_before r [] more some = absurd (omega (arith, some))
still_before r (b ∷ blocks) more some = elim (cases_lt (row_of b) r) [
  | inl high ↦
      let long : length (before_row r (b ∷ blocks)) ≡ suc (length (before_row r blocks)) = ap length (goes r b blocks high) in
      goes r b (blocks ++ more) high ∙ ap (λ bs. b ∷ bs) (still_before r blocks more (omega (arith, some, long))) ∙ sym (goes r b blocks high)
  | inr low ↦ stops r b (blocks ++ more) low ∙ sym (stops r b blocks low)
]

-- the first block that starts there ends them
before_last : (r : ℕ) (blocks : List BlockInfo) (b : BlockInfo) → All (λ b. row_of b < r) blocks → r ≤ row_of b → before_row r (blocks ++ b ∷ []) ≡ blocks
before_last r [] b all low = stops r b [] low
before_last r (x ∷ blocks) b all low =
    goes r x (blocks ++ b ∷ []) (head_all (λ b. row_of b < r) x blocks all) ∙ ap (λ bs. x ∷ bs) (before_last r blocks b (tail_all (λ b. row_of b < r) x blocks all) low)

---- What is noted ----

pub noted_more : (old now new : List RowPlace) (next : RowPlace) → new ≡ now ++ next ∷ [] → now ≡ old ++ replicate (length now - length old) next → length old ≤ length now
    → new ≡ old ++ replicate (length new - length old) next
noted_more old now new next is so low =
    let n = length now - length old in
    let long : length new ≡ length now + 1 = ap length is ∙ length-append now (next ∷ []) in
    let more : length new - length old ≡ n + 1 = omega (arith, long, low) in
    is ∙ ap (λ xs. xs ++ next ∷ []) so ∙ append_assoc old (replicate n next) (next ∷ []) ∙ ap (λ xs. old ++ xs) (replicate-append-replicate n 1 next)
    ∙ ap (λ k. old ++ replicate k next) (sym more)

pub none_noted : (shape : Shape) → AreRowPlaces shape [] []
none_noted shape = record { each = λ r d low. absurd (omega (arith, low)); reached = λ r low. absurd (omega (arith, low)); low = λ i d low. absurd (omega (arith, low)) }

abbrev place_at_end : Shape → List BlockInfo → RowPlace
place_at_end shape blocks = record { block = length blocks; piece = total shape blocks }

-- one block more
pub rows_noted : (shape : Shape) (blocks : List BlockInfo) (b : BlockInfo) (old new : List RowPlace) (row : ℕ) (next : RowPlace) → AreRowPlaces shape blocks old → row_of b ≡ row
    → next ≡ record { block = length blocks; piece = total shape blocks } → new ≡ old ++ replicate (row + 1 - length old) next → AreRowPlaces shape (blocks ++ b ∷ []) new
rows_noted shape blocks b old new row next h at is noted =
    let n = row + 1 - length old in
    let long : length new ≡ length old + n = ap length noted ∙ length-append old (replicate n next) ∙ ap (λ k. length old + k) (length-replicate n next) in
    let more : length (blocks ++ b ∷ []) ≡ length blocks + 1 = length-append blocks (b ∷ []) in
    let all_low : (r : ℕ) → length old ≤ r → All (λ b. row_of b < r) blocks = λ r behind i d low. let one = h.low i d low in omega (arith, one, behind) in
    let ends : (r : ℕ) → length old ≤ r → r < length new → before_row r (blocks ++ b ∷ []) ≡ blocks =
    λ r behind low. before_last r blocks b (all_low r behind) (omega (arith, at, low, long, behind)) in record {
      each = λ r d low. elim (cases_lt r (length old)) [
        | inl before ↦
            ap (λ (places : List RowPlace). get_or places r d) noted ∙ get_or-append old (replicate n next) d r before ∙ h.each r d before
            ∙ ap (λ (bs : List BlockInfo). place_at_end shape bs) (sym (still_before r blocks (b ∷ []) (h.reached r before)))
        | inr behind ↦
            ap (λ (places : List RowPlace). get_or places r d) noted ∙ get_or-append_right old (replicate n next) r d behind ∙ get_or-replicate n (r - length old) next d (omega (arith, low, long, behind))
            ∙ is ∙ ap (λ (bs : List BlockInfo). place_at_end shape bs) (sym (ends r behind low))
      ];
      reached = λ r low. elim (cases_lt r (length old)) [
        | inl before ↦
            let same = ap length (still_before r blocks (b ∷ []) (h.reached r before)) in
            let some = h.reached r before in
            omega (arith, same, some, more)
        | inr behind ↦
            let same = ap length (ends r behind low) in
            omega (arith, same, more)
      ];
      low = All-push (λ b. row_of b < length new) blocks b (λ i d low. let one = h.low i d low in omega (arith, one, long)) (omega (arith, at, long));
    }

-- a row's place is found
pub row_found : (shape : Shape) (blocks : List BlockInfo) (places : List RowPlace) (r : ℕ) (end : RowPlace) → AreRowPlaces shape blocks places
    → end ≡ record { block = length blocks; piece = total shape blocks }
    → (if nat_lt r (length places) then get_or places r end else end) ≡ place_of_row shape r blocks
row_found shape blocks places r end h is = elim (cases_lt r (length places)) [
  | inl low ↦ rw (lt-ltb r (length places) low) (h.each r end low)
  | inr high ↦
      rw (le-ltb r (length places) high)
      (is ∙ ap (λ (bs : List BlockInfo). place_at_end shape bs) (sym (all_before r blocks (λ i d low. let one = h.low i d low in omega (arith, one, high)))))
]

---- What lies between two places ----

order_tail : (b : BlockInfo) (blocks : List BlockInfo) → AreInOrder (b ∷ blocks) → AreInOrder blocks
order_tail b blocks order = λ i j d before low. order (suc i) (suc j) d (omega (arith, before)) (omega (arith, low))

order_head : (b : BlockInfo) (blocks : List BlockInfo) → AreInOrder (b ∷ blocks) → All (λ c. row_of b ≤ row_of c) blocks
order_head b blocks order = λ j d low. order zero (suc j) d (omega arith) (omega (arith, low))

lower_all : (r s : ℕ) (blocks : List BlockInfo) → r ≤ s → All (λ c. s ≤ row_of c) blocks → All (λ c. r ≤ row_of c) blocks
lower_all r s blocks less all = λ i d low. let one = all i d low in omega (arith, less, one)

none_in_row : (shape : Shape) (tile_from r : ℕ) (blocks : List BlockInfo) (pieces : List (List ℤ)) → All (λ b. r + 1 ≤ row_of b) blocks
    → (in_row r blocks ≡ []) × (planned_in_row r (planned_blocks shape tile_from blocks pieces) ≡ [])
unfolding planned_blocks
none_in_row shape tile_from r [] pieces all = (refl, refl)
none_in_row shape tile_from r (b ∷ blocks) pieces all =
    let here : r + 1 ≤ row_of b = head_all (λ b. r + 1 ≤ row_of b) b blocks all in
    let not : nat_eq (row_of b) r ≡ false = ne_eqb (row_of b) r (λ same. omega (arith, same, here)) in
    let rest = none_in_row shape tile_from r blocks (drop (count_of shape b) pieces) (tail_all (λ b. r + 1 ≤ row_of b) b blocks all) in
    (rw not rest.0, rw not rest.1)

-- the blocks of a row, of a list that begins at it
row_first : (shape : Shape) (tile_from r : ℕ) (blocks : List BlockInfo) (pieces : List (List ℤ)) → AreInOrder blocks → All (λ b. r ≤ row_of b) blocks
    → (in_row r blocks ≡ before_row (r + 1) blocks) × (planned_in_row r (planned_blocks shape tile_from blocks pieces) ≡ planned_blocks shape tile_from (in_row r blocks) pieces)
unfolding planned_blocks
row_first shape tile_from r [] pieces order all = (sym (nothing_before (r + 1)), refl)
row_first shape tile_from r (b ∷ blocks) pieces order all = elim (cases_eq (row_of b) r) [
  | inl here ↦
      let is : nat_eq (row_of b) r ≡ true = eq-eqb (row_of b) r here in
      let rest = row_first shape tile_from r blocks (drop (count_of shape b) pieces) (order_tail b blocks order) (tail_all (λ b. r ≤ row_of b) b blocks all) in (
        rw is (ap (λ bs. b ∷ bs) rest.0 ∙ sym (goes (r + 1) b blocks (omega (arith, here)))),
        rw is (ap (λ bs. planned_from shape tile_from b pieces ∷ bs) rest.1),
      )
  | inr apart ↦
      let least : r ≤ row_of b = head_all (λ b. r ≤ row_of b) b blocks all in
      let low : r + 1 ≤ row_of b = (let other : (row_of b ≡ r → ⊥) = apart in omega (arith, least, other)) in
      let is : nat_eq (row_of b) r ≡ false = ne_eqb (row_of b) r apart in
      let none = none_in_row shape tile_from r blocks (drop (count_of shape b) pieces) (lower_all (r + 1) (row_of b) blocks low (order_head b blocks order)) in (
        rw is (none.0 ∙ sym (stops (r + 1) b blocks low)),
        rw is (none.1 ∙ ap (λ bs. planned_blocks shape tile_from bs pieces) (sym none.0)),
      )
]

from_first : (r : ℕ) (b : BlockInfo) (blocks : List BlockInfo) → r ≤ row_of b → AreInOrder (b ∷ blocks) → All (λ c. r ≤ row_of c) (b ∷ blocks)
from_first r b blocks low order zero d within = low
from_first r b blocks low order (suc i) d within = lower_all r (row_of b) blocks low (order_head b blocks order) i d (omega (arith, within))

-- the blocks of a row are those between its place and the next one's
pub rows_lie : (shape : Shape) (tile_from r : ℕ) (blocks : List BlockInfo) (pieces : List (List ℤ)) → AreInOrder blocks
    → (in_row r blocks ≡ drop (length (before_row r blocks)) (before_row (r + 1) blocks))
    × (planned_in_row r (planned_blocks shape tile_from blocks pieces) ≡ planned_blocks shape tile_from (in_row r blocks) (drop (total shape (before_row r blocks)) pieces))
unfolding planned_blocks
rows_lie shape tile_from r [] pieces order = (rw (nothing_before r, nothing_before (r + 1)) refl, refl)
rows_lie shape tile_from r (b ∷ blocks) pieces order = elim (cases_lt (row_of b) r) [
  | inl high ↦
      let is : nat_eq (row_of b) r ≡ false = ne_eqb (row_of b) r (λ same. omega (arith, same, high)) in
      let rest = rows_lie shape tile_from r blocks (drop (count_of shape b) pieces) (order_tail b blocks order) in (
        rw (is, goes r b blocks high, goes (r + 1) b blocks (omega (arith, high))) rest.0,
        rw (is, goes r b blocks high) (rest.1 ∙ ap (planned_blocks shape tile_from (in_row r blocks)) (drop-drop (total shape (before_row r blocks)) (count_of shape b) pieces)),
      )
  | inr low ↦
      let first = row_first shape tile_from r (b ∷ blocks) pieces order (from_first r b blocks low order) in
      (rw (stops r b blocks low) first.0, rw (stops r b blocks low) first.1)
]

-- those before the next place are the first of the column's
pub first_taken : (r : ℕ) (blocks : List BlockInfo) → take (length (before_row r blocks)) blocks ≡ before_row r blocks
first_taken r [] = rw (nothing_before r) refl
first_taken r (b ∷ blocks) = elim (cases_lt (row_of b) r) [
  | inl high ↦ rw (goes r b blocks high) (ap (λ bs. b ∷ bs) (first_taken r blocks))
  | inr low ↦ rw (stops r b blocks low) refl
]

pub fewer_before : (r : ℕ) (blocks : List BlockInfo) → length (before_row r blocks) ≤ length (before_row (r + 1) blocks)
fewer_before r [] = rw (nothing_before r, nothing_before (r + 1)) (omega arith)
fewer_before r (b ∷ blocks) = elim (cases_lt (row_of b) r) [
  | inl high ↦
      let rest = fewer_before r blocks in
      rw (goes r b blocks high, goes (r + 1) b blocks (omega (arith, high))) (omega (arith, rest))
  | inr low ↦ rw (stops r b blocks low) (omega arith)
]

pub before_few : (r : ℕ) (blocks : List BlockInfo) → length (before_row r blocks) ≤ length blocks
before_few r [] = rw (nothing_before r) (omega arith)
before_few r (b ∷ blocks) = elim (cases_lt (row_of b) r) [
  | inl high ↦
      let rest = before_few r blocks in
      rw (goes r b blocks high) (omega (arith, rest))
  | inr low ↦ rw (stops r b blocks low) (omega arith)
]

pub row_between : (shape : Shape) (r : ℕ) (blocks : List BlockInfo) → AreInOrder blocks
    → slice_range blocks (place_of_row shape r blocks).block (place_of_row shape (r + 1) blocks).block ≡ in_row r blocks
row_between shape r blocks order =
    let n = length (before_row r blocks) in
    let m = length (before_row (r + 1) blocks) in
    let sum : m ≡ n + (m - n) = omega (arith, fewer_before r blocks) in
    sym (drop-take n (m - n) blocks) ∙ ap (λ k. drop n (take k blocks)) (sym sum) ∙ ap (drop n) (first_taken (r + 1) blocks) ∙ sym (rows_lie shape 0 r blocks [] order).0
