-- What the edges of a block depend on.
use Rattle.std.proofs.Common.{◌≡◌, ◌<◌, ◌≤◌, ◌+◌, ◌*◌, ◌-◌, ◌||◌, inl, inr, ℕ, Bool, true, false, refl, ◌∙◌, arith, min, map}
use Rattle.std.specs.List.{range_with_len}
use Rattle.std.specs.Prelude.{nat_lt, if◌then◌else◌}
use Rattle.std.proofs.lemmas.Bool.{cases_lt, lt-ltb, le-ltb}
use Rattle.std.proofs.lemmas.List.FromFn.{fill_by_all, length-map-range_with_len, get_or-map-range_with_len}
use Rattle.vp9_types.specs.Maps.{Map}
use Rattle.vp9_types.specs.declared.shape.Depth.{Depth}
use Rattle.intra_predict.specs.declared.place.IntraPlace.{IntraPlace}
use Rattle.intra_predict.specs.BlockEdges.{reads_right, above_column, above_sample, left_sample, corner_sample, edges_in}
use Rattle.intra_predict.specs.Laws.{AgreeAround, IsInside}
use Rattle.intra_predict.proofs.EdgeLemmas.{same_edges}

same_values : (f g : ℕ → ℕ) (n : ℕ) → ((k : ℕ) → k < n → f k ≡ g k) → map f (range_with_len 0 n) ≡ map g (range_with_len 0 n)
same_values f g n same = fill_by_all g (map f (range_with_len 0 n)) n 0 (length-map-range_with_len f 0 n)
    (λ k low. let here : 0 + k ≡ k = omega arith in get_or-map-range_with_len f 0 n k k 0 low here ∙ same k low)

record IsInReach (width size : ℕ) (p : IntraPlace) (x : ℕ) : Type 0 where
  from : p.column ≤ x
  to : x < p.column + (if reads_right size p then 2 * size else size)
  inside : x < width

offset_small : (size j : ℕ) (right : Bool) → 0 < size → j < 2 * size
    → (if nat_lt j size || right then j else size - 1) < (if right then 2 * size else size)
offset_small size j true some low = elim (cases_lt j size) [
  | inl early ↦ rw (lt-ltb j size early) (omega arith)
  | inr late ↦ rw (le-ltb j size late) (omega arith)
]
offset_small size j false some low = elim (cases_lt j size) [
  | inl early ↦ rw (lt-ltb j size early) (omega arith)
  | inr late ↦ rw (le-ltb j size late) (omega arith)
]

in_reach : (width size : ℕ) (p : IntraPlace) (j : ℕ) → 0 < size → p.column < width → j < 2 * size
    → IsInReach width size p (above_column width size p j)
in_reach width size p j some wide low =
    let small = offset_small size j (reads_right size p) some low in
    record { from = omega arith; to = omega arith; inside = omega arith }

above_agree : (width height size : ℕ) (depth : Depth) (p : IntraPlace) (m n : Map) → 0 < size → p.column < width → p.tile_from ≤ p.column
    → AgreeAround width height size p m n → (j : ℕ) → j < 2 * size → above_sample width depth size p m j ≡ above_sample width depth size p n j
above_agree width height size depth p m n some wide from agree j low = elim (cases_lt 0 p.row) [
  | inl below ↦ let reach = in_reach width size p j some wide low in
      rw (lt-ltb 0 p.row below) (agree.above below (above_column width size p j) (omega arith) (omega arith) reach.to reach.inside)
  | inr top ↦ rw (le-ltb 0 p.row top) refl
]

left_agree : (width height size : ℕ) (depth : Depth) (p : IntraPlace) (m n : Map) → p.row < height
    → AgreeAround width height size p m n → (i : ℕ) → i < size → left_sample height depth p m i ≡ left_sample height depth p n i
left_agree width height size depth p m n high agree i low = elim (cases_lt p.tile_from p.column) [
  | inl past ↦ rw (lt-ltb p.tile_from p.column past)
      (agree.left past (min (height - 1) (p.row + i)) (omega arith) (omega arith) (omega arith))
  | inr first ↦ rw (le-ltb p.tile_from p.column first) refl
]

corner_agree : (width height size : ℕ) (depth : Depth) (p : IntraPlace) (m n : Map) → 0 < size → p.column < width
    → AgreeAround width height size p m n → corner_sample depth p m ≡ corner_sample depth p n
corner_agree width height size depth p m n some wide agree = elim (cases_lt 0 p.row) [
  | inl below ↦ rw (lt-ltb 0 p.row below) (elim (cases_lt p.tile_from p.column) [
    | inl past ↦ rw (lt-ltb p.tile_from p.column past)
        (agree.above below (p.column - 1) (omega arith) (omega arith) (before (reads_right size p)) (omega arith))
    | inr first ↦ rw (le-ltb p.tile_from p.column first) refl
  ])
  | inr top ↦ rw (le-ltb 0 p.row top) refl
]
  where
    before : (b : Bool) → p.column - 1 < p.column + (if b then 2 * size else size)
    before true = omega arith
    before false = omega arith

pub edges_agree : (width height size : ℕ) (depth : Depth) (p : IntraPlace) (m n : Map) → 0 < size → IsInside width height p
    → p.tile_from ≤ p.column → AgreeAround width height size p m n
    → edges_in width height depth size p m ≡ edges_in width height depth size p n
unfolding edges_in
edges_agree width height size depth p m n some inside from agree = same_edges _ _ _ _ _ _ _ _
    (same_values _ _ (2 * size) (above_agree width height size depth p m n some inside.wide from agree))
    (same_values _ _ size (left_agree width height size depth p m n inside.high agree))
    (corner_agree width height size depth p m n some inside.wide agree)
