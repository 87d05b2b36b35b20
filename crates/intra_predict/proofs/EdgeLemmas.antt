-- The samples of edges, as the code reads them.
use Rattle.std.proofs.Common.{◌≡◌, ◌<◌, ◌≤◌, ◌*◌, ◌-◌, ℕ, Bool, refl, arith, List, length, get_or, take, map}
use Rattle.std.specs.List.{range_with_len}
use Rattle.std.proofs.lemmas.Bool.{lt-ltb}
use Rattle.std.proofs.lemmas.List.{get_or-take, length-take}
use Rattle.std.proofs.lemmas.List.FromFn.{fill_by_all}
use Rattle.vp9_types.specs.Maps.{Map}
use Rattle.vp9_types.specs.declared.shape.Depth.{Depth}
use Rattle.intra_predict.specs.declared.place.IntraPlace.{IntraPlace}
use Rattle.intra_predict.specs.BlockEdges.{EdgeSamples, has_above, has_left, above_sample, left_sample, corner_sample, edges_in}

pub corner_read : (p : IntraPlace) (depth : Depth) (m : Map) → 0 < p.row → p.tile_from < p.column
    → m (p.row - 1) (p.column - 1) ≡ corner_sample depth p m
corner_read p depth m below past = rw (lt-ltb 0 p.row below, lt-ltb p.tile_from p.column past) refl

abbrev pub edges_by : List ℕ → List ℕ → ℕ → Bool → Bool → EdgeSamples
edges_by above left corner a l = record { above = above; left = left; corner = corner; has_above = a; has_left = l }

pub same_edges : (above above' left left' : List ℕ) (corner corner' : ℕ) (a l : Bool) → above ≡ above' → left ≡ left' → corner ≡ corner'
    → edges_by above left corner a l ≡ edges_by above' left' corner' a l
same_edges above above' left left' corner corner' a l p q r = rw (p, q, r) refl

-- the front of a list that a function fills
front_filled : (f : ℕ → ℕ) (n : ℕ) (xs : List ℕ) → n ≤ length xs → ((k : ℕ) → k < n → get_or xs k 0 ≡ f k)
    → take n xs ≡ map f (range_with_len 0 n)
front_filled f n xs fits is = fill_by_all f (take n xs) n 0 (omega (arith, length-take n xs)) (λ k low. rw get_or-take (is k low))

pub edges_are : (width height size : ℕ) (p : IntraPlace) (depth : Depth) (m : Map) (above left : List ℕ) (corner : ℕ)
    → 2 * size ≤ length above → size ≤ length left
    → ((j : ℕ) → j < 2 * size → get_or above j 0 ≡ above_sample width depth size p m j)
    → ((i : ℕ) → i < size → get_or left i 0 ≡ left_sample height depth p m i)
    → corner ≡ corner_sample depth p m
    → edges_by (take (2 * size) above) (take size left) corner (has_above p) (has_left p) ≡ edges_in width height depth size p m
unfolding edges_in
edges_are width height size p depth m above left corner long tall ups lefts at = same_edges _ _ _ _ _ _ _ _
    (front_filled (above_sample width depth size p m) (2 * size) above long ups)
    (front_filled (left_sample height depth p m) size left tall lefts) at
