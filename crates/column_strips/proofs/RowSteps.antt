-- A row of superblocks put together, strip after strip.
use Rattle.std.proofs.Common.{◌≡◌, ◌<◌, ◌≤◌, ◌+◌, ◌*◌, Bool, true, false, ℕ, List, length, get_or, inl, inr, refl, sym, ◌∙◌, ap, subst, arith}
use Rattle.std.proofs.lemmas.Bool.{cases_lt, cases_eq}
use Rattle.std.proofs.lemmas.Bool.Decides.{nat_tests}
use Rattle.vp9_types.specs.Maps.{Map, FrameMap, IsAtMost, rows_of}
use Rattle.vp9_types.specs.Shapes.{coded_height, coded_width, halved, mi_rows}
use Rattle.vp9_types.specs.Sizes.{greatest, superblocks_along}
use Rattle.vp9_types.specs.declared.shape.Depth.{Depth}
use Rattle.vp9_types.specs.declared.shape.Plane.{Plane}
use Rattle.vp9_types.specs.declared.shape.Plane.TheVariants.{Y, U, V}
use Rattle.vp9_types.specs.declared.shape.Shape.{Shape}
use Rattle.planes.specs.Planes.{PlaneSamples, lower_end, moved_to, plane_map, right_end}
use Rattle.planes.specs.Pictures.{IsInRange, plane_of, samples_of}
use Rattle.planes.specs.declared.area.Area.{Area}
use Rattle.planes.specs.declared.frame_planes.FramePlanes.{FramePlanes}
use Rattle.plane_parts.specs.PlaneParts.{HasPart, IsInArea, LiesIn}
use Rattle.plane_parts.proofs.PartLemmas.{in_area_or_out}
use Rattle.loop_edges.specs.Cells.{sub_y}
use Rattle.loop_filter.specs.Code.{HasFilterRows}
use Rattle.loop_filter.specs.Laws.{first_own, lower_end_of}
use Rattle.filter_rows.specs.Code.{HasPut}
use Rattle.column_strips.specs.StripRows.{AreRow, HasOwnRows, IsPartOfRow, rows_from}

---- Places ----

half_inside : (ss : Bool) (r rows : ℕ) → r < superblocks_along rows → halved ss (64 * r) < halved ss (8 * rows)
half_inside true r rows low = omega (arith, low)
half_inside false r rows low = omega (arith, low)

pub top_inside : (shape : Shape) (p : Plane) (r : ℕ) → r < superblocks_along (mi_rows shape) → halved (sub_y shape p) (64 * r) < coded_height shape p
top_inside shape Y r low = half_inside false r (mi_rows shape) low
top_inside shape U r low = half_inside shape.ss_y r (mi_rows shape) low
top_inside shape V r low = half_inside shape.ss_y r (mi_rows shape) low

tops_rise : (ss : Bool) (r : ℕ) → halved ss (64 * r) ≤ halved ss (64 * (r + 1))
tops_rise true r = omega arith
tops_rise false r = omega arith

-- where a row of superblocks begins
pub own_first : (shape : Shape) (p : Plane) (r : ℕ) → r < superblocks_along (mi_rows shape) → halved (sub_y shape p) (64 * r) ≡ first_own shape p r
own_first shape p r low = omega (arith, top_inside shape p r low)

pub own_ends : (shape : Shape) (p : Plane) (r : ℕ) → first_own shape p r ≤ lower_end_of shape p r
own_ends shape p r = omega (arith, tops_rise (sub_y shape p) r)

-- the rows of a strip that are put have room in the plane
pub room_there : (shape : Shape) (p : Plane) (r : ℕ) (a to : Area) → r < superblocks_along (mi_rows shape) → HasOwnRows shape p r a → HasFilterRows shape p r to → LiesIn (rows_from (first_own shape p r) a) to
room_there shape p r a to low own room =
    let first : halved (sub_y shape p) (64 * r) ≡ first_own shape p r = own_first shape p r low in
    let end : lower_end a ≡ lower_end_of shape p r = own.bottom in
    let rise = own_ends shape p r in
    record {
      top = omega (arith, room.above, first);
      bottom = omega (arith, room.below, end, rise);
      left = omega (arith, room.left);
      right = omega (arith, room.right, own.right);
    }

-- right of its area a plane is 0
zero_right : (s : PlaneSamples) (y x : ℕ) → right_end s.area ≤ x → plane_map s y x ≡ 0
unfolding moved_to rows_of
zero_right s y x past = grind (arith, nat_tests)

---- One of a frame's planes ----

of_plane : {X : Type 0} (f : FramePlanes X) (p : Plane) (y x : ℕ) → plane_map (plane_of f p) y x ≡ samples_of f p y x
of_plane f Y y x = refl
of_plane f U y x = refl
of_plane f V y x = refl

pub in_range : {X : Type 0} (depth : Depth) (f : FramePlanes X) (p : Plane) → IsInRange depth f → IsAtMost (greatest depth) (plane_map (plane_of f p))
in_range depth f Y range = range.y
in_range depth f U range = range.u
in_range depth f V range = range.v

---- One strip more ----

-- one of the first strips has a column of a plane
pub record IsCovered {X : Type 0} (strips : List (FramePlanes X)) (p : Plane) (k x : ℕ) : Type 0 where
  pub number : ℕ
  pub low : number < k
  pub column : (d : FramePlanes X) → ((plane_of (get_or strips number d) p).area.first_column ≤ x) × (x < right_end (plane_of (get_or strips number d) p).area)

-- the first strips are put
pub record HasStrips {X : Type 0} (shape : Shape) (p : Plane) (r : ℕ) (raw : Map) (strips : List (FramePlanes X)) (k : ℕ) (old now : Map) : Type 0 where
  pub put : (y x : ℕ) → first_own shape p r ≤ y → y < lower_end_of shape p r → IsCovered strips p k x → now y x ≡ raw y x
  pub above : (y x : ℕ) → y < first_own shape p r → now y x ≡ old y x

pub no_strips : {X : Type 0} (shape : Shape) (p : Plane) (r : ℕ) (raw : Map) (strips : List (FramePlanes X)) (old : Map) → HasStrips shape p r raw strips 0 old old
no_strips shape p r raw strips old = record {
  put = λ y x below above covered. absurd (let low = covered.low in omega (arith, low));
  above = λ y x high. refl;
}

below_it : (n k : ℕ) → n < k + 1 → (n ≡ k → ⊥) → n < k
below_it n k low apart = elim (cases_lt n k) [
  | inl before ↦ before
  | inr behind ↦ absurd (apart (omega (arith, low, behind)))
]

pub one_more : {X : Type 0} (shape : Shape) (p : Plane) (r : ℕ) (raw : FrameMap) (strips : List (FramePlanes X)) (k : ℕ) (f : FramePlanes X) (old now new : Map) → AreRow shape raw r strips
    → k < length strips → f ≡ get_or strips k f → HasPart (rows_from (first_own shape p r) (plane_of f p).area) (plane_map (plane_of f p)) now new
    → HasStrips shape p r (raw p) strips k old now → HasStrips shape p r (raw p) strips (k + 1) old new
one_more shape p r raw strips k f old now new row there is has so = record {
  put = λ y x below above covered. elim (in_area_or_out part y x) [
    | inl i ↦ has.inside y x i ∙ (of_plane f p y x ∙ own.samples p y x i)
    | inr out ↦ has.outside y x out ∙ so.put y x below above (earlier y x below above covered out)
  ];
  above = λ y x high. has.outside y x (λ i. (let low = i.below in omega (arith, low, high))) ∙ so.above y x high;
}
  where
    part : Area
    part = rows_from (first_own shape p r) (plane_of f p).area

    own : IsPartOfRow shape raw r f
    own = subst (IsPartOfRow shape raw r) (sym is) (row.parts k f there)

    earlier : (y x : ℕ) → first_own shape p r ≤ y → y < lower_end_of shape p r → IsCovered strips p (k + 1) x → (IsInArea part y x → ⊥) → IsCovered strips p k x
    earlier y x below above covered out = elim (cases_eq covered.number k) [
      | inl same ↦
          let column : ((plane_of (get_or strips k f) p).area.first_column ≤ x) × (x < right_end (plane_of (get_or strips k f) p).area) =
          subst (λ n. ((plane_of (get_or strips n f) p).area.first_column ≤ x) × (x < right_end (plane_of (get_or strips n f) p).area)) same (covered.column f) in
          let here : ((plane_of f p).area.first_column ≤ x) × (x < right_end (plane_of f p).area) =
          subst (λ (e : FramePlanes _). ((plane_of e p).area.first_column ≤ x) × (x < right_end (plane_of e p).area)) (sym is) column in
          let end = (own.areas p).bottom in
          absurd (out (record { below = below; above = omega (arith, end, below, above); behind = here.0; before = here.1 }))
      | inr other ↦ record { number = covered.number; low = (let apart : covered.number ≡ k → ⊥ = other in let low = covered.low in below_it covered.number k low apart); column = covered.column }
    ]

---- As the code has it ----

pub own_of : {X : Type 0} (shape : Shape) (raw : FrameMap) (r : ℕ) (strips : List (FramePlanes X)) (k : ℕ) (f : FramePlanes X) → AreRow shape raw r strips → k < length strips → f ≡ get_or strips k f
    → IsPartOfRow shape raw r f
own_of shape raw r strips k f row there is = subst (IsPartOfRow shape raw r) (sym is) (row.parts k f there)

pub rows_of_one : {X : Type 0} (shape : Shape) (raw : FrameMap) (p : Plane) (r : ℕ) (strips : List (FramePlanes X)) (k : ℕ) (f : FramePlanes X) (s : PlaneSamples) → AreRow shape raw r strips → k < length strips
    → f ≡ get_or strips k f → s ≡ plane_of f p → HasOwnRows shape p r s.area
rows_of_one shape raw p r strips k f s row there is plane =
    subst (λ (s : PlaneSamples). HasOwnRows shape p r s.area) (sym plane) ((own_of shape raw r strips k f row there is).areas p)

pub range_of_one : {X : Type 0} (shape : Shape) (raw : FrameMap) (p : Plane) (r : ℕ) (strips : List (FramePlanes X)) (k : ℕ) (f : FramePlanes X) (s : PlaneSamples) → AreRow shape raw r strips → k < length strips
    → f ≡ get_or strips k f → s ≡ plane_of f p → IsAtMost (greatest shape.depth) (plane_map s)
range_of_one shape raw p r strips k f s row there is plane =
    subst (λ (s : PlaneSamples). IsAtMost (greatest shape.depth) (plane_map s)) (sym plane) (in_range shape.depth f p (own_of shape raw r strips k f row there is).range)

pub room_at : (shape : Shape) (p : Plane) (r first : ℕ) (a old to : Area) → r < superblocks_along (mi_rows shape) → HasOwnRows shape p r a → HasFilterRows shape p r old → to ≡ old → first ≡ first_own shape p r
    → LiesIn (rows_from first a) to
room_at shape p r first a old to low own room same is = rw (same, is) (room_there shape p r a old low own room)

pub part_at : {X : Type 0} (shape : Shape) (p : Plane) (r first : ℕ) (f : FramePlanes X) (s : PlaneSamples) (now new : Map) → first ≡ first_own shape p r → s ≡ plane_of f p
    → HasPart (rows_from first s.area) (plane_map s) now new → HasPart (rows_from (first_own shape p r) (plane_of f p).area) (plane_map (plane_of f p)) now new
part_at shape p r first f s now new is plane has =
    subst (λ (s : PlaneSamples). HasPart (rows_from (first_own shape p r) s.area) (plane_map s) now new) plane
    (subst (λ n. HasPart (rows_from n s.area) (plane_map s) now new) is has)

pub all_put : {X : Type 0} (shape : Shape) (p : Plane) (r : ℕ) (raw : FrameMap) (strips : List (FramePlanes X)) (k : ℕ) (old new : PlaneSamples) → AreRow shape raw r strips → length strips ≤ k
    → HasFilterRows shape p r old.area → new.area ≡ old.area → HasStrips shape p r (raw p) strips k (plane_map old) (plane_map new) → HasPut shape p r (raw p) (plane_map old) (plane_map new)
all_put shape p r raw strips k old new row all room same so = record {
  put = λ y x below above. elim (cases_lt x (coded_width shape p)) [
    | inl inner ↦
        let has = row.columns p x inner in
        so.put y x below above (record { number = has.number; low = (let low = has.low in omega (arith, low, all)); column = has.column })
    | inr past ↦
        let end : right_end new.area ≡ coded_width shape p = ap right_end same ∙ room.right in
        zero_right new y x (omega (arith, end, past)) ∙ sym (row.edge p y x past)
  ];
  above = so.above;
}
