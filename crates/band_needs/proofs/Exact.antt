-- The ranges that are found from first and last rows have all bands that are read, and end with such.
use Rattle.std.proofs.Common.{◌≡◌, ◌<◌, ◌≤◌, ◌+◌, ◌-◌, ◌*◌, ◌/◌, ◌⊎◌, inl, inr, Bool, true, false, ℕ, zero, suc, List, [], ◌∷◌, refl, sym, ap, arith, subst, min, max, length}
use Rattle.std.specs.Prelude.{Option, Some, None, IfSome, slice_index_or, if◌then◌else◌}
use Rattle.std.specs.List.{All, fold, range_with_len}
use Rattle.std.proofs.lemmas.Bool.{cases_lt}
use Rattle.std.proofs.lemmas.List.Elements.{All-head, All-tail}
use Rattle.std.proofs.lemmas.Option.{same_Some}
use Rattle.vp9_types.specs.Shapes.{halved, mi_rows}
use Rattle.vp9_types.specs.declared.block.ReferenceFrame.{ReferenceFrame}
use Rattle.vp9_types.specs.declared.block.ReferenceFrame.TheVariants.{Last, Golden, Altref}
use Rattle.vp9_types.specs.declared.shape.Plane.{Plane}
use Rattle.vp9_types.specs.declared.shape.Plane.TheVariants.{Y, U, V}
use Rattle.vp9_types.specs.declared.shape.Shape.{Shape}
use Rattle.block_plan.specs.declared.block.BlockInfo.{BlockInfo}
use Rattle.block_plan.specs.declared.block.InterPrediction.{InterPrediction}
use Rattle.block_plan.specs.declared.block.Prediction.{Prediction}
use Rattle.block_plan.specs.declared.block.Prediction.TheVariants.{Intra, Inter}
use Rattle.inter_places.specs.Axes.{first_place, last_place}
use Rattle.block_geometry.specs.BlockSizes.{is_below_8x8, height_8}
use Rattle.inter_places.specs.Places.{is_subsampled, parts_of, place_of}
use Rattle.inter_places.specs.declared.part.Direction.TheVariants.{Down, Across}
use Rattle.inter_places.specs.declared.axis.Place.{Place}
use Rattle.band_needs.specs.Ranges.{both_ranges, widened, no_needs, needs_at, with_range}
use Rattle.band_needs.specs.BandReads.{ReadsRow, part_in, ListReads, ReadsBy, Reads, band_height, ReadsBand, BlocksRead, IsRangeOf, AreRead, HasBand, ListLiesIn, BlockLiesIn}
use Rattle.inter_places.proofs.Orders.{place_order}
use Rattle.band_needs.proofs.RowLemmas.{bands_rise, fold_more}
use Rattle.band_needs.specs.Needs.{place_range, part_range, with_part, plane_range, list_range, with_second, with_prediction, with_block, needs_of}
use Rattle.band_needs.specs.declared.ranges.BandRange.{BandRange}
use Rattle.band_needs.specs.declared.ranges.BandNeeds.{BandNeeds}

---- Ranges ----

-- of two kinds of reads
pub both_are : (P Q : ℕ → Type 0) (s t : BandRange) → IsRangeOf P s → IsRangeOf Q t → IsRangeOf (λ band. P band ⊎ Q band) (both_ranges s t)
both_are P Q s t one two = record {
  first = elim (cases_lt s.first t.first) [
    | inl less ↦ inl (subst P (lesser s.first t.first (omega (arith, less))) one.first)
    | inr more ↦ inr (subst Q (greater_first s.first t.first more) two.first)
  ];
  last = elim (cases_lt s.last t.last) [
    | inl less ↦ inr (subst Q (greater s.last t.last (omega (arith, less))) two.last)
    | inr more ↦ inl (subst P (lesser_last s.last t.last more) one.last)
  ];
  low = λ band read. low read;
  high = λ band read. high read;
}
  where
    lesser : (a b : ℕ) → a ≤ b → a ≡ min a b
    lesser a b le = omega (arith, le)

    greater_first : (a b : ℕ) → b ≤ a → b ≡ min a b
    greater_first a b le = omega (arith, le)

    greater : (a b : ℕ) → a ≤ b → b ≡ max a b
    greater a b le = omega (arith, le)

    lesser_last : (a b : ℕ) → b ≤ a → a ≡ max a b
    lesser_last a b le = omega (arith, le)

    low : {band : ℕ} → P band ⊎ Q band → min s.first t.first ≤ band
    low {band} (inl p) = let h = one.low band p in omega (arith, h)
    low {band} (inr q) = let h = two.low band q in omega (arith, h)

    high : {band : ℕ} → P band ⊎ Q band → band ≤ max s.last t.last
    high {band} (inl p) = let h = one.high band p in omega (arith, h)
    high {band} (inr q) = let h = two.high band q in omega (arith, h)

-- the same reads, said otherwise
pub range_as : (P Q : ℕ → Type 0) (s : BandRange) → ((band : ℕ) → P band → Q band) → ((band : ℕ) → Q band → P band) → IsRangeOf P s → IsRangeOf Q s
range_as P Q s to from is = record {
  first = to s.first is.first;
  last = to s.last is.last;
  low = λ band read. is.low band (from band read);
  high = λ band read. is.high band (from band read);
}

pub read_as : (P Q : ℕ → Type 0) (s : Option BandRange) → ((band : ℕ) → P band → Q band) → ((band : ℕ) → Q band → P band) → AreRead P s → AreRead Q s
read_as P Q None to from are = λ band read. are band (from band read)
read_as P Q (Some s) to from are = range_as P Q s to from are

widened_is : (P Q : ℕ → Type 0) (s : Option BandRange) (t : BandRange) → AreRead P s → IsRangeOf Q t → IsRangeOf (λ band. P band ⊎ Q band) (widened s t)
widened_is P Q None t none is = range_as Q (λ band. P band ⊎ Q band) t (λ band q. inr q) (λ band read. only band read) is
  where
    only : (band : ℕ) → P band ⊎ Q band → Q band
    only band (inl p) = absurd (none band p)
    only band (inr q) = q
widened_is P Q (Some s) t are is = both_are P Q s t are is

---- Places ----

abbrev BandOfPlace : Bool → Place → ℕ → Type 0
BandOfPlace ss at band = (y : ℕ) × ReadsRow at y × (band ≡ y / halved ss 64)

place_is : (ss : Bool) (at : Place) → 0 < at.rows → IsRangeOf (BandOfPlace ss at) (place_range (halved ss 64) at)
place_is ss at some = record {
  first = (first_place at.down, record { sample = 0; inside = some; tap = 0; few = omega arith; is = refl }, refl);
  last = (last_place at.down at.rows, record { sample = at.rows - 1; inside = omega (arith, some); tap = 7; few = omega arith; is = refl }, refl);
  low = λ band read. rw read.2 (bands_rise ss (first_place at.down) read.0 (rw read.1.is (place_order at.down 0 read.1.sample 0 read.1.tap (omega arith) (omega arith))));
  high = λ band read. rw read.2 (bands_rise ss read.0 (last_place at.down at.rows) (rw read.1.is
      (place_order at.down read.1.sample (at.rows - 1) read.1.tap 7 (let h = read.1.inside in omega (arith, h)) (let h = read.1.few in omega (arith, h)))));
}

---- Parts, planes and lists ----

some_rows : (ss_y ss_x below : Bool) (n count row all : ℕ) → 1 ≤ count → row < all → n < (if below then halved ss_y 2 * halved ss_x 2 else 1)
    → 0 < min (if below then 4 else halved ss_y (8 * count)) (halved ss_y (8 * all) - (halved ss_y (8 * row) + 4 * (n / halved ss_x 2)))
some_rows true true true n count row all some inside low = omega (arith, some, inside, low)
some_rows true false true n count row all some inside low = omega (arith, some, inside, low)
some_rows false true true n count row all some inside low = omega (arith, some, inside, low)
some_rows false false true n count row all some inside low = omega (arith, some, inside, low)
some_rows true true false n count row all some inside low = omega (arith, some, inside, low)
some_rows true false false n count row all some inside low = omega (arith, some, inside, low)
some_rows false true false n count row all some inside low = omega (arith, some, inside, low)
some_rows false false false n count row all some inside low = omega (arith, some, inside, low)

rows_of_part : (shape reference : Shape) (b : BlockInfo) (modes : InterPrediction) (list : ℕ) (p : Plane) (n : ℕ) → b.row < mi_rows shape → n < parts_of shape b.size p
    → 0 < (place_of shape b modes (part_in p n list) reference).rows
unfolding place_of
rows_of_part shape reference b modes list Y n inside low = some_rows false false (is_below_8x8 b.size) n (height_8 b.size) b.row (mi_rows shape) (omega arith) inside low
rows_of_part shape reference b modes list U n inside low = some_rows shape.ss_y shape.ss_x (is_below_8x8 b.size) n (height_8 b.size) b.row (mi_rows shape) (omega arith) inside low
rows_of_part shape reference b modes list V n inside low = some_rows shape.ss_y shape.ss_x (is_below_8x8 b.size) n (height_8 b.size) b.row (mi_rows shape) (omega arith) inside low

some_parts : (ss_y ss_x below : Bool) → 0 < (if below then halved ss_y 2 * halved ss_x 2 else 1)
some_parts true true true = omega arith
some_parts true false true = omega arith
some_parts false true true = omega arith
some_parts false false true = omega arith
some_parts true true false = omega arith
some_parts true false false = omega arith
some_parts false true false = omega arith
some_parts false false false = omega arith

module _ (shape reference : Shape) (b : BlockInfo) (modes : InterPrediction) (list : ℕ) (inside : b.row < mi_rows shape) where
  abbrev PartReads : Plane → ℕ → ℕ → Type 0
  PartReads p n band = BandOfPlace (is_subsampled reference p Down) (place_of shape b modes (part_in p n list) reference) band

  -- those of the first n parts, and of the first one
  abbrev PartsRead : Plane → ℕ → ℕ → Type 0
  PartsRead p n band = (k : ℕ) × ((k < n) ⊎ (k ≡ 0)) × PartReads p k band

  part_is : (p : Plane) (n : ℕ) → n < parts_of shape b.size p → IsRangeOf (PartReads p n) (part_range shape reference b modes (part_in p n list))
  part_is p n low = place_is (is_subsampled reference p Down) (place_of shape b modes (part_in p n list) reference) (rows_of_part shape reference b modes list p n inside low)

  parts_are : (p : Plane) (n : ℕ) → n ≤ parts_of shape b.size p
      → IsRangeOf (PartsRead p n) (fold (with_part shape reference b modes list p) (part_range shape reference b modes (part_in p 0 list)) (range_with_len 0 n))
  parts_are p zero few = range_as (PartReads p 0) (PartsRead p 0) _ (λ band read. (0, inr refl, read))
      (λ band read. subst (λ (k : ℕ). PartReads p k band) (first read.0 read.1) read.2)
      (part_is p 0 (some_parts (is_subsampled shape p Down) (is_subsampled shape p Across) (is_below_8x8 b.size)))
    where
      first : (k : ℕ) → (k < 0) ⊎ (k ≡ 0) → k ≡ 0
      first k (inl no') = absurd (omega (arith, no'))
      first k (inr is) = is
  parts_are p (suc n) few =
      let next : n + 1 ≡ suc n = omega arith in
      let start = part_range shape reference b modes (part_in p 0 list) in
      subst (λ (k : ℕ). IsRangeOf (PartsRead p k) (fold (with_part shape reference b modes list p) start (range_with_len 0 k))) next
      (subst (λ (s : BandRange). IsRangeOf (PartsRead p (n + 1)) s) (sym (fold_more (with_part shape reference b modes list p) start n))
      (range_as (λ band. PartsRead p n band ⊎ PartReads p n band) (PartsRead p (n + 1)) _ (λ band read. more band read) (λ band read. less band read.0 read.1 read.2)
      (both_are (PartsRead p n) (PartReads p n) _ _ (parts_are p n (omega (arith, few))) (part_is p n (omega (arith, few))))))
    where
      grown : (k : ℕ) → (k < n) ⊎ (k ≡ 0) → (k < n + 1) ⊎ (k ≡ 0)
      grown k (inl low) = inl (omega (arith, low))
      grown k (inr is) = inr is

      more : (band : ℕ) → PartsRead p n band ⊎ PartReads p n band → PartsRead p (n + 1) band
      more band (inl read) = (read.0, grown read.0 read.1, read.2)
      more band (inr read) = (n, inl (omega arith), read)

      less : (band k : ℕ) → (k < n + 1) ⊎ (k ≡ 0) → PartReads p k band → PartsRead p n band ⊎ PartReads p n band
      less band k (inr is) read = inl (k, inr is, read)
      less band k (inl low) read = elim (cases_lt k n) [
        | inl before ↦ inl (k, inl before, read)
        | inr last ↦ inr (subst (λ (j : ℕ). PartReads p j band) (omega (arith, low, last)) read)
      ]

  -- all parts of a plane
  abbrev PlaneReads : Plane → ℕ → Type 0
  PlaneReads p band = (y : ℕ) × ListReads shape reference b modes list p y × (band ≡ y / band_height reference p)

  plane_is : (p : Plane) → IsRangeOf (PlaneReads p) (plane_range shape reference b modes list p)
  unfolding plane_range
  plane_is p = range_as (PartsRead p (parts_of shape b.size p)) (PlaneReads p) _
      (λ band read. (read.2.0, record { number = read.0; one = one read.0 read.1; row = read.2.1 }, read.2.2))
      (λ band read. (read.1.number, inl read.1.one, (read.0, read.1.row, read.2)))
      (parts_are p (parts_of shape b.size p) (omega arith))
    where
      one : (k : ℕ) → (k < parts_of shape b.size p) ⊎ (k ≡ 0) → k < parts_of shape b.size p
      one k (inl low) = low
      one k (inr is) = let h = some_parts (is_subsampled shape p Down) (is_subsampled shape p Across) (is_below_8x8 b.size) in omega (arith, is, h)

  -- all planes
  abbrev AnyPlaneReads : ℕ → Type 0
  AnyPlaneReads band = (p : Plane) × PlaneReads p band

  pub list_is : IsRangeOf AnyPlaneReads (list_range shape reference b modes list)
  unfolding list_range
  list_is = range_as (λ band. (PlaneReads Y band ⊎ PlaneReads U band) ⊎ PlaneReads V band) AnyPlaneReads _ to (λ band read. from band read.0 read.1)
      (both_are (λ band. PlaneReads Y band ⊎ PlaneReads U band) (PlaneReads V) _ _ (both_are (PlaneReads Y) (PlaneReads U) _ _ (plane_is Y) (plane_is U)) (plane_is V))
    where
      to : (band : ℕ) → (PlaneReads Y band ⊎ PlaneReads U band) ⊎ PlaneReads V band → AnyPlaneReads band
      to band (inl (inl read)) = (Y, read)
      to band (inl (inr read)) = (U, read)
      to band (inr read) = (V, read)

      from : (band : ℕ) (p : Plane) → PlaneReads p band → (PlaneReads Y band ⊎ PlaneReads U band) ⊎ PlaneReads V band
      from band Y read = inl (inl read)
      from band U read = inl (inr read)
      from band V read = inr read

---- References ----

-- reads, and others where a fact holds
abbrev Also : (ℕ → Type 0) → Type 0 → (ℕ → Type 0) → ℕ → Type 0
Also P fact Q band = P band ⊎ (fact × Q band)

-- one range more, of reference r: what is read of reference q
with_range_is : (P : ℕ → Type 0) (n : BandNeeds) (r q : ReferenceFrame) (t : BandRange) (Q : ℕ → Type 0) → AreRead P (needs_at n q) → IsRangeOf Q t → AreRead (Also P (r ≡ q) Q) (needs_at (with_range n r t) q)
with_range_is P n Last Last t Q are is = range_as (λ band. P band ⊎ Q band) (Also P (Last ≡ Last) Q) (widened n.last t) (λ band read. also band read) (λ band read. plain band read) (widened_is P Q n.last t are is)
  where
    also : (band : ℕ) → P band ⊎ Q band → Also P (Last ≡ Last) Q band
    also band (inl p) = inl p
    also band (inr q) = inr (refl, q)

    plain : (band : ℕ) → Also P (Last ≡ Last) Q band → P band ⊎ Q band
    plain band (inl p) = inl p
    plain band (inr q) = inr q.1
with_range_is P n Last Golden t Q are is = read_as P (Also P (Last ≡ Golden) Q) n.golden (λ band read. inl read) (λ band read. other band read) are
  where
    different : Last ≡ Golden → ⊥
    different e = let no : ⊥ = cc in no

    other : (band : ℕ) → Also P (Last ≡ Golden) Q band → P band
    other band (inl p) = p
    other band (inr q) = absurd (different q.0)
with_range_is P n Last Altref t Q are is = read_as P (Also P (Last ≡ Altref) Q) n.altref (λ band read. inl read) (λ band read. other band read) are
  where
    different : Last ≡ Altref → ⊥
    different e = let no : ⊥ = cc in no

    other : (band : ℕ) → Also P (Last ≡ Altref) Q band → P band
    other band (inl p) = p
    other band (inr q) = absurd (different q.0)
with_range_is P n Golden Last t Q are is = read_as P (Also P (Golden ≡ Last) Q) n.last (λ band read. inl read) (λ band read. other band read) are
  where
    different : Golden ≡ Last → ⊥
    different e = let no : ⊥ = cc in no

    other : (band : ℕ) → Also P (Golden ≡ Last) Q band → P band
    other band (inl p) = p
    other band (inr q) = absurd (different q.0)
with_range_is P n Golden Golden t Q are is = range_as (λ band. P band ⊎ Q band) (Also P (Golden ≡ Golden) Q) (widened n.golden t) (λ band read. also band read) (λ band read. plain band read) (widened_is P Q n.golden t are is)
  where
    also : (band : ℕ) → P band ⊎ Q band → Also P (Golden ≡ Golden) Q band
    also band (inl p) = inl p
    also band (inr q) = inr (refl, q)

    plain : (band : ℕ) → Also P (Golden ≡ Golden) Q band → P band ⊎ Q band
    plain band (inl p) = inl p
    plain band (inr q) = inr q.1
with_range_is P n Golden Altref t Q are is = read_as P (Also P (Golden ≡ Altref) Q) n.altref (λ band read. inl read) (λ band read. other band read) are
  where
    different : Golden ≡ Altref → ⊥
    different e = let no : ⊥ = cc in no

    other : (band : ℕ) → Also P (Golden ≡ Altref) Q band → P band
    other band (inl p) = p
    other band (inr q) = absurd (different q.0)
with_range_is P n Altref Last t Q are is = read_as P (Also P (Altref ≡ Last) Q) n.last (λ band read. inl read) (λ band read. other band read) are
  where
    different : Altref ≡ Last → ⊥
    different e = let no : ⊥ = cc in no

    other : (band : ℕ) → Also P (Altref ≡ Last) Q band → P band
    other band (inl p) = p
    other band (inr q) = absurd (different q.0)
with_range_is P n Altref Golden t Q are is = read_as P (Also P (Altref ≡ Golden) Q) n.golden (λ band read. inl read) (λ band read. other band read) are
  where
    different : Altref ≡ Golden → ⊥
    different e = let no : ⊥ = cc in no

    other : (band : ℕ) → Also P (Altref ≡ Golden) Q band → P band
    other band (inl p) = p
    other band (inr q) = absurd (different q.0)
with_range_is P n Altref Altref t Q are is = range_as (λ band. P band ⊎ Q band) (Also P (Altref ≡ Altref) Q) (widened n.altref t) (λ band read. also band read) (λ band read. plain band read) (widened_is P Q n.altref t are is)
  where
    also : (band : ℕ) → P band ⊎ Q band → Also P (Altref ≡ Altref) Q band
    also band (inl p) = inl p
    also band (inr q) = inr (refl, q)

    plain : (band : ℕ) → Also P (Altref ≡ Altref) Q band → P band ⊎ Q band
    plain band (inl p) = inl p
    plain band (inr q) = inr q.1

module _ (shape : Shape) (references : ReferenceFrame → Shape) where
  -- what a list of vectors for a reference reads
  abbrev ListReadsBand : BlockInfo → InterPrediction → ℕ → ReferenceFrame → ℕ → Type 0
  ListReadsBand b modes list r band = (p : Plane) × ((y : ℕ) × ListReads shape (references r) b modes list p y × (band ≡ y / band_height (references r) p))

  abbrev BandReadsBy : BlockInfo → Prediction → ReferenceFrame → ℕ → Type 0
  BandReadsBy b prediction r band = (p : Plane) × (y : ℕ) × ReadsBy shape references b prediction r p y × (band ≡ y / band_height (references r) p)

  list_reads : (b : BlockInfo) (modes : InterPrediction) (list : ℕ) (r : ReferenceFrame) → b.row < mi_rows shape
      → IsRangeOf (ListReadsBand b modes list r) (list_range shape (references r) b modes list)
  list_reads b modes list r inside = list_is shape (references r) b modes list inside

  second_is : (P : ℕ → Type 0) (n : BandNeeds) (b : BlockInfo) (modes : InterPrediction) (second : Option ReferenceFrame) (q : ReferenceFrame) → b.row < mi_rows shape → AreRead P (needs_at n q)
      → AreRead (λ band. P band ⊎ ((second ≡ Some q) × ListReadsBand b modes 1 q band)) (needs_at (with_second shape references b modes second n) q)
  second_is P n b modes None q inside are = read_as P (λ band. P band ⊎ ((None ≡ Some q) × ListReadsBand b modes 1 q band)) (needs_at n q) (λ band p. inl p) (λ band read. before band read) are
    where
      none : None ≡ Some q → ⊥
      none e = let no : ⊥ = cc in no

      before : (band : ℕ) → P band ⊎ ((None ≡ Some q) × ListReadsBand b modes 1 q band) → P band
      before band (inl p) = p
      before band (inr read) = absurd (none read.0)
  second_is P n b modes (Some r) q inside are =
      read_as (Also P (r ≡ q) (ListReadsBand b modes 1 r)) (λ band. P band ⊎ ((Some r ≡ Some q) × ListReadsBand b modes 1 q band)) _ (λ band read. to band read) (λ band read. from band read)
      (with_range_is P n r q (list_range shape (references r) b modes 1) (ListReadsBand b modes 1 r) are (list_reads b modes 1 r inside))
    where
      to : (band : ℕ) → Also P (r ≡ q) (ListReadsBand b modes 1 r) band → P band ⊎ ((Some r ≡ Some q) × ListReadsBand b modes 1 q band)
      to band (inl p) = inl p
      to band (inr read) = inr (ap (λ z. Some z) read.0, subst (λ (z : ReferenceFrame). ListReadsBand b modes 1 z band) read.0 read.1)

      from : (band : ℕ) → P band ⊎ ((Some r ≡ Some q) × ListReadsBand b modes 1 q band) → Also P (r ≡ q) (ListReadsBand b modes 1 r) band
      from band (inl p) = inl p
      from band (inr read) = let same : r ≡ q = same_Some r q read.0 in inr (same, subst (λ (z : ReferenceFrame). ListReadsBand b modes 1 z band) (sym same) read.1)

  block_is_by : (P : ℕ → Type 0) (n : BandNeeds) (b : BlockInfo) (prediction : Prediction) (q : ReferenceFrame) → b.row < mi_rows shape → AreRead P (needs_at n q)
      → AreRead (λ band. P band ⊎ BandReadsBy b prediction q band) (needs_at (with_prediction shape references b n prediction) q)
  block_is_by P n b (Intra modes) q inside are = read_as P (λ band. P band ⊎ BandReadsBy b (Intra modes) q band) (needs_at n q) (λ band p. inl p) (λ band read. before band read) are
    where
      before : (band : ℕ) → P band ⊎ BandReadsBy b (Intra modes) q band → P band
      before band (inl p) = p
      before band (inr read) = absurd read.2
  block_is_by P n b (Inter modes) q inside are =
      let f = modes.references.first in
      let one = with_range_is P n f q (list_range shape (references f) b modes 0) (ListReadsBand b modes 0 f) are (list_reads b modes 0 f inside) in
      read_as (λ band. Also P (f ≡ q) (ListReadsBand b modes 0 f) band ⊎ ((modes.references.second ≡ Some q) × ListReadsBand b modes 1 q band)) (λ band. P band ⊎ BandReadsBy b (Inter modes) q band) _
      (λ band read. to band read) (λ band read. from band read)
      (second_is (Also P (f ≡ q) (ListReadsBand b modes 0 f)) (with_range n f (list_range shape (references f) b modes 0)) b modes modes.references.second q inside one)
    where
      to : (band : ℕ) → Also P (modes.references.first ≡ q) (ListReadsBand b modes 0 modes.references.first) band ⊎ ((modes.references.second ≡ Some q) × ListReadsBand b modes 1 q band)
          → P band ⊎ BandReadsBy b (Inter modes) q band
      to band (inl (inl p)) = inl p
      to band (inl (inr read)) = let r = subst (λ (z : ReferenceFrame). ListReadsBand b modes 0 z band) read.0 read.1 in inr (r.0, r.1.0, inl (read.0, r.1.1), r.1.2)
      to band (inr read) = let r = read.1 in inr (r.0, r.1.0, inr (read.0, r.1.1), r.1.2)

      by_list : (band : ℕ) (p : Plane) (y : ℕ) → ReadsBy shape references b (Inter modes) q p y → band ≡ y / band_height (references q) p
          → Also P (modes.references.first ≡ q) (ListReadsBand b modes 0 modes.references.first) band ⊎ ((modes.references.second ≡ Some q) × ListReadsBand b modes 1 q band)
      by_list band p y (inl read) is = inl (inr (read.0, subst (λ (z : ReferenceFrame). ListReadsBand b modes 0 z band) (sym read.0) (p, (y, read.1, is))))
      by_list band p y (inr read) is = inr (read.0, (p, (y, read.1, is)))

      from : (band : ℕ) → P band ⊎ BandReadsBy b (Inter modes) q band
          → Also P (modes.references.first ≡ q) (ListReadsBand b modes 0 modes.references.first) band ⊎ ((modes.references.second ≡ Some q) × ListReadsBand b modes 1 q band)
      from band (inl p) = inl (inl p)
      from band (inr read) = by_list band read.0 read.1 read.2 read.3

  block_is : (P : ℕ → Type 0) (n : BandNeeds) (b : BlockInfo) (q : ReferenceFrame) → b.row < mi_rows shape → AreRead P (needs_at n q)
      → AreRead (λ band. P band ⊎ ReadsBand shape references b q band) (needs_at (with_block shape references n b) q)
  unfolding with_block
  block_is P n b q inside are = read_as (λ band. P band ⊎ BandReadsBy b b.prediction q band) (λ band. P band ⊎ ReadsBand shape references b q band) _ (λ band read. to band read) (λ band read. from band read)
      (block_is_by P n b b.prediction q inside are)
    where
      to : (band : ℕ) → P band ⊎ BandReadsBy b b.prediction q band → P band ⊎ ReadsBand shape references b q band
      to band (inl p) = inl p
      to band (inr read) = inr (record { plane = read.0; row = read.1; reads = read.2; is = read.3 })

      from : (band : ℕ) → P band ⊎ ReadsBand shape references b q band → P band ⊎ BandReadsBy b b.prediction q band
      from band (inl p) = inl p
      from band (inr read) = inr (read.plane, read.row, read.reads, read.is)

  ---- Blocks ----

  AnyReads : List BlockInfo → ReferenceFrame → ℕ → Type 0
  AnyReads [] q band = ⊥
  AnyReads (b ∷ blocks) q band = ReadsBand shape references b q band ⊎ AnyReads blocks q band

  blocks_are : (P : ℕ → Type 0) (n : BandNeeds) (blocks : List BlockInfo) (q : ReferenceFrame) → All (λ b. b.row < mi_rows shape) blocks → AreRead P (needs_at n q)
      → AreRead (λ band. P band ⊎ AnyReads blocks q band) (needs_at (fold (with_block shape references) n blocks) q)
  unfolding AnyReads
  blocks_are P n [] q inside are = read_as P (λ band. P band ⊎ ⊥) (needs_at n q) (λ band p. inl p) (λ band read. before band read) are
    where
      before : (band : ℕ) → P band ⊎ ⊥ → P band
      before band (inl p) = p
      before band (inr no') = absurd no'
  blocks_are P n (b ∷ blocks) q inside are =
      read_as (λ band. (P band ⊎ ReadsBand shape references b q band) ⊎ AnyReads blocks q band) (λ band. P band ⊎ (ReadsBand shape references b q band ⊎ AnyReads blocks q band)) _
      (λ band read. to band read) (λ band read. from band read)
      (blocks_are (λ band. P band ⊎ ReadsBand shape references b q band) (with_block shape references n b) blocks q (All-tail (λ b. b.row < mi_rows shape) b blocks inside)
      (block_is P n b q (All-head (λ b. b.row < mi_rows shape) b blocks inside) are))
    where
      to : (band : ℕ) → (P band ⊎ ReadsBand shape references b q band) ⊎ AnyReads blocks q band → P band ⊎ (ReadsBand shape references b q band ⊎ AnyReads blocks q band)
      to band (inl (inl p)) = inl p
      to band (inl (inr read)) = inr (inl read)
      to band (inr read) = inr (inr read)

      from : (band : ℕ) → P band ⊎ (ReadsBand shape references b q band ⊎ AnyReads blocks q band) → (P band ⊎ ReadsBand shape references b q band) ⊎ AnyReads blocks q band
      from band (inl p) = inl (inl p)
      from band (inr (inl read)) = inl (inr read)
      from band (inr (inr read)) = inr read

  numbered : (blocks : List BlockInfo) (q : ReferenceFrame) (band : ℕ) → AnyReads blocks q band → BlocksRead shape references blocks (length blocks) q band
  unfolding AnyReads
  numbered [] q band read = absurd read
  numbered (b ∷ blocks) q band (inl read) = record { block = 0; one = omega arith; reads = λ d. read }
  numbered (b ∷ blocks) q band (inr read) = let r = numbered blocks q band read in record { block = suc r.block; one = let h = r.one in omega (arith, h); reads = λ d. r.reads d }

  one_of : (blocks : List BlockInfo) (q : ReferenceFrame) (band k : ℕ) → k < length blocks → ((d : BlockInfo) → ReadsBand shape references (slice_index_or blocks k d) q band) → AnyReads blocks q band
  unfolding AnyReads
  one_of [] q band k low reads = absurd (none k low)
    where
      none : (k : ℕ) → k < 0 → ⊥
      none k low = omega arith
  one_of (b ∷ blocks) q band zero low reads = inl (reads b)
  one_of (b ∷ blocks) q band (suc k) low reads = inr (one_of blocks q band k (omega (arith, low)) (λ d. reads d))

  nothing_read : (q : ReferenceFrame) → AreRead (λ band. ⊥) (needs_at no_needs q)
  nothing_read Last = λ band no'. no'
  nothing_read Golden = λ band no'. no'
  nothing_read Altref = λ band no'. no'

  pub needs_are : (blocks : List BlockInfo) (q : ReferenceFrame) → All (λ b. b.row < mi_rows shape) blocks
      → AreRead (BlocksRead shape references blocks (length blocks) q) (needs_at (needs_of shape references blocks) q)
  unfolding needs_of
  needs_are blocks q inside = read_as (λ band. ⊥ ⊎ AnyReads blocks q band) (BlocksRead shape references blocks (length blocks) q) _ (λ band read. to band read)
      (λ band read. inr (one_of blocks q band read.block read.one read.reads))
      (blocks_are (λ band. ⊥) no_needs blocks q inside (nothing_read q))
    where
      to : (band : ℕ) → ⊥ ⊎ AnyReads blocks q band → BlocksRead shape references blocks (length blocks) q band
      to band (inl no') = absurd no'
      to band (inr read) = numbered blocks q band read

  ---- Rows that are enough ----

  between : (Read : ℕ → Type 0) (s : Option BandRange) → AreRead Read s → (a b c : ℕ) → Read a → Read c → a ≤ b → b ≤ c → HasBand s b
  between Read None none a b c first last low high = none a first
  between Read (Some s) is a b c first last low high =
      let lowest = is.low a first in
      let highest = is.high c last in
      (omega (arith, lowest, low), omega (arith, highest, high))

  abbrev AllReads : List BlockInfo → ReferenceFrame → ℕ → Type 0
  AllReads blocks r band = BlocksRead shape references blocks (length blocks) r band

  list_lies : (blocks : List BlockInfo) (r : ReferenceFrame) (k : ℕ) (b : BlockInfo) (modes : InterPrediction) (list : ℕ) → All (λ b. b.row < mi_rows shape) blocks → k < length blocks
      → ((d : BlockInfo) → slice_index_or blocks k d ≡ b)
      → ((p : Plane) (y : ℕ) → ListReads shape (references r) b modes list p y → Reads shape references b r p y)
      → ListLiesIn shape (references r) b modes list (needs_at (needs_of shape references blocks) r)
  list_lies blocks r k b modes list inside low at reads p n few y first last =
      let place' = place_of shape b modes (part_in p n list) (references r) in
      let ss = is_subsampled (references r) p Down in
      let in_frame : b.row < mi_rows shape = subst (λ (z : BlockInfo). z.row < mi_rows shape) (at b) (inside k b low) in
      let some = rows_of_part shape (references r) b modes list p n in_frame few in
      let range = place_is ss place' some in
      between (AllReads blocks r) (needs_at (needs_of shape references blocks) r) (needs_are blocks r inside)
      (first_place place'.down / halved ss 64) (y / halved ss 64) (last_place place'.down place'.rows / halved ss 64)
      (read_of (first_place place'.down / halved ss 64) range.first) (read_of (last_place place'.down place'.rows / halved ss 64) range.last)
      (bands_rise ss (first_place place'.down) y first) (bands_rise ss y (last_place place'.down place'.rows) last)
    where
      read_of : (band : ℕ) → BandOfPlace (is_subsampled (references r) p Down) (place_of shape b modes (part_in p n list) (references r)) band → AllReads blocks r band
      read_of band read = record {
        block = k;
        one = low;
        reads = λ d. subst (λ (z : BlockInfo). ReadsBand shape references z r band) (sym (at d)) (record {
          plane = p;
          row = read.0;
          reads = reads p read.0 (record { number = n; one = few; row = read.1 });
          is = read.2;
        });
      }

  second_lies : (blocks : List BlockInfo) (k : ℕ) (b : BlockInfo) (modes : InterPrediction) (second : Option ReferenceFrame) → All (λ b. b.row < mi_rows shape) blocks → k < length blocks
      → ((d : BlockInfo) → slice_index_or blocks k d ≡ b) → b.prediction ≡ Inter modes → modes.references.second ≡ second
      → IfSome second (λ r. ListLiesIn shape (references r) b modes 1 (needs_at (needs_of shape references blocks) r))
  second_lies blocks k b modes None inside low at is same = tt
  second_lies blocks k b modes (Some r) inside low at is same =
      list_lies blocks r k b modes 1 inside low at (λ p y read. subst (λ (z : Prediction). ReadsBy shape references b z r p y) (sym is) (inr (same, read)))

  lies_by : (blocks : List BlockInfo) (k : ℕ) (b : BlockInfo) (prediction : Prediction) → All (λ b. b.row < mi_rows shape) blocks → k < length blocks
      → ((d : BlockInfo) → slice_index_or blocks k d ≡ b) → b.prediction ≡ prediction → BlockLiesIn shape references b prediction (needs_at (needs_of shape references blocks))
  lies_by blocks k b (Intra modes) inside low at is = tt
  lies_by blocks k b (Inter modes) inside low at is = (
    list_lies blocks modes.references.first k b modes 0 inside low at (λ p y read. subst (λ (z : Prediction). ReadsBy shape references b z modes.references.first p y) (sym is) (inl (refl, read))),
    second_lies blocks k b modes modes.references.second inside low at is refl,
  )

  pub block_lies : (blocks : List BlockInfo) → All (λ b. b.row < mi_rows shape) blocks
      → All (λ b. BlockLiesIn shape references b b.prediction (needs_at (needs_of shape references blocks))) blocks
  block_lies blocks inside = λ k d low. lies_by blocks k (slice_index_or blocks k d) (slice_index_or blocks k d).prediction inside low (λ e. same_at blocks k d e low) refl
    where
      same_at : (xs : List BlockInfo) (k : ℕ) (d e : BlockInfo) → k < length xs → slice_index_or xs k e ≡ slice_index_or xs k d
      same_at [] k d e low = absurd (none k low)
        where
          none : (k : ℕ) → k < 0 → ⊥
          none k low = omega arith
      same_at (x ∷ xs) zero d e low = refl
      same_at (x ∷ xs) (suc k) d e low = same_at xs k d e (omega (arith, low))
