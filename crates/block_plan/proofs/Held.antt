-- Residues that the code holds one after another.
use Rattle.std.proofs.Common.{◌≡◌, ◌<◌, ◌≤◌, ◌+◌, ◌*◌, ◌-◌, ◌++◌, ◌∷◌, [], ℕ, ℤ, ◌∙◌, refl, sym, ap, arith, Bool, false, List, length, get_or, take, drop, map, set, zero, suc}
use borrow.Rule.Slice.PartMut.{put_mid}
use Rattle.std.specs.Prelude.{None}
use Rattle.std.specs.List.{range_with_len}
use Rattle.std.proofs.Math.Nat.{mul-le-mul_right}
use Rattle.std.proofs.lemmas.Slice.{take-put_mid_below, between-put_mid}
use Rattle.std.proofs.lemmas.List.{drop-take, get_or-set_same, get_or-set_other, same_lists, length-map, get_or-map}
use Rattle.std.proofs.lemmas.List.FromFn.{map-range_with_len_more, length-map-range_with_len, get_or-map-range_with_len}
use Rattle.block_geometry.specs.TransformBlocks.{place_at}
use Rattle.block_geometry.specs.declared.transform_blocks.TransformPlace.{TransformPlace}
use Rattle.block_plan.specs.Code.{residue_if, held_at, residues_held}
use Rattle.block_plan.specs.Planned.{Residue}

zero_plus : (k : ℕ) → 0 + k ≡ k
zero_plus k = omega arith

pub one_long : (a long : ℕ) → a + long - a ≡ long
one_long a long = omega arith

pub part_is : (values : List ℤ) (k long area : ℕ) → long ≡ area → take (k * long + long - k * long) (drop (k * long) values) ≡ take area (drop (k * area) values)
part_is values k long area is = rw (sym is, one_long (k * long) long) refl

pub held_more : (ats : List TransformPlace) (area : ℕ) (some : List Bool) (values : List ℤ) (k : ℕ)
    → residues_held ats area some values (k + 1) ≡ residues_held ats area some values k ++ held_at ats area some values k ∷ []
unfolding residues_held
held_more ats area some values k = map-range_with_len_more (held_at ats area some values) 0 k k (zero_plus k)

pub mapped_range : {X : Type 0} (f g : ℕ → X) (a n : ℕ) → ((k : ℕ) → a ≤ k → k < a + n → f k ≡ g k) → map f (range_with_len a n) ≡ map g (range_with_len a n)
mapped_range f g a zero same = refl
mapped_range f g a (suc n) same =
    ap (λ x. x ∷ map f (range_with_len (a + 1) n)) (same a (omega arith) (omega arith))
    ∙ ap (λ l. g a ∷ l) (mapped_range f g (a + 1) n (λ k low high. same k (omega arith) (omega arith)))

before : (j k area : ℕ) → j < k → j * area + area ≤ k * area
before j k area low =
    let whole : (j + 1) * area ≤ k * area = mul-le-mul_right area low_next in omega (arith, whole, split)
  where
    low_next : j + 1 ≤ k
    low_next = omega arith

    split : (j + 1) * area ≡ j * area + area
    split = grind arith

-- the values of a transform block more
kept_part : (values new : List ℤ) (j k area : ℕ) → j < k → k * area ≤ length values
    → take area (drop (j * area) (put_mid (k * area) area values new)) ≡ take area (drop (j * area) values)
kept_part values new j k area low long =
    sym (drop-take (j * area) area (put_mid (k * area) area values new))
    ∙ (ap (drop (j * area)) (take-put_mid_below (k * area) area values new (j * area + area) (before j k area low) long)
    ∙ drop-take (j * area) area values)

new_part : (values new : List ℤ) (k area : ℕ) → k * area ≤ length values → length new ≡ area → take area (drop (k * area) (put_mid (k * area) area values new)) ≡ new
new_part values new k area long size =
    ap (λ n. take n (drop (k * area) (put_mid (k * area) area values new))) (sym (one_long (k * area) area))
    ∙ between-put_mid (k * area) area values new (k * area + area) long (size ∙ sym (one_long (k * area) area))

pub held_next : (ats : List TransformPlace) (area : ℕ) (some : List Bool) (values new : List ℤ) (v : Bool) (k : ℕ) → k < length some → k * area ≤ length values → length new ≡ area
    → residues_held ats area (set some k v) (put_mid (k * area) area values new) (k + 1) ≡ residues_held ats area some values k ++ (get_or ats k (place_at 0 0), residue_if v new) ∷ []
unfolding residues_held
held_next ats area some values new v k low long size =
    let some' = set some k v in
    let values' = put_mid (k * area) area values new in
    held_more ats area some' values' k
    ∙ (ap (λ l. l ++ held_at ats area some' values' k ∷ []) (mapped_range (held_at ats area some' values') (held_at ats area some values) 0 k
    (λ j a b. λ i. (get_or ats j (place_at 0 0), residue_if (get_or-set_other some k j v false (λ is. omega (arith, is, b)) i) (kept_part values new j k area (omega (arith, b)) long i))))
    ∙ (λ i. residues_held ats area some values k ++ (get_or ats k (place_at 0 0), residue_if (get_or-set_same some k v false low i) (new_part values new k area long size i)) ∷ []))

-- of no values there is none
pub held_none : (ats : List TransformPlace) (area : ℕ) (some : List Bool) (values : List ℤ) → ((k : ℕ) → get_or some k false ≡ false)
    → residues_held ats area some values (length ats) ≡ map (λ at. (at, None)) ats
unfolding residues_held
held_none ats area some values none =
    let none_at : TransformPlace → TransformPlace × Residue = λ at. (at, None) in
    let long = length-map-range_with_len (held_at ats area some values) 0 (length ats) in
    same_lists (map (held_at ats area some values) (range_with_len 0 (length ats))) (map none_at ats) (long ∙ sym (length-map ats none_at))
    (λ k d low. let lt : k < length ats = rw long at low in
    get_or-map-range_with_len (held_at ats area some values) 0 (length ats) k k d lt (omega arith)
    ∙ (ap (λ (v : Bool). (get_or ats k (place_at 0 0), residue_if v (take area (drop (k * area) values)))) (none k) ∙ sym (get_or-map none_at ats k (place_at 0 0) d lt)))

pub length_held : (ats : List TransformPlace) (area : ℕ) (some : List Bool) (values : List ℤ) (n : ℕ) → length (residues_held ats area some values n) ≡ n
unfolding residues_held
length_held ats area some values n = length-map-range_with_len (held_at ats area some values) 0 n

-- the k-th of them
pub held_is : (ats : List TransformPlace) (area : ℕ) (some : List Bool) (values : List ℤ) (n k : ℕ) (d : TransformPlace × Residue) → k < n → get_or (residues_held ats area some values n) k d ≡ held_at ats area some values k
unfolding residues_held
held_is ats area some values n k d low = get_or-map-range_with_len (held_at ats area some values) 0 n k k d low (omega arith)
