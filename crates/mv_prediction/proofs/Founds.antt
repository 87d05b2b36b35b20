-- The first two vectors of a list that differ, part by part.
use Rattle.std.proofs.Common.{◌≡◌, ℕ, ◌+◌, ◌++◌, ◌∷◌, [], ◌∙◌, Bool, true, false, List, refl, sym, ap, arith, append-nil, zero, suc}
use Rattle.std.specs.List.{flat_map, range_with_len}
use Rattle.std.proofs.lemmas.Grind.{flat_map-append}
use Rattle.std.proofs.lemmas.List.Sums.{fold-append}
use Rattle.std.proofs.lemmas.List.Folds.{fold_stays}
use Rattle.std.proofs.lemmas.List.FromFn.{map-range_with_len_more}
use Rattle.std.proofs.lemmas.List.{map-id}
use Rattle.block_plan.specs.declared.block.Mv.{Mv}
use Rattle.mv_prediction.specs.Candidates.{first_two, other_than}
use Rattle.mv_prediction.specs.Code.{with_vector, with_vectors, with_places, vectors_in, is_full}
use Rattle.mv_prediction.specs.Vectors.{same_vector}
use Rattle.mv_prediction.specs.declared.found.Found.{Found}
use Rattle.mv_prediction.specs.declared.found.Found.TheVariants.{Nothing, One, Two}

pub with_none : (found : Found) → with_vectors found [] ≡ found
unfolding with_vectors
with_none found = refl

pub both_parts : (found : Found) (xs ys : List Mv) → with_vectors (with_vectors found xs) ys ≡ with_vectors found (xs ++ ys)
unfolding with_vectors
both_parts found xs ys = sym (fold-append with_vector found xs ys)

-- two are enough
pub full_stays : (u w : Mv) (vs : List Mv) → with_vectors (Two u w) vs ≡ Two u w
unfolding with_vectors
full_stays u w vs = fold_stays with_vector (Two u w) (λ v. refl) vs

chosen : (u v : Mv) (vs : List Mv) (same : Bool) → same_vector u v ≡ same → vectors_in (with_vectors (One u) vs) ≡ u ∷ other_than u vs ∷ []
    → vectors_in (with_vectors (One u) (v ∷ vs)) ≡ u ∷ other_than u (v ∷ vs) ∷ []
unfolding with_vectors
chosen u v vs true is rest = rw is rest
chosen u v vs false is rest = rw is (ap vectors_in (full_stays u v vs))

after_one : (u : Mv) (vs : List Mv) → vectors_in (with_vectors (One u) vs) ≡ u ∷ other_than u vs ∷ []
unfolding with_vectors
after_one u [] = refl
after_one u (v ∷ vs) = chosen u v vs (same_vector u v) refl (after_one u vs)

pub first_two_are_found : (vs : List Mv) → vectors_in (with_vectors Nothing vs) ≡ first_two vs
unfolding with_vectors
first_two_are_found [] = refl
first_two_are_found (v ∷ vs) = after_one v vs

one_more : (from n : ℕ) → range_with_len from (n + 1) ≡ range_with_len from n ++ (from + n) ∷ []
one_more from n = simp map-id at (map-range_with_len_more (λ (x : ℕ). x) from n (from + n) refl)

-- a place more
pub places_more : (f : ℕ → List Mv) (found : Found) (from n k m : ℕ) → k ≡ from + n → m ≡ n + 1
    → with_vectors (with_places f found from n) (f k) ≡ with_places f found from m
unfolding with_places
places_more f found from n k m is more =
    rw (more, is) (both_parts found (flat_map f (range_with_len from n)) (f (from + n))
    ∙ ap (with_vectors found) (rw one_more (sym (flat_map-append f (range_with_len from n) ((from + n) ∷ []) ∙ ap (λ vs. flat_map f (range_with_len from n) ++ vs) (append-nil (f (from + n)))))))

pub no_places : (f : ℕ → List Mv) (found : Found) (from n : ℕ) → n ≡ 0 → found ≡ with_places f found from n
unfolding with_places
no_places f found from n none = rw none (sym (with_none found))

pub two_places : (f : ℕ → List Mv) (found : Found) → with_vectors (with_vectors found (f 0)) (f 1) ≡ with_places f found 0 2
unfolding with_places
two_places f found = both_parts found (f 0) (f 1) ∙ ap (λ vs. with_vectors found (f 0 ++ vs)) (sym (append-nil (f 1)))

pub full_is_all : (found : Found) (vs : List Mv) → is_full found ≡ true → found ≡ with_vectors found vs
full_is_all Nothing vs full = cc
full_is_all (One u) vs full = cc
full_is_all (Two u w) vs full = sym (full_stays u w vs)

-- where two are found, further places change nothing
pub full_places : (f : ℕ → List Mv) (found all : Found) (from n m k : ℕ) → n + k ≡ m → all ≡ with_places f found from n → is_full all ≡ true
    → all ≡ with_places f found from m
full_places f found all from n m zero more is full = let end : n ≡ m = omega arith in is ∙ ap (λ (x : ℕ). with_places f found from x) end
full_places f found all from n m (suc k) more is full =
    let next : all ≡ with_places f found from (n + 1) =
    full_is_all all (f (from + n)) full ∙ (ap (λ g. with_vectors g (f (from + n))) is ∙ places_more f found from n (from + n) (n + 1) refl refl) in
    full_places f found all from (n + 1) m k (omega arith) next full

-- parts of a list, one after another
pub part_more : (start found next : Found) (xs ys : List Mv) → found ≡ with_vectors start xs → next ≡ with_vectors found ys → next ≡ with_vectors start (xs ++ ys)
part_more start found next xs ys is more = more ∙ (ap (λ f. with_vectors f ys) is ∙ both_parts start xs ys)

-- where two are found after a part, the rest changes nothing
pub part_full : (start found : Found) (xs ys : List Mv) → found ≡ with_vectors start xs → is_full found ≡ true → found ≡ with_vectors start (xs ++ ys)
part_full start found xs ys is full = part_more start found found xs ys is (full_is_all found ys full)

three_parts : (a b c : List Mv) (f0 f1 f2 : Found) → f0 ≡ with_vectors Nothing a → f1 ≡ with_vectors f0 b → f2 ≡ with_vectors f1 c → f2 ≡ with_vectors Nothing (a ++ b ++ c)
three_parts a b c f0 f1 f2 i0 i1 i2 = part_more Nothing f1 f2 (a ++ b) c (part_more Nothing f0 f1 a b i0 i1) i2

pub all_parts : (a b c d e : List Mv) (f0 f1 f2 f3 f4 : Found) → f0 ≡ with_vectors Nothing a → f1 ≡ with_vectors f0 b → f2 ≡ with_vectors f1 c → f3 ≡ with_vectors f2 d
    → f4 ≡ with_vectors f3 e → f4 ≡ with_vectors Nothing (a ++ b ++ c ++ d ++ e)
all_parts a b c d e f0 f1 f2 f3 f4 i0 i1 i2 i3 i4 =
    part_more Nothing f3 f4 (a ++ b ++ c ++ d) e (part_more Nothing f2 f3 (a ++ b ++ c) d (three_parts a b c f0 f1 f2 i0 i1 i2) i3) i4

-- where two are found after three parts, after two or after one
pub three_parts_full : (a b c d e : List Mv) (f0 f1 f2 : Found) → f0 ≡ with_vectors Nothing a → f1 ≡ with_vectors f0 b → f2 ≡ with_vectors f1 c → is_full f2 ≡ true
    → f2 ≡ with_vectors Nothing (a ++ b ++ c ++ d ++ e)
three_parts_full a b c d e f0 f1 f2 i0 i1 i2 full =
    part_full Nothing f2 (a ++ b ++ c ++ d) e (part_full Nothing f2 (a ++ b ++ c) d (three_parts a b c f0 f1 f2 i0 i1 i2) full) full

pub two_parts_full : (a b c d e : List Mv) (f0 f1 : Found) → f0 ≡ with_vectors Nothing a → f1 ≡ with_vectors f0 b → is_full f1 ≡ true
    → f1 ≡ with_vectors Nothing (a ++ b ++ c ++ d ++ e)
two_parts_full a b c d e f0 f1 i0 i1 full = three_parts_full a b c d e f0 f1 f1 i0 i1 (full_is_all f1 c full) full

pub one_part_full : (a b c d e : List Mv) (f0 : Found) → f0 ≡ with_vectors Nothing a → is_full f0 ≡ true → f0 ≡ with_vectors Nothing (a ++ b ++ c ++ d ++ e)
one_part_full a b c d e f0 i0 full = three_parts_full a b c d e f0 f0 f0 i0 (full_is_all f0 b full) (full_is_all f0 c full) full
