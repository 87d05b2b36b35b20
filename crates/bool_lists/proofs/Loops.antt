-- A loop that puts a list, element by element.
use Rattle.std.proofs.Common.{◌≡◌, ℕ, ◌+◌, ◌<◌, ◌≤◌, List, [], ◌∷◌, ◌++◌, length, get_or, take, sym, ap, subst, ◌∙◌, arith}
use Rattle.std.proofs.lemmas.List.{append-nil, take_more, take_all}
use Rattle.std.specs.Prelude.{flat_map, zip}
use Rattle.std.proofs.lemmas.List.Concat.{flat_map-append}
use Rattle.std.proofs.lemmas.Slice.Zip.{length-zip, get_or-zip}
use Rattle.bool_encoder.specs.Part.{NumberPart}
use Rattle.bool_lists.specs.BoolLists.{BoolList, HasPut}
use Rattle.bool_lists.proofs.Ways.{spells_on, spells_none}

pub each_spelled_none : {A : Type 0} (s : A → BoolList) (xs : List A) (old : NumberPart) → HasPut old (flat_map s (take 0 xs)) old
each_spelled_none s xs old = spells_none old

pub each_spelled : {A : Type 0} (s : A → BoolList) (xs : List A) (i : ℕ) (d : A) (old now next : NumberPart) → i < length xs → HasPut old (flat_map s (take i xs)) now
    → HasPut now (s (get_or xs i d)) next → HasPut old (flat_map s (take (i + 1) xs)) next
each_spelled s xs i d old now next there h g =
    let last : flat_map s (get_or xs i d ∷ []) ≡ s (get_or xs i d) = append-nil (s (get_or xs i d)) in
    let all : flat_map s (take (i + 1) xs) ≡ flat_map s (take i xs) ++ s (get_or xs i d) =
    ap (flat_map s) (take_more xs i d there) ∙ flat_map-append s (take i xs) (get_or xs i d ∷ []) ∙ ap (λ bools. flat_map s (take i xs) ++ bools) last in
    subst (λ bools. HasPut old bools next) (sym all) (spells_on old now next (flat_map s (take i xs)) (s (get_or xs i d)) g h)

pub each_spelled_all : {A : Type 0} (s : A → BoolList) (xs : List A) (i : ℕ) (old now : NumberPart) → length xs ≤ i → HasPut old (flat_map s (take i xs)) now → HasPut old (flat_map s xs) now
each_spelled_all s xs i old now there h = subst (λ front. HasPut old (flat_map s front) now) (take_all i xs there) h

-- two lists, place by place
abbrev pub PairsPut : (ℕ × ℕ → BoolList) → List ℕ → List ℕ → ℕ → NumberPart → NumberPart → Type 0
PairsPut s xs ys i old now = HasPut old (flat_map s (take i (zip xs ys))) now

pub pairs_on : (s : ℕ × ℕ → BoolList) (xs ys : List ℕ) (i : ℕ) (old now next : NumberPart) → i < length xs → i < length ys → PairsPut s xs ys i old now
    → HasPut now (s (get_or xs i 0, get_or ys i 0)) next → PairsPut s xs ys (i + 1) old next
pairs_on s xs ys i old now next low there h g =
    let long = length-zip xs ys in
    let here = get_or-zip xs ys i (0, 0) low there in
    each_spelled s (zip xs ys) i (0, 0) old now next (omega (arith, long, low, there)) h (subst (λ at. HasPut now (s at) next) (sym here) g)

pub pairs_all : (s : ℕ × ℕ → BoolList) (xs ys : List ℕ) (i : ℕ) (old now : NumberPart) → length ys ≤ i → PairsPut s xs ys i old now → HasPut old (flat_map s (zip xs ys)) now
pairs_all s xs ys i old now there h =
    let long = length-zip xs ys in
    each_spelled_all s (zip xs ys) i old now (omega (arith, long, there)) h
