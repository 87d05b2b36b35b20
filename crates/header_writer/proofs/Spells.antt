-- Fields behind one another.
use Rattle.std.proofs.Common.{◌≡◌, ℕ, ◌+◌, ◌-◌, ◌/◌, ◌^◌, ◌<◌, ◌≤◌, List, [], ◌∷◌, ◌++◌, length, get_or, take, replicate, ℤ, pos, true, false, ap, sym, ◌∙◌, subst, append_assoc, arith}
use Rattle.std.proofs.lemmas.List.{append-nil, take_more, take_all, replicate_more}
use Rattle.std.specs.Prelude.{flat_map, zip}
use Rattle.std.proofs.lemmas.List.Concat.{flat_map-append}
use Rattle.std.proofs.lemmas.Slice.Zip.{length-zip, get_or-zip}
use Rattle.std.proofs.lemmas.Bool.{le-leb, lt-leb}
use Rattle.vp9_types.specs.Bits.{spelled}
use Rattle.header_writer.specs.Code.{HasPut}
use Rattle.header_writer.specs.Spelling.{FieldList, bits_put, number, bit, spelled_delta, spelled_deltas, spelled_columns}

pub spells_on : (old mid new : List ℕ) (first more : FieldList) → HasPut mid more new → HasPut old first mid → HasPut old (first ++ more) new
unfolding HasPut bits_put
spells_on old mid new first more g h =
    g ∙ ap (λ bits. bits ++ bits_put more) h ∙ append_assoc old (bits_put first) (bits_put more)
    ∙ ap (λ bits. old ++ bits) (sym (flat_map-append _ first more))

pub spells_two : (old mid now new : List ℕ) (first second third : FieldList) → HasPut now third new → HasPut mid second now → HasPut old first mid
    → HasPut old (first ++ (second ++ third)) new
spells_two old mid now new first second third last middle h = spells_on old mid new first (second ++ third) (spells_on mid now new second third last middle) h

pub spells_same : (old new : List ℕ) (first : FieldList) → HasPut old first new → HasPut old (first ++ []) new
spells_same old new first h = subst (λ fields. HasPut old fields new) (sym (append-nil first)) h

pub spells_none : (old : List ℕ) → HasPut old [] old
unfolding HasPut bits_put
spells_none old = sym (append-nil old)

---- a loop that puts a list, element by element ----

pub each_spelled_none : {A : Type 0} (s : A → FieldList) (xs : List A) (old : List ℕ) → HasPut old (flat_map s (take 0 xs)) old
each_spelled_none s xs old = spells_none old

pub each_spelled : {A : Type 0} (s : A → FieldList) (xs : List A) (i : ℕ) (d : A) (old now next : List ℕ) → i < length xs → HasPut old (flat_map s (take i xs)) now
    → HasPut now (s (get_or xs i d)) next → HasPut old (flat_map s (take (i + 1) xs)) next
each_spelled s xs i d old now next there h g =
    let last : flat_map s (get_or xs i d ∷ []) ≡ s (get_or xs i d) = append-nil (s (get_or xs i d)) in
    let all : flat_map s (take (i + 1) xs) ≡ flat_map s (take i xs) ++ s (get_or xs i d) =
    ap (flat_map s) (take_more xs i d there) ∙ flat_map-append s (take i xs) (get_or xs i d ∷ []) ∙ ap (λ fields. flat_map s (take i xs) ++ fields) last in
    subst (λ fields. HasPut old fields next) (sym all) (spells_on old now next (flat_map s (take i xs)) (s (get_or xs i d)) g h)

pub each_spelled_all : {A : Type 0} (s : A → FieldList) (xs : List A) (i : ℕ) (old now : List ℕ) → length xs ≤ i → HasPut old (flat_map s (take i xs)) now → HasPut old (flat_map s xs) now
each_spelled_all s xs i old now there h = subst (λ front. HasPut old (flat_map s front) now) (take_all i xs there) h

pub spells_number : (old now : List ℕ) (width value : ℕ) → now ≡ old ++ spelled (width - 0) (value / 2 ^ 0) → HasPut old (number width value) now
unfolding HasPut bits_put number
spells_number old now width value is =
    let e : width - 0 ≡ width = omega arith in
    let g : value / 2 ^ 0 ≡ value = omega arith in
    rw (e, g) at is ∙ ap (λ bits. old ++ bits) (sym (append-nil (spelled width value)))

---- deltas ----

abbrev pub spelled_pair : ℤ × ℤ → FieldList
spelled_pair at = spelled_delta at.0 at.1

pub deltas_spelled : (olds deltas : List ℤ) (i : ℕ) (old now next : List ℕ) → i < length olds → i < length deltas → HasPut old (flat_map spelled_pair (take i (zip olds deltas))) now
    → HasPut now (spelled_delta (get_or olds i (pos 0)) (get_or deltas i (pos 0))) next → HasPut old (flat_map spelled_pair (take (i + 1) (zip olds deltas))) next
deltas_spelled olds deltas i old now next low there h g =
    let long = length-zip olds deltas in
    let here = get_or-zip olds deltas i (pos 0, pos 0) low there in
    each_spelled spelled_pair (zip olds deltas) i (pos 0, pos 0) old now next (omega (arith, long, low, there)) h
    (subst (λ at. HasPut now (spelled_pair at) next) (sym here) g)

pub deltas_spelled_all : (olds deltas : List ℤ) (i : ℕ) (old now : List ℕ) → length deltas ≤ i → HasPut old (flat_map spelled_pair (take i (zip olds deltas))) now → HasPut old (spelled_deltas olds deltas) now
unfolding spelled_deltas
deltas_spelled_all olds deltas i old now there h =
    let long = length-zip olds deltas in
    each_spelled_all spelled_pair (zip olds deltas) i old now (omega (arith, long, there)) h

---- columns ----

abbrev pub doublings : ℕ → FieldList
doublings n = flat_map bit (replicate n true)

pub columns_none : (least : ℕ) (old : List ℕ) → HasPut old (doublings (least - least)) old
columns_none least old = let none : least - least ≡ 0 = omega arith in rw none (spells_none old)

pub columns_spelled : (least at : ℕ) (old now next : List ℕ) → least ≤ at → HasPut old (doublings (at - least)) now → HasPut now (bit true) next → HasPut old (doublings (at + 1 - least)) next
columns_spelled least at old now next from h g =
    let n = at - least in
    let more : at + 1 - least ≡ n + 1 = omega arith in
    let last : flat_map bit (true ∷ []) ≡ bit true = append-nil (bit true) in
    let all : doublings (n + 1) ≡ doublings n ++ bit true =
    ap (flat_map bit) (sym (replicate_more n true)) ∙ flat_map-append bit (replicate n true) (true ∷ []) ∙ ap (λ fields. doublings n ++ fields) last in
    subst (λ fields. HasPut old fields next) (sym (ap doublings more ∙ all)) (spells_on old now next (doublings n) (bit true) g h)

pub columns_ended : (least greatest log2 : ℕ) (old now : List ℕ) → greatest ≤ log2 → HasPut old (doublings (log2 - least)) now → HasPut old (spelled_columns least greatest log2) now
unfolding spelled_columns
columns_ended least greatest log2 old now all h = rw (le-leb greatest log2 all) (spells_same old now (doublings (log2 - least)) h)

pub columns_stopped : (least greatest log2 : ℕ) (old now new : List ℕ) → log2 < greatest → HasPut old (doublings (log2 - least)) now → HasPut now (bit false) new
    → HasPut old (spelled_columns least greatest log2) new
unfolding spelled_columns
columns_stopped least greatest log2 old now new more h g = rw (lt-leb greatest log2 more) (spells_on old now new (doublings (log2 - least)) (bit false) g h)
