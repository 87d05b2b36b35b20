-- The places that slots name.
use Rattle.std.proofs.Common.{◌≡◌, ◌≢◌, ◌∙◌, ℕ, zero, suc, ◌+◌, ◌/◌, ◌%◌, ◌<◌, ◌≤◌, ◌==◌, ◌||◌, Bool, true, false, List, [], ◌∷◌, ◌++◌, length, map, refl, sym, ap, subst, rules, inl, inr, arith}
use Rattle.std.specs.Prelude.{All, IfSome, Option, Some, None, if◌then◌else◌, slice_get, slice_set}
use Rattle.std.proofs.lemmas.List.Elements.{All-cons, All-head, All-tail}
use Rattle.std.proofs.lemmas.List.{length-append, length-set}
use Rattle.std.proofs.lemmas.Bool.{cases_Bool, eqb-false, eqb-true}
use Rattle.frame_headers.specs.HeaderState.{held, refreshed}
use Rattle.picture_table.specs.KeptPictures.{IsSound}
use Rattle.picture_table.specs.declared.any.AnyPicture.{AnyPicture}
use Rattle.picture_table.specs.Code.{IsBelow, IsSoundAt, IsTable, NamesSound, held_in, is_named, names, shown}
use Rattle.picture_table.specs.declared.table.PictureTable.{PictureTable}

abbrev without : ℕ → List (Option ℕ) → List (Option ℕ)
without m [] = []
without m (slot ∷ slots) = if is_named m slot then without m slots else slot ∷ without m slots

no_longer : (m : ℕ) (slots : List (Option ℕ)) → length (without m slots) ≤ length slots
no_longer m [] = omega arith
no_longer m (slot ∷ slots) =
    let rest = no_longer m slots in
    elim (cases_Bool (is_named m slot)) [
      | inl gone ↦ rw gone (omega (arith, rest))
      | inr kept ↦ rw kept (omega (arith, rest))
    ]

shorter : (m : ℕ) (slots : List (Option ℕ)) → names m slots ≡ true → length (without m slots) < length slots
shorter m [] h = let no : false ≡ true = h in absurd cc
shorter m (slot ∷ slots) h = elim (cases_Bool (is_named m slot)) [
  | inl gone ↦ let rest = no_longer m slots in rw gone (omega (arith, rest))
  | inr kept ↦ let rest = shorter m slots (rw kept at h) in rw kept (omega (arith, rest))
]

one_place : (p m : ℕ) (slot : Option ℕ) → is_named p slot ≡ true → is_named m slot ≡ true → p ≡ m
one_place p m None a b = let no : false ≡ true = a in absurd cc
one_place p m (Some named) a b = sym (eqb-true named p a) ∙ eqb-true named m b

still_named : (m p : ℕ) (slots : List (Option ℕ)) → p ≢ m → names p slots ≡ true → names p (without m slots) ≡ true
still_named m p [] other h = h
still_named m p (slot ∷ slots) other h = elim (cases_Bool (is_named m slot)) [
  | inl gone ↦ elim (cases_Bool (is_named p slot)) [
    | inl here ↦ absurd (other (one_place p m slot here gone))
    | inr there ↦ rw gone (still_named m p slots other (rw there at h))
  ]
  | inr others ↦ elim (cases_Bool (is_named p slot)) [
    | inl here ↦ rw others (rw here refl)
    | inr there ↦ rw others (rw there (still_named m p slots other (rw there at h)))
  ]
]

-- one place more is named
pub one_more_named : (n : ℕ) (slots : List (Option ℕ)) → ((p : ℕ) → p < n → names p slots ≡ true) → names n slots ≡ true
    → (p : ℕ) → p < n + 1 → names p slots ≡ true
one_more_named n slots h last p low = elim (cases_Bool (p == n)) [
  | inl same ↦ rw (eqb-true p n same) last
  | inr other ↦ let differ = eqb-false p n other in h p (omega (arith, low, differ))
]

-- slots name no more places than there are slots
pub few_named : (n : ℕ) (slots : List (Option ℕ)) → ((p : ℕ) → p < n → names p slots ≡ true) → n ≤ length slots
few_named zero slots h = omega arith
few_named (suc m) slots h =
    let last = shorter m slots (h m (omega arith)) in
    let rest = few_named m (without m slots) (λ p low. still_named m p slots (λ same. absurd (omega (arith, same, low))) (h p (omega (arith, low)))) in
    omega (arith, last, rest)

-- no place behind the last is named
pub none_behind : (count : ℕ) (slots : List (Option ℕ)) → All (IsBelow count) slots → names count slots ≡ false
none_behind count [] within = refl
none_behind count (None ∷ slots) within = none_behind count slots (All-tail (IsBelow count) None slots within)
none_behind count (Some named ∷ slots) within =
    let low : named < count = All-head (IsBelow count) (Some named) slots within in
    let other : (named == count) ≡ false = search rules in
    rw other (none_behind count slots (All-tail (IsBelow count) (Some named) slots within))

held_below : (count flags place : ℕ) (slot : Option ℕ) → place < count → IsBelow count slot → IsBelow count (held flags place slot)
held_below count flags place slot low h = elim (cases_Bool (flags % 2 == 1)) [ inl one ↦ rw one low | inr none ↦ rw none h ]

-- slots that are refreshed by a place that is there name places that are there
pub refreshed_below : (count place : ℕ) (slots : List (Option ℕ)) (flags : ℕ) → place < count → All (IsBelow count) slots → All (IsBelow count) (refreshed flags place slots)
refreshed_below count place [] flags low h = h
refreshed_below count place (slot ∷ slots) flags low h =
    All-cons (IsBelow count) (held flags place slot) (refreshed (flags / 2) place slots) (held_below count flags place slot low (All-head (IsBelow count) slot slots h))
    (refreshed_below count place slots (flags / 2) low (All-tail (IsBelow count) slot slots h))

pub as_many_refreshed : (place : ℕ) (slots : List (Option ℕ)) (flags : ℕ) → length (refreshed flags place slots) ≡ length slots
as_many_refreshed place [] flags = refl
as_many_refreshed place (slot ∷ slots) flags = ap (λ n. suc n) (as_many_refreshed place slots (flags / 2))

---- Pictures at other places ----

either_not : (a b : Bool) → (a || b) ≡ false → (a ≡ false) × (b ≡ false)
either_not true b h = absurd cc
either_not false b h = (refl, h)

get_beside : {X : Type 0} (xs : List X) (k j : ℕ) (x : X) → j ≢ k → slice_get (slice_set xs k x) j ≡ slice_get xs j
get_beside [] k j x other = refl
get_beside (y ∷ xs) zero zero x other = absurd (other refl)
get_beside (y ∷ xs) zero (suc j) x other = refl
get_beside (y ∷ xs) (suc k) zero x other = refl
get_beside (y ∷ xs) (suc k) (suc j) x other = get_beside xs k j x (λ same. other (ap (λ n. suc n) same))

get_before : {X : Type 0} (xs : List X) (j : ℕ) (x : X) → j < length xs → slice_get (xs ++ x ∷ []) j ≡ slice_get xs j
get_before [] j x low = absurd (omega (arith, low))
get_before (y ∷ xs) zero x low = refl
get_before (y ∷ xs) (suc j) x low = get_before xs j x (omega (arith, low))

pub put_there : {X : Type 0} (xs : List X) (place : ℕ) (old new : X) → slice_get xs place ≡ Some old → slice_get (slice_set xs place new) place ≡ Some new
put_there [] place old new there = let no : ⊥ = cc in absurd no
put_there (x ∷ xs) zero old new there = refl
put_there (x ∷ xs) (suc place) old new there = put_there xs place old new there

pub last_is : {X : Type 0} (xs ys : List X) (j : ℕ) (x : X) → ys ≡ xs ++ x ∷ [] → j ≡ length xs → slice_get ys j ≡ Some x
last_is xs ys j x is end = rw (is, end) (at_end xs x)
  where
    at_end : {X : Type 0} (xs : List X) (x : X) → slice_get (xs ++ x ∷ []) (length xs) ≡ Some x
    at_end [] x = refl
    at_end (y ∷ xs) x = at_end xs x

-- what slots hold stays while a place that none of them names is used again
pub held_beside : (pictures : List AnyPicture) (place : ℕ) (p : AnyPicture) (slots : List (Option ℕ)) → names place slots ≡ false
    → map (held_in (slice_set pictures place p)) slots ≡ map (held_in pictures) slots
held_beside pictures place p [] free = refl
held_beside pictures place p (None ∷ slots) free = ap (λ rest. None ∷ rest) (held_beside pictures place p slots free)
held_beside pictures place p (Some named ∷ slots) free =
    let both = either_not (named == place) (names place slots) free in
    let same = get_beside pictures place named p (λ same. eqb-false named place both.0 same) in
    λ i. shown (same i) ∷ held_beside pictures place p slots both.1 i

-- or while there is one more
pub held_before : (pictures : List AnyPicture) (p : AnyPicture) (slots : List (Option ℕ)) → All (IsBelow (length pictures)) slots
    → map (held_in (pictures ++ p ∷ [])) slots ≡ map (held_in pictures) slots
held_before pictures p [] within = refl
held_before pictures p (None ∷ slots) within = ap (λ rest. None ∷ rest) (held_before pictures p slots (All-tail (IsBelow (length pictures)) None slots within))
held_before pictures p (Some named ∷ slots) within =
    let low : named < length pictures = All-head (IsBelow (length pictures)) (Some named) slots within in
    let same = get_before pictures named p low in
    λ i. shown (same i) ∷ held_before pictures p slots (All-tail (IsBelow (length pictures)) (Some named) slots within) i

---- Sound pictures ----

same_sound : (a b : Option AnyPicture) → a ≡ b → IfSome b IsSound → IfSome a IsSound
same_sound a b same h = subst (λ o. IfSome o IsSound) (sym same) h

-- those that slots name stay so while a place that none of them names is used again
pub sound_beside : (pictures : List AnyPicture) (place : ℕ) (p : AnyPicture) (slots : List (Option ℕ)) → names place slots ≡ false
    → All (NamesSound pictures) slots → All (NamesSound (slice_set pictures place p)) slots
sound_beside pictures place p [] free h = λ i d low. absurd (omega (arith, low))
sound_beside pictures place p (None ∷ slots) free h =
    All-cons (NamesSound (slice_set pictures place p)) None slots tt (sound_beside pictures place p slots free (All-tail (NamesSound pictures) None slots h))
sound_beside pictures place p (Some named ∷ slots) free h =
    let both = either_not (named == place) (names place slots) free in
    let same = get_beside pictures place named p (λ same. eqb-false named place both.0 same) in
    All-cons (NamesSound (slice_set pictures place p)) (Some named) slots (same_sound _ _ same (All-head (NamesSound pictures) (Some named) slots h))
    (sound_beside pictures place p slots both.1 (All-tail (NamesSound pictures) (Some named) slots h))

-- or while there is one more
pub sound_before : (pictures : List AnyPicture) (p : AnyPicture) (slots : List (Option ℕ)) → All (IsBelow (length pictures)) slots
    → All (NamesSound pictures) slots → All (NamesSound (pictures ++ p ∷ [])) slots
sound_before pictures p [] within h = λ i d low. absurd (omega (arith, low))
sound_before pictures p (None ∷ slots) within h =
    All-cons (NamesSound (pictures ++ p ∷ [])) None slots tt
    (sound_before pictures p slots (All-tail (IsBelow (length pictures)) None slots within) (All-tail (NamesSound pictures) None slots h))
sound_before pictures p (Some named ∷ slots) within h =
    let low : named < length pictures = All-head (IsBelow (length pictures)) (Some named) slots within in
    All-cons (NamesSound (pictures ++ p ∷ [])) (Some named) slots (same_sound _ _ (get_before pictures named p low) (All-head (NamesSound pictures) (Some named) slots h))
    (sound_before pictures p slots (All-tail (IsBelow (length pictures)) (Some named) slots within) (All-tail (NamesSound pictures) (Some named) slots h))

held_sound : (pictures : List AnyPicture) (flags place : ℕ) (slot : Option ℕ) → IsSoundAt pictures place → NamesSound pictures slot → NamesSound pictures (held flags place slot)
held_sound pictures flags place slot new h = elim (cases_Bool (flags % 2 == 1)) [ inl one ↦ rw one new | inr none ↦ rw none h ]

-- or are refreshed by a sound one
pub sound_refreshed : (pictures : List AnyPicture) (place : ℕ) (slots : List (Option ℕ)) (flags : ℕ) → IsSoundAt pictures place
    → All (NamesSound pictures) slots → All (NamesSound pictures) (refreshed flags place slots)
sound_refreshed pictures place [] flags new h = h
sound_refreshed pictures place (slot ∷ slots) flags new h =
    All-cons (NamesSound pictures) (held flags place slot) (refreshed (flags / 2) place slots) (held_sound pictures flags place slot new (All-head (NamesSound pictures) slot slots h))
    (sound_refreshed pictures place slots (flags / 2) new (All-tail (NamesSound pictures) slot slots h))

below_more : (n m : ℕ) (slots : List (Option ℕ)) → n ≤ m → All (IsBelow n) slots → All (IsBelow m) slots
below_more n m [] more h = λ i d low. absurd (omega (arith, low))
below_more n m (None ∷ slots) more h = All-cons (IsBelow m) None slots tt (below_more n m slots more (All-tail (IsBelow n) None slots h))
below_more n m (Some named ∷ slots) more h =
    let low : named < n = All-head (IsBelow n) (Some named) slots h in
    let here : named < m = omega (arith, low, more) in
    All-cons (IsBelow m) (Some named) slots here (below_more n m slots more (All-tail (IsBelow n) (Some named) slots h))

-- a table stays one while a place that no slot names is used again
pub table_beside : (t u : PictureTable) (place : ℕ) (p : AnyPicture) → names place t.slots ≡ false → u.slots ≡ t.slots → u.pictures.items ≡ slice_set t.pictures.items place p → IsTable t → IsTable u
table_beside t u place p free slots is h = record {
  many = rw slots h.many;
  within = rw (slots, is) (below_more (length t.pictures.items) _ t.slots (omega (arith, length-set t.pictures.items place p)) h.within);
  sound = rw (slots, is) (sound_beside t.pictures.items place p t.slots free h.sound);
}

-- or gets one picture more
pub table_before : (t u : PictureTable) (p : AnyPicture) → u.slots ≡ t.slots → u.pictures.items ≡ t.pictures.items ++ p ∷ [] → IsTable t → IsTable u
table_before t u p slots is h = record {
  many = rw slots h.many;
  within = rw (slots, is) (below_more (length t.pictures.items) _ t.slots (omega (arith, length-append t.pictures.items (p ∷ []))) h.within);
  sound = rw (slots, is) (sound_before t.pictures.items p t.slots h.within h.sound);
}
