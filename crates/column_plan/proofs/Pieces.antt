-- Pieces among chunks whose values go on.
use Rattle.std.proofs.Common.{◌≡◌, ◌∙◌, ◌++◌, ◌∷◌, [], ℕ, ℤ, zero, suc, ◌+◌, ◌-◌, ◌<◌, ◌≤◌, List, length, inl, inr, refl, sym, ap, arith, append_assoc}
use Rattle.std.specs.Prelude.{All, get_or, slice_range, slice_set, take, drop, OnOk, OnErr, Result, Ok, Err}
use Rattle.std.proofs.lemmas.Bool.{cases_lt}
use Rattle.std.proofs.lemmas.List.{append-nil, drop-append-le, get_or_default, get_or_past, length-append, length-drop, length-map, map_push, take-append-le}
use Rattle.std.proofs.lemmas.List.Elements.{All-head, All-nil, All-push, All-tail}
use Rattle.std.proofs.Math.Seq.{drop-append_seam, take-length}
use Rattle.column_plan.specs.Code.{GoOn, LiesIn, pieces_in, values_in}
use Rattle.column_plan.specs.declared.chunks.Piece.{Piece}

---- Chunks that go on ----

pub same_go_on : (chunks : List (List ℤ)) → GoOn chunks chunks
same_go_on chunks k = ([], sym (append-nil (get_or chunks k [])))

opened : (old : List (List ℤ)) (k : ℕ) → get_or (old ++ [] ∷ []) k [] ≡ get_or old k []
opened [] zero = refl
opened [] (suc k) = refl
opened (c ∷ old) zero = refl
opened (c ∷ old) (suc k) = opened old k

-- one without values is opened
pub one_opened : (old new : List (List ℤ)) (c : List ℤ) → c ≡ [] → new ≡ old ++ c ∷ [] → GoOn old new
one_opened old new c none is k = ([], ap (λ cs. get_or cs k []) (is ∙ ap (λ x. old ++ x ∷ []) none) ∙ opened old k ∙ sym (append-nil (get_or old k [])))

pub some_chunk : (old new : List (List ℤ)) (c : List ℤ) → new ≡ old ++ c ∷ [] → 0 < length new
some_chunk old new c is = let long = ap length is ∙ length-append old (c ∷ []) in omega (arith, long)

longer : (old : List (List ℤ)) (i k : ℕ) (w more : List ℤ) → i < length old → w ≡ get_or old i [] ++ more
    → (m : List ℤ) × (get_or (slice_set old i w) k [] ≡ get_or old k [] ++ m)
longer [] i k w more low is = absurd (omega (arith, low))
longer (c ∷ old) zero zero w more low is = (more, is)
longer (c ∷ old) zero (suc k) w more low is = ([], sym (append-nil (get_or old k [])))
longer (c ∷ old) (suc i) zero w more low is = ([], sym (append-nil c))
longer (c ∷ old) (suc i) (suc k) w more low is = longer old i k w more (omega (arith, low)) is

-- values come behind those of one of them
pub one_longer : (old new : List (List ℤ)) (i : ℕ) (w more : List ℤ) → i < length old → new ≡ slice_set old i w → w ≡ get_or old i [] ++ more → GoOn old new
one_longer old new i w more low is so k = let there = longer old i k w more low so in (there.0, ap (λ cs. get_or cs k []) is ∙ there.1)

pub both_go_on : (old mid new : List (List ℤ)) → GoOn old mid → GoOn mid new → GoOn old new
both_go_on old mid new first second k =
    ((first k).0 ++ (second k).0, (second k).1 ∙ ap (λ xs. xs ++ (second k).0) (first k).1 ∙ append_assoc (get_or old k []) (first k).0 (second k).0)

-- values are put behind those of one of them, or memory is refused
pub put_goes_on : {A E : Type 0} (result : Result A E) (first old : List (List ℤ)) (i : ℕ) (was now values : List ℤ) → GoOn first old → i < length old → was ≡ get_or old i was
    → OnOk result (now ≡ was ++ values) → OnErr result (now ≡ was) → GoOn first (slice_set old i now)
put_goes_on (Ok a) first old i was now values on low is put kept =
    let here : was ≡ get_or old i [] = is ∙ get_or_default old i was [] low in
    both_go_on first old (slice_set old i now) on (one_longer old (slice_set old i now) i now values low refl (put ∙ ap (λ xs. xs ++ values) here))
put_goes_on (Err e) first old i was now values on low is put kept =
    let here : was ≡ get_or old i [] = is ∙ get_or_default old i was [] low in
    both_go_on first old (slice_set old i now) on (one_longer old (slice_set old i now) i now [] low refl (kept ∙ here ∙ sym (append-nil (get_or old i []))))

set_here : (old : List (List ℤ)) (i : ℕ) (w : List ℤ) → i < length old → get_or (slice_set old i w) i [] ≡ w
set_here [] i w low = absurd (omega (arith, low))
set_here (c ∷ old) zero w low = refl
set_here (c ∷ old) (suc i) w low = set_here old i w (omega (arith, low))

---- A piece ----

-- a part of the first of two lists
part_before : (values more : List ℤ) (from to : ℕ) → to ≤ length values → slice_range (values ++ more) from to ≡ slice_range values from to
part_before values more from to within = elim (cases_lt (length values) from) [
  | inr low ↦ ap (take (to - from)) (drop-append-le from values more low)
      ∙ take-append-le (to - from) (drop from values) more (let long = length-drop from values in omega (arith, within, low, long))
  | inl high ↦ let none : to - from ≡ 0 = omega (arith, within, high) in rw none refl
]

part_behind : (values more : List ℤ) → slice_range (values ++ more) (length values) (length values + length more) ≡ more
part_behind values more =
    let long : length values + length more - length values ≡ length more = omega arith in
    rw (long, drop-append_seam values more) (take-length more)

-- what is put behind a chunk's values
pub put_lies : (old new : List (List ℤ)) (i : ℕ) (w more : List ℤ) (p : Piece) → i < length old → new ≡ slice_set old i w → w ≡ get_or old i [] ++ more
    → p ≡ record { chunk = i; from = length (get_or old i []); count = length more } → LiesIn new p
put_lies old new i w more p low is so at =
    let here : get_or new i [] ≡ get_or old i [] ++ more = ap (λ cs. get_or cs i []) is ∙ set_here old i w low ∙ so in
    let long : length (get_or new i []) ≡ length (get_or old i []) + length more = ap length here ∙ length-append (get_or old i []) more in
    rw at (omega (arith, long))

pub put_values : (old new : List (List ℤ)) (i : ℕ) (w more : List ℤ) (p : Piece) → i < length old → new ≡ slice_set old i w → w ≡ get_or old i [] ++ more
    → p ≡ record { chunk = i; from = length (get_or old i []); count = length more } → values_in new p ≡ more
put_values old new i w more p low is so at =
    let here : get_or new i [] ≡ get_or old i [] ++ more = ap (λ cs. get_or cs i []) is ∙ set_here old i w low ∙ so in
    rw (at, here) (part_behind (get_or old i []) more)

pub no_values : (chunks : List (List ℤ)) (p : Piece) → p.count ≡ 0 → [] ≡ values_in chunks p
no_values chunks p none = let nothing : p.from + p.count - p.from ≡ 0 = omega (arith, none) in rw nothing refl

pub in_chunk : (chunks : List (List ℤ)) (p : Piece) → LiesIn chunks p → (p.count ≡ 0 → ⊥) → p.chunk < length chunks
in_chunk chunks p lies some = elim (cases_lt p.chunk (length chunks)) [
  | inl low ↦ low
  | inr high ↦
      let past : length (get_or chunks p.chunk []) ≡ 0 = ap length (get_or_past chunks p.chunk [] high) in
      absurd (some (omega (arith, past, lies)))
]

lies_on : (old new : List (List ℤ)) (p : Piece) → GoOn old new → LiesIn old p → LiesIn new p
lies_on old new p on lies =
    let long = ap length (on p.chunk).1 ∙ length-append (get_or old p.chunk []) (on p.chunk).0 in omega (arith, long, lies)

values_on : (old new : List (List ℤ)) (p : Piece) → GoOn old new → LiesIn old p → values_in new p ≡ values_in old p
values_on old new p on lies =
    ap (λ xs. slice_range xs p.from (p.from + p.count)) (on p.chunk).1 ∙ part_before (get_or old p.chunk []) (on p.chunk).0 p.from (p.from + p.count) lies

---- Pieces one behind another ----

pub none_lie : (chunks : List (List ℤ)) → All (LiesIn chunks) []
none_lie chunks = All-nil (LiesIn chunks)

pub pieces_long : (chunks : List (List ℤ)) (pieces : List Piece) → length (pieces_in chunks pieces) ≡ length pieces
unfolding pieces_in
pieces_long chunks pieces = length-map pieces (values_in chunks)

pub same_lie : (old new : List (List ℤ)) (pieces : List Piece) → GoOn old new → All (LiesIn old) pieces → All (LiesIn new) pieces
same_lie old new pieces on lie k d low = lies_on old new (get_or pieces k d) on (lie k d low)

pub same_pieces : (old new : List (List ℤ)) (pieces : List Piece) → GoOn old new → All (LiesIn old) pieces → pieces_in new pieces ≡ pieces_in old pieces
unfolding pieces_in
same_pieces old new [] on lie = refl
same_pieces old new (p ∷ pieces) on lie =
    λ i. values_on old new p on (All-head (LiesIn old) p pieces lie) i ∷ same_pieces old new pieces on (All-tail (LiesIn old) p pieces lie) i

pub pushed_lie : (old new : List (List ℤ)) (pieces : List Piece) (p : Piece) → GoOn old new → All (LiesIn old) pieces → LiesIn new p → All (LiesIn new) (pieces ++ p ∷ [])
pushed_lie old new pieces p on lie lies = All-push (LiesIn new) pieces p (same_lie old new pieces on lie) lies

pub one_pushed : (old new : List (List ℤ)) (pieces : List Piece) (p : Piece) (values : List ℤ) → GoOn old new → All (LiesIn old) pieces → values_in new p ≡ values
    → pieces_in new (pieces ++ p ∷ []) ≡ pieces_in old pieces ++ values ∷ []
unfolding pieces_in
one_pushed old new pieces p values on lie is =
    map_push (values_in new) pieces p ∙ (λ i. same_pieces old new pieces on lie i ++ is i ∷ [])

pub piece_at : (chunks : List (List ℤ)) (pieces : List Piece) (k : ℕ) (p : Piece) → k < length pieces → p ≡ get_or pieces k p → values_in chunks p ≡ get_or (pieces_in chunks pieces) k []
unfolding pieces_in
piece_at chunks [] k p low is = absurd (omega (arith, low))
piece_at chunks (x ∷ pieces) zero p low is = ap (values_in chunks) is
piece_at chunks (x ∷ pieces) (suc k) p low is = piece_at chunks pieces k p (omega (arith, low)) is
