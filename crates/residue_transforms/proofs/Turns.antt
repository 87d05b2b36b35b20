-- A block is turned when each of its rows has become a column.
use Rattle.std.proofs.Common.{◌≡◌, ℕ, zero, suc, ◌+◌, ◌*◌, ◌/◌, ◌%◌, ◌<◌, ℤ, pos, List, [], ◌∷◌, map, length, get_or, refl, sym, ◌∙◌, ap, arith, Result, Ok, Err}
use Rattle.std.specs.List.{range_with_len}
use Rattle.std.proofs.lemmas.List.{ext_get_or}
use Rattle.std.proofs.lemmas.Nat.{div_below}
use Rattle.std.proofs.Math.Nat.{mod-lt, mul_comm, div-add-mod}
use Rattle.std.proofs.lemmas.List.FromFn.{get_or-map-range_with_len, length-map-range_with_len}
use Rattle.vp9_types.specs.declared.rule.Rule.{Rule}
use Rattle.vp9_types.specs.declared.rule.Rule.TheVariants.{TransformRange}
use Rattle.inverse_transforms.specs.Flow.{at}
use Rattle.residue_transforms.specs.SquareBlocks.{row, rows, col, of_columns, before, each_row, block_of, each_row_turned}

abbrev Maps : Type 0
Maps = List ℤ → Result (List ℤ) Rule

before_ok : (r : Result (List ℤ) Rule) (rest : Result (List (List ℤ)) Rule) (y : List ℤ) (ys : List (List ℤ)) → r ≡ Ok y → rest ≡ Ok ys →
    before r rest ≡ Ok (y ∷ ys)
before_ok r rest y ys is rest_is = rw (is, rest_is) refl

each_ok : (f : Maps) (xs ys : List (List ℤ)) → length xs ≡ length ys → ((k : ℕ) → k < length xs → f (get_or xs k []) ≡ Ok (get_or ys k [])) →
    each_row f xs ≡ Ok ys
each_ok f [] [] size all = refl
each_ok f [] (y ∷ ys) size all = absurd (omega arith)
each_ok f (x ∷ xs) [] size all = absurd (omega arith)
each_ok f (x ∷ xs) (y ∷ ys) size all =
    before_ok (f x) (each_row f xs) y ys (all 0 (omega arith)) (each_ok f xs ys (omega arith) (λ k low. all (suc k) (omega arith)))

abbrev OneRule : Maps → Type 0
OneRule f = (x : List ℤ) (rule : Rule) → f x ≡ Err rule → rule ≡ TransformRange

first_err : (r : Result (List ℤ) Rule) (rest : Result (List (List ℤ)) Rule) → ((rule : Rule) → r ≡ Err rule → rule ≡ TransformRange) →
    (rule : Rule) → r ≡ Err rule → before r rest ≡ Err TransformRange
first_err (Ok y) rest one rule is = let no : ⊥ = cc in absurd no
first_err (Err fault) rest one rule is = ap Err (one fault refl)

later_err : (r : Result (List ℤ) Rule) (rest : Result (List (List ℤ)) Rule) → ((rule : Rule) → r ≡ Err rule → rule ≡ TransformRange) →
    rest ≡ Err TransformRange → before r rest ≡ Err TransformRange
later_err (Ok y) rest one is = rw is refl
later_err (Err fault) rest one is = ap Err (one fault refl)

each_err : (f : Maps) (xs : List (List ℤ)) (k : ℕ) (rule : Rule) → OneRule f → k < length xs → f (get_or xs k []) ≡ Err rule →
    each_row f xs ≡ Err TransformRange
each_err f [] k rule one low is = absurd (omega arith)
each_err f (x ∷ xs) zero rule one low is = first_err (f x) (each_row f xs) (one x) rule is
each_err f (x ∷ xs) (suc k) rule one low is =
    later_err (f x) (each_row f xs) (one x) (each_err f xs k rule one (omega arith) is)

at_rows : (n : ℕ) (xs : List ℤ) (j : ℕ) → j < n → get_or (rows n xs) j [] ≡ row n j xs
at_rows n xs j low = get_or-map-range_with_len (λ i. row n i xs) 0 n j j [] low (omega arith)

at_cols : (n : ℕ) (xs : List ℤ) (j : ℕ) → j < n → get_or (map (λ i. col n i xs) (range_with_len 0 n)) j [] ≡ col n j xs
at_cols n xs j low = get_or-map-range_with_len (λ i. col n i xs) 0 n j j [] low (omega arith)

place_of : (n p : ℕ) → p < n * n → (p % n < n) × (p / n < n) × ((p / n) * n + p % n ≡ p)
place_of zero p low = absurd (omega arith)
place_of (suc m) p low = (
  mod-lt p (omega arith),
  div_below p (suc m) (suc m) (omega arith) low,
  ap (λ z. z + p % suc m) (mul_comm (p / suc m) (suc m)) ∙ div-add-mod p (suc m),
)

-- a block has its own columns
own_columns : (n : ℕ) (xs : List ℤ) → length xs ≡ n * n → of_columns n (map (λ j. col n j xs) (range_with_len 0 n)) ≡ xs
own_columns n xs size =
    let cs = map (λ j. col n j xs) (range_with_len 0 n) in
    let made_size = length-map-range_with_len (λ p. at (get_or cs (p % n) []) (p / n)) 0 (n * n) in
    ext_get_or (pos 0) (of_columns n cs) xs (made_size ∙ sym size)
    (λ p low.
    let here : p < n * n = omega (arith, made_size) in
    let place = place_of n p here in
    get_or-map-range_with_len (λ q. at (get_or cs (q % n) []) (q / n)) 0 (n * n) p p (pos 0) here (omega arith)
    ∙ (ap (λ c. at c (p / n)) (at_cols n xs (p % n) place.0)
    ∙ (get_or-map-range_with_len (λ k. at xs (k * n + p % n)) 0 n (p / n) (p / n) (pos 0) place.1 (omega arith)
    ∙ ap (at xs) place.2)))

pub turned_ok : (f : Maps) (n : ℕ) (xs ys : List ℤ) → length ys ≡ n * n → ((j : ℕ) → j < n → f (row n j xs) ≡ Ok (col n j ys)) →
    each_row_turned f n xs ≡ Ok ys
unfolding each_row_turned
turned_ok f n xs ys size all =
    let cs = map (λ j. col n j ys) (range_with_len 0 n) in
    let rows_size = length-map-range_with_len (λ i. row n i xs) 0 n in
    let cols_size = length-map-range_with_len (λ j. col n j ys) 0 n in
    let done : each_row f (rows n xs) ≡ Ok cs = each_ok f (rows n xs) cs (rows_size ∙ sym cols_size)
    (λ k low. let here : k < n = omega (arith, rows_size) in
    ap f (at_rows n xs k here) ∙ (all k here ∙ ap Ok (sym (at_cols n ys k here)))) in
    ap (block_of n) done ∙ ap Ok (own_columns n ys size)

pub turned_err : (f : Maps) (n : ℕ) (xs : List ℤ) (rule : Rule) → OneRule f → (j : ℕ) × (j < n) × (f (row n j xs) ≡ Err rule) →
    each_row_turned f n xs ≡ Err rule
unfolding each_row_turned
turned_err f n xs rule one (j, low, is) =
    let rows_size = length-map-range_with_len (λ i. row n i xs) 0 n in
    let failed : each_row f (rows n xs) ≡ Err TransformRange =
    each_err f (rows n xs) j rule one (omega (arith, rows_size)) (ap f (at_rows n xs j low) ∙ is) in
    ap (block_of n) failed ∙ ap Err (sym (one (row n j xs) rule is))
