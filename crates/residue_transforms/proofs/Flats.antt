-- The residue of a first level alone is one value everywhere.
use Rattle.std.proofs.Common.{◌≡◌, ℕ, zero, suc, ◌+◌, ◌-◌, ◌*◌, ◌%◌, ◌<◌, ◌≤◌, ◌^◌, ℤ, pos, Bool, true, false, inl, inr, List, ◌∷◌, map, drop, length, replicate, All, refl, sym, ◌∙◌, ap, subst, arith, Result, Ok, Err, if◌then◌else◌, unsigned_abs}
use Rattle.std.specs.Prelude.{OnOk}
use Rattle.std.specs.Bool.{OnTrue}
use Rattle.std.specs.List.{list_all, range_with_len}
use Rattle.std.proofs.Math.IntN.{zero-*ℤ}
use Rattle.std.proofs.Math.Nat.{mul-add-mod_self_right, mod-eq_of_lt}
use Rattle.std.proofs.lemmas.Nat.{mul-add-lt}
use Rattle.std.proofs.lemmas.List.{ext_get_or, get_or-take, get_or-drop, get_or-replicate, get_or-set_other, get_or_past, length-set, length-replicate, length-take-le, length-drop, get_or_default}
use Rattle.std.proofs.lemmas.List.FromFn.{get_or-map-range_with_len, length-map-range_with_len}
use Rattle.std.proofs.lemmas.List.Sums.{list_all-from_AllPass}
use Rattle.std.proofs.lemmas.Grind.{get_or-set_at}
use Rattle.std.proofs.lemmas.Bool.{cases_lt, cases_Bool, lt-ltb}
use Rattle.vp9_types.specs.declared.rule.Rule.{Rule}
use Rattle.vp9_types.specs.declared.rule.Rule.TheVariants.{CoefRange}
use Rattle.vp9_types.specs.declared.block.TxSize.{TxSize}
use Rattle.vp9_types.specs.declared.block.TxSize.TheVariants.{T4x4, T8x8, T16x16, T32x32}
use Rattle.vp9_types.specs.declared.block.TxType.{TxType}
use Rattle.vp9_types.specs.Sizes.{side}
use Rattle.vp9_tables.specs.Scans.{area}
use Rattle.inverse_transforms.specs.Ranges.{fits, limit_of}
use Rattle.inverse_transforms.specs.Flow.{at, zeros, and_then, Gives}
use Rattle.inverse_transforms.specs.Transforms.{dct}
use Rattle.inverse_transforms.proofs.Zeros.{at_zeros}
use Rattle.residue_transforms.specs.declared.quant.Quant.{Quant}
use Rattle.residue_transforms.specs.declared.kind.Kind.TheVariants.{Cosines}
use Rattle.residue_transforms.specs.SquareBlocks.{row, col, each_row_turned}
use Rattle.residue_transforms.specs.Residue.{quantiser, scaled, coefficient, coefficients, transform, round, rounded_by, rounded_transform, rounding_bits, log2_of, reconstructed, residue}
use Rattle.residue_transforms.specs.First.{rooted, IsFirstAlone, AreCosines, flat_value, Flattens}
use Rattle.residue_transforms.proofs.Coefs.{misfit_at, at_coefficients}
use Rattle.residue_transforms.proofs.Skips.{some_limit}
use Rattle.residue_transforms.proofs.Turns.{turned_ok}
use Rattle.residue_transforms.proofs.Twice.{residue_small}
use Rattle.residue_transforms.proofs.Roots.{rooted_fits, rooted_none, spike, root_of_4, root_of_8, root_of_16, root_of_32}

pub alone_to_end : (xs : List ℤ) (n : ℕ) (all : Bool) → length xs ≤ n →
    OnTrue all ((k : ℕ) → 0 < k → k < n → at xs k ≡ pos 0) → OnTrue all (IsFirstAlone xs)
alone_to_end xs n true past so_far = λ k some. elim (cases_lt k n) [
  | inl low ↦ so_far k some low
  | inr behind ↦ get_or_past xs k (pos 0) (omega (arith, past, behind))
]
alone_to_end xs n false past so_far = tt

-- a value at the first place, and 0 at all others
abbrev lone : ℤ → ℕ → ℤ
lone x zero = x
lone x (suc k) = pos 0

lone_none : (k : ℕ) → lone (pos 0) k ≡ pos 0
lone_none zero = refl
lone_none (suc k) = refl

lone_rooted : (x : ℤ) (k : ℕ) → rooted (lone x k) ≡ lone (rooted x) k
lone_rooted x zero = refl
lone_rooted x (suc k) = rooted_none

lone_fits : (limit : ℕ) (x : ℤ) (k : ℕ) → 0 < limit → fits limit x ≡ true → fits limit (lone x k) ≡ true
lone_fits limit x zero some h = h
lone_fits limit x (suc k) some h = lt-ltb 0 limit some

at_spike : (n : ℕ) (x : ℤ) (k : ℕ) → k < n → at (spike n x) k ≡ lone x k
at_spike n x zero low = get_or-set_at (zeros n) 0 0 x (pos 0) refl (rw (length-replicate n (pos 0)) low)
at_spike n x (suc k) low = get_or-set_other (zeros n) 0 (suc k) x (pos 0) (λ same. omega (arith, same)) ∙ at_zeros n (suc k)

spike_size : (n : ℕ) (x : ℤ) → length (spike n x) ≡ n
spike_size n x = length-set (zeros n) 0 x ∙ length-replicate n (pos 0)

at_alone : (xs : List ℤ) (n j k : ℕ) → 0 < n → IsFirstAlone xs → at xs (j * n + k) ≡ lone (lone (at xs 0) j) k
at_alone xs n zero zero some alone = ap (at xs) (omega arith)
at_alone xs n zero (suc k) some alone = alone (0 * n + suc k) (omega arith)
at_alone xs n (suc j) k some alone = alone (suc j * n + k) (omega arith) ∙ sym (lone_none k)

-- the place of row a and column b
in_block : (n a b : ℕ) → a < n → b < n → a * n + b < n * n
in_block n a b a_low b_low = mul-add-lt a n b n a_low b_low

row_size : (n i : ℕ) (xs : List ℤ) → length xs ≡ n * n → i < n → length (row n i xs) ≡ n
row_size n i xs size low =
    let last = in_block n i (n - 1) low (omega (arith, low)) in
    let room : i * n + n ≤ length xs = omega (arith, last, size, low) in
    length-take-le n (drop (i * n) xs) (omega (arith, room, length-drop (i * n) xs))

row_is : (n i : ℕ) (xs ys : List ℤ) → length xs ≡ n * n → length ys ≡ n → i < n → ((k : ℕ) → k < n → at xs (i * n + k) ≡ at ys k) → row n i xs ≡ ys
row_is n i xs ys size ys_size low same =
    let is = row_size n i xs size low in
    ext_get_or (pos 0) (row n i xs) ys (is ∙ sym ys_size)
    (λ k k_low. let here : k < n = omega (arith, is) in
    get_or-take n (drop (i * n) xs) k (pos 0) here ∙ (get_or-drop (i * n) xs k (pos 0) ∙ same k here))

col_is : (n j : ℕ) (xs ys : List ℤ) → length ys ≡ n → ((k : ℕ) → k < n → at xs (k * n + j) ≡ at ys k) → col n j xs ≡ ys
col_is n j xs ys ys_size same =
    let is = length-map-range_with_len (λ k. at xs (k * n + j)) 0 n in
    ext_get_or (pos 0) (col n j xs) ys (is ∙ sym ys_size)
    (λ k k_low. let here : k < n = omega (arith, is) in
    get_or-map-range_with_len (λ k. at xs (k * n + j)) 0 n k k (pos 0) here (omega arith) ∙ same k here)

-- the rows are turned: the first column has the root
abbrev middle : ℕ → ℤ → List ℤ
middle n x = map (λ p. rooted (lone x (p % n))) (range_with_len 0 (n * n))

at_middle : (n : ℕ) (x : ℤ) (k j : ℕ) → k < n → j < n → at (middle n x) (k * n + j) ≡ rooted (lone x j)
at_middle n x k j k_low j_low =
    get_or-map-range_with_len (λ p. rooted (lone x (p % n))) 0 (n * n) (k * n + j) (k * n + j) (pos 0) (in_block n k j k_low j_low) (omega arith)
    ∙ ap (λ z. rooted (lone x z)) (mul-add-mod_self_right k n j ∙ mod-eq_of_lt j_low)

middle_size : (n : ℕ) (x : ℤ) → length (middle n x) ≡ n * n
middle_size n x = length-map-range_with_len (λ p. rooted (lone x (p % n))) 0 (n * n)

-- the DCT makes roots of a value alone
abbrev MakesRoots : ℕ → ℕ → ℕ → Type 0
MakesRoots limit log2 n = (x : ℤ) → 0 < limit → fits limit x ≡ true → dct limit log2 (spike n x) ≡ Ok (replicate n (rooted x))

transform_root : (limit log2 n : ℕ) (x : ℤ) → MakesRoots limit log2 n → 0 < limit → fits limit x ≡ true →
    transform Cosines limit log2 (spike n x) ≡ Ok (replicate n (rooted x))
unfolding transform
transform_root limit log2 n x roots some h = roots x some h

rows_turned : (limit log2 n : ℕ) (xs : List ℤ) → MakesRoots limit log2 n → 0 < limit → 0 < n → length xs ≡ n * n → IsFirstAlone xs →
    fits limit (at xs 0) ≡ true → each_row_turned (transform Cosines limit log2) n xs ≡ Ok (middle n (at xs 0))
rows_turned limit log2 n xs roots some some_rows size alone h =
    turned_ok (transform Cosines limit log2) n xs (middle n (at xs 0)) (middle_size n (at xs 0))
    (λ j low. let v = lone (at xs 0) j in
    let here : row n j xs ≡ spike n v =
    row_is n j xs (spike n v) size (spike_size n v) low (λ k k_low. at_alone xs n j k some_rows alone ∙ sym (at_spike n v k k_low)) in
    let there : col n j (middle n (at xs 0)) ≡ replicate n (rooted v) =
    col_is n j (middle n (at xs 0)) (replicate n (rooted v)) (length-replicate n (rooted v))
    (λ k k_low. at_middle n (at xs 0) k j k_low low ∙ sym (get_or-replicate n k (rooted v) (pos 0) k_low)) in
    ap (transform Cosines limit log2) here
    ∙ (transform_root limit log2 n v roots some (lone_fits limit (at xs 0) j some h) ∙ ap Ok (sym there)))

all_rounded : (bits n : ℕ) (x : ℤ) → map (round bits) (replicate n x) ≡ replicate n (round bits x)
all_rounded bits zero x = refl
all_rounded bits (suc n) x = ap (λ zs. round bits x ∷ zs) (all_rounded bits n x)

columns_turned : (limit log2 n bits : ℕ) (x : ℤ) → MakesRoots limit log2 n → 0 < limit → fits limit x ≡ true →
    each_row_turned (rounded_transform Cosines limit log2 bits) n (middle n x) ≡ Ok (replicate (n * n) (round bits (rooted (rooted x))))
columns_turned limit log2 n bits x roots some h =
    let v = rooted x in
    let w = round bits (rooted v) in
    turned_ok (rounded_transform Cosines limit log2 bits) n (middle n x) (replicate (n * n) w) (length-replicate (n * n) w)
    (λ j low.
    let here : row n j (middle n x) ≡ spike n v =
    row_is n j (middle n x) (spike n v) (middle_size n x) (spike_size n v) low
    (λ k k_low. at_middle n x j k low k_low ∙ (lone_rooted x k ∙ sym (at_spike n v k k_low))) in
    let there : col n j (replicate (n * n) w) ≡ replicate n w =
    col_is n j (replicate (n * n) w) (replicate n w) (length-replicate n w)
    (λ k k_low. get_or-replicate (n * n) (k * n + j) w (pos 0) (in_block n k j k_low low) ∙ sym (get_or-replicate n k w (pos 0) k_low)) in
    let made : rounded_transform Cosines limit log2 bits (row n j (middle n x)) ≡ Ok (map (round bits) (replicate n (rooted v))) =
    ap (rounded_transform Cosines limit log2 bits) here
    ∙ ap (rounded_by bits) (transform_root limit log2 n v roots some (rooted_fits limit x h)) in
    made ∙ ap Ok (all_rounded bits n (rooted v) ∙ sym there))

both_turned : (limit log2 n bits : ℕ) (xs : List ℤ) → MakesRoots limit log2 n → 0 < limit → 0 < n → length xs ≡ n * n → IsFirstAlone xs →
    fits limit (at xs 0) ≡ true →
    and_then (each_row_turned (transform Cosines limit log2) n xs) (each_row_turned (rounded_transform Cosines limit log2 bits) n)
    ≡ Ok (replicate (n * n) (round bits (rooted (rooted (at xs 0)))))
both_turned limit log2 n bits xs roots some some_rows size alone h =
    ap (λ r. and_then r (each_row_turned (rounded_transform Cosines limit log2 bits) n)) (rows_turned limit log2 n xs roots some some_rows size alone h)
    ∙ columns_turned limit log2 n bits (at xs 0) roots some h

by_size : (limit : ℕ) (tx : TxSize) (bits : ℕ) (xs : List ℤ) → 0 < limit → length xs ≡ side tx * side tx → IsFirstAlone xs → fits limit (at xs 0) ≡ true →
    and_then (each_row_turned (transform Cosines limit (log2_of tx)) (side tx) xs) (each_row_turned (rounded_transform Cosines limit (log2_of tx) bits) (side tx))
    ≡ Ok (replicate (side tx * side tx) (round bits (rooted (rooted (at xs 0)))))
by_size limit T4x4 bits xs some size alone h = both_turned limit 2 4 bits xs (root_of_4 limit) some (omega arith) size alone h
by_size limit T8x8 bits xs some size alone h = both_turned limit 3 8 bits xs (root_of_8 limit) some (omega arith) size alone h
by_size limit T16x16 bits xs some size alone h = both_turned limit 4 16 bits xs (root_of_16 limit) some (omega arith) size alone h
by_size limit T32x32 bits xs some size alone h = both_turned limit 5 32 bits xs (root_of_32 limit) some (omega arith) size alone h

flat_block : (quant : Quant) (tx : TxSize) (kind : TxType) (xs : List ℤ) → length xs ≡ area tx → IsFirstAlone xs → AreCosines quant.lossless tx kind →
    fits (limit_of quant.depth) (at xs 0) ≡ true → reconstructed quant tx kind xs ≡ Ok (replicate (length xs) (flat_value quant tx (at xs 0)))
unfolding reconstructed
flat_block quant tx kind xs size alone cosines h =
    rw (cosines.rows, cosines.columns, size)
    (by_size (limit_of quant.depth) tx (rounding_bits quant.lossless tx) xs (some_limit quant.depth) size alone h)

-- levels of 0 have coefficients of 0
scaled_none : (tx : TxSize) → scaled tx (pos 0) ≡ pos 0
scaled_none T4x4 = refl
scaled_none T8x8 = refl
scaled_none T16x16 = refl
scaled_none T32x32 = refl

no_coefficient : (quant : Quant) (tx : TxSize) (place : ℕ) → coefficient quant tx place (pos 0) ≡ pos 0
unfolding coefficient
no_coefficient quant tx place = ap (scaled tx) (zero-*ℤ (pos (quantiser quant place))) ∙ scaled_none tx

coefficients_size : (quant : Quant) (tx : TxSize) (levels : List ℤ) → length (coefficients quant tx levels) ≡ length levels
coefficients_size quant tx levels = length-map-range_with_len (λ place. coefficient quant tx place (at levels place)) 0 (length levels)

coefficients_alone : (quant : Quant) (tx : TxSize) (levels : List ℤ) → IsFirstAlone levels → IsFirstAlone (coefficients quant tx levels)
coefficients_alone quant tx levels alone k some = elim (cases_lt k (length levels)) [
  | inl low ↦ at_coefficients quant tx levels k low ∙ (ap (coefficient quant tx k) (alone k some) ∙ no_coefficient quant tx k)
  | inr past ↦ get_or_past (coefficients quant tx levels) k (pos 0) (omega (arith, coefficients_size quant tx levels))
]

one_fits : (limit : ℕ) (xs : List ℤ) (k : ℕ) → 0 < limit → IsFirstAlone xs → fits limit (at xs 0) ≡ true → fits limit (at xs k) ≡ true
one_fits limit xs zero some alone h = h
one_fits limit xs (suc k) some alone h = rw (alone (suc k) (omega arith)) (lt-ltb 0 limit some)

all_fit : (limit : ℕ) (xs : List ℤ) → 0 < limit → IsFirstAlone xs → fits limit (at xs 0) ≡ true → list_all (fits limit) xs ≡ true
all_fit limit xs some alone h =
    list_all-from_AllPass (fits limit) xs (λ k d low. rw (get_or_default xs k d (pos 0) low) (one_fits limit xs k some alone h))

pub flat_gives : (quant : Quant) (tx : TxSize) (kind : TxType) (levels new : List ℤ) (r : Result (Unit {0}) Rule) → 0 < length levels →
    length levels ≡ area tx → IsFirstAlone levels → AreCosines quant.lossless tx kind → Flattens quant tx levels r new →
    Gives (residue quant tx kind levels) r new
unfolding residue
flat_gives quant tx kind levels new (Ok _) some size alone cosines h =
    let cs = coefficients quant tx levels in
    let first : at cs 0 ≡ coefficient quant tx 0 (at levels 0) = at_coefficients quant tx levels 0 some in
    let fit : fits (limit_of quant.depth) (at cs 0) ≡ true = ap (fits (limit_of quant.depth)) first ∙ h.0 in
    let cs_size = coefficients_size quant tx levels in
    let cs_alone = coefficients_alone quant tx levels alone in
    rw (all_fit (limit_of quant.depth) cs (some_limit quant.depth) cs_alone fit)
    (flat_block quant tx kind cs (cs_size ∙ size) cs_alone cosines fit
    ∙ ap Ok (ap (λ n. replicate n (flat_value quant tx (at cs 0))) cs_size
    ∙ (ap (λ z. replicate (length levels) (flat_value quant tx z)) first ∙ sym h.1)))
flat_gives quant tx kind levels new (Err rule) some size alone cosines h =
    rw (misfit_at quant tx levels 0 some h.0, h.1) refl

pub area_some : (tx : TxSize) → 0 < area tx
area_some T4x4 = omega arith
area_some T8x8 = omega arith
area_some T16x16 = omega arith
area_some T32x32 = omega arith

nothing_refused : (r : Result (Unit {0}) Rule) (new : List ℤ) → Gives (Err CoefRange) r new → OnOk r (All (λ x. unsigned_abs x < 2 ^ 24) new)
nothing_refused (Ok _) new h = let no : ⊥ = cc in absurd no
nothing_refused (Err rule) new h = tt

-- a residue is small
pub gives_small : (quant : Quant) (tx : TxSize) (kind : TxType) (levels new : List ℤ) (r : Result (Unit {0}) Rule) → Gives (residue quant tx kind levels) r new →
    OnOk r (All (λ x. unsigned_abs x < 2 ^ 24) new)
unfolding residue
gives_small quant tx kind levels new r gives =
    let cs = coefficients quant tx levels in
    elim (cases_Bool (list_all (fits (limit_of quant.depth)) cs)) [
      | inl all ↦ residue_small quant tx kind cs new r all
          (subst (λ (b : Bool). Gives (if b then reconstructed quant tx kind cs else Err CoefRange) r new) all gives)
      | inr some ↦ nothing_refused r new
          (subst (λ (b : Bool). Gives (if b then reconstructed quant tx kind cs else Err CoefRange) r new) some gives)
    ]
