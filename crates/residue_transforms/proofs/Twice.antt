-- Rows, then columns.
use Rattle.std.proofs.Common.{◌≡◌, ℕ, zero, suc, ◌+◌, ◌+ℤ◌, ◌<◌, unsigned_abs, false, Bool, OnOk, ◌*◌, ◌/◌, ◌%◌, ◌≤◌, ◌^◌, ℤ, pos, negsuc, true, List, [], ◌∷◌, map, drop, length-drop, get_or, length, inl, inr, refl, sym, ◌∙◌, ap, subst, arith, All, Result, Ok, Err}
use Rattle.std.specs.List.{list_all, range_with_len}
use Rattle.std.specs.Int.{int_shr}
use Rattle.std.proofs.Math.Nat.{div-le_self}
use Rattle.std.proofs.Math.Pow.{pow_mono}
use Rattle.std.proofs.lemmas.List.{get_or-drop, get_or_past}
use Rattle.std.proofs.lemmas.List.Elements.{All-map, All-take}
use Rattle.std.proofs.lemmas.List.Sums.{AllPass-from_list_all}
use Rattle.std.proofs.lemmas.Bool.{cases_lt}
use Rattle.std.proofs.lemmas.Int.{ints}
use Rattle.vp9_types.specs.declared.rule.Rule.{Rule}
use Rattle.vp9_types.specs.declared.shape.Depth.{Depth}
use Rattle.vp9_types.specs.declared.shape.Depth.TheVariants.{Eight, Ten, Twelve}
use Rattle.vp9_types.specs.declared.block.TxSize.{TxSize}
use Rattle.vp9_types.specs.declared.block.TxType.{TxType}
use Rattle.vp9_types.specs.declared.block.TxSize.TheVariants.{T4x4, T8x8, T16x16, T32x32}
use Rattle.vp9_types.specs.Sizes.{side}
use Rattle.inverse_transforms.specs.Ranges.{limit_of, fits}
use Rattle.inverse_transforms.specs.Flow.{at, and_then, Gives}
use Rattle.inverse_transforms.proofs.Small.{AtMost, at_small, fits_small, dct_small, adst_small, wht_small}
use Rattle.residue_transforms.specs.declared.quant.Quant.{Quant}
use Rattle.residue_transforms.specs.declared.kind.Kind.{Kind}
use Rattle.residue_transforms.specs.declared.kind.Kind.TheVariants.{Cosines, Sines, LiftsOfRows, LiftsOfColumns}
use Rattle.residue_transforms.specs.SquareBlocks.{row, rows, of_columns, before, each_row, block_of, each_row_turned}
use Rattle.residue_transforms.specs.Residue.{transform, round, rounded_by, rounded_transform, kind_of_rows, kind_of_columns, rounding_bits, log2_of, reconstructed}

abbrev Maps : Type 0
Maps = List ℤ → Result (List ℤ) Rule

each_same : (f g : Maps) (xs : List (List ℤ)) → ((x : List ℤ) → f x ≡ g x) → each_row f xs ≡ each_row g xs
each_same f g [] same = refl
each_same f g (x ∷ xs) same = ap (λ r. before r (each_row f xs)) (same x) ∙ ap (before (g x)) (each_same f g xs same)

turned_same : (f g : Maps) (n : ℕ) (xs : List ℤ) → ((x : List ℤ) → f x ≡ g x) → each_row_turned f n xs ≡ each_row_turned g n xs
unfolding each_row_turned
turned_same f g n xs same = ap (block_of n) (each_same f g (rows n xs) same)

round_none : (x : ℤ) → round 0 x ≡ x
unfolding round
round_none (pos x) = ap pos (omega arith)
round_none (negsuc x) = grind (arith, ints)

all_unrounded : (xs : List ℤ) → map (round 0) xs ≡ xs
all_unrounded [] = refl
all_unrounded (x ∷ xs) = ap (λ z. z ∷ map (round 0) xs) (round_none x) ∙ ap (λ zs. x ∷ zs) (all_unrounded xs)

unrounded : (r : Result (List ℤ) Rule) → rounded_by 0 r ≡ r
unrounded (Ok xs) = ap Ok (all_unrounded xs)
unrounded (Err rule) = refl

-- stored values are at most m in magnitude, for each m that no limit is above
some_limit : (m : ℕ) (depth : Depth) → 2 ^ 19 ≤ m → limit_of depth ≤ m
some_limit m Eight most = omega arith
some_limit m Ten most = omega arith
some_limit m Twelve most = omega arith

transform_small : (m : ℕ) (kind : Kind) (depth : Depth) (log2 : ℕ) (xs ys : List ℤ) → 2 ^ 19 ≤ m → All (AtMost m) xs → transform kind (limit_of depth) log2 xs ≡ Ok ys → All (AtMost m) ys
unfolding transform
transform_small m Cosines depth log2 xs ys most small h = dct_small m (limit_of depth) log2 xs ys (some_limit m depth most) small h
transform_small m Sines depth log2 xs ys most small h = adst_small m (limit_of depth) log2 xs ys (some_limit m depth most) small h
transform_small m LiftsOfRows depth log2 xs ys most small h = wht_small m (limit_of depth) 2 xs ys (some_limit m depth most) small h
transform_small m LiftsOfColumns depth log2 xs ys most small h = wht_small m (limit_of depth) 0 xs ys (some_limit m depth most) small h

one_row_small : (m : ℕ) (n i : ℕ) (xs : List ℤ) → All (AtMost m) xs → All (AtMost m) (row n i xs)
one_row_small m n i xs small = All-take (AtMost m) n (drop (i * n) xs)
    (λ k d low. rw (get_or-drop (i * n) xs k d) (small (i * n + k) d (omega (arith, length-drop (i * n) xs))))

all_of_two : (m : ℕ) (y : List ℤ) (ys : List (List ℤ)) → All (AtMost m) y → All (All (AtMost m)) ys → All (All (AtMost m)) (y ∷ ys)
all_of_two m y ys first others zero d low = first
all_of_two m y ys first others (suc k) d low = others k d (omega arith)

before_small : (m : ℕ) (r : Result (List ℤ) Rule) (rest : Result (List (List ℤ)) Rule) (cs : List (List ℤ)) →
    ((y : List ℤ) → r ≡ Ok y → All (AtMost m) y) → ((ys : List (List ℤ)) → rest ≡ Ok ys → All (All (AtMost m)) ys) →
    before r rest ≡ Ok cs → All (All (AtMost m)) cs
before_small m (Ok y) (Ok ys) cs first others h =
    let same : (y ∷ ys) ≡ cs = cc in subst (All (All (AtMost m))) same (all_of_two m y ys (first y refl) (others ys refl))
before_small m (Ok y) (Err rule) cs first others h = let no : ⊥ = cc in absurd no
before_small m (Err rule) rest cs first others h = let no : ⊥ = cc in absurd no

each_small : (m n : ℕ) (f : Maps) (xs cs : List (List ℤ)) → ((x y : List ℤ) → All (AtMost m) x → f x ≡ Ok y → All (AtMost n) y) →
    All (All (AtMost m)) xs → each_row f xs ≡ Ok cs → All (All (AtMost n)) cs
each_small m n f [] cs keeps small h = let same : [] ≡ cs = cc in subst (All (All (AtMost n))) same (λ k d low. absurd (omega arith))
each_small m n f (x ∷ xs) cs keeps small h =
    before_small n (f x) (each_row f xs) cs (λ y is. keeps x y (small 0 [] (omega arith)) is)
    (λ ys is. each_small m n f xs ys keeps (λ k d low. small (suc k) d (omega arith)) is) h

stored_row : (m : ℕ) (cs : List (List ℤ)) (place : ℕ) → All (All (AtMost m)) cs → All (AtMost m) (get_or cs place [])
stored_row m cs place small = elim (cases_lt place (length cs)) [
  | inl low ↦ small place [] low
  | inr past ↦ rw (get_or_past cs place [] past) (λ k d low. absurd (omega arith))
]

of_columns_small : (m : ℕ) (n : ℕ) (cs : List (List ℤ)) → All (All (AtMost m)) cs → All (AtMost m) (of_columns n cs)
of_columns_small m n cs small =
    All-map (AtMost m) (λ p. at (get_or cs (p % n) []) (p / n)) (range_with_len 0 (n * n))
    (λ k d low. at_small m _ _ (stored_row m cs _ small))

block_small : (m : ℕ) (n : ℕ) (r : Result (List (List ℤ)) Rule) (ys : List ℤ) → ((cs : List (List ℤ)) → r ≡ Ok cs → All (All (AtMost m)) cs) →
    block_of n r ≡ Ok ys → All (AtMost m) ys
block_small m n (Ok cs) ys small h = let same : of_columns n cs ≡ ys = cc in subst (All (AtMost m)) same (of_columns_small m n cs (small cs refl))
block_small m n (Err rule) ys small h = let no : ⊥ = cc in absurd no

turned_small : (m most : ℕ) (f : Maps) (n : ℕ) (xs ys : List ℤ) → ((x y : List ℤ) → All (AtMost m) x → f x ≡ Ok y → All (AtMost most) y) →
    All (AtMost m) xs → each_row_turned f n xs ≡ Ok ys → All (AtMost most) ys
unfolding each_row_turned
turned_small m most f n xs ys keeps small h =
    block_small most n (each_row f (rows n xs)) ys
    (λ cs is. each_small m most f (rows n xs) cs keeps (All-map (All (AtMost m)) (λ i. row n i xs) (range_with_len 0 n) (λ k d low. one_row_small m n _ xs small)) is) h

-- the coefficients of a block that fit are small
pub fitting_small : (m : ℕ) (depth : Depth) (xs : List ℤ) → 2 ^ 19 ≤ m → list_all (fits (limit_of depth)) xs ≡ true → All (AtMost m) xs
fitting_small m depth xs most all k d low = fits_small m (limit_of depth) (get_or xs k d) (some_limit m depth most) (AllPass-from_list_all (fits (limit_of depth)) xs all k d low)

rounded_none : (kind : Kind) (limit log2 : ℕ) (xs : List ℤ) → rounded_transform kind limit log2 0 xs ≡ transform kind limit log2 xs
rounded_none kind limit log2 xs = unrounded (transform kind limit log2 xs)

pub first_turn : (kind : Kind) (limit log2 n : ℕ) (xs : List ℤ) →
    each_row_turned (rounded_transform kind limit log2 0) n xs ≡ each_row_turned (transform kind limit log2) n xs
first_turn kind limit log2 n xs = turned_same (rounded_transform kind limit log2 0) (transform kind limit log2) n xs (rounded_none kind limit log2)

pub first_turn_small : (m : ℕ) (kind : Kind) (depth : Depth) (log2 n : ℕ) (xs ys : List ℤ) → 2 ^ 19 ≤ m → All (AtMost m) xs →
    each_row_turned (rounded_transform kind (limit_of depth) log2 0) n xs ≡ Ok ys → All (AtMost m) ys
first_turn_small m kind depth log2 n xs ys most small h =
    turned_small m m (transform kind (limit_of depth) log2) n xs ys (λ x y x_small is. transform_small m kind depth log2 x y most x_small is) small (sym (first_turn kind (limit_of depth) log2 n xs) ∙ h)

abbrev of_rows : Quant → TxSize → TxType → Maps
of_rows quant tx kind = rounded_transform (kind_of_rows quant.lossless tx kind) (limit_of quant.depth) (log2_of tx) 0

abbrev of_cols : Quant → TxSize → TxType → Maps
of_cols quant tx kind = rounded_transform (kind_of_columns quant.lossless tx kind) (limit_of quant.depth) (log2_of tx) (rounding_bits quant.lossless tx)

as_turns : (quant : Quant) (tx : TxSize) (kind : TxType) (xs : List ℤ) →
    reconstructed quant tx kind xs ≡ and_then (each_row_turned (of_rows quant tx kind) (side tx) xs) (each_row_turned (of_cols quant tx kind) (side tx))
unfolding reconstructed
as_turns quant tx kind xs =
    ap (λ r. and_then r (each_row_turned (of_cols quant tx kind) (side tx)))
    (sym (first_turn (kind_of_rows quant.lossless tx kind) (limit_of quant.depth) (log2_of tx) (side tx) xs))

-- the passes of a block
pub record Passes (quant : Quant) (tx : TxSize) (kind : TxType) (rows_kind : Kind) (log2 bits : ℕ) (depth : Depth) (want : Kind) (wanted_bits : ℕ) : Type 0 where
  pub kind_is : rows_kind ≡ want
  pub log2_is : log2 ≡ log2_of tx
  pub depth_is : depth ≡ quant.depth
  pub bits_are : bits ≡ wanted_bits
  pub side_is : 2 ^ log2 ≡ side tx

same_turn : (quant : Quant) (tx : TxSize) (kind : TxType) (k : Kind) (log2 bits : ℕ) (depth : Depth) (want : Kind) (wanted_bits : ℕ) (xs : List ℤ) →
    Passes quant tx kind k log2 bits depth want wanted_bits →
    each_row_turned (rounded_transform k (limit_of depth) log2 bits) (2 ^ log2) xs
    ≡ each_row_turned (rounded_transform want (limit_of quant.depth) (log2_of tx) wanted_bits) (side tx) xs
same_turn quant tx kind k log2 bits depth want wanted_bits xs p =
    ap (λ n. each_row_turned (rounded_transform k (limit_of depth) log2 bits) n xs) p.side_is
    ∙ (ap (λ z. each_row_turned (rounded_transform z (limit_of depth) log2 bits) (side tx) xs) p.kind_is
    ∙ (ap (λ z. each_row_turned (rounded_transform want (limit_of z) log2 bits) (side tx) xs) p.depth_is
    ∙ (ap (λ z. each_row_turned (rounded_transform want (limit_of quant.depth) z bits) (side tx) xs) p.log2_is
    ∙ ap (λ z. each_row_turned (rounded_transform want (limit_of quant.depth) (log2_of tx) z) (side tx) xs) p.bits_are)))

pub rows_failed : (quant : Quant) (tx : TxSize) (kind : TxType) (k : Kind) (log2 bits : ℕ) (depth : Depth) (xs : List ℤ) (rule : Rule) →
    Passes quant tx kind k log2 bits depth (kind_of_rows quant.lossless tx kind) 0 →
    each_row_turned (rounded_transform k (limit_of depth) log2 bits) (2 ^ log2) xs ≡ Err rule → reconstructed quant tx kind xs ≡ Err rule
rows_failed quant tx kind k log2 bits depth xs rule p h =
    as_turns quant tx kind xs ∙ ap (λ r. and_then r (each_row_turned (of_cols quant tx kind) (side tx)))
    (sym (same_turn quant tx kind k log2 bits depth (kind_of_rows quant.lossless tx kind) 0 xs p) ∙ h)

pub columns_given : (quant : Quant) (tx : TxSize) (kind : TxType) (k m : Kind) (k_log2 m_log2 k_bits m_bits : ℕ) (k_depth m_depth : Depth)
    (xs ys new : List ℤ) (r : Result (Unit {0}) Rule) →
    Passes quant tx kind k k_log2 k_bits k_depth (kind_of_rows quant.lossless tx kind) 0 →
    Passes quant tx kind m m_log2 m_bits m_depth (kind_of_columns quant.lossless tx kind) (rounding_bits quant.lossless tx) →
    each_row_turned (rounded_transform k (limit_of k_depth) k_log2 k_bits) (2 ^ k_log2) xs ≡ Ok ys →
    Gives (each_row_turned (rounded_transform m (limit_of m_depth) m_log2 m_bits) (2 ^ m_log2) ys) r new →
    Gives (reconstructed quant tx kind xs) r new
columns_given quant tx kind k m k_log2 m_log2 k_bits m_bits k_depth m_depth xs ys new r p q first second =
    let rows_done : each_row_turned (of_rows quant tx kind) (side tx) xs ≡ Ok ys =
    sym (same_turn quant tx kind k k_log2 k_bits k_depth (kind_of_rows quant.lossless tx kind) 0 xs p) ∙ first in
    let whole : each_row_turned (rounded_transform m (limit_of m_depth) m_log2 m_bits) (2 ^ m_log2) ys ≡ reconstructed quant tx kind xs =
    same_turn quant tx kind m m_log2 m_bits m_depth (kind_of_columns quant.lossless tx kind) (rounding_bits quant.lossless tx) ys q
    ∙ sym (as_turns quant tx kind xs ∙ ap (λ z. and_then z (each_row_turned (of_cols quant tx kind) (side tx))) rows_done) in
    subst (λ z. Gives z r new) whole second

-- the residue is small
add_size : (x : ℤ) (h : ℕ) → unsigned_abs (x +ℤ pos h) ≤ unsigned_abs x + h
add_size (pos x) h = omega arith
add_size (negsuc x) h = grind (arith, ints)

shr_size : (x : ℤ) (n : ℕ) → unsigned_abs (int_shr x n) ≤ unsigned_abs x
shr_size (pos x) n = div-le_self x (2 ^ n)
shr_size (negsuc x) n = omega (arith, div-le_self x (2 ^ n))

half_small : (bits : ℕ) → bits ≤ 6 → 2 ^ bits / 2 ≤ 32
half_small bits few = omega (arith, pow_mono {i = bits} {j = 6} few)

round_small : (bits : ℕ) (x : ℤ) → bits ≤ 6 → AtMost (2 ^ 19) x → AtMost (2 ^ 20) (round bits x)
unfolding round
round_small bits x few small = omega (arith, shr_size (x +ℤ pos (2 ^ bits / 2)) bits, add_size x (2 ^ bits / 2), half_small bits few)

rounded_small : (bits : ℕ) (r : Result (List ℤ) Rule) (ys : List ℤ) → bits ≤ 6 → ((xs : List ℤ) → r ≡ Ok xs → All (AtMost (2 ^ 19)) xs) →
    rounded_by bits r ≡ Ok ys → All (AtMost (2 ^ 20)) ys
rounded_small bits (Ok xs) ys few small h =
    let same : map (round bits) xs ≡ ys = cc in
    subst (All (AtMost (2 ^ 20))) same (All-map (AtMost (2 ^ 20)) (round bits) xs (λ k d low. round_small bits (get_or xs k d) few (small xs refl k d low)))
rounded_small bits (Err rule) ys few small h = let no : ⊥ = cc in absurd no

some_bits : (lossless : Bool) (tx : TxSize) → rounding_bits lossless tx ≤ 6
some_bits true T4x4 = omega arith
some_bits true T8x8 = omega arith
some_bits true T16x16 = omega arith
some_bits true T32x32 = omega arith
some_bits false T4x4 = omega arith
some_bits false T8x8 = omega arith
some_bits false T16x16 = omega arith
some_bits false T32x32 = omega arith

after_rows : (r : Result (List ℤ) Rule) (f : Maps) (ys : List ℤ) → ((xs : List ℤ) → r ≡ Ok xs → All (AtMost (2 ^ 19)) xs) →
    ((xs : List ℤ) → All (AtMost (2 ^ 19)) xs → f xs ≡ Ok ys → All (AtMost (2 ^ 20)) ys) → and_then r f ≡ Ok ys → All (AtMost (2 ^ 20)) ys
after_rows (Ok xs) f ys first second h = second xs (first xs refl) h
after_rows (Err rule) f ys first second h = let no : ⊥ = cc in absurd no

of_coefficients : (quant : Quant) (tx : TxSize) (kind : TxType) (xs ys : List ℤ) → All (AtMost (2 ^ 19)) xs →
    reconstructed quant tx kind xs ≡ Ok ys → All (AtMost (2 ^ 20)) ys
unfolding reconstructed
of_coefficients quant tx kind xs ys small h =
    let rows_kind = kind_of_rows quant.lossless tx kind in
    let columns_kind = kind_of_columns quant.lossless tx kind in
    let bits = rounding_bits quant.lossless tx in
    let few : bits ≤ 6 = some_bits quant.lossless tx in
    after_rows (each_row_turned (transform rows_kind (limit_of quant.depth) (log2_of tx)) (side tx) xs)
    (each_row_turned (rounded_transform columns_kind (limit_of quant.depth) (log2_of tx) bits) (side tx)) ys
    (λ zs is. turned_small (2 ^ 19) (2 ^ 19) (transform rows_kind (limit_of quant.depth) (log2_of tx)) (side tx) xs zs
    (λ x y x_small y_is. transform_small (2 ^ 19) rows_kind quant.depth (log2_of tx) x y (omega arith) x_small y_is) small is)
    (λ zs zs_small is. turned_small (2 ^ 19) (2 ^ 20) (rounded_transform columns_kind (limit_of quant.depth) (log2_of tx) bits) (side tx) zs ys
    (λ x y x_small y_is. rounded_small bits (transform columns_kind (limit_of quant.depth) (log2_of tx) x) y few
    (λ w w_is. transform_small (2 ^ 19) columns_kind quant.depth (log2_of tx) x w (omega arith) x_small w_is) y_is) zs_small is) h

pub residue_small : (quant : Quant) (tx : TxSize) (kind : TxType) (xs new : List ℤ) (r : Result (Unit {0}) Rule) →
    list_all (fits (limit_of quant.depth)) xs ≡ true → Gives (reconstructed quant tx kind xs) r new → OnOk r (All (λ x. unsigned_abs x < 2 ^ 24) new)
residue_small quant tx kind xs new (Ok _) all h =
    let small = of_coefficients quant tx kind xs new (fitting_small (2 ^ 19) quant.depth xs (omega arith) all) h in
    λ k d low. omega (arith, small k d low)
residue_small quant tx kind xs new (Err rule) all h = tt
