-- A first value alone: the steps of a DCT make one value of it, everywhere. Each place holds 0, the first value, or the first
-- value divided by the root of 2, and which of them is a computation on marks.
use Rattle.std.proofs.Common.{◌≡◌, ℕ, zero, suc, ◌+◌, ◌*◌, ◌/◌, ◌<◌, ◌≤◌, ◌^◌, ℤ, pos, negsuc, ◌+ℤ◌, ◌*ℤ◌, Bool, true, false, ◌&&◌, inl, inr, List, [], ◌∷◌, map, take, length, set, get_or, replicate, refl, sym, ◌∙◌, ap, arith, Ok, nat_eq, unsigned_abs}
use Rattle.std.specs.Int.{int_shr}
use Rattle.std.proofs.Math.IntN.{zero-*ℤ, +ℤ_idr}
use Rattle.std.proofs.lemmas.Int.{ints}
use Rattle.std.proofs.lemmas.List.{map-set, get_or-map, get_or_past, length-map}
use Rattle.std.proofs.lemmas.Bool.{and_parts, cases_lt, lt-ltb, eqb-true}
use borrow.Author.Tests.{ltb-true}
use Rattle.vp9_tables.specs.declared.flow_row.FlowRow.{FlowRow}
use Rattle.vp9_tables.specs.declared.flow_row.FlowRow.TheVariants.{Perm, Rot, Sum, Neg, Wide}
use Rattle.vp9_tables.specs.TransformTables.{cosine_of, dct_of}
use Rattle.inverse_transforms.specs.declared.values.Two.{Two}
use Rattle.inverse_transforms.specs.Angles.{sine_of}
use Rattle.inverse_transforms.specs.Ranges.{fits, round14}
use Rattle.inverse_transforms.specs.Flow.{at, zeros, turned_x, turned_y, rotated, sum_and_difference, two_fit, store_two, flow_step, run_flow}
use Rattle.inverse_transforms.specs.Transforms.{dct, size_of_log2}
use Rattle.residue_transforms.specs.First.{rooted}

-- what stands at a place of this mark
abbrev meant : ℤ → ℤ → ℕ → ℤ
meant x c zero = pos 0
meant x c (suc zero) = x
meant x c (suc (suc m)) = c

abbrev mark : List ℕ → ℕ → ℕ
mark ms i = get_or ms i 0

abbrev both : List ℕ → ℕ → ℕ → ℕ → List ℕ
both ms a b m = set (set ms a m) b m

-- the marks after a step
abbrev marked : FlowRow → List ℕ → List ℕ
marked (Perm order) ms = map (λ i. mark ms i) (take (length ms) order)
marked (Rot a b k) ms = both ms a b (2 * mark ms a)
marked (Sum a b) ms = both ms a b (mark ms a)
marked (Neg a) ms = ms
marked (Wide a b k c d m) ms = ms

-- an angle turns 0, or is that of a root and turns the first value
abbrev is_turn : ℕ → ℕ → Bool
is_turn k zero = true
is_turn k (suc zero) = nat_eq k 16
is_turn k (suc (suc m)) = false

abbrev is_plain : FlowRow → List ℕ → Bool
is_plain (Perm order) ms = true
is_plain (Rot a b k) ms = nat_eq (mark ms b) 0 && is_turn k (mark ms a)
is_plain (Sum a b) ms = nat_eq (mark ms b) 0
is_plain (Neg a) ms = false
is_plain (Wide a b k c d m) ms = false

abbrev are_plain : List FlowRow → List ℕ → Bool
are_plain [] ms = true
are_plain (row ∷ rows) ms = is_plain row ms && are_plain rows (marked row ms)

abbrev marks : List FlowRow → List ℕ → List ℕ
marks [] ms = ms
marks (row ∷ rows) ms = marks rows (marked row ms)

-- values that are meant by marks all fit
record Fit (limit : ℕ) (x c : ℤ) : Type 0 where
  none : fits limit (pos 0) ≡ true
  first : fits limit x ≡ true
  root : fits limit c ≡ true

meant_fits : (limit : ℕ) (x c : ℤ) (m : ℕ) → Fit limit x c → fits limit (meant x c m) ≡ true
meant_fits limit x c zero f = f.none
meant_fits limit x c (suc zero) f = f.first
meant_fits limit x c (suc (suc m)) f = f.root

at_meant : (x c : ℤ) (ms : List ℕ) (i : ℕ) → at (map (meant x c) ms) i ≡ meant x c (mark ms i)
at_meant x c ms i = elim (cases_lt i (length ms)) [
  | inl low ↦ get_or-map (meant x c) ms i 0 (pos 0) low
  | inr past ↦
      get_or_past (map (meant x c) ms) i (pos 0) (omega (arith, length-map ms (meant x c)))
      ∙ ap (meant x c) (sym (get_or_past ms i 0 past))
]

all_meant : (x c : ℤ) (ms places : List ℕ) →
    map (λ i. at (map (meant x c) ms) i) places ≡ map (meant x c) (map (λ i. mark ms i) places)
all_meant x c ms [] = refl
all_meant x c ms (i ∷ places) =
    ap (λ z. z ∷ map (λ k. at (map (meant x c) ms) k) places) (at_meant x c ms i)
    ∙ ap (λ zs. meant x c (mark ms i) ∷ zs) (all_meant x c ms places)

abbrev twice : ℤ → Two
twice v = record { first = v; second = v }

twice_fits : (limit : ℕ) (v : ℤ) → fits limit v ≡ true → two_fit limit (twice v) ≡ true
unfolding two_fit
twice_fits limit v h = rw h refl

stored_both : (limit : ℕ) (x c : ℤ) (ms : List ℕ) (a b m : ℕ) → Fit limit x c →
    store_two limit (map (meant x c) ms) a b (twice (meant x c m)) ≡ Ok (map (meant x c) (both ms a b m))
stored_both limit x c ms a b m f =
    rw (twice_fits limit (meant x c m) (meant_fits limit x c m f))
    (ap Ok (ap (λ z. set z b (meant x c m)) (sym (map-set (meant x c) ms a m)) ∙ sym (map-set (meant x c) (set ms a m) b m)))

added_none : (v : ℤ) → sum_and_difference v (pos 0) ≡ twice v
unfolding sum_and_difference
added_none v = rw (+ℤ_idr v) refl

turned_none : (k : ℕ) → rotated k (pos 0) (pos 0) ≡ twice (pos 0)
unfolding rotated turned_x turned_y round14
turned_none k = rw (zero-*ℤ (cosine_of k), zero-*ℤ (sine_of k)) refl

turned_first : (x : ℤ) → rotated 16 x (pos 0) ≡ twice (rooted x)
unfolding rotated turned_x turned_y rooted
turned_first x =
    rw (zero-*ℤ (cosine_of 16), zero-*ℤ (sine_of 16), +ℤ_idr (x *ℤ pos 11585)) refl

turned_marks : (x : ℤ) (k m : ℕ) → is_turn k m ≡ true → rotated k (meant x (rooted x) m) (pos 0) ≡ twice (meant x (rooted x) (2 * m))
turned_marks x k zero h = turned_none k
turned_marks x k (suc zero) h = ap (λ z. rotated z x (pos 0)) (eqb-true k 16 h) ∙ turned_first x
turned_marks x k (suc (suc m)) h = let no : ⊥ = cc in absurd no

plain_step : (limit : ℕ) (x : ℤ) (row : FlowRow) (ms : List ℕ) → Fit limit x (rooted x) → is_plain row ms ≡ true →
    flow_step limit row (map (meant x (rooted x)) ms) ≡ Ok (map (meant x (rooted x)) (marked row ms))
unfolding flow_step
plain_step limit x (Perm order) ms f h =
    ap Ok (ap (λ n. map (λ i. at (map (meant x (rooted x)) ms) i) (take n order)) (length-map ms (meant x (rooted x)))
    ∙ all_meant x (rooted x) ms (take (length ms) order))
plain_step limit x (Rot a b k) ms f h =
    let parts = and_parts (nat_eq (mark ms b) 0) (is_turn k (mark ms a)) h in
    let none : at (map (meant x (rooted x)) ms) b ≡ pos 0 = at_meant x (rooted x) ms b ∙ ap (meant x (rooted x)) (eqb-true (mark ms b) 0 parts.0) in
    let here = at_meant x (rooted x) ms a in
    rw (here, none, turned_marks x k (mark ms a) parts.1) (stored_both limit x (rooted x) ms a b (2 * mark ms a) f)
plain_step limit x (Sum a b) ms f h =
    let none : at (map (meant x (rooted x)) ms) b ≡ pos 0 = at_meant x (rooted x) ms b ∙ ap (meant x (rooted x)) (eqb-true (mark ms b) 0 h) in
    let here = at_meant x (rooted x) ms a in
    rw (here, none, added_none (meant x (rooted x) (mark ms a))) (stored_both limit x (rooted x) ms a b (mark ms a) f)
plain_step limit x (Neg a) ms f h = let no : ⊥ = cc in absurd no
plain_step limit x (Wide a b k c d m) ms f h = let no : ⊥ = cc in absurd no

plain_run : (limit : ℕ) (x : ℤ) (rows : List FlowRow) (ms : List ℕ) → Fit limit x (rooted x) → are_plain rows ms ≡ true →
    run_flow limit rows (map (meant x (rooted x)) ms) ≡ Ok (map (meant x (rooted x)) (marks rows ms))
plain_run limit x [] ms f h = refl
plain_run limit x (row ∷ rows) ms f h =
    let parts = and_parts (is_plain row ms) (are_plain rows (marked row ms)) h in
    rw (plain_step limit x row ms f parts.0) (plain_run limit x rows (marked row ms) f parts.1)

-- a root is no larger
rooted_pos : (n : ℕ) → rooted (pos n) ≡ pos ((n * 11585 + 8192) / 2 ^ 14)
unfolding rooted round14
rooted_pos n = refl

rooted_neg : (n : ℕ) → rooted (negsuc n) ≡ negsuc ((n * 11585 + 3392) / 2 ^ 14)
unfolding rooted round14
rooted_neg n =
    let sum : negsuc n *ℤ pos 11585 +ℤ pos 8192 ≡ negsuc (n * 11585 + 3392) = grind (arith, ints) in
    ap (λ z. int_shr z 14) sum

pub rooted_fits : (limit : ℕ) (x : ℤ) → fits limit x ≡ true → fits limit (rooted x) ≡ true
rooted_fits limit (pos n) h = rw (rooted_pos n) (lt-ltb ((n * 11585 + 8192) / 2 ^ 14) limit (omega (arith, ltb-true n limit h)))
rooted_fits limit (negsuc n) h = rw (rooted_neg n) (lt-ltb ((n * 11585 + 3392) / 2 ^ 14) limit (omega (arith, ltb-true n limit h)))

pub rooted_size : (x : ℤ) → unsigned_abs (rooted x) ≤ unsigned_abs x
rooted_size (pos n) = rw (rooted_pos n) (omega arith)
rooted_size (negsuc n) = rw (rooted_neg n) (omega arith)

all_fit : (limit : ℕ) (x : ℤ) → 0 < limit → fits limit x ≡ true → Fit limit x (rooted x)
all_fit limit x some h = record { none = lt-ltb 0 limit some; first = h; root = rooted_fits limit x h }

pub rooted_none : rooted (pos 0) ≡ pos 0
unfolding rooted round14
rooted_none = refl

-- n values, of which all but the first are 0
abbrev pub spike : ℕ → ℤ → List ℤ
spike n x = set (zeros n) 0 x

pub root_of_4 : (limit : ℕ) (x : ℤ) → 0 < limit → fits limit x ≡ true → dct limit 2 (spike 4 x) ≡ Ok (replicate 4 (rooted x))
unfolding dct
root_of_4 limit x some h = plain_run limit x (dct_of (size_of_log2 2)) (1 ∷ replicate 3 0) (all_fit limit x some h) refl

pub root_of_8 : (limit : ℕ) (x : ℤ) → 0 < limit → fits limit x ≡ true → dct limit 3 (spike 8 x) ≡ Ok (replicate 8 (rooted x))
unfolding dct
root_of_8 limit x some h = plain_run limit x (dct_of (size_of_log2 3)) (1 ∷ replicate 7 0) (all_fit limit x some h) refl

pub root_of_16 : (limit : ℕ) (x : ℤ) → 0 < limit → fits limit x ≡ true → dct limit 4 (spike 16 x) ≡ Ok (replicate 16 (rooted x))
unfolding dct
root_of_16 limit x some h = plain_run limit x (dct_of (size_of_log2 4)) (1 ∷ replicate 15 0) (all_fit limit x some h) refl

pub root_of_32 : (limit : ℕ) (x : ℤ) → 0 < limit → fits limit x ≡ true → dct limit 5 (spike 32 x) ≡ Ok (replicate 32 (rooted x))
unfolding dct
root_of_32 limit x some h = plain_run limit x (dct_of (size_of_log2 5)) (1 ∷ replicate 31 0) (all_fit limit x some h) refl
