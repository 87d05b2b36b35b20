-- What was written is an index.
use Rattle.std.proofs.Common.{◌≡◌, ℕ, zero, suc, ◌+◌, ◌<◌, ◌≤◌, ◌^◌, max, List, [], ◌∷◌, ◌++◌, length, get_or, map, take, drop, refl, ap, sym, ◌∙◌, arith}
use Rattle.std.specs.Prelude.{nat_lt}
use Rattle.std.specs.List.{AllByRecursion}
use Rattle.std.specs.Int.{bytes_low_first, to_le_bytes, w32}
use Rattle.std.proofs.Math.Seq.{drop-cons}
use Rattle.std.proofs.lemmas.Bool.{ltb-true}
use Rattle.std.proofs.lemmas.List.{append-nil, append_assoc, take_more, drop_all, length-map}
use Rattle.byteorder.specs.Endian.{little_bytes, little_number}
use Rattle.byteorder.specs.Numbers.{little_number-reads_back}
use Rattle.ivf_container.proofs.Walks.{by_test}
use Rattle.superframe_index.specs.PayloadFrames.{HasIndex, IsIndex, size_bytes, frames_of, frames_within}
use Rattle.superframe_index.proofs.Splits.{within_index}
use Rattle.container_writer.specs.Indexes.{greatest, width_of, index_header, size_list, index_by, index_bytes}

-- ---- the width

pub record IsWidth (size width : ℕ) : Type 0 where
  pub least : 1 ≤ width
  pub most : width ≤ 4
  pub fits : size < 256 ^ width

pub is_width : (size : ℕ) → size < 2 ^ 32 → IsWidth size (width_of size)
is_width size low =
    by_test (λ n. IsWidth size n) (nat_lt size 0x100) 1 _
    (λ t. let e = ltb-true size 0x100 t in record { least = omega arith; most = omega arith; fits = omega (arith, e) })
    (λ _. by_test (λ n. IsWidth size n) (nat_lt size 0x10000) 2 _
    (λ t. let e = ltb-true size 0x10000 t in record { least = omega arith; most = omega arith; fits = omega (arith, e) })
    (λ _. by_test (λ n. IsWidth size n) (nat_lt size 0x1000000) 3 4
    (λ t. let e = ltb-true size 0x1000000 t in record { least = omega arith; most = omega arith; fits = omega (arith, e) })
    (λ _. record { least = omega arith; most = omega arith; fits = omega (arith, low) })))

greatest_below : (most : ℕ) (sizes : List ℕ) → 0 < most → AllByRecursion (λ size. size < most) sizes → greatest sizes < most
greatest_below most [] some all = some
greatest_below most (size ∷ sizes) some all =
    let rest = greatest_below most sizes some all.1 in
    omega (arith, rest, all.0)

-- ---- the sizes

long : (i k x : ℕ) → length (bytes_low_first i k x) ≡ k
long i zero x = refl
long i (suc k) x = ap suc (long (suc i) k x)

each_long : (width n : ℕ) (sizes : List ℕ) → n ≡ width → AllByRecursion (λ bytes. length bytes ≡ n) (map (little_bytes width) sizes)
each_long width n [] same = tt
each_long width n (size ∷ sizes) same = (long 0 width size ∙ sym same, each_long width n sizes same)

one_again : (width size : ℕ) → size < 256 ^ width → little_number width (little_bytes width size) ≡ size
one_again width size fits =
    ap (little_number width) (sym (append-nil (little_bytes width size))) ∙ little_number-reads_back width size [] fits

again : (width : ℕ) (sizes : List ℕ) → greatest sizes < 256 ^ width → sizes ≡ map (little_number width) (map (little_bytes width) sizes)
again width [] fits = refl
again width (size ∷ sizes) fits =
    ap (λ s. s ∷ sizes) (sym (one_again width size (omega (arith, fits))))
    ∙ ap (λ ss. little_number width (little_bytes width size) ∷ ss) (again width sizes (omega (arith, fits)))

-- ---- the index

is_index : (width : ℕ) (sizes : List ℕ) → 1 ≤ length sizes → length sizes ≤ 8 → IsWidth (greatest sizes) width → IsIndex (index_by width sizes) sizes
is_index width sizes some few w =
    let least = w.least in
    let most = w.most in
    let header = index_header width (length sizes) in
    let bytes : size_bytes header ≡ width = omega (arith, least, most, some, few) in
    record {
      header = header;
      written = map (little_bytes width) sizes;
      is_header = omega (arith, least, most, some, few);
      whole = refl;
      count = length-map sizes (little_bytes width) ∙ omega (arith, least, most, some, few);
      each = each_long width (size_bytes header) sizes bytes;
      are_sizes = again width sizes w.fits ∙ ap (λ n. map (little_number n) (map (little_bytes width) sizes)) (sym bytes);
    }

pub has_index : (front sizes : List ℕ) → 1 ≤ length sizes → length sizes ≤ 8 → AllByRecursion (λ size. size < 2 ^ 32) sizes
    → HasIndex (front ++ index_bytes sizes) front sizes
unfolding index_bytes
has_index front sizes some few all = record {
  index = index_bytes sizes;
  whole = refl;
  is_index = is_index (width_of (greatest sizes)) sizes some few (is_width (greatest sizes) (greatest_below (2 ^ 32) sizes (omega arith) all));
}

pub splits : (front sizes : List ℕ) → 1 ≤ length sizes → length sizes ≤ 8 → AllByRecursion (λ size. size < 2 ^ 32) sizes
    → frames_of (front ++ index_bytes sizes) ≡ frames_within (length front) sizes
splits front sizes some few all = within_index (front ++ index_bytes sizes) front sizes (has_index front sizes some few all)

-- ---- the greatest, size by size

pub greatest_goes : (sizes : List ℕ) (most i : ℕ) → i < length sizes → max most (greatest (drop i sizes)) ≡ greatest sizes
    → max (max most (get_or sizes i 0)) (greatest (drop (i + 1) sizes)) ≡ greatest sizes
greatest_goes sizes most i low h =
    let next : suc i ≡ i + 1 = omega arith in
    let cut : drop i sizes ≡ get_or sizes i 0 ∷ drop (i + 1) sizes = drop-cons sizes i 0 low ∙ ap (λ n. get_or sizes i 0 ∷ drop n sizes) next in
    let all = ap greatest cut in
    omega (arith, all, h)

pub greatest_ends : (sizes : List ℕ) (most i : ℕ) → length sizes ≤ i → max most (greatest (drop i sizes)) ≡ greatest sizes → most ≡ greatest sizes
greatest_ends sizes most i all h =
    let none = ap greatest (drop_all i sizes all) in
    omega (arith, none, h)

-- ---- the bytes, size by size

pub low_bytes_of : (width size : ℕ) → 1 ≤ width → width ≤ 4 → take width (to_le_bytes w32 size) ≡ little_bytes width size
low_bytes_of zero size some few = absurd (omega arith)
low_bytes_of (suc zero) size some few = refl
low_bytes_of (suc (suc zero)) size some few = refl
low_bytes_of (suc (suc (suc zero))) size some few = refl
low_bytes_of (suc (suc (suc (suc zero)))) size some few = refl
low_bytes_of (suc (suc (suc (suc (suc width))))) size some few = absurd (omega arith)

list_more : (width : ℕ) (xs : List ℕ) (x : ℕ) → size_list width (xs ++ x ∷ []) ≡ size_list width xs ++ little_bytes width x
list_more width [] x = append-nil (little_bytes width x)
list_more width (y ∷ xs) x =
    ap (λ bytes. little_bytes width y ++ bytes) (list_more width xs x) ∙ sym (append_assoc (little_bytes width y) (size_list width xs) (little_bytes width x))

pub sizes_go : (old now next sizes : List ℕ) (width i : ℕ) → i < length sizes
    → now ≡ old ++ size_list width (take i sizes) → next ≡ now ++ little_bytes width (get_or sizes i 0) → next ≡ old ++ size_list width (take (i + 1) sizes)
sizes_go old now next sizes width i low h g =
    g ∙ ap (λ bytes. bytes ++ little_bytes width (get_or sizes i 0)) h
    ∙ append_assoc old (size_list width (take i sizes)) (little_bytes width (get_or sizes i 0))
    ∙ ap (λ bytes. old ++ bytes) (sym (ap (size_list width) (take_more sizes i 0 low) ∙ list_more width (take i sizes) (get_or sizes i 0)))
