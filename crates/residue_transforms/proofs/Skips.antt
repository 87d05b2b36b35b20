-- Zeros need no transform.
use Rattle.std.proofs.Common.{◌≡◌, ℕ, ◌<◌, ◌≤◌, ◌^◌, ℤ, pos, true, List, [], length, All, get_or, refl, sym, ◌∙◌, ap, arith, Ok, nat_le}
use Rattle.std.proofs.lemmas.Bool.{and_parts, eqb-true}
use Rattle.std.proofs.lemmas.List.{ext_get_or, get_or-map, get_or-replicate, length-replicate, length-map}
use borrow.Author.Tests.{leb-true}
use Rattle.vp9_types.specs.declared.shape.Depth.{Depth}
use Rattle.vp9_types.specs.declared.shape.Depth.TheVariants.{Eight, Ten, Twelve}
use Rattle.inverse_transforms.specs.Ranges.{limit_of, IsSmall}
use Rattle.inverse_transforms.specs.Flow.{at, zeros}
use Rattle.inverse_transforms.specs.LaneColumns.{column}
use Rattle.inverse_transforms.proofs.Zeros.{dct_zeros, adst_zeros, wht_zeros}
use Rattle.residue_transforms.specs.declared.kind.Kind.{Kind}
use Rattle.residue_transforms.specs.declared.kind.Kind.TheVariants.{Cosines, Sines, LiftsOfRows, LiftsOfColumns}
use Rattle.residue_transforms.specs.Residue.{transform, has_size}

pub some_limit : (depth : Depth) → 0 < limit_of depth
some_limit Eight = omega arith
some_limit Ten = omega arith
some_limit Twelve = omega arith

of_four : (log2 : ℕ) → log2 ≡ 2 → zeros 4 ≡ zeros (2 ^ log2)
of_four log2 is = rw is refl

pub transform_zeros : (kind : Kind) (depth : Depth) (log2 : ℕ) → has_size kind log2 ≡ true →
    transform kind (limit_of depth) log2 (zeros (2 ^ log2)) ≡ Ok (zeros (2 ^ log2))
unfolding transform
transform_zeros Cosines depth log2 size =
    let parts = and_parts (nat_le 2 log2) (nat_le log2 5) size in
    dct_zeros (limit_of depth) log2 (some_limit depth) (leb-true 2 log2 parts.0) (leb-true log2 5 parts.1)
transform_zeros Sines depth log2 size =
    let parts = and_parts (nat_le 2 log2) (nat_le log2 4) size in
    adst_zeros (limit_of depth) log2 (some_limit depth) (leb-true 2 log2 parts.0) (leb-true log2 4 parts.1)
transform_zeros LiftsOfRows depth log2 size =
    let four = eqb-true log2 2 size in rw four (wht_zeros (limit_of depth) 2 (some_limit depth) (omega arith))
transform_zeros LiftsOfColumns depth log2 size =
    let four = eqb-true log2 2 size in rw four (wht_zeros (limit_of depth) 0 (some_limit depth) (omega arith))

-- rows of zeros have columns of zeros
pub zero_columns : (t : List (List ℤ)) (n : ℕ) → length t ≤ n → ((k : ℕ) → k < n → (j : ℕ) → at (get_or t k []) j ≡ pos 0) →
    (j : ℕ) → column j t ≡ zeros (length t)
zero_columns t n most rows_zero j =
    ext_get_or (pos 0) (column j t) (zeros (length t)) (length-map t (λ row. at row j) ∙ sym (length-replicate (length t) (pos 0)))
    (λ k low. let low_t : k < length t = omega (arith, length-map t (λ row. at row j)) in
    get_or-map (λ row. at row j) t k [] (pos 0) low_t
    ∙ (rows_zero k (omega arith) j ∙ sym (get_or-replicate (length t) k (pos 0) (pos 0) low_t)))

pub skipped : (kind : Kind) (depth : Depth) (log2 : ℕ) (xs : List ℤ) (n : ℕ) → has_size kind log2 ≡ true → n ≡ 2 ^ log2 → xs ≡ zeros n →
    transform kind (limit_of depth) log2 xs ≡ Ok xs
skipped kind depth log2 xs n size n_is is =
    let here : xs ≡ zeros (2 ^ log2) = is ∙ ap zeros n_is in
    ap (transform kind (limit_of depth) log2) here ∙ (transform_zeros kind depth log2 size ∙ ap Ok (sym here))

pub zeros_small : (w : ℕ) → All IsSmall (zeros w)
zeros_small w k d low = rw (get_or-replicate w k (pos 0) d (omega (arith, length-replicate w (pos 0)))) (omega arith)
