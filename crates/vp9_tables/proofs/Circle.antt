-- The cosines all around the circle.
use Rattle.std.proofs.Common.{◌≡◌, ℕ, ◌<◌, ◌∙◌, ℤ, pos, refl, List, map, slice_index_or, ap, zero-add}
use Rattle.std.specs.List.{range_with_len}
use Rattle.std.proofs.lemmas.List.FromFn.{get_or-map-range_with_len}
use Rattle.vp9_tables.specs.TransformTables.{cosine_of}
use Rattle.vp9_tables.specs.declared.data.cosines.TheConstants.{COSINES}

whole : COSINES ≡ map cosine_of (range_with_len 0 128)
whole = refl

pub at_angle : (angle : ℕ) → angle < 128 → slice_index_or COSINES angle (pos 0) ≡ cosine_of angle
at_angle angle h =
    ap (λ (xs : List ℤ). slice_index_or xs angle (pos 0)) whole ∙ get_or-map-range_with_len cosine_of 0 128 angle angle (pos 0) h (zero-add angle)
