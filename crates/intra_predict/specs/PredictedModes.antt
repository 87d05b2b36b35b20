-- Predicted samples, mode by mode (8.5.1.1 of the standard): pred[i][j] of row i and column j.
use Rattle.std.specs.Prelude.{ℕ, zero, suc, ◌+◌, ◌-◌, ◌*◌, ◌/◌, ◌%◌, List, ◌∷◌, sum, take, min, slice_index, nat_lt, nat_eq, if◌then◌else◌}
use Rattle.vp9_types.specs.Maps.{Map}
use Rattle.vp9_types.specs.declared.shape.Depth.{Depth}
use Rattle.vp9_types.specs.declared.block.IntraMode.{IntraMode}
use Rattle.vp9_types.specs.declared.block.IntraMode.TheVariants.{Dc, V, H, D45, D135, D117, D153, D207, D63, Tm}
use Rattle.intra_predict.specs.SampleSizes.{middle}
use Rattle.vp9_types.specs.Sizes.{greatest}
use Rattle.intra_predict.specs.BlockEdges.{EdgeSamples}

-- Round2(x + y, 1)
abbrev pub mean2 : ℕ → ℕ → ℕ
mean2 x y = (x + y + 1) / 2

-- Round2(x + 2 * y + z, 2)
abbrev pub mean3 : ℕ → ℕ → ℕ → ℕ
mean3 x y z = (x + 2 * y + z + 2) / 4

-- of the samples of a list from place k on
abbrev pub mean2_at : List ℕ → ℕ → ℕ
mean2_at xs k = mean2 (slice_index xs k) (slice_index xs (k + 1))

abbrev pub mean3_at : List ℕ → ℕ → ℕ
mean3_at xs k = mean3 (slice_index xs k) (slice_index xs (k + 1)) (slice_index xs (k + 2))

abbrev pub vertical : List ℕ → Map
vertical above = λ i j. slice_index above j

abbrev pub horizontal : List ℕ → Map
horizontal left = λ i j. slice_index left i

-- Clip1(L[i] + A[j] - A[-1]): here - stops at 0
abbrev pub true_motion : ℕ → List ℕ → List ℕ → ℕ → Map
true_motion most above left corner = λ i j. min most (slice_index left i + slice_index above j - corner)

-- n samples with this sum
abbrev pub rounded_mean : ℕ → ℕ → ℕ
rounded_mean n total = (total + n / 2) / n

-- of what is there
abbrev pub dc_mean : ℕ → Depth → EdgeSamples → ℕ
dc_mean size depth e =
    let above = sum (take size e.above) in
    let left = sum (take size e.left) in
    if e.has_above then (if e.has_left then rounded_mean (2 * size) (above + left) else rounded_mean size above)
    else (if e.has_left then rounded_mean size left else middle depth)

abbrev pub d45 : ℕ → List ℕ → Map
d45 size above = λ i j. if nat_lt (i + j + 2) (2 * size) then mean3_at above (i + j) else slice_index above (2 * size - 1)

abbrev pub d63 : List ℕ → Map
d63 above = λ i j. if nat_eq (i % 2) 0 then mean2_at above (i / 2 + j) else mean3_at above (i / 2 + j)

-- Below, `up` is A[-1], A[0], A[1] .., and `down` is A[-1], L[0], L[1] ..
abbrev pub corner_mean : List ℕ → List ℕ → ℕ
corner_mean up down = mean3 (slice_index down 1) (slice_index up 0) (slice_index up 1)

unfoldable pub d117 : List ℕ → List ℕ → ℕ → ℕ → ℕ
d117 up down zero j = mean2_at up j
d117 up down (suc zero) zero = corner_mean up down
d117 up down (suc zero) (suc j) = mean3_at up j
d117 up down (suc (suc i)) zero = mean3_at down i
d117 up down (suc (suc i)) (suc j) = d117 up down i j

unfoldable pub d135 : List ℕ → List ℕ → ℕ → ℕ → ℕ
d135 up down zero zero = corner_mean up down
d135 up down zero (suc j) = mean3_at up j
d135 up down (suc i) zero = mean3_at down i
d135 up down (suc i) (suc j) = d135 up down i j

unfoldable pub d153 : List ℕ → List ℕ → ℕ → ℕ → ℕ
d153 up down i zero = mean2_at down i
d153 up down zero (suc zero) = corner_mean up down
d153 up down (suc i) (suc zero) = mean3_at down i
d153 up down zero (suc (suc j)) = mean3_at up j
d153 up down (suc i) (suc (suc j)) = d153 up down i j

-- the last row is L[size - 1]
unfoldable pub d207 : ℕ → List ℕ → ℕ → ℕ → ℕ
d207 size left i zero = if nat_lt (i + 1) size then mean2_at left i else slice_index left (size - 1)
d207 size left i (suc zero) =
    if nat_lt (i + 2) size then mean3_at left i
    else (if nat_lt (i + 1) size then mean3 (slice_index left i) (slice_index left (i + 1)) (slice_index left (i + 1))
    else slice_index left (size - 1))
d207 size left i (suc (suc j)) = if nat_lt (i + 1) size then d207 size left (i + 1) j else slice_index left (size - 1)

unfoldable pub predicted : IntraMode → ℕ → Depth → EdgeSamples → Map
predicted Dc size depth e = λ i j. dc_mean size depth e
predicted V size depth e = vertical e.above
predicted H size depth e = horizontal e.left
predicted D45 size depth e = d45 size e.above
predicted D135 size depth e = d135 (e.corner ∷ e.above) (e.corner ∷ e.left)
predicted D117 size depth e = d117 (e.corner ∷ e.above) (e.corner ∷ e.left)
predicted D153 size depth e = d153 (e.corner ∷ e.above) (e.corner ∷ e.left)
predicted D207 size depth e = d207 size e.left
predicted D63 size depth e = d63 e.above
predicted Tm size depth e = true_motion (greatest depth) e.above e.left e.corner
