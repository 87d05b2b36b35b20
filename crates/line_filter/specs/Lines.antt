-- One line of samples across an edge, and what the loop filter makes of it (8.8.3 to 8.8.5 of the standard).
use Rattle.std.specs.Prelude.{ℕ, ◌+◌, ◌*◌, ◌/◌, ◌&&◌, ◌||◌, not, Bool, true, false, ℤ, pos, negsuc, neg_ℤ, ◌+ℤ◌, ◌-ℤ◌, ◌*ℤ◌, unsigned_abs, List, map, sum, slice_index, length, nat_eq, nat_lt, nat_le, if◌then◌else◌}
use Rattle.std.specs.List.{range_with_len}
use Rattle.std.specs.Int.{abs_diff, int_shr, int_min, int_max}
use Rattle.line_filter.specs.declared.edge.Limits.{Limits}
use Rattle.line_filter.specs.declared.edge.FilterWidth.{FilterWidth}
use Rattle.line_filter.specs.declared.edge.FilterWidth.TheVariants.{Four, Eight, Sixteen}

-- the samples on both sides of an edge, those at the edge first: p0, p1 .. and q0, q1 ..
pub record Line : Type 0 where
  pub p : List ℕ
  pub q : List ℕ

abbrev pub p : Line → ℕ → ℕ
p line i = slice_index line.p i

abbrev pub q : Line → ℕ → ℕ
q line i = slice_index line.q i

-- neighbours differ little, and so do the two sides: else the picture has an edge of its own there
unfoldable pub filter_mask : Limits → Line → Bool
filter_mask l x =
    nat_le (abs_diff (p x 3) (p x 2)) l.limit && nat_le (abs_diff (p x 2) (p x 1)) l.limit && nat_le (abs_diff (p x 1) (p x 0)) l.limit
    && nat_le (abs_diff (q x 1) (q x 0)) l.limit && nat_le (abs_diff (q x 2) (q x 1)) l.limit && nat_le (abs_diff (q x 3) (q x 2)) l.limit
    && nat_le (2 * abs_diff (p x 0) (q x 0) + abs_diff (p x 1) (q x 1) / 2) l.blimit

-- high variance at the edge. The limits are shifted to the depth already: thresh is the standard's thresh << (BitDepth - 8), and so are
-- limit and blimit; one is 1 << (BitDepth - 8)
unfoldable pub hev_mask : Limits → Line → Bool
hev_mask l x = nat_lt l.thresh (abs_diff (p x 1) (p x 0)) || nat_lt l.thresh (abs_diff (q x 1) (q x 0))

-- the i-th samples are near those at the edge
abbrev pub is_near : Limits → Line → ℕ → Bool
is_near l x i = nat_le (abs_diff (p x i) (p x 0)) l.one && nat_le (abs_diff (q x i) (q x 0)) l.one

unfoldable pub flat_mask : Limits → Line → Bool
flat_mask l x = is_near l x 1 && is_near l x 2 && is_near l x 3

unfoldable pub flat_mask2 : Limits → Line → Bool
flat_mask2 l x = is_near l x 4 && is_near l x 5 && is_near l x 6 && is_near l x 7

-- the sample at a place across the edge: q0, q1 .. from 0 on, p0, p1 .. from -1 down
abbrev pub sample_at : Line → ℤ → ℕ
sample_at line (pos i) = q line i
sample_at line (negsuc i) = p line i

-- the places from -n to n
abbrev pub around : ℕ → List ℤ
around n = map (λ k. pos k -ℤ pos n) (range_with_len 0 (2 * n + 1))

-- how often a sample counts, by its distance
abbrev pub tap : ℤ → ℕ
tap j = if nat_eq (unsigned_abs j) 0 then 2 else 1

-- the i-th place, or the nearest one of p_n .. p0 q0 .. q_n
abbrev pub within : ℕ → ℤ → ℤ
within n i = int_max (neg_ℤ (pos (n + 1))) (int_min (pos n) i)

-- Round2 of the sum of the samples around a place; n + 1 is 4 or 8
abbrev pub mean : ℕ → Line → ℤ → ℕ
mean n x i = (sum (map (λ j. tap j * sample_at x (within n (i +ℤ j))) (around n)) + (n + 1)) / (2 * (n + 1))

-- 8.8.5: the n samples next to the edge become means, 3 or 7 on each side
unfoldable pub wide_filter : ℕ → Line → Line
wide_filter n x = record {
  p = map (λ i. if nat_lt i n then mean n x (negsuc i) else p x i) (range_with_len 0 (length x.p));
  q = map (λ i. if nat_lt i n then mean n x (pos i) else q x i) (range_with_len 0 (length x.q));
}

-- to the numbers from -half to half - 1
unfoldable pub filter4_clamp : ℕ → ℤ → ℤ
filter4_clamp half x = int_max (neg_ℤ (pos half)) (int_min (pos half -ℤ pos 1) x)

-- what the second samples say of the change, with high variance
abbrev pub outer : Bool → ℕ → Line → ℤ
outer high half x = if high then filter4_clamp half (pos (p x 1) -ℤ pos (q x 1)) else pos 0

unfoldable pub change : Bool → ℕ → Line → ℤ
change high half x = filter4_clamp half (outer high half x +ℤ pos 3 *ℤ (pos (q x 0) -ℤ pos (p x 0)))

-- a sample less half, changed, clamped, and half added again
abbrev pub moved_sample : ℕ → ℕ → ℤ → ℕ
moved_sample half sample by = unsigned_abs (filter4_clamp half (pos sample -ℤ pos half +ℤ by) +ℤ pos half)

-- 8.8.4: the first samples change, without high variance the second ones too
unfoldable pub narrow_filter : Limits → Line → Line
narrow_filter l x =
    let f = change (hev_mask l x) l.half x in
    let filter1 = int_shr (filter4_clamp l.half (f +ℤ pos 4)) 3 in
    let filter2 = int_shr (filter4_clamp l.half (f +ℤ pos 3)) 3 in
    let filter3 = int_shr (filter1 +ℤ pos 1) 1 in
    record {
      p = map (λ i. if nat_lt i 1 then moved_sample l.half (p x 0) filter2
          else (if nat_lt i 2 && not (hev_mask l x) then moved_sample l.half (p x 1) filter3 else p x i)) (range_with_len 0 (length x.p));
      q = map (λ i. if nat_lt i 1 then moved_sample l.half (q x 0) (neg_ℤ filter1)
          else (if nat_lt i 2 && not (hev_mask l x) then moved_sample l.half (q x 1) (neg_ℤ filter3) else q x i)) (range_with_len 0 (length x.q));
    }

abbrev pub is_eight_or_more : FilterWidth → Bool
is_eight_or_more Four = false
is_eight_or_more Eight = true
is_eight_or_more Sixteen = true

abbrev pub is_sixteen : FilterWidth → Bool
is_sixteen Four = false
is_sixteen Eight = false
is_sixteen Sixteen = true

-- by the filters that look at four samples on each side
unfoldable pub filtered_near : Limits → Bool → Line → Line
filtered_near l wide x =
    if not (filter_mask l x) then x else (if flat_mask l x && wide then wide_filter 3 x else narrow_filter l x)

-- a line filtered
unfoldable pub filtered_line : Limits → FilterWidth → Line → Line
filtered_line l width x =
    if is_sixteen width && (filter_mask l x && (flat_mask l x && flat_mask2 l x)) then wide_filter 7 x
    else filtered_near l (is_eight_or_more width) x
