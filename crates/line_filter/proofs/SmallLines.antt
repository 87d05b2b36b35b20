-- Filtered samples stay in the range of their depth.
use Rattle.std.proofs.Common.{◌≡◌, ◌≤◌, ◌*◌, ◌-◌, ◌&&◌, ℕ, ℤ, pos, negsuc, ◌+ℤ◌, Bool, true, false, cond, inl, inr, arith, ap, map, sum, slice_index, nat_lt}
use Rattle.std.specs.Prelude.{not}
use Rattle.std.specs.List.{range_with_len, fold}
use Rattle.std.proofs.lemmas.Bool.{cases_lt}
use Rattle.std.proofs.lemmas.Int.{ints, clamps}
use Rattle.std.proofs.lemmas.List.{get_or_past}
use Rattle.std.proofs.lemmas.List.FromFn.{length-map-range_with_len, get_or-map-range_with_len}
use Rattle.vp9_types.specs.Maps.{Map, IsAtMost}
use Rattle.planes.proofs.PlaneLemmas.{with_block_small}
use Rattle.line_filter.specs.declared.edge.Edge.{Edge}
use Rattle.line_filter.specs.declared.edge.FilterWidth.{FilterWidth}
use Rattle.line_filter.specs.declared.edge.FilterWidth.TheVariants.{Sixteen}
use Rattle.line_filter.specs.declared.edge.Limits.{Limits}
use Rattle.line_filter.specs.declared.edge.Pass.{Pass}
use Rattle.line_filter.specs.declared.edge.Pass.TheVariants.{Vertical, Horizontal}
use Rattle.line_filter.specs.Lines as L
use Rattle.line_filter.specs.Lines.{Line, p, q, sample_at, around, tap, within, mean, moved_sample, wide_filter, narrow_filter, filtered_near, filtered_line, filter4_clamp}
use Rattle.line_filter.specs.FilteredEdges.{reach, line_at, nth_of_line, with_line, with_edge}
use Rattle.line_filter.proofs.EdgeLines.{along_at_once, down_at_once, rows_filtered, columns_filtered}

pub record IsSmall (most : ℕ) (x : Line) : Type 0 where
  pub p : (i : ℕ) → L.p x i ≤ most
  pub q : (i : ℕ) → L.q x i ≤ most

either : (most : ℕ) (b : Bool) (x y : ℕ) → x ≤ most → y ≤ most → cond b x y ≤ most
either most true x y a b = a
either most false x y a b = b

one_of : (most : ℕ) (b : Bool) (x y : Line) → IsSmall most x → IsSmall most y → IsSmall most (cond b x y)
one_of most true x y a b = a
one_of most false x y a b = b

listed : (most k : ℕ) (g : ℕ → ℕ) → ((i : ℕ) → g i ≤ most) → (i : ℕ) → slice_index (map g (range_with_len 0 k)) i ≤ most
listed most k g small i = elim (cases_lt i k) [
  | inl low ↦ rw (get_or-map-range_with_len g 0 k i i 0 low (omega arith)) (small i)
  | inr past ↦ rw (get_or_past (map g (range_with_len 0 k)) i 0 (omega (arith, length-map-range_with_len g 0 k))) (omega arith)
]

placed : (most : ℕ) (i : ℤ) (x : Line) → IsSmall most x → sample_at x i ≤ most
placed most (pos i) x small = small.q i
placed most (negsuc i) x small = small.p i

seven : (most : ℕ) (f : ℤ → ℕ) → ((i : ℤ) → f i ≤ most) → sum (map (λ j. tap j * f j) (around 3)) ≤ 8 * most
seven most f small = omega (arith, small (negsuc 2), small (negsuc 1), small (negsuc 0), small (pos 0), small (pos 1), small (pos 2), small (pos 3))

fifteen : (most : ℕ) (f : ℤ → ℕ) → ((i : ℤ) → f i ≤ most) → sum (map (λ j. tap j * f j) (around 7)) ≤ 16 * most
fifteen most f small = omega (
  arith,
  small (negsuc 6),
  small (negsuc 5),
  small (negsuc 4),
  small (negsuc 3),
  small (negsuc 2),
  small (negsuc 1),
  small (negsuc 0),
  small (pos 0),
  small (pos 1),
  small (pos 2),
  small (pos 3),
  small (pos 4),
  small (pos 5),
  small (pos 6),
  small (pos 7),
)

mean_three : (most : ℕ) (i : ℤ) (x : Line) → IsSmall most x → mean 3 x i ≤ most
mean_three most i x small =
    let s = seven most (λ j. sample_at x (within 3 (i +ℤ j))) (λ j. placed most _ x small) in omega (arith, s)

mean_seven : (most : ℕ) (i : ℤ) (x : Line) → IsSmall most x → mean 7 x i ≤ most
mean_seven most i x small =
    let s = fifteen most (λ j. sample_at x (within 7 (i +ℤ j))) (λ j. placed most _ x small) in omega (arith, s)

wide_three : (most : ℕ) (x : Line) → IsSmall most x → IsSmall most (wide_filter 3 x)
unfolding wide_filter
wide_three most x small = record {
  p = listed most _ _ (λ i. either most (nat_lt i 3) _ _ (mean_three most (negsuc i) x small) (small.p i));
  q = listed most _ _ (λ i. either most (nat_lt i 3) _ _ (mean_three most (pos i) x small) (small.q i));
}

wide_seven : (most : ℕ) (x : Line) → IsSmall most x → IsSmall most (wide_filter 7 x)
unfolding wide_filter
wide_seven most x small = record {
  p = listed most _ _ (λ i. either most (nat_lt i 7) _ _ (mean_seven most (negsuc i) x small) (small.p i));
  q = listed most _ _ (λ i. either most (nat_lt i 7) _ _ (mean_seven most (pos i) x small) (small.q i));
}

moved_small : (half sample : ℕ) (by : ℤ) → moved_sample half sample by ≤ 2 * half - 1
unfolding filter4_clamp
moved_small half sample by = omega (arith, ints, clamps)

narrow_small : (l : Limits) (x : Line) → IsSmall (2 * l.half - 1) x → IsSmall (2 * l.half - 1) (narrow_filter l x)
unfolding narrow_filter
narrow_small l x small = record {
  p = listed _ _ _ (λ i. either _ (nat_lt i 1) _ _ (moved_small l.half _ _) (either _ (nat_lt i 2 && not (L.hev_mask l x)) _ _ (moved_small l.half _ _) (small.p i)));
  q = listed _ _ _ (λ i. either _ (nat_lt i 1) _ _ (moved_small l.half _ _) (either _ (nat_lt i 2 && not (L.hev_mask l x)) _ _ (moved_small l.half _ _) (small.q i)));
}

near_small : (l : Limits) (wide : Bool) (x : Line) → IsSmall (2 * l.half - 1) x → IsSmall (2 * l.half - 1) (filtered_near l wide x)
unfolding filtered_near
near_small l wide x small = one_of _ (not (L.filter_mask l x)) _ _ small
    (one_of _ (L.flat_mask l x && wide) _ _ (wide_three _ x small) (narrow_small l x small))

pub filtered_small : (l : Limits) (width : FilterWidth) (x : Line) → IsSmall (2 * l.half - 1) x → IsSmall (2 * l.half - 1) (filtered_line l width x)
unfolding filtered_line
filtered_small l width x small = one_of _ (L.is_sixteen width && (L.filter_mask l x && (L.flat_mask l x && L.flat_mask2 l x))) _ _ (wide_seven _ x small)
    (near_small l (L.is_eight_or_more width) x small)

at_small : (most n at : ℕ) (s : ℕ → ℕ) → ((i : ℕ) → s i ≤ most) → IsSmall most (line_at n s at)
unfolding line_at
at_small most n at s small = record { p = listed most n _ (λ i. small _); q = listed most n _ (λ i. small _) }

ordered : (most n i : ℕ) (x : Line) → IsSmall most x → nth_of_line n x i ≤ most
ordered most n i x small = either most (nat_lt i n) _ _ (small.p _) (small.q _)

-- so they fit where the range of the depth does
pub near_fits : (most : ℕ) (l : Limits) (wide : Bool) (n at : ℕ) (s : ℕ → ℕ) → 2 * l.half - 1 ≤ most → ((i : ℕ) → s i ≤ 2 * l.half - 1) → (i : ℕ)
    → nth_of_line n (filtered_near l wide (line_at n s at)) i ≤ most
near_fits most l wide n at s fits small i =
    let low = ordered (2 * l.half - 1) n i _ (near_small l wide _ (at_small _ n at s small)) in omega (arith, low, fits)

pub far_fits : (most : ℕ) (l : Limits) (n at : ℕ) (s : ℕ → ℕ) → 2 * l.half - 1 ≤ most → ((i : ℕ) → s i ≤ 2 * l.half - 1) → (i : ℕ)
    → nth_of_line n (filtered_line l Sixteen (line_at n s at)) i ≤ most
far_fits most l n at s fits small i =
    let low = ordered (2 * l.half - 1) n i _ (filtered_small l Sixteen _ (at_small _ n at s small)) in omega (arith, low, fits)

-- samples of 12 bits at most
pub is_small : (half : ℕ) (m : Map) → half ≤ 2048 → IsAtMost (2 * half - 1) m → IsAtMost 4095 m
is_small half m most small y x = let low = small y x in omega (arith, low, most)

by_pass : (e : Edge) (pass : Pass) (m : Map) → IsAtMost (2 * e.limits.half - 1) m
    → IsAtMost (2 * e.limits.half - 1) (fold (with_line pass e) m (range_with_len 0 e.lines))
by_pass e Vertical m small = rw (along_at_once e m e.lines) (with_block_small _ m _ _ _ _ (rows_filtered e m) small
    (λ i j. ordered _ (reach e.width) j _ (filtered_small e.limits e.width _ (at_small _ _ _ _ (λ k. small _ k)))))
by_pass e Horizontal m small = rw (down_at_once e m e.lines) (with_block_small _ m _ _ _ _ (columns_filtered e m) small
    (λ i j. ordered _ (reach e.width) i _ (filtered_small e.limits e.width _ (at_small _ _ _ _ (λ k. small k _)))))

pub edge_small : (e : Edge) (m : Map) → IsAtMost (2 * e.limits.half - 1) m → IsAtMost (2 * e.limits.half - 1) (with_edge m e)
unfolding with_edge
edge_small e m small = by_pass e e.pass m small

pub edge_range : (e : Edge) (m new : Map) → new ≡ with_edge m e → IsAtMost (2 * e.limits.half - 1) m → IsAtMost (2 * e.limits.half - 1) new
edge_range e m new is small y x = rw (ap (λ (g : Map). g y x) is) (edge_small e m small y x)
