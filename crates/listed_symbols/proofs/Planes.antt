-- The levels of a block's transform blocks, one after another.
use Rattle.std.proofs.Common.{◌≡◌, ◌≢◌, ◌∙◌, ℕ, zero, suc, ◌+◌, ◌*◌, ◌<◌, ◌≤◌, ℤ, pos, true, false, List, [], ◌∷◌, length, get_or, map, take, drop, refl, sym, ap, arith, inl, inr}
use Rattle.std.specs.Borrow.{Bor}
use Rattle.std.specs.List.{All}
use Rattle.std.specs.Prelude.{Some, None, nat_eq, replicate, slice_index, slice_set, unsigned_abs}
use Rattle.std.proofs.lemmas.Bool.{cases_Bool, cases_lt, eqb-true, eqb-false, le-ltb, lt-ltb}
use Rattle.std.proofs.lemmas.List.{drop_all, drop-take, get_or-set_same, get_or-set_other, length-map, length-replicate, length-set}
use Rattle.std.proofs.lemmas.List.Elements.{All-cons, All-head, All-tail, All-take, All-drop, All-replicate}
use Rattle.std.proofs.lemmas.Slice.{between-put_mid, take-put_mid_below, drop-put_mid}
use Rattle.std.proofs.Math.Nat.{mul-le-mul_right}
use Rattle.vp9_types.specs.declared.shape.Depth.{Depth}
use Rattle.vp9_tables.specs.Scans.{area, scan_of}
use Rattle.block_geometry.specs.TransformBlocks.{place_at}
use Rattle.block_geometry.specs.declared.transform_blocks.TransformPlace.{TransformPlace}
use Rattle.prob_contexts.specs.ProbLists.{ContextLists}
use Rattle.coef_tokens.specs.TokenKinds.{block_tables}
use Rattle.coef_tokens.specs.Places.{Tables}
use Rattle.block_plan.proofs.Held.{one_long}
use Rattle.residue_syntax.specs.BlocksInPlanes.{token_kind, type_at}
use Rattle.residue_syntax.specs.declared.in_plane.BlockInPlane.{BlockInPlane}
use Rattle.token_writer.specs.TokenFits.{CanPut, IsCoded, level_in}
use Rattle.residue_writer.specs.ResidueFits.{CanPutAll, CanPutAt}
use Rattle.residue_writer.specs.SaidResidues.{levels_at}
use Rattle.listed_symbols.specs.ListedLevels.{by_position, can_levels, no_levels, placed_from, with_each, with_levels, with_run}
use Rattle.residue_writer.specs.declared.levels.PlaneLevels.{PlaneLevels}

---- Regions ----

before : (j k area : ℕ) → j < k → j * area + area ≤ k * area
before j k area low =
    let whole : (j + 1) * area ≤ k * area = mul-le-mul_right area low_next in
    let split : (j + 1) * area ≡ j * area + area = grind arith in
    omega (arith, whole, split)
  where
    low_next : j + 1 ≤ k
    low_next = omega arith

below_run : (values run : List ℤ) (j k area : ℕ) → j < k → k * area ≤ length values
    → take area (drop (j * area) (with_run (k * area) area run values)) ≡ take area (drop (j * area) values)
below_run values run j k area low long =
    sym (drop-take (j * area) area (with_run (k * area) area run values))
    ∙ (ap (drop (j * area)) (take-put_mid_below (k * area) area values run (j * area + area) (before j k area low) long)
    ∙ drop-take (j * area) area values)

above_run : (values run : List ℤ) (j k area : ℕ) → k < j → k * area ≤ length values → length run ≡ area
    → take area (drop (j * area) (with_run (k * area) area run values)) ≡ take area (drop (j * area) values)
above_run values run j k area high long size = ap (take area) (drop-put_mid (k * area) area values run (j * area) (before k j area high) long size)

beside_run : (values run : List ℤ) (j k area : ℕ) → j ≢ k → k * area ≤ length values → length run ≡ area
    → take area (drop (j * area) (with_run (k * area) area run values)) ≡ take area (drop (j * area) values)
beside_run values run j k area other long size =
    elim (cases_lt j k) [
      | inl low ↦ below_run values run j k area low long
      | inr high ↦ above_run values run j k area (beyond other high) long size
    ]
  where
    beyond : j ≢ k → k ≤ j → k < j
    beyond other high = omega (arith, other, high)

in_run : (values run : List ℤ) (k area : ℕ) → k * area ≤ length values → length run ≡ area
    → take area (drop (k * area) (with_run (k * area) area run values)) ≡ run
in_run values run k area long size =
    ap (λ n. take n (drop (k * area) (with_run (k * area) area run values))) (sym (one_long (k * area) area))
    ∙ between-put_mid (k * area) area values run (k * area + area) long (size ∙ sym (one_long (k * area) area))

---- One more ----

rest_more : (listed : List (Bor (List ℤ))) (k : ℕ) (d : Bor (List ℤ)) → k < length listed
    → drop k (map (λ l. l.now) listed) ≡ (get_or listed k d).now ∷ drop (suc k) (map (λ l. l.now) listed)
rest_more [] k d low = absurd (omega (arith, low))
rest_more (l ∷ listed) zero d low = refl
rest_more (l ∷ listed) (suc k) d low = rest_more listed k d (omega (arith, low))

next : (k : ℕ) → k + 1 ≡ suc k
next k = omega arith

rest_listed : (listed : List (Bor (List ℤ))) (k : ℕ) (d : Bor (List ℤ)) → k < length listed
    → drop k (map (λ l. l.now) listed) ≡ (get_or listed k d).now ∷ drop (k + 1) (map (λ l. l.now) listed)
rest_listed listed k d low = rw (next k) (rest_more listed k d low)

abbrev lists : List (Bor (List ℤ)) → List (List ℤ)
lists listed = map (λ l. l.now) listed

pub each_more : (b : BlockInPlane) (places : List TransformPlace) (listed : List (Bor (List ℤ))) (s : PlaneLevels) (k : ℕ) (d : Bor (List ℤ)) → k < length listed → k < length places
    → can_levels b.quant.depth (area b.block.tx) (get_or listed k d).now ≡ true
    → with_each b places k (drop k (lists listed)) s ≡ with_each b places (k + 1) (drop (k + 1) (lists listed)) (with_levels b (get_or places k (place_at 0 0)) k (get_or listed k d).now s)
unfolding with_each
each_more b places listed s k d low here can = rw (rest_listed listed k d low, lt-ltb k (length places) here, can) refl

pub each_without_place : (b : BlockInPlane) (places : List TransformPlace) (listed : List (Bor (List ℤ))) (s : PlaneLevels) (k : ℕ) (d : Bor (List ℤ)) → k < length listed → length places ≤ k
    → with_each b places k (drop k (lists listed)) s ≡ None
unfolding with_each
each_without_place b places listed s k d low none = rw (rest_listed listed k d low, le-ltb k (length places) none) refl

pub each_unsayable : (b : BlockInPlane) (places : List TransformPlace) (listed : List (Bor (List ℤ))) (s : PlaneLevels) (k : ℕ) (d : Bor (List ℤ)) → k < length listed → k < length places
    → can_levels b.quant.depth (area b.block.tx) (get_or listed k d).now ≡ false
    → with_each b places k (drop k (lists listed)) s ≡ None
unfolding with_each
each_unsayable b places listed s k d low here can = rw (rest_listed listed k d low, lt-ltb k (length places) here, can) refl

pub each_ends : (b : BlockInPlane) (places : List TransformPlace) (listed : List (Bor (List ℤ))) (s : PlaneLevels) (k : ℕ) → length listed ≤ k
    → with_each b places k (drop k (lists listed)) s ≡ Some s
unfolding with_each
each_ends b places listed s k all = rw (drop_all k (lists listed) (rw (length-map listed (λ l. l.now)) all)) refl

---- They can be put ----

placed_long : (k : ℕ) (scan : List ℕ) (levels values : List ℤ) → length (placed_from k scan levels values) ≡ length values
placed_long k scan [] values = refl
placed_long k scan (level ∷ levels) values = placed_long (suc k) scan levels (slice_set values (slice_index scan k) level) ∙ length-set values (slice_index scan k) level

position_long : (n : ℕ) (scan : List ℕ) (levels : List ℤ) → length (by_position n scan levels) ≡ n
unfolding by_position
position_long n scan levels = placed_long 0 scan levels (replicate n (pos 0)) ∙ length-replicate n (pos 0)

-- what the k-th transform block says
abbrev SaysAt : ContextLists → BlockInPlane → List TransformPlace → PlaneLevels → ℕ → Type 0
SaysAt contexts b places s k = CanPutAt contexts b (get_or places k (place_at 0 0)) (levels_at s (area b.block.tx) k) (slice_index s.counts k)

here_can : (contexts : ContextLists) (b : BlockInPlane) (places : List TransformPlace) (levels : List ℤ) (s : PlaneLevels) (k : ℕ) → k < length s.counts → k * area b.block.tx ≤ length s.values
    → CanPut (block_tables contexts (token_kind b (get_or places k (place_at 0 0)).row (get_or places k (place_at 0 0)).column))
    (by_position (area b.block.tx) (scan_of b.block.tx (type_at b (get_or places k (place_at 0 0)).row (get_or places k (place_at 0 0)).column)) levels) (length levels)
    → SaysAt contexts b places (with_levels b (get_or places k (place_at 0 0)) k levels s) k
unfolding with_levels
here_can contexts b places levels s k low long can =
    rw (in_run s.values _ k (area b.block.tx) long (position_long (area b.block.tx) _ levels), get_or-set_same s.counts k (length levels) 0 low) can

other_can : (contexts : ContextLists) (b : BlockInPlane) (places : List TransformPlace) (at : TransformPlace) (levels : List ℤ) (s : PlaneLevels) (j k : ℕ) → j ≢ k → k * area b.block.tx ≤ length s.values
    → SaysAt contexts b places s j → SaysAt contexts b places (with_levels b at k levels s) j
unfolding with_levels
other_can contexts b places at levels s j k other long can =
    let tx = b.block.tx in
    let run = by_position (area tx) (scan_of tx (type_at b at.row at.column)) levels in
    rw (beside_run s.values run j k (area tx) other long (position_long (area tx) _ levels), get_or-set_other s.counts k j (length levels) 0 other) can

pub can_more : (contexts : ContextLists) (b : BlockInPlane) (places : List TransformPlace) (levels : List ℤ) (s : PlaneLevels) (k : ℕ) → k < length s.counts → k * area b.block.tx ≤ length s.values
    → CanPut (block_tables contexts (token_kind b (get_or places k (place_at 0 0)).row (get_or places k (place_at 0 0)).column))
    (by_position (area b.block.tx) (scan_of b.block.tx (type_at b (get_or places k (place_at 0 0)).row (get_or places k (place_at 0 0)).column)) levels) (length levels)
    → CanPutAll contexts b places s → CanPutAll contexts b places (with_levels b (get_or places k (place_at 0 0)) k levels s)
can_more contexts b places levels s k low long can all j within =
    elim (cases_Bool (nat_eq j k)) [
      | inl one ↦ rw (eqb-true j k one) (here_can contexts b places levels s k low long can)
      | inr none ↦ other_can contexts b places (get_or places k (place_at 0 0)) levels s j k (eqb-false j k none) long (all j within)
    ]

-- those that have no levels
zero_of : (xs : List ℤ) → All (λ v. v ≡ pos 0) xs → (p : ℕ) → level_in xs p ≡ pos 0
zero_of [] zeros p = refl
zero_of (x ∷ xs) zeros zero = All-head (λ v. v ≡ pos 0) x xs zeros
zero_of (x ∷ xs) zeros (suc p) = zero_of xs (All-tail (λ v. v ≡ pos 0) x xs zeros) p

zeros_coded : (depth : Depth) (xs : List ℤ) → All (λ v. v ≡ pos 0) xs → All (λ level. IsCoded depth (unsigned_abs level)) xs
zeros_coded depth [] zeros = λ k d low. absurd (omega (arith, low))
zeros_coded depth (x ∷ xs) zeros =
    All-cons (λ level. IsCoded depth (unsigned_abs level)) x xs
    (rw (All-head (λ v. v ≡ pos 0) x xs zeros) (omega arith)) (zeros_coded depth xs (All-tail (λ v. v ≡ pos 0) x xs zeros))

zeros_can : (t : Tables) (xs : List ℤ) → All (λ v. v ≡ pos 0) xs → CanPut t xs 0
zeros_can t xs zeros = record {
  most = omega arith;
  coded = zeros_coded t.depth xs zeros;
  others = λ position away. zero_of xs zeros position;
  last = λ any low. absurd (omega (arith, any));
}

none_counted : (n k : ℕ) → slice_index (replicate n 0) k ≡ 0
none_counted zero k = refl
none_counted (suc n) zero = refl
none_counted (suc n) (suc k) = none_counted n k

pub none_can : (contexts : ContextLists) (b : BlockInPlane) (places : List TransformPlace) (s : PlaneLevels) → s ≡ no_levels → CanPutAll contexts b places s
none_can contexts b places s is k low =
    rw (is, none_counted 256 k)
    (zeros_can _ _ (All-take (λ v. v ≡ pos 0) (area b.block.tx) _ (All-drop (λ v. v ≡ pos 0) (k * area b.block.tx) _ (All-replicate (λ v. v ≡ pos 0) 4096 (pos 0) refl))))
