-- The levels of a block in a plane, drawn transform block by transform block.
use Rattle.std.proofs.Common.{below_more, ◌≡◌, ◌<◌, ◌≤◌, ◌+◌, ◌*◌, ◌-◌, [], ◌∷◌, ℕ, suc, ℤ, pos, ◌∙◌, refl, sym, subst, ap, arith, List, length, take, drop, replicate, get_or}
use borrow.Rule.Slice.PartMut.{put_mid}
use Rattle.std.specs.Prelude.{slice_index, slice_set}
use Rattle.std.proofs.lemmas.List.{drop_more, drop_all, length-set, length-replicate, get_or-set_same, get_or-set_other}
use Rattle.vp9_tables.specs.Scans.{area, scan_of}
use Rattle.prob_contexts.specs.ProbLists.{ContextLists}
use Rattle.coef_tokens.specs.TokenKinds.{block_tables}
use Rattle.token_writer.specs.TokenFits.{CanPut}
use Rattle.block_geometry.specs.Code.{IsSmallGrid}
use Rattle.block_geometry.specs.TransformBlocks.{tx_step, place_at}
use Rattle.block_geometry.specs.declared.transform_blocks.TransformGrid.{TransformGrid}
use Rattle.block_geometry.specs.declared.transform_blocks.TransformPlace.{TransformPlace}
use Rattle.block_plan.proofs.Held.{one_long}
use Rattle.residue_syntax.specs.BlocksInPlanes.{token_kind, type_at}
use Rattle.residue_syntax.specs.declared.in_plane.BlockInPlane.{BlockInPlane}
use Rattle.residue_syntax.proofs.PlaneReads.{all_fit, room_for}
use Rattle.residue_writer.specs.ResidueFits.{CanPutAt}
use Rattle.residue_writer.specs.SaidResidues.{levels_at}
use Rattle.residue_writer.specs.declared.levels.PlaneLevels.{PlaneLevels}
use Rattle.vp9_types.specs.declared.block.TxSize.{TxSize}
use Rattle.drawn_symbols.specs.LevelDraws.{draw_levels, placed_from}
use Rattle.drawn_frames.specs.BlockLevelDraws.{draw_from, no_plane, placed_levels, with_levels}
use Rattle.drawn_frames.proofs.Rooms.{Zeros, put_is, put_long, kept_part, new_part, zero_part, zeros_more}

placed_long : (k : ℕ) (scan : List ℕ) (levels values : List ℤ) → length (placed_from k scan levels values) ≡ length values
placed_long k scan [] values = refl
placed_long k scan (level ∷ levels) values =
    placed_long (suc k) scan levels (slice_set values (slice_index scan k) level) ∙ length-set values (slice_index scan k) level

-- the levels of the k-th can be put
abbrev CanPutThere : ContextLists → BlockInPlane → List TransformPlace → PlaneLevels → ℕ → Type 0
CanPutThere contexts b places p k = CanPutAt contexts b (get_or places k (place_at 0 0)) (levels_at p (area b.block.tx) k) (slice_index p.counts k)

-- so many transform blocks are drawn, and the others complete the block
pub record Drew (b : BlockInPlane) (places : List TransformPlace) (old k : ℕ) (p : PlaneLevels) (now : ℕ) : Type 0 where
  pub counts : length p.counts ≡ 256
  pub values : length p.values ≡ 4096
  pub zeros : Zeros (k * area b.block.tx) p.values
  pub left : draw_from b places 0 no_plane old ≡ draw_from b (drop k places) k p now
  pub can : (contexts : ContextLists) (j : ℕ) → j < k → CanPutThere contexts b places p j

-- what is drawn for one transform block, with so many levels in its part of the values
abbrev pub DrawsAt : BlockInPlane → TransformPlace → ℕ → List ℤ → List ℤ → ℕ → ℕ → Type 0
DrawsAt b at old before values count new =
    (levels : List ℤ) × (draw_levels old ≡ (levels, new)) × (values ≡ placed_from 0 (scan_of b.block.tx (type_at b at.row at.column)) levels before) × (count ≡ length levels)

abbrev CanAt : BlockInPlane → TransformPlace → List ℤ → ℕ → Type 0
CanAt b at values count = (contexts : ContextLists) → CanPut (block_tables contexts (token_kind b at.row at.column)) values count

nothing : (n : ℕ) → 0 * n ≡ 0
nothing n = omega arith

pub drew_none : (b : BlockInPlane) (places : List TransformPlace) (p : PlaneLevels) (old : ℕ) → p ≡ no_plane → Drew b places old 0 p old
drew_none b places p old none = rw none (record {
  counts = length-replicate {A = ℕ} 256 0;
  values = length-replicate {A = ℤ} 4096 (pos 0);
  zeros = rw (nothing (area b.block.tx)) refl;
  left = refl;
  can = λ contexts j low. absurd (omega (arith, low));
})

-- the code's values are those of the definition
with_is : (b : BlockInPlane) (at : TransformPlace) (k : ℕ) (p : PlaneLevels) (levels values : List ℤ) (count : ℕ) → length values ≡ area b.block.tx → values ≡ placed_levels b at levels → count ≡ length levels
    → record { counts = slice_set p.counts k count; values = put_mid (k * area b.block.tx) (area b.block.tx) p.values values } ≡ with_levels b at k levels p
with_is b at k p levels values count long is counted =
    rw (put_is p.values values (k * area b.block.tx) (area b.block.tx) long, is, counted) refl

left_more : (b : BlockInPlane) (places : List TransformPlace) (k : ℕ) (p : PlaneLevels) (levels : List ℤ) (now new : ℕ) → k < length places → draw_levels now ≡ (levels, new)
    → draw_from b (drop k places) k p now ≡ draw_from b (drop (k + 1) places) (k + 1) (with_levels b (get_or places k (place_at 0 0)) k levels p) new
unfolding draw_from
left_more b places k p levels now new low drawn =
    rw (drop_more places k (place_at 0 0) low)
    (ap (λ (s : List ℤ × ℕ). draw_from b (drop (k + 1) places) (k + 1) (with_levels b (get_or places k (place_at 0 0)) k s.0 p) s.1) drawn)

can_more : (contexts : ContextLists) (b : BlockInPlane) (places : List TransformPlace) (k : ℕ) (p : PlaneLevels) (values : List ℤ) (count : ℕ)
    → k < length p.counts → k * area b.block.tx ≤ length p.values → length values ≡ area b.block.tx
    → CanPutAt contexts b (get_or places k (place_at 0 0)) values count → ((j : ℕ) → j < k → CanPutThere contexts b places p j)
    → (j : ℕ) → j < k + 1
    → CanPutThere contexts b places (record { counts = slice_set p.counts k count; values = put_mid (k * area b.block.tx) (area b.block.tx) p.values values }) j
can_more contexts b places k p values count few room long here before =
    let n = area b.block.tx in
    let q : PlaneLevels = record { counts = slice_set p.counts k count; values = put_mid (k * n) n p.values values } in
    below_more (λ j. CanPutThere contexts b places q j) k
    (λ j low. rw (kept_part p.values values j k n low room, get_or-set_other p.counts k j count 0 (λ same. omega (arith, same, low))) (before j low))
    (rw (new_part p.values values k n room long, get_or-set_same p.counts k count 0 few) here)

more : (b : BlockInPlane) (places : List TransformPlace) (old k : ℕ) (p : PlaneLevels) (now new count : ℕ) (values : List ℤ)
    → k < length places → k < 256 → k * area b.block.tx + area b.block.tx ≤ 4096 → Drew b places old k p now
    → DrawsAt b (get_or places k (place_at 0 0)) now (take (area b.block.tx) (drop (k * area b.block.tx) p.values)) values count new
    → CanAt b (get_or places k (place_at 0 0)) values count
    → Drew b places old (k + 1) (record { counts = slice_set p.counts k count; values = put_mid (k * area b.block.tx) (area b.block.tx) p.values values }) new
more b places old k p now new count values low few room so drawn can =
    let n = area b.block.tx in
    let at = get_or places k (place_at 0 0) in
    let levels = drawn.0 in
    let zero = zero_part p.values (k * n) n so.zeros room in
    let is : values ≡ placed_levels b at levels = rw zero at drawn.2 in
    let long : length values ≡ n = ap (λ (v : List ℤ). length v) is ∙ (placed_long 0 (scan_of b.block.tx (type_at b at.row at.column)) levels (replicate n (pos 0)) ∙ length-replicate n (pos 0)) in
    let all : k * n + n ≤ length p.values = rw so.values room in
    let start : k * n ≤ length p.values = omega (arith, all) in
    record {
      counts = length-set p.counts k count ∙ so.counts;
      values = put_long p.values values (k * n) n all long ∙ so.values;
      zeros = zeros_more p.values values k n so.zeros start long;
      left = so.left ∙ (left_more b places k p levels now new low drawn.1 ∙ ap (λ (q : PlaneLevels). draw_from b (drop (k + 1) places) (k + 1) q new) (sym (with_is b at k p levels values count long is drawn.3)));
      can = λ contexts. can_more contexts b places k p values count (rw so.counts few) start long (can contexts) (so.can contexts);
    }

-- as the code has it
pub drew_more : (b : BlockInPlane) (places : List TransformPlace) (old k : ℕ) (p : PlaneLevels) (now new count n : ℕ) (place : TransformPlace) (values : List ℤ)
    → n ≡ area b.block.tx → get_or places k (place_at 0 0) ≡ place
    → k < length places → k < 256 → k * n + n ≤ 4096 → Drew b places old k p now
    → DrawsAt b place now (take (k * n + n - k * n) (drop (k * n) p.values)) values count new
    → CanAt b place values count
    → Drew b places old (k + 1) (record { counts = slice_set p.counts k count; values = put_mid (k * n) (k * n + n - k * n) p.values values }) new
drew_more b places old k p now new count n place values is same low few room so drawn can =
    let here = subst (λ (at : TransformPlace). DrawsAt b at now (take (k * n + n - k * n) (drop (k * n) p.values)) values count new) (sym same) drawn in
    rw (one_long (k * n) n, is)
    (more b places old k p now new count values low few (rw is at room) so (rw (one_long (k * n) n, is) at here) (subst (λ (at : TransformPlace). CanAt b at values count) (sym same) can))

-- the part that is drawn into
pub part_zeros : (b : BlockInPlane) (places : List TransformPlace) (old k : ℕ) (p : PlaneLevels) (now n : ℕ) → n ≡ area b.block.tx → k * n + n ≤ 4096 → Drew b places old k p now
    → take (k * n + n - k * n) (drop (k * n) p.values) ≡ replicate (area b.block.tx) (pos 0)
part_zeros b places old k p now n is room so = rw (one_long (k * n) n, is) (zero_part p.values (k * area b.block.tx) (area b.block.tx) so.zeros (rw is at room))

-- there is room for the k-th of so many transform blocks
pub room_at : (tx : TxSize) (grid : TransformGrid) (k count n : ℕ) → IsSmallGrid grid → grid.step ≡ tx_step tx → count ≡ grid.rows * grid.columns → n ≡ area tx → k < count → k * n + n ≤ 4096
room_at tx grid k count n small step counted is low =
    rw is (room_for k (grid.rows * grid.columns) (area tx) 4096 (rw counted at low) (all_fit tx grid.step grid.rows grid.columns step small.rows small.columns))

pub drew_all : (b : BlockInPlane) (places : List TransformPlace) (old k : ℕ) (p : PlaneLevels) (now : ℕ) → length places ≤ k → Drew b places old k p now
    → draw_from b places 0 no_plane old ≡ (p, now)
unfolding draw_from
drew_all b places old k p now all so = so.left ∙ rw (drop_all k places all) refl
