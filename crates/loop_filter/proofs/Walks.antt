-- Cells one after another.
use Rattle.std.proofs.Common.{◌≡◌, unwrap_or, nat_eq, ◌≤◌, ◌+◌, ℕ, zero, suc, Bool, true, false, refl, sym, ◌∙◌, arith, ap, List, [], ◌∷◌, ◌++◌, map}
use Rattle.std.specs.Prelude.{Option, Some, None, if◌then◌else◌}
use Rattle.std.specs.List.{range_with_len, flat_map, fold}
use Rattle.std.proofs.lemmas.Grind.{flat_map-append}
use Rattle.std.proofs.lemmas.List.{map-id, append-nil}
use Rattle.std.proofs.lemmas.List.FromFn.{map-range_with_len_more}
use Rattle.std.proofs.lemmas.List.Sums.{fold-append}
use Rattle.vp9_types.specs.Maps.{Map, frame_map}
use Rattle.std.proofs.Math.Path.{fun_ext}
use Rattle.vp9_types.specs.Shapes.{mi_cols}
use Rattle.vp9_types.specs.Sizes.{superblocks_along}
use Rattle.vp9_types.specs.declared.shape.Plane.{Plane}
use Rattle.vp9_types.specs.declared.shape.Plane.TheVariants.{Y, U, V}
use Rattle.vp9_tables.specs.BlockTables.{greatest_of}
use Rattle.vp9_tables.specs.Numbers.{tx_number}
use Rattle.block_plan.specs.Blocks.{covering, covers, or_else}
use Rattle.block_plan.specs.declared.block.BlockInfo.{BlockInfo}
use Rattle.line_filter.specs.FilteredEdges.{with_edge}
use Rattle.line_filter.specs.declared.edge.Edge.{Edge}
use Rattle.loop_edges.specs.Code.{with_row}
use Rattle.loop_edges.specs.FrameEdges.{row_edges, superblock_edges}
use Rattle.loop_edges.specs.declared.setting.EdgeSetting.{EdgeSetting}
use Rattle.loop_filter.specs.Code.{AllFit}

pub flat_map_push : {X : Type 0} (g : X → List Edge) (xs : List X) (x : X) → flat_map g (xs ++ x ∷ []) ≡ flat_map g xs ++ g x
flat_map_push g xs x = rw (flat_map-append, append-nil) refl

-- the edges of one place more
pub one_more : (g : ℕ → List Edge) (h : ℕ → ℕ) (m : Map) (n : ℕ)
    → fold with_edge m (flat_map g (map h (range_with_len 0 (n + 1)))) ≡ fold with_edge (fold with_edge m (flat_map g (map h (range_with_len 0 n)))) (g (h n))
one_more g h m n =
    ap (λ xs. fold with_edge m (flat_map g xs)) (map-range_with_len_more h 0 n n (omega arith))
    ∙ (ap (fold with_edge m) (flat_map_push g (map h (range_with_len 0 n)) (h n))
    ∙ fold-append with_edge m (flat_map g (map h (range_with_len 0 n))) (g (h n)))

pub one_more_plain : (g : ℕ → List Edge) (m : Map) (n : ℕ)
    → fold with_edge m (flat_map g (range_with_len 0 (n + 1))) ≡ fold with_edge (fold with_edge m (flat_map g (range_with_len 0 n))) (g n)
one_more_plain g m n =
    ap (λ xs. fold with_edge m (flat_map g xs)) (simp map-id at (map-range_with_len_more (λ (k : ℕ). k) 0 n n (omega arith)))
    ∙ (ap (fold with_edge m) (flat_map_push g (range_with_len 0 n) n)
    ∙ fold-append with_edge m (flat_map g (range_with_len 0 n)) (g n))

-- a block of a list fits, whichever covers a place
chosen_fits : (o : Option BlockInfo) (t : Bool) (b x : BlockInfo) → ((y : BlockInfo) → o ≡ Some y → tx_number y.tx ≤ greatest_of y.size)
    → tx_number b.tx ≤ greatest_of b.size → or_else o (if t then Some b else None) ≡ Some x → tx_number x.tx ≤ greatest_of x.size
chosen_fits (Some y) t b x earlier here is = earlier x is
chosen_fits None true b x earlier here is = rw (sym (some_same b x is)) here
  where
    some_same : (u v : BlockInfo) → Some u ≡ Some v → u ≡ v
    some_same u v same = ap (λ (o : Option BlockInfo). unwrap_or o u) same
chosen_fits None false b x earlier here is = let no : ⊥ = cc in absurd no

pub covering_fits : (blocks : List BlockInfo) (r c : ℕ) (b : BlockInfo) → AllFit blocks → covering blocks r c ≡ Some b → tx_number b.tx ≤ greatest_of b.size
unfolding covering
covering_fits [] r c b fit is = let no : ⊥ = cc in absurd no
covering_fits (x ∷ blocks) r c b fit is =
    chosen_fits (covering blocks r c) (covers x r c) x b (λ y here. covering_fits blocks r c y (λ i d low. fit (suc i) d (omega (arith, low))) here)
    (fit zero x (omega arith)) is

-- one place more is done
pub walk_more_plain : (g : ℕ → List Edge) (m old new : Map) (n : ℕ) → old ≡ fold with_edge m (flat_map g (range_with_len 0 n))
    → new ≡ fold with_edge old (g n) → new ≡ fold with_edge m (flat_map g (range_with_len 0 (n + 1)))
walk_more_plain g m old new n so done = done ∙ (rw so refl ∙ sym (one_more_plain g m n))

-- two lists of edges, one after the other
pub two_lists : (m mid new : Map) (xs ys : List Edge) → mid ≡ fold with_edge m xs → new ≡ fold with_edge mid ys → new ≡ fold with_edge m (xs ++ ys)
two_lists m mid new xs ys first second = second ∙ (rw first refl ∙ sym (fold-append with_edge m xs ys))

-- three planes of a frame, each by itself
pub three_planes : (f : EdgeSetting) (blocks : List BlockInfo) (sr : ℕ) (y u v y1 u1 v1 : Map)
    → y1 ≡ fold with_edge y (row_edges f blocks Y sr) → u1 ≡ fold with_edge u (row_edges f blocks U sr) → v1 ≡ fold with_edge v (row_edges f blocks V sr)
    → frame_map y1 u1 v1 ≡ with_row f blocks (frame_map y u v) sr
unfolding with_row
three_planes f blocks sr y u v y1 u1 v1 ys us vs = fun_ext λ plane. each plane
  where
    each : (plane : Plane) → frame_map y1 u1 v1 plane ≡ fold with_edge (frame_map y u v plane) (row_edges f blocks plane sr)
    each Y = ys
    each U = us
    each V = vs

none : (f : EdgeSetting) (blocks : List BlockInfo) (sr : ℕ) (plane : Plane) (m : Map) → nat_eq f.filter.level 0 ≡ true → m ≡ fold with_edge m (row_edges f blocks plane sr)
unfolding row_edges
none f blocks sr plane m off = rw off refl

-- without a level there are no edges
pub no_edges : (f : EdgeSetting) (blocks : List BlockInfo) (sr : ℕ) (y u v : Map) → nat_eq f.filter.level 0 ≡ true
    → frame_map y u v ≡ with_row f blocks (frame_map y u v) sr
no_edges f blocks sr y u v off = three_planes f blocks sr y u v y u v (none f blocks sr Y y off) (none f blocks sr U u off) (none f blocks sr V v off)

pub row_by : (f : EdgeSetting) (blocks : List BlockInfo) (plane : Plane) (sr : ℕ) (m new : Map) (n : ℕ) → nat_eq f.filter.level 0 ≡ false
    → n ≡ superblocks_along (mi_cols f.shape) → new ≡ fold with_edge m (flat_map (superblock_edges f blocks plane sr) (range_with_len 0 n))
    → new ≡ fold with_edge m (row_edges f blocks plane sr)
unfolding row_edges
row_by f blocks plane sr m new n on all done = done ∙ rw (on, all) refl
