-- What edges leave, and what they read.
use Rattle.std.proofs.Common.{◌≡◌, ◌<◌, ◌≤◌, ◌+◌, ◌*◌, ◌-◌, ◌⊎◌, inl, inr, ℕ, zero, suc, Bool, true, false, cond, refl, sym, ◌∙◌, arith, ap, List, [], ◌∷◌, ◌++◌, ◌||◌, map, min, nat_eq, subst}
use Rattle.std.specs.Prelude.{not, Option, Some, None, if◌then◌else◌}
use Rattle.std.specs.List.{range_with_len, flat_map, fold}
use Rattle.std.proofs.Math.Path.{fun_ext}
use Rattle.std.proofs.lemmas.Bool.{cases_lt}
use Rattle.std.proofs.lemmas.Bool.Decides.{nat_tests}
use Rattle.std.proofs.lemmas.List.FromFn.{map-range_with_len_more}
use Rattle.std.proofs.lemmas.List.Sums.{fold-append}
use Rattle.vp9_types.specs.Maps.{Map, FrameMap, with_block}
use Rattle.vp9_types.specs.Shapes.{halved, mi_rows, mi_cols, coded_height}
use Rattle.vp9_types.specs.Sizes.{superblocks_along}
use Rattle.vp9_types.specs.declared.shape.Plane.{Plane}
use Rattle.vp9_types.specs.declared.shape.Shape.{Shape}
use Rattle.block_plan.specs.Blocks.{covering}
use Rattle.block_plan.specs.InPlanes.{tx_in}
use Rattle.block_plan.specs.declared.block.BlockInfo.{BlockInfo}
use Rattle.line_filter.specs.FilteredEdges.{reach, line_at, nth_of_line, with_edge}
use Rattle.line_filter.specs.Lines.{Line, filtered_line}
use Rattle.line_filter.specs.declared.edge.Edge.{Edge}
use Rattle.line_filter.specs.declared.edge.FilterWidth.{FilterWidth}
use Rattle.line_filter.specs.declared.edge.Limits.{Limits}
use Rattle.line_filter.specs.declared.edge.Pass.{Pass}
use Rattle.line_filter.specs.declared.edge.Pass.TheVariants.{Vertical, Horizontal}
use Rattle.line_filter.proofs.EdgeLines.{along_at_once, down_at_once, rows_filtered, columns_filtered}
use Rattle.loop_edges.specs.Cells.{cell_at, sub_x, sub_y, across, outer_edge, outer_width, has_inner, is_4x4, is_skipped_inter}
use Rattle.loop_edges.specs.Code.{with_row, filtered_before}
use Rattle.loop_edges.specs.FrameEdges.{side_edge, middle_edge, side_edges, middle_edges, both_edges, block_edges, edges_of, cell_edges, step_of, cells_of, cells_along, cell_row, pass_edges, superblock_edges, row_edges}
use Rattle.loop_edges.specs.FilterLevels.{filter_level, limits_of}
use Rattle.loop_edges.specs.declared.setting.EdgeSetting.{EdgeSetting}
use Rattle.loop_edges.proofs.Rows.{all_rows}
use Rattle.loop_filter.specs.Laws.{first_changed, lower_end_of, LeavesRowsAbove, LeavesRowsBelow, ReadsNoRowAbove, ReadsItsRowsAlone, AreFinal}
use Rattle.loop_filter.proofs.Sides.{reach_low, narrowed, not_first, there, later, whole_side, half_side, reached, last_of}
use Rattle.loop_filter.proofs.Sides as sides
use Rattle.loop_filter.proofs.Walks.{one_more, one_more_plain}
use Rattle.loop_filter.proofs.Frames.{row_more}

abbrev Agree : ℕ → ℕ → Map → Map → Type 0
Agree t u m n = (y x : ℕ) → t ≤ y → y < u → m y x ≡ n y x

-- edges that change and read rows from t to u alone
record IsBetween (t u : ℕ) (es : List Edge) : Type 0 where
  keeps : (m : Map) (y x : ℕ) → (y < t) ⊎ (u ≤ y) → fold with_edge m es y x ≡ m y x
  local : (m n : Map) → Agree t u m n → Agree t u (fold with_edge m es) (fold with_edge n es)

no_edges : (t u : ℕ) → IsBetween t u []
no_edges t u = record { keeps = λ m y x out. refl; local = λ m n same. same }

both_between : (t u : ℕ) (xs ys : List Edge) → IsBetween t u xs → IsBetween t u ys → IsBetween t u (xs ++ ys)
both_between t u xs ys first second = record {
  keeps = λ m y x out. ap (λ (g : Map). g y x) (fold-append with_edge m xs ys) ∙ (second.keeps (fold with_edge m xs) y x out ∙ first.keeps m y x out);
  local = λ m n same y x low high. ap (λ (g : Map). g y x) (fold-append with_edge m xs ys)
      ∙ (second.local (fold with_edge m xs) (fold with_edge n xs) (first.local m n same) y x low high ∙ sym (ap (λ (g : Map). g y x) (fold-append with_edge n xs ys)));
}

walk_between : (t u : ℕ) (g : ℕ → List Edge) (h : ℕ → ℕ) (n : ℕ) → ((i : ℕ) → i < n → IsBetween t u (g (h i))) → IsBetween t u (flat_map g (map h (range_with_len 0 n)))
walk_between t u g h zero each = no_edges t u
walk_between t u g h (suc n) each =
    let next : suc n ≡ n + 1 = omega arith in
    let so = walk_between t u g h n (λ i low. each i (omega (arith, low))) in
    let e = each n (omega arith) in
    subst (λ (k : ℕ). IsBetween t u (flat_map g (map h (range_with_len 0 k)))) (sym next) (record {
      keeps = λ m y x out. ap (λ (z : Map). z y x) (one_more g h m n) ∙ (e.keeps _ y x out ∙ so.keeps m y x out);
      local = λ a b same y x low high. ap (λ (z : Map). z y x) (one_more g h a n)
          ∙ (e.local _ _ (so.local a b same) y x low high ∙ sym (ap (λ (z : Map). z y x) (one_more g h b n)));
    })

walk_plain : (t u : ℕ) (g : ℕ → List Edge) → ((i : ℕ) → IsBetween t u (g i)) → (n : ℕ) → IsBetween t u (flat_map g (range_with_len 0 n))
walk_plain t u g each zero = no_edges t u
walk_plain t u g each (suc n) =
    let next : suc n ≡ n + 1 = omega arith in
    let so = walk_plain t u g each n in
    let e = each n in
    subst (λ (k : ℕ). IsBetween t u (flat_map g (range_with_len 0 k))) (sym next) (record {
      keeps = λ m y x out. ap (λ (z : Map). z y x) (one_more_plain g m n) ∙ (e.keeps _ y x out ∙ so.keeps m y x out);
      local = λ a b same y x low high. ap (λ (z : Map). z y x) (one_more_plain g a n)
          ∙ (e.local _ _ (so.local a b same) y x low high ∙ sym (ap (λ (z : Map). z y x) (one_more_plain g b n)));
    })

same_range : (f g : ℕ → ℕ) (n : ℕ) → ((i : ℕ) → i < n → f i ≡ g i) → map f (range_with_len 0 n) ≡ map g (range_with_len 0 n)
same_range f g zero same = refl
same_range f g (suc n) same =
    let next : suc n ≡ n + 1 = omega arith in
    subst (λ (k : ℕ). map f (range_with_len 0 k) ≡ map g (range_with_len 0 k)) (sym next)
    (map-range_with_len_more f 0 n n (omega arith)
    ∙ (rw (same_range f g n (λ i low. same i (omega (arith, low))), same n (omega arith)) refl ∙ sym (map-range_with_len_more g 0 n n (omega arith))))

same_line : (r at t u : ℕ) (s v : ℕ → ℕ) → ((k : ℕ) → t ≤ k → k < u → s k ≡ v k) → t ≤ at - r → at + r ≤ u → line_at r s at ≡ line_at r v at
unfolding line_at
same_line r at t u s v same low high = rw (
  same_range (λ i. s (at - 1 - i)) (λ i. v (at - 1 - i)) r (λ i lt. same (at - 1 - i) (omega (arith, low, lt)) (omega (arith, high, lt))),
  same_range (λ i. s (at + i)) (λ i. v (at + i)) r (λ i lt. same (at + i) (omega (arith, low)) (omega (arith, high, lt))),
) refl

outside_block : (m b : Map) (y0 x0 rows columns y x : ℕ) → (y < y0) ⊎ (y0 + rows ≤ y) → with_block m y0 x0 rows columns b y x ≡ m y x
unfolding with_block
outside_block m b y0 x0 rows columns y x (inl above) = grind (arith, nat_tests)
outside_block m b y0 x0 rows columns y x (inr below) = grind (arith, nat_tests)

-- rows beyond others
further : (y t u y0 y1 : ℕ) → t ≤ y0 → y1 ≤ u → (y < t) ⊎ (u ≤ y) → (y < y0) ⊎ (y1 ≤ y)
further y t u y0 y1 low high (inl above) = inl (omega (arith, low, above))
further y t u y0 y1 low high (inr below) = inr (omega (arith, high, below))

same_if : (t : Bool) (a b c d : ℕ) → a ≡ b → c ≡ d → cond t a c ≡ cond t b d
same_if true a b c d first second = first
same_if false a b c d first second = second

same_block : (m n a b : Map) (y0 x0 rows columns y x : ℕ) → a (y - y0) (x - x0) ≡ b (y - y0) (x - x0) → m y x ≡ n y x
    → with_block m y0 x0 rows columns a y x ≡ with_block n y0 x0 rows columns b y x
unfolding with_block
same_block m n a b y0 x0 rows columns y x inside outside = same_if _ _ _ _ _ inside outside

-- the row below an edge's samples
abbrev end_of_edge : Pass → Edge → ℕ
end_of_edge Vertical e = e.row + e.lines
end_of_edge Horizontal e = e.row - reach e.width + 2 * reach e.width

one_between_by : (t u : ℕ) (e : Edge) (pass : Pass) → e.pass ≡ pass → t ≤ e.row - reach e.width → e.row < u → end_of_edge pass e ≤ u → IsBetween t u (e ∷ [])
unfolding with_edge
one_between_by t u e Vertical is low in_rows high =
    let r = reach e.width in
    rw is (record {
      keeps = λ m y x out. ap (λ (g : Map). g y x) (along_at_once e m e.lines)
          ∙ outside_block m (rows_filtered e m) e.row (e.column - r) e.lines (2 * r) y x (further y t u e.row (e.row + e.lines) (omega (arith, low)) high out);
      local = λ m n same y x below above. ap (λ (g : Map). g y x) (along_at_once e m e.lines)
          ∙ (same_block m n (rows_filtered e m) (rows_filtered e n) e.row (e.column - r) e.lines (2 * r) y x
          (ap (λ (s : ℕ → ℕ). nth_of_line r (filtered_line e.limits e.width (line_at r s e.column)) (x - (e.column - r)))
          (fun_ext λ k. same (e.row + (y - e.row)) k (omega (arith, low)) (omega (arith, in_rows, above))))
          (same y x below above)
          ∙ sym (ap (λ (g : Map). g y x) (along_at_once e n e.lines)));
    })
one_between_by t u e Horizontal is low in_rows high =
    let r = reach e.width in
    rw is (record {
      keeps = λ m y x out. ap (λ (g : Map). g y x) (down_at_once e m e.lines)
          ∙ outside_block m (columns_filtered e m) (e.row - r) e.column (2 * r) e.lines y x (further y t u (e.row - r) (e.row - r + 2 * r) low high out);
      local = λ m n same y x below above. ap (λ (g : Map). g y x) (down_at_once e m e.lines)
          ∙ (same_block m n (columns_filtered e m) (columns_filtered e n) (e.row - r) e.column (2 * r) e.lines y x
          (ap (λ (z : Line). nth_of_line r (filtered_line e.limits e.width z) (y - (e.row - r)))
          (same_line r e.row t u (λ k. m k (e.column + (x - e.column))) (λ k. n k (e.column + (x - e.column))) (λ k far near. same k (e.column + (x - e.column)) far near) low (omega (arith, high))))
          (same y x below above)
          ∙ sym (ap (λ (g : Map). g y x) (down_at_once e n e.lines)));
    })

one_between : (t u : ℕ) (e : Edge) → t ≤ e.row - reach e.width → e.row < u → end_of_edge e.pass e ≤ u → IsBetween t u (e ∷ [])
one_between t u e low in_rows high = one_between_by t u e e.pass refl low in_rows high

-- the eighth row above a cell
abbrev above_cell : Shape → Plane → ℕ → ℕ
above_cell shape plane r = halved (sub_y shape plane) (8 * r) - 8

-- a cell's rows in its plane lie between two rows, with the eight above it
record IsCellBetween (shape : Shape) (plane : Plane) (t u r : ℕ) : Type 0 where
  low : t ≤ above_cell shape plane r
  high : min (coded_height shape plane) (halved (sub_y shape plane) (8 * r) + 8) ≤ u
  inside : r < mi_rows shape
  below : 0 < r → 8 ≤ halved (sub_y shape plane) (8 * r)

side_one : (t u : ℕ) (shape : Shape) (plane : Plane) (pass : Pass) (b : BlockInfo) (r c : ℕ) (limits : Limits) (w : FilterWidth) → IsCellBetween shape plane t u r
    → (across pass shape (cell_at plane pass r c) b).is_first ≡ false → ((across pass shape (cell_at plane pass r c) b).is_last ≡ true → reach w ≡ 4)
    → IsBetween t u (side_edge shape (cell_at plane pass r c) limits w ∷ [])
side_one t u shape plane Vertical b r c limits w is first last =
    let row = half_side (sub_y shape plane) r (mi_rows shape) is.inside in
    let whole = sides.high shape plane in
    one_between t u (side_edge shape (cell_at plane Vertical r c) limits w) (omega (arith, is.low, reach_low w)) (omega (arith, is.high, row, whole)) (omega (arith, is.high, row, whole))
side_one t u shape plane Horizontal b r c limits w is first last =
    let row = half_side (sub_y shape plane) r (mi_rows shape) is.inside in
    let whole = sides.high shape plane in
    let far = reached (sub_y shape plane) r (mi_rows shape) w is.inside last in
    let room = is.below (later r first) in
    one_between t u (side_edge shape (cell_at plane Horizontal r c) limits w) (omega (arith, is.low, reach_low w)) (omega (arith, is.high, row, whole)) (omega (arith, is.high, far, room, whole, reach_low w))

side_between : (t u : ℕ) (shape : Shape) (plane : Plane) (pass : Pass) (b : BlockInfo) (r c : ℕ) (limits : Limits) (o : Option FilterWidth) → IsCellBetween shape plane t u r
    → o ≡ outer_edge shape (cell_at plane pass r c) b → IsBetween t u (side_edges shape (cell_at plane pass r c) limits o)
unfolding outer_edge
side_between t u shape plane pass b r c limits None is e = no_edges t u
side_between t u shape plane pass b r c limits (Some w) is e =
    let z = across pass shape (cell_at plane pass r c) b in
    let p = not (is_skipped_inter b) || z.is_block_edge in
    side_one t u shape plane pass b r c limits w is
    (not_first p z.is_first (outer_width (tx_in shape b plane) z) w (sym e))
    (narrowed (tx_in shape b plane) z w (there p z.is_first (outer_width (tx_in shape b plane) z) w (sym e)))

middle_one : (t u : ℕ) (shape : Shape) (plane : Plane) (pass : Pass) (b : BlockInfo) (r c : ℕ) (limits : Limits) → IsCellBetween shape plane t u r
    → (across pass shape (cell_at plane pass r c) b).is_last ≡ false → IsBetween t u (middle_edge shape (cell_at plane pass r c) limits ∷ [])
middle_one t u shape plane Vertical b r c limits is last =
    let row = half_side (sub_y shape plane) r (mi_rows shape) is.inside in
    let whole = sides.high shape plane in
    one_between t u (middle_edge shape (cell_at plane Vertical r c) limits) (omega (arith, is.low)) (omega (arith, is.high, row, whole)) (omega (arith, is.high, row, whole))
middle_one t u shape plane Horizontal b r c limits is last =
    let row = whole_side (sub_y shape plane) r (mi_rows shape) is.inside last in
    let whole = sides.high shape plane in
    one_between t u (middle_edge shape (cell_at plane Horizontal r c) limits) (omega (arith, is.low)) (omega (arith, is.high, row, whole)) (omega (arith, is.high, row, whole))

middle_between : (t u : ℕ) (shape : Shape) (plane : Plane) (pass : Pass) (b : BlockInfo) (r c : ℕ) (limits : Limits) (inner : Bool) → IsCellBetween shape plane t u r
    → inner ≡ has_inner shape (cell_at plane pass r c) b → IsBetween t u (middle_edges shape (cell_at plane pass r c) limits inner)
unfolding has_inner
middle_between t u shape plane pass b r c limits false is e = no_edges t u
middle_between t u shape plane pass b r c limits true is e =
    middle_one t u shape plane pass b r c limits is
    (last_of (is_4x4 (tx_in shape b plane)) (not (is_skipped_inter b)) (across Vertical shape (cell_at plane Vertical r c) b).is_last (across pass shape (cell_at plane pass r c) b).is_last (sym e))

if_between : (t u : ℕ) (b : Bool) (es : List Edge) → IsBetween t u es → IsBetween t u (if b then [] else es)
if_between t u true es so = no_edges t u
if_between t u false es so = so

block_between : (t u : ℕ) (f : EdgeSetting) (plane : Plane) (pass : Pass) (r c : ℕ) (b : BlockInfo) → IsCellBetween f.shape plane t u r
    → IsBetween t u (block_edges f (cell_at plane pass r c) b)
unfolding block_edges both_edges
block_between t u f plane pass r c b is =
    let l = limits_of f.shape.depth f.filter.sharpness (filter_level f b) in
    if_between t u (nat_eq (filter_level f b) 0) _
    (both_between t u _ _ (side_between t u f.shape plane pass b r c l (outer_edge f.shape (cell_at plane pass r c) b) is refl) (middle_between t u f.shape plane pass b r c l (has_inner f.shape (cell_at plane pass r c) b) is refl))

found_between : (t u : ℕ) (f : EdgeSetting) (plane : Plane) (pass : Pass) (r c : ℕ) (o : Option BlockInfo) → IsCellBetween f.shape plane t u r
    → IsBetween t u (edges_of f (cell_at plane pass r c) o)
found_between t u f plane pass r c None is = no_edges t u
found_between t u f plane pass r c (Some b) is = block_between t u f plane pass r c b is

cell_between : (t u : ℕ) (f : EdgeSetting) (blocks : List BlockInfo) (plane : Plane) (pass : Pass) (r c : ℕ) → IsCellBetween f.shape plane t u r
    → IsBetween t u (cell_edges f blocks (cell_at plane pass r c))
unfolding cell_edges
cell_between t u f blocks plane pass r c is = found_between t u f plane pass r c (covering blocks r c) is

cell_row_between : (t u : ℕ) (f : EdgeSetting) (blocks : List BlockInfo) (plane : Plane) (pass : Pass) (r sc : ℕ) → IsCellBetween f.shape plane t u r
    → IsBetween t u (cell_row f blocks plane pass r (cells_of (sub_x f.shape plane) (mi_cols f.shape) sc))
unfolding cell_row
cell_row_between t u f blocks plane pass r sc is =
    walk_between t u (λ c. cell_edges f blocks (cell_at plane pass r c)) (λ i. 8 * sc + step_of (sub_x f.shape plane) * i) (cells_along (sub_x f.shape plane) (mi_cols f.shape) sc) (λ i low. cell_between t u f blocks plane pass r _ is)

-- a cell of a row of superblocks
record IsCellOf (sub : Bool) (end sr r : ℕ) : Type 0 where
  low : halved sub (64 * sr) ≤ halved sub (8 * r)
  high : halved sub (8 * r) + 8 ≤ halved sub (64 * (sr + 1))
  inside : r < end
  below : 0 < r → 8 ≤ halved sub (8 * r)

cell_is : (sub : Bool) (end sr i : ℕ) → i < cells_along sub end sr → IsCellOf sub end sr (8 * sr + step_of sub * i)
cell_is true end sr i few = record { low = omega arith; high = omega (arith, few); inside = omega (arith, few); below = λ some. omega (arith, some) }
cell_is false end sr i few = record { low = omega arith; high = omega (arith, few); inside = omega (arith, few); below = λ some. omega (arith, some) }

pass_between : (f : EdgeSetting) (blocks : List BlockInfo) (plane : Plane) (pass : Pass) (sr sc : ℕ)
    → IsBetween (first_changed f.shape plane sr) (lower_end_of f.shape plane sr) (pass_edges f blocks plane pass sr sc)
unfolding pass_edges
pass_between f blocks plane pass sr sc =
    walk_between (first_changed f.shape plane sr) (lower_end_of f.shape plane sr) (λ r. cell_row f blocks plane pass r (cells_of (sub_x f.shape plane) (mi_cols f.shape) sc))
    (λ i. 8 * sr + step_of (sub_y f.shape plane) * i) (cells_along (sub_y f.shape plane) (mi_rows f.shape) sr)
    (λ i low. let is = cell_is (sub_y f.shape plane) (mi_rows f.shape) sr i low in
    cell_row_between _ _ f blocks plane pass _ sc (record { low = omega (arith, is.low); high = omega (arith, is.high); inside = is.inside; below = is.below }))

superblock_between : (f : EdgeSetting) (blocks : List BlockInfo) (plane : Plane) (sr sc : ℕ)
    → IsBetween (first_changed f.shape plane sr) (lower_end_of f.shape plane sr) (superblock_edges f blocks plane sr sc)
unfolding superblock_edges
superblock_between f blocks plane sr sc = both_between _ _ _ _ (pass_between f blocks plane Vertical sr sc) (pass_between f blocks plane Horizontal sr sc)

row_between : (f : EdgeSetting) (blocks : List BlockInfo) (plane : Plane) (sr : ℕ) → IsBetween (first_changed f.shape plane sr) (lower_end_of f.shape plane sr) (row_edges f blocks plane sr)
unfolding row_edges
row_between f blocks plane sr = if_between _ _ (nat_eq f.filter.level 0) _
    (walk_plain _ _ (superblock_edges f blocks plane sr) (λ sc. superblock_between f blocks plane sr sc) (superblocks_along (mi_cols f.shape)))

---- Rows of a frame ----

pub leaves_above : (f : EdgeSetting) (blocks : List BlockInfo) (sr : ℕ) → LeavesRowsAbove f blocks sr
unfolding with_row
leaves_above f blocks sr m plane y x above = (row_between f blocks plane sr).keeps (m plane) y x (inl above)

pub leaves_below : (f : EdgeSetting) (blocks : List BlockInfo) (sr : ℕ) → LeavesRowsBelow f blocks sr
unfolding with_row
leaves_below f blocks sr m plane y x below = (row_between f blocks plane sr).keeps (m plane) y x (inr below)

pub reads_its_rows : (f : EdgeSetting) (blocks : List BlockInfo) (sr : ℕ) → ReadsItsRowsAlone f blocks sr
unfolding with_row
reads_its_rows f blocks sr m n same plane y x low high = (row_between f blocks plane sr).local (m plane) (n plane) (λ a b far near. same plane a b far near) y x low high

pub reads_below : (f : EdgeSetting) (blocks : List BlockInfo) (sr : ℕ) → ReadsNoRowAbove f blocks sr
reads_below f blocks sr m n same plane y x low = elim (cases_lt y (lower_end_of f.shape plane sr)) [
  | inl high ↦ reads_its_rows f blocks sr m n (λ p a b far near. same p a b far) plane y x low high
  | inr below ↦ leaves_below f blocks sr m plane y x below ∙ (same plane y x low ∙ sym (leaves_below f blocks sr n plane y x below))
]

higher : (sub : Bool) (rows k y : ℕ) → y < halved sub (64 * rows) - 8 → y < halved sub (64 * (rows + k)) - 8
higher true rows k y low = omega (arith, low)
higher false rows k y low = omega (arith, low)

later_rows : (f : EdgeSetting) (blocks : List BlockInfo) (m : FrameMap) (rows : ℕ) (plane : Plane) (y x : ℕ) → y < first_changed f.shape plane rows → (k : ℕ)
    → filtered_before f blocks m (rows + k) plane y x ≡ filtered_before f blocks m rows plane y x
later_rows f blocks m rows plane y x low zero = let e : rows + 0 ≡ rows = omega arith in rw e refl
later_rows f blocks m rows plane y x low (suc k) =
    let e : rows + suc k ≡ rows + k + 1 = omega arith in
    rw e (ap (λ (z : FrameMap). z plane y x) (row_more f blocks m (rows + k))
    ∙ (leaves_above f blocks (rows + k) (filtered_before f blocks m (rows + k)) plane y x (higher (sub_y f.shape plane) rows k y low)
    ∙ later_rows f blocks m rows plane y x low k))

pub are_final : (f : EdgeSetting) (blocks : List BlockInfo) (rows : ℕ) → AreFinal f blocks rows
are_final f blocks rows m plane y x low few =
    let n = superblocks_along (mi_rows f.shape) in
    let e : rows + (n - rows) ≡ n = omega (arith, few) in
    sym (ap (λ (k : ℕ). filtered_before f blocks m k plane y x) (sym e) ∙ later_rows f blocks m rows plane y x low (n - rows))
    ∙ ap (λ (z : FrameMap). z plane y x) (all_rows f blocks m)
