-- The lines of an edge don't meet: one after another they leave what they leave all at once.
use Rattle.std.proofs.Common.{◌≡◌, true, false, ◌+◌, ◌*◌, ◌-◌, ℕ, zero, suc, refl, sym, ◌∙◌, arith, ap, min, subst}
use Rattle.std.specs.List.{range_with_len, fold}
use Rattle.std.proofs.Math.Path.{fun_ext}
use Rattle.std.proofs.lemmas.Bool.Decides.{nat_tests}
use Rattle.std.proofs.lemmas.List.{map-id}
use Rattle.std.proofs.lemmas.List.FromFn.{map-range_with_len_more}
use Rattle.std.proofs.lemmas.List.Sums.{fold_push}
use Rattle.vp9_types.specs.Maps.{Map, with_block}
use Rattle.planes.proofs.RowLemmas.{one_row_more, no_rows}
use Rattle.planes.specs.declared.area.Area.{Area}
use Rattle.planes.specs.Planes.{lower_end, right_end}
use Rattle.line_filter.specs.declared.edge.Edge.{Edge}
use Rattle.line_filter.specs.declared.edge.FilterWidth.TheVariants.{Four, Eight}
use Rattle.line_filter.specs.declared.edge.Limits.{Limits}
use Rattle.line_filter.specs.declared.edge.Pass.TheVariants.{Vertical, Horizontal}
use Rattle.line_filter.specs.Lines.{Line, filtered_near, filtered_line}
use Rattle.line_filter.specs.FilteredEdges.{reach, line_at, line_down, line_along, nth_of_line, with_line, with_edge}
use Rattle.line_filter.specs.Code.{IsAcross, IsAlong, down_filtered, along_filtered}

pub one_more : {A : Type 0} (f : A → ℕ → A) (a : A) (n : ℕ) → fold f a (range_with_len 0 (n + 1)) ≡ f (fold f a (range_with_len 0 n)) n
one_more f a n = rw (simp map-id at (map-range_with_len_more (λ (k : ℕ). k) 0 n n (omega arith))) (fold_push f a (range_with_len 0 n) n)

no_columns : (m : Map) (y x rows : ℕ) (b : Map) → with_block m y x rows 0 b ≡ m
unfolding with_block
no_columns m y x rows b = fun_ext λ r. fun_ext λ c. grind (arith, nat_tests)

one_column_more : (m : Map) (y x j rows : ℕ) (b : Map) → with_block (with_block m y x rows j b) y (x + j) rows 1 (λ i k. b i j) ≡ with_block m y x rows (j + 1) b
unfolding with_block
one_column_more m y x j rows b = fun_ext λ r. fun_ext λ c. grind (arith, nat_tests)

-- the lines of an edge all at once
abbrev pub rows_filtered : Edge → Map → Map
rows_filtered e m = λ i j. nth_of_line (reach e.width) (filtered_line e.limits e.width (line_along (reach e.width) m (e.row + i) e.column)) j

abbrev pub columns_filtered : Edge → Map → Map
columns_filtered e m = λ i j. nth_of_line (reach e.width) (filtered_line e.limits e.width (line_down (reach e.width) m e.row (e.column + j))) i

below : (m : Map) (y x rows columns : ℕ) (b : Map) → with_block m y x rows columns b (y + rows) ≡ m (y + rows)
unfolding with_block
below m y x rows columns b = fun_ext λ c. grind (arith, nat_tests)

right : (m : Map) (y x rows columns : ℕ) (b : Map) → ◌≡◌ {A = ℕ → ℕ} (λ r. with_block m y x rows columns b r (x + columns)) (λ r. m r (x + columns))
unfolding with_block
right m y x rows columns b = fun_ext λ r. grind (arith, nat_tests)

pub along_at_once : (e : Edge) (m : Map) (n : ℕ) → fold (with_line Vertical e) m (range_with_len 0 n)
    ≡ with_block m e.row (e.column - reach e.width) n (2 * reach e.width) (rows_filtered e m)
along_at_once e m zero = sym (no_rows m e.row (e.column - reach e.width) (2 * reach e.width) (rows_filtered e m))
along_at_once e m (suc n) =
    let so = along_at_once e m n in
    let next : suc n ≡ n + 1 = omega arith in
    let x = e.column - reach e.width in let k = 2 * reach e.width in
    subst (λ (k : ℕ). fold (with_line Vertical e) m (range_with_len 0 k) ≡ with_block m e.row (e.column - reach e.width) k (2 * reach e.width) (rows_filtered e m)) (sym next)
    (one_more (with_line Vertical e) m n
    ∙ (ap (λ (g : Map). with_line Vertical e g n) so
    ∙ (ap (λ (s : ℕ → ℕ). with_block (with_block m e.row x n k (rows_filtered e m)) (e.row + n) x 1 k
    (λ i j. nth_of_line (reach e.width) (filtered_line e.limits e.width (line_at (reach e.width) s e.column)) j))
    (below m e.row x n k (rows_filtered e m))
    ∙ one_row_more m e.row x n k (rows_filtered e m))))

pub down_at_once : (e : Edge) (m : Map) (n : ℕ) → fold (with_line Horizontal e) m (range_with_len 0 n)
    ≡ with_block m (e.row - reach e.width) e.column (2 * reach e.width) n (columns_filtered e m)
down_at_once e m zero = sym (no_columns m (e.row - reach e.width) e.column (2 * reach e.width) (columns_filtered e m))
down_at_once e m (suc n) =
    let so = down_at_once e m n in
    let next : suc n ≡ n + 1 = omega arith in
    let y = e.row - reach e.width in let k = 2 * reach e.width in
    subst (λ (k : ℕ). fold (with_line Horizontal e) m (range_with_len 0 k) ≡ with_block m (e.row - reach e.width) e.column (2 * reach e.width) k (columns_filtered e m)) (sym next)
    (one_more (with_line Horizontal e) m n
    ∙ (ap (λ (g : Map). with_line Horizontal e g n) so
    ∙ (ap (λ (s : ℕ → ℕ). with_block (with_block m y e.column k n (columns_filtered e m)) y (e.column + n) k 1
    (λ i j. nth_of_line (reach e.width) (filtered_line e.limits e.width (line_at (reach e.width) s e.row)) i))
    (right m y e.column k n (columns_filtered e m))
    ∙ one_column_more m y e.column n k (columns_filtered e m))))

-- by the lines all at once, as the code has them
pub edge_down : (e : Edge) (a : Area) (m new : Map) (f : Line → Line) (n : ℕ) → e.pass ≡ Horizontal → IsAcross a e → f ≡ filtered_line e.limits e.width → n ≡ reach e.width
    → new ≡ down_filtered n f a m e.row e.column → new ≡ with_edge m e
unfolding down_filtered with_edge
edge_down e a m new f n pass so is far done =
    let high : min (2 * reach e.width) (lower_end a - (e.row - reach e.width)) ≡ 2 * reach e.width = omega (arith, so.above, so.below) in
    done ∙ rw (far, high, is, ← so.lines, pass) (sym (down_at_once e m e.lines))

pub edge_along : (e : Edge) (a : Area) (m new : Map) (f : Line → Line) (n : ℕ) → e.pass ≡ Vertical → IsAlong a e → f ≡ filtered_line e.limits e.width → n ≡ reach e.width
    → new ≡ along_filtered n f a m e.row e.column → new ≡ with_edge m e
unfolding along_filtered with_edge
edge_along e a m new f n pass so is far done =
    let wide : min (2 * reach e.width) (right_end a - (e.column - reach e.width)) ≡ 2 * reach e.width = omega (arith, so.left, so.right) in
    done ∙ rw (far, wide, is, ← so.lines, pass) (sym (along_at_once e m e.lines))

pub line_four : (l : Limits) → filtered_near l false ≡ filtered_line l Four
unfolding filtered_line
line_four l = fun_ext λ x. refl

pub line_eight : (l : Limits) → filtered_near l true ≡ filtered_line l Eight
unfolding filtered_line
line_eight l = fun_ext λ x. refl
