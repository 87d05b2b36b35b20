-- A plane that is filled with one number.
use Rattle.std.proofs.Common.{◌≡◌, ℕ, ◌+◌, ◌-◌, ◌*◌, ◌<◌, ◌≤◌, List, map, map-id, get_or, replicate, min, ◌∙◌, ap, arith, subst}
use Rattle.std.proofs.lemmas.Bool.Decides.{nat_tests}
use Rattle.std.proofs.lemmas.List.{get_or-replicate}
use Rattle.vp9_types.specs.Maps.{Map, rows_of, with_block}
use Rattle.planes.proofs.RowLemmas.{next, place}
use Rattle.planes.specs.Planes.{lower_end, right_end, with_part}
use Rattle.planes.specs.declared.area.Area.{Area}

inside_block : (m b : Map) (y0 x0 rows columns y x : ℕ) → y0 ≤ y → y < y0 + rows → x0 ≤ x → x < x0 + columns → with_block m y0 x0 rows columns b y x ≡ b (y - y0) (x - x0)
unfolding with_block
inside_block m b y0 x0 rows columns y x below above behind before = grind (arith, nat_tests)

pub filled : (a : Area) (m new : Map) (v : ℕ) (block : List ℕ) → new ≡ with_part a m a.first_row a.first_column a.rows a.columns (rows_of a.columns (map (λ n. n) block))
    → block ≡ replicate (a.rows * a.columns) v → (y x : ℕ) → a.first_row ≤ y → y < lower_end a → a.first_column ≤ x → x < right_end a → new y x ≡ v
filled a m new v block put same y x low high left right =
    let samples = map (λ (n : ℕ). n) block in
    let all : samples ≡ replicate (a.rows * a.columns) v = map-id block ∙ same in
    let rows : min a.rows (lower_end a - a.first_row) ≡ a.rows = omega arith in
    let columns : min a.columns (right_end a - a.first_column) ≡ a.columns = omega arith in
    let room = next a.columns (y - a.first_row) a.rows (omega (arith, low, high)) in
    let at : (y - a.first_row) * a.columns + (x - a.first_column) < a.rows * a.columns = omega (arith, room, left, right) in
    (λ i. put i y x)
    ∙ rw (rows, columns)
    (inside_block m (rows_of a.columns samples) a.first_row a.first_column a.rows a.columns y x low high left right
    ∙ (place a.columns samples (y - a.first_row) (x - a.first_column) (omega (arith, left, right))
    ∙ (ap (λ (l : List ℕ). get_or l ((y - a.first_row) * a.columns + (x - a.first_column)) 0) all ∙ get_or-replicate (a.rows * a.columns) _ v 0 at)))

-- by the area that the code has
pub filled_by : (a old : Area) (m new : Map) (v : ℕ) (block : List ℕ) → a ≡ old → new ≡ with_part old m a.first_row a.first_column a.rows a.columns (rows_of a.columns (map (λ n. n) block))
    → block ≡ replicate (a.rows * a.columns) v → (y x : ℕ) → old.first_row ≤ y → y < lower_end old → old.first_column ≤ x → x < right_end old → new y x ≡ v
filled_by a old m new v block is put all =
    subst (λ (z : Area). new ≡ with_part z m a.first_row a.first_column a.rows a.columns (rows_of a.columns (map (λ n. n) block)) → (y x : ℕ) → z.first_row ≤ y → y < lower_end z → z.first_column ≤ x → x < right_end z → new y x ≡ v)
    is (λ part. filled a m new v block part all) put
