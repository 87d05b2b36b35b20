-- Eight lines of a plane as lanes, and what is made of them as blocks of the plane.
use Rattle.std.proofs.Common.{◌≡◌, ◌<◌, ◌≤◌, ◌+◌, ◌-◌, ℕ, zero, suc, refl, ◌∙◌, arith, ap, slice_index, min}
use Rattle.std.proofs.Math.Path.{fun_ext}
use Rattle.std.proofs.lemmas.Bool.Decides.{nat_tests}
use Rattle.vp9_types.specs.Maps.{Map, with_block}
use Rattle.planes.specs.declared.area.Area.{Area}
use Rattle.planes.specs.Planes.{lower_end, right_end, with_part}
use Rattle.line_filter.specs.declared.lanes.Lanes.{Lanes}
use Rattle.line_filter.specs.Lines.{Line, p, q}
use Rattle.line_filter.specs.FilteredEdges.{line_at, nth_of_line}
use Rattle.line_filter.specs.Code.{AreLanes, AreLanesAtMost, IsNear, IsFar, line_of, near_at, near_between, far_between, down, turned}
use Rattle.line_filter.proofs.LaneLemmas.{wide_at}

pub lanes_at_most : (most : ℕ) (x : Lanes) (f : Map) → AreLanes x f → ((i j : ℕ) → f i j ≤ most) → AreLanesAtMost most x
lanes_at_most most x f so small = record {
  r0 = λ j low. rw (so.r0 j low) (small 0 j);
  r1 = λ j low. rw (so.r1 j low) (small 1 j);
  r2 = λ j low. rw (so.r2 j low) (small 2 j);
  r3 = λ j low. rw (so.r3 j low) (small 3 j);
  r4 = λ j low. rw (so.r4 j low) (small 4 j);
  r5 = λ j low. rw (so.r5 j low) (small 5 j);
  r6 = λ j low. rw (so.r6 j low) (small 6 j);
  r7 = λ j low. rw (so.r7 j low) (small 7 j);
}

abbrev pub AreSmall : Map → Type 0
AreSmall f = (i j : ℕ) → f i j ≤ 4095

pub near_small : (x : Lanes) (f : Map) → AreLanes x f → AreSmall f → (j : ℕ) → j < 8 → IsNear (near_at x j)
unfolding near_at
near_small x f so small j low = record {
  p3 = rw (so.r0 j low) (small 0 j);
  p2 = rw (so.r1 j low) (small 1 j);
  p1 = rw (so.r2 j low) (small 2 j);
  p0 = rw (so.r3 j low) (small 3 j);
  q0 = rw (so.r4 j low) (small 4 j);
  q1 = rw (so.r5 j low) (small 5 j);
  q2 = rw (so.r6 j low) (small 6 j);
  q3 = rw (so.r7 j low) (small 7 j);
}

pub between_small : (a b : Lanes) (f g : Map) → AreLanes a f → AreLanes b g → AreSmall f → AreSmall g → (j : ℕ) → j < 8 → IsNear (near_between a b j)
unfolding near_between
between_small a b f g so also small little j low = record {
  p3 = rw (so.r4 j low) (small 4 j);
  p2 = rw (so.r5 j low) (small 5 j);
  p1 = rw (so.r6 j low) (small 6 j);
  p0 = rw (so.r7 j low) (small 7 j);
  q0 = rw (also.r0 j low) (little 0 j);
  q1 = rw (also.r1 j low) (little 1 j);
  q2 = rw (also.r2 j low) (little 2 j);
  q3 = rw (also.r3 j low) (little 3 j);
}

pub far_small : (a b : Lanes) (f g : Map) → AreLanes a f → AreLanes b g → AreSmall f → AreSmall g → (j : ℕ) → j < 8 → IsFar (far_between a b j)
unfolding far_between
far_small a b f g so also small little j low = record {
  p7 = rw (so.r0 j low) (small 0 j);
  p6 = rw (so.r1 j low) (small 1 j);
  p5 = rw (so.r2 j low) (small 2 j);
  p4 = rw (so.r3 j low) (small 3 j);
  q4 = rw (also.r4 j low) (little 4 j);
  q5 = rw (also.r5 j low) (little 5 j);
  q6 = rw (also.r6 j low) (little 6 j);
  q7 = rw (also.r7 j low) (little 7 j);
}

down_is : (x : Lanes) (f : Map) → AreLanes x f → (k : ℕ) → k < 8 → (j : ℕ) → j < 8 → slice_index (down x k) j ≡ f j k
down_is x f so k low zero lt = so.r0 k low
down_is x f so k low (suc zero) lt = so.r1 k low
down_is x f so k low (suc (suc zero)) lt = so.r2 k low
down_is x f so k low (suc (suc (suc zero))) lt = so.r3 k low
down_is x f so k low (suc (suc (suc (suc zero)))) lt = so.r4 k low
down_is x f so k low (suc (suc (suc (suc (suc zero))))) lt = so.r5 k low
down_is x f so k low (suc (suc (suc (suc (suc (suc zero)))))) lt = so.r6 k low
down_is x f so k low (suc (suc (suc (suc (suc (suc (suc zero))))))) lt = so.r7 k low
down_is x f so k low (suc (suc (suc (suc (suc (suc (suc (suc j)))))))) lt = absurd (omega arith)

-- columns as rows
pub turned_lanes : (x : Lanes) (f : Map) → AreLanes x f → AreLanes (turned x) (λ i j. f j i)
unfolding turned
turned_lanes x f so = record {
  r0 = down_is x f so 0 (omega arith);
  r1 = down_is x f so 1 (omega arith);
  r2 = down_is x f so 2 (omega arith);
  r3 = down_is x f so 3 (omega arith);
  r4 = down_is x f so 4 (omega arith);
  r5 = down_is x f so 5 (omega arith);
  r6 = down_is x f so 6 (omega arith);
  r7 = down_is x f so 7 (omega arith);
}

pub turned_by : (x y : Lanes) (f : Map) → y ≡ turned x → AreLanes x f → AreLanes y (λ i j. f j i)
turned_by x y f is so = rw is (turned_lanes x f so)

-- a column of lanes is the line at a place of samples
pub near_line : (x : Lanes) (f : Map) (s : ℕ → ℕ) (at j : ℕ) → AreLanes x f → 4 ≤ at → j < 8 → ((i : ℕ) → f i j ≡ s (at - 4 + i))
    → line_of (near_at x j) ≡ line_at 4 s at
unfolding near_at line_at
near_line x f s at j so four low is =
    let s0 : at - 4 + 0 ≡ at - 1 - 3 = omega (arith, four) in let s1 : at - 4 + 1 ≡ at - 1 - 2 = omega (arith, four) in
    let s2 : at - 4 + 2 ≡ at - 1 - 1 = omega (arith, four) in let s3 : at - 4 + 3 ≡ at - 1 - 0 = omega (arith, four) in
    let s4 : at - 4 + 4 ≡ at + 0 = omega (arith, four) in let s5 : at - 4 + 5 ≡ at + 1 = omega (arith, four) in
    let s6 : at - 4 + 6 ≡ at + 2 = omega (arith, four) in let s7 : at - 4 + 7 ≡ at + 3 = omega (arith, four) in
    rw (so.r0 j low, so.r1 j low, so.r2 j low, so.r3 j low, so.r4 j low, so.r5 j low, so.r6 j low, so.r7 j low)
    (rw (is 0, is 1, is 2, is 3, is 4, is 5, is 6, is 7) (rw (s0, s1, s2, s3, s4, s5, s6, s7) refl))

pub wide_line : (a b : Lanes) (f g : Map) (s : ℕ → ℕ) (at j : ℕ) → AreLanes a f → AreLanes b g → 8 ≤ at → j < 8
    → ((i : ℕ) → f i j ≡ s (at - 8 + i)) → ((i : ℕ) → g i j ≡ s (at + i)) → wide_at a b j ≡ line_at 8 s at
unfolding near_between far_between line_at
wide_line a b f g s at j so also eight low is too =
    let s0 : at - 8 + 0 ≡ at - 1 - 7 = omega (arith, eight) in let s1 : at - 8 + 1 ≡ at - 1 - 6 = omega (arith, eight) in
    let s2 : at - 8 + 2 ≡ at - 1 - 5 = omega (arith, eight) in let s3 : at - 8 + 3 ≡ at - 1 - 4 = omega (arith, eight) in
    let s4 : at - 8 + 4 ≡ at - 1 - 3 = omega (arith, eight) in let s5 : at - 8 + 5 ≡ at - 1 - 2 = omega (arith, eight) in
    let s6 : at - 8 + 6 ≡ at - 1 - 1 = omega (arith, eight) in let s7 : at - 8 + 7 ≡ at - 1 - 0 = omega (arith, eight) in
    rw (
      so.r0 j low,
      so.r1 j low,
      so.r2 j low,
      so.r3 j low,
      so.r4 j low,
      so.r5 j low,
      so.r6 j low,
      so.r7 j low,
      also.r0 j low,
      also.r1 j low,
      also.r2 j low,
      also.r3 j low,
      also.r4 j low,
      also.r5 j low,
      also.r6 j low,
      also.r7 j low,
    )
    (rw (is 0, is 1, is 2, is 3, is 4, is 5, is 6, is 7, too 0, too 1, too 2, too 3, too 4, too 5, too 6, too 7) (rw (s0, s1, s2, s3, s4, s5, s6, s7) refl))

-- lanes whose columns are known lines
pub lanes_of_lines : (x : Lanes) (g : ℕ → Line) → ((j : ℕ) → j < 8 → line_of (near_at x j) ≡ g j) → AreLanes x (λ i j. nth_of_line 4 (g j) i)
unfolding near_at
lanes_of_lines x g is = record {
  r0 = λ j low. ap (λ (z : Line). p z 3) (is j low);
  r1 = λ j low. ap (λ (z : Line). p z 2) (is j low);
  r2 = λ j low. ap (λ (z : Line). p z 1) (is j low);
  r3 = λ j low. ap (λ (z : Line). p z 0) (is j low);
  r4 = λ j low. ap (λ (z : Line). q z 0) (is j low);
  r5 = λ j low. ap (λ (z : Line). q z 1) (is j low);
  r6 = λ j low. ap (λ (z : Line). q z 2) (is j low);
  r7 = λ j low. ap (λ (z : Line). q z 3) (is j low);
}

pub upper_of_lines : (a b : Lanes) (g : ℕ → Line) → ((j : ℕ) → j < 8 → wide_at a b j ≡ g j) → AreLanes a (λ i j. nth_of_line 8 (g j) i)
unfolding near_between far_between
upper_of_lines a b g is = record {
  r0 = λ j low. ap (λ (z : Line). p z 7) (is j low);
  r1 = λ j low. ap (λ (z : Line). p z 6) (is j low);
  r2 = λ j low. ap (λ (z : Line). p z 5) (is j low);
  r3 = λ j low. ap (λ (z : Line). p z 4) (is j low);
  r4 = λ j low. ap (λ (z : Line). p z 3) (is j low);
  r5 = λ j low. ap (λ (z : Line). p z 2) (is j low);
  r6 = λ j low. ap (λ (z : Line). p z 1) (is j low);
  r7 = λ j low. ap (λ (z : Line). p z 0) (is j low);
}

pub lower_of_lines : (a b : Lanes) (g : ℕ → Line) → ((j : ℕ) → j < 8 → wide_at a b j ≡ g j) → AreLanes b (λ i j. nth_of_line 8 (g j) (8 + i))
unfolding near_between far_between
lower_of_lines a b g is = record {
  r0 = λ j low. ap (λ (z : Line). q z 0) (is j low);
  r1 = λ j low. ap (λ (z : Line). q z 1) (is j low);
  r2 = λ j low. ap (λ (z : Line). q z 2) (is j low);
  r3 = λ j low. ap (λ (z : Line). q z 3) (is j low);
  r4 = λ j low. ap (λ (z : Line). q z 4) (is j low);
  r5 = λ j low. ap (λ (z : Line). q z 5) (is j low);
  r6 = λ j low. ap (λ (z : Line). q z 6) (is j low);
  r7 = λ j low. ap (λ (z : Line). q z 7) (is j low);
}

-- each column filtered as its line alone
pub near_filtered : (x y : Lanes) (g : Map) (s : ℕ → ℕ → ℕ) (at : ℕ) (f : Line → Line) → 4 ≤ at → AreLanes x g → ((i j : ℕ) → g i j ≡ s j (at - 4 + i))
    → ((j : ℕ) → j < 8 → line_of (near_at y j) ≡ f (line_of (near_at x j))) → AreLanes y (λ i j. nth_of_line 4 (f (line_at 4 (s j) at)) i)
near_filtered x y g s at f four so is filtered =
    lanes_of_lines y (λ j. f (line_at 4 (s j) at)) (λ j low. filtered j low ∙ ap f (near_line x g (s j) at j so four low (λ i. is i j)))

pub far_filtered : (a b y z : Lanes) (g h : Map) (s : ℕ → ℕ → ℕ) (at : ℕ) (f : Line → Line) → 8 ≤ at → AreLanes a g → AreLanes b h
    → ((i j : ℕ) → g i j ≡ s j (at - 8 + i)) → ((i j : ℕ) → h i j ≡ s j (at + i))
    → ((j : ℕ) → j < 8 → wide_at y z j ≡ f (wide_at a b j)) → (j : ℕ) → j < 8 → wide_at y z j ≡ f (line_at 8 (s j) at)
far_filtered a b y z g h s at f eight so also is too filtered j low =
    filtered j low ∙ ap f (wide_line a b g h (s j) at j so also eight low (λ i. is i j) (λ i. too i j))

-- a block of eight rows on another is one of sixteen
one_below : (m h : Map) (row column columns : ℕ)
    → with_block (with_block m row column 8 columns h) (row + 8) column 8 columns (λ i j. h (8 + i) j) ≡ with_block m row column 16 columns h
unfolding with_block
one_below m h row column columns = fun_ext λ r. fun_ext λ c. grind (arith, nat_tests)

one_beside : (m h : Map) (row column rows : ℕ)
    → with_block (with_block m row column rows 8 h) row (column + 8) rows 8 (λ i j. h i (8 + j)) ≡ with_block m row column rows 16 h
unfolding with_block
one_beside m h row column rows = fun_ext λ r. fun_ext λ c. grind (arith, nat_tests)

least : (a b : ℕ) → a ≤ b → min a b ≡ a
least a b le = omega arith

parts_below : (a : Area) (m h : Map) (row column : ℕ) → 8 ≤ row → row + 8 ≤ lower_end a
    → with_part a (with_part a m (row - 8) column 8 8 h) row column 8 8 (λ i j. h (8 + i) j) ≡ with_part a m (row - 8) column 16 8 h
parts_below a m h row column eight inside =
    let e : row - 8 + 8 ≡ row = omega (arith, eight) in
    let whole = one_below m h (row - 8) column (min 8 (right_end a - column)) in
    rw (
      least 8 (lower_end a - (row - 8)) (omega (arith, inside)),
      least 8 (lower_end a - row) (omega (arith, inside)),
      least 16 (lower_end a - (row - 8)) (omega (arith, inside, eight)),
    ) (rw e at whole)

parts_beside : (a : Area) (m h : Map) (row column : ℕ) → 8 ≤ column → column + 8 ≤ right_end a
    → with_part a (with_part a m row (column - 8) 8 8 h) row column 8 8 (λ i j. h i (8 + j)) ≡ with_part a m row (column - 8) 8 16 h
parts_beside a m h row column eight inside =
    let e : column - 8 + 8 ≡ column = omega (arith, eight) in
    let whole = one_beside m h row (column - 8) (min 8 (lower_end a - row)) in
    rw (
      least 8 (right_end a - (column - 8)) (omega (arith, inside)),
      least 8 (right_end a - column) (omega (arith, inside)),
      least 16 (right_end a - (column - 8)) (omega (arith, inside, eight)),
    ) (rw e at whole)

pub put_below : (a b : Area) (m n new h : Map) (row column : ℕ) → 8 ≤ row → row + 8 ≤ lower_end a → b ≡ a
    → n ≡ with_part a m (row - 8) column 8 8 h → new ≡ with_part b n row column 8 8 (λ i j. h (8 + i) j) → new ≡ with_part a m (row - 8) column 16 8 h
put_below a b m n new h row column eight inside same first second = second ∙ rw (same, first) (parts_below a m h row column eight inside)

pub put_beside : (a b : Area) (m n new h : Map) (row column : ℕ) → 8 ≤ column → column + 8 ≤ right_end a → b ≡ a
    → n ≡ with_part a m row (column - 8) 8 8 h → new ≡ with_part b n row column 8 8 (λ i j. h i (8 + j)) → new ≡ with_part a m row (column - 8) 8 16 h
put_beside a b m n new h row column eight inside same first second = second ∙ rw (same, first) (parts_beside a m h row column eight inside)
