-- Reading the superblocks of a tile one after another is reading them row by row.
use Rattle.std.proofs.Common.{◌≡◌, ◌∙◌, ℕ, zero, suc, ◌+◌, ◌*◌, List, [], ◌∷◌, ◌++◌, map, refl, sym, ap, append_assoc, arith}
use Rattle.std.specs.List.{flat_map, range_with_len}
use Rattle.vp9_types.specs.Syntax.{Syntax, done, broken, ask}
use Rattle.vp9_types.specs.declared.rule.Rule.{Rule}
use Rattle.prob_contexts.specs.declared.kind.CountedBool.{CountedBool}
use Rattle.counting_reader.specs.Counting.{Settled, counted_before, in_order, settle, through}
use Rattle.mode_syntax.specs.Laws.{square_at, decode_square, decode_row, decode_rows, squares_from}
use Rattle.mode_syntax.specs.Superblocks.{superblock_from}
use Rattle.mode_syntax.specs.Walk.{TileWalk, decode_partition, decode_tile}

---- Two lists, one after another ----

behind_none : {A : Type 0} (s : Syntax ℕ Rule (Settled A)) → counted_before [] s ≡ s
unfolding counted_before
behind_none (done s) = refl
behind_none (broken e) = refl
behind_none (ask p k) = λ i. ask p (λ v. behind_none (k v) i)

behind_both : {A : Type 0} (a b : List CountedBool) (s : Syntax ℕ Rule (Settled A)) → counted_before (a ++ b) s ≡ counted_before a (counted_before b s)
unfolding counted_before
behind_both a b (done s) = λ i. done (record { value = s.value; counted = append_assoc a b s.counted i })
behind_both a b (broken e) = refl
behind_both a b (ask p k) = λ i. ask p (λ v. behind_both a b (k v) i)

behind_first : {A B : Type 0} (b : List CountedBool) (s : Syntax ℕ Rule (Settled A)) (f : A → Syntax ℕ Rule (Settled B)) → in_order (counted_before b s) f ≡ counted_before b (in_order s f)
unfolding in_order counted_before
behind_first b (done s) f = behind_both b s.counted (f s.value)
behind_first b (broken e) f = refl
behind_first b (ask p k) f = λ i. ask p (λ v. behind_first b (k v) f i)

in_order_again : {A B C : Type 0} (s : Syntax ℕ Rule (Settled A)) (f : A → Syntax ℕ Rule (Settled B)) (g : B → Syntax ℕ Rule (Settled C))
    → in_order (in_order s f) g ≡ in_order s (λ x. in_order (f x) g)
unfolding in_order
in_order_again (done s) f g = behind_first s.counted (f s.value) g
in_order_again (broken e) f g = refl
in_order_again (ask p k) f g = λ i. ask p (λ v. in_order_again (k v) f g i)

through_both : {A S : Type 0} (f : A → S → Syntax ℕ Rule (Settled S)) (xs ys : List A) (s : S) → through f (xs ++ ys) s ≡ in_order (through f xs s) (through f ys)
unfolding through settle in_order
through_both f [] ys s = sym (behind_none (through f ys s))
through_both f (x ∷ xs) ys s = (λ i. in_order (f x s) (λ t. through_both f xs ys t i)) ∙ sym (in_order_again (f x s) (through f xs) (through f ys))

---- Rows ----

next_place : (c j : ℕ) → c + 8 * (j + 1) ≡ c + 8 * j + 8
next_place c j = omega arith

first_place : (c : ℕ) → c + 8 * 0 ≡ c
first_place c = omega arith

module _ {S : Type 0} (walk : TileWalk S) (r c : ℕ) where
  row_is : (i j n : ℕ) (s : S) → through (decode_partition walk) (map (λ j. superblock_from (square_at walk 3 r c) i j) (range_with_len j n)) s ≡ decode_row walk (r + 8 * i) (c + 8 * j) n s
  unfolding through decode_row
  row_is i j zero s = refl
  row_is i j (suc n) s =
      (λ k. in_order (decode_square walk 3 (r + 8 * i) (c + 8 * j) s) (λ t. row_is i (j + 1) n t k))
      ∙ ap (λ d. in_order (decode_square walk 3 (r + 8 * i) (c + 8 * j) s) (decode_row walk (r + 8 * i) d n)) (next_place c j)

  rows_are : (columns i n : ℕ) (s : S)
      → through (decode_partition walk) (flat_map (λ i. map (λ j. superblock_from (square_at walk 3 r c) i j) (range_with_len 0 columns)) (range_with_len i n)) s
      ≡ decode_rows walk columns (r + 8 * i) c n s
  unfolding through decode_rows
  rows_are columns i zero s = refl
  rows_are columns i (suc n) s =
      through_both (decode_partition walk) (map (λ j. superblock_from (square_at walk 3 r c) i j) (range_with_len 0 columns))
      (flat_map (λ i. map (λ j. superblock_from (square_at walk 3 r c) i j) (range_with_len 0 columns)) (range_with_len (i + 1) n)) s
      ∙ ((λ k. in_order (row_is i 0 columns s k) (λ t. rows_are columns (i + 1) n t k))
      ∙ (ap (λ d. in_order (decode_row walk (r + 8 * i) d columns s) (decode_rows walk columns (r + 8 * (i + 1)) c n)) (first_place c)
      ∙ ap (λ d. in_order (decode_row walk (r + 8 * i) c columns s) (decode_rows walk columns d c n)) (next_place r i)))

pub tile_is : {S : Type 0} (walk : TileWalk S) (columns r c n : ℕ) (s : S) → decode_tile walk (squares_from walk columns r c n) s ≡ decode_rows walk columns r c n s
unfolding decode_tile
tile_is walk columns r c n s = rows_are walk r c columns 0 n s ∙ ap (λ d. decode_rows walk columns d c n s) (first_place r)
