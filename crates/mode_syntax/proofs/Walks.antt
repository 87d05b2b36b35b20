-- The blocks that a walk lists are the leaves of a partition tree, in order.
use Rattle.std.proofs.Common.{◌≡◌, ℕ, zero, suc, ◌+◌, ◌^◌, ◌++◌, [], ◌∙◌, true, false, List, map, inl, inr, refl, sym, subst, ap, append_assoc}
use Rattle.std.proofs.lemmas.Bool.{cases_Bool}
use Rattle.std.proofs.lemmas.List.{append-nil, map-append}
use Rattle.vp9_types.specs.declared.block.BlockSize.{BlockSize}
use Rattle.vp9_types.specs.declared.block.Partition.{Partition}
use Rattle.vp9_types.specs.declared.block.Partition.TheVariants.{Whole, Horizontal, Vertical, Split}
use Rattle.block_geometry.specs.SplitSquares.{part_size}
use Rattle.counting_reader.specs.Counting.{settle, in_order, Yields}
use Rattle.counting_reader.proofs.Yields.{yields_bind, yields_all, yields_map}
use Rattle.mode_syntax.specs.Partitions.{partition_at}
use Rattle.mode_syntax.specs.TileSquares.{Leaf, Cut, whole, upper_and_lower, left_and_right, quarters, inside, one_leaf, leaves}
use Rattle.mode_syntax.specs.Walk.{TileWalk, block_at, starts_inside, block_inside, smallest_parts, parts, decode_at_level}
use Rattle.mode_syntax.specs.Laws.{square_at, decode_square, square_parts, leaf_of, Lists, ListsItsBlock, ListsLeaves}
use Rattle.mode_syntax.proofs.SquareParts.{rows_are, columns_are, quarters_are}

pub lists_none : {S : Type 0} (walk : TileWalk S) (s : S) → Lists walk s [] s
lists_none walk s = ([], refl, sym (append-nil (walk.blocks s)))

pub lists_both : {S : Type 0} (walk : TileWalk S) (s t u : S) (xs ys : List Leaf) → Lists walk s xs t → Lists walk t ys u → Lists walk s (xs ++ ys) u
lists_both walk s t u xs ys a b = (
  a.0 ++ b.0,
  map-append leaf_of a.0 b.0 ∙ ap (λ l. l ++ map leaf_of b.0) a.1 ∙ ap (λ l. xs ++ l) b.1,
  b.2 ∙ ap (λ l. l ++ b.0) a.2 ∙ append_assoc (walk.blocks s) a.0 b.0,
)

there : {S : Type 0} (walk : TileWalk S) (r c : ℕ) (ls : List Leaf) → starts_inside walk r c ≡ true → inside walk.frame r c ls ≡ ls
there walk r c ls h = rw h refl

nowhere : {S : Type 0} (walk : TileWalk S) (r c : ℕ) (ls : List Leaf) → starts_inside walk r c ≡ false → inside walk.frame r c ls ≡ []
nowhere walk r c ls h = rw h refl

pub lists_as : {S : Type 0} (walk : TileWalk S) (s t : S) (xs ys : List Leaf) → ys ≡ xs → Lists walk s xs t → Lists walk s ys t
lists_as walk s t xs ys is a = (a.0, a.1 ∙ sym is, a.2)

-- a block that starts inside is listed, and another isn't read
lists_inside : {S : Type 0} (walk : TileWalk S) → ListsItsBlock walk → (r c : ℕ) (size : BlockSize) (s : S)
    → Yields (block_inside walk r c size s) (Lists walk s (inside walk.frame r c (one_leaf r c size)))
unfolding block_inside settle
lists_inside walk each r c size s = elim (cases_Bool (starts_inside walk r c)) [
  | inl one ↦ rw one (each r c size s)
  | inr none ↦ rw none (lists_none walk s)
]

cut_of : Partition → Cut
cut_of Whole = whole
cut_of Horizontal = upper_and_lower
cut_of Vertical = left_and_right
cut_of Split = quarters whole whole whole whole

smallest_leaves : {S : Type 0} (walk : TileWalk S) (r c : ℕ) (p : Partition) → starts_inside walk r c ≡ true
    → leaves walk.frame 0 r c (cut_of p) ≡ one_leaf r c (part_size p 0)
unfolding cut_of
smallest_leaves walk r c Whole h = there walk r c _ h
smallest_leaves walk r c Horizontal h = there walk r c _ h
smallest_leaves walk r c Vertical h = there walk r c _ h
smallest_leaves walk r c Split h = there walk r c _ h

smallest_listed : {S : Type 0} (walk : TileWalk S) → ListsItsBlock walk → (r c : ℕ) (s : S) (p : Partition) → starts_inside walk r c ≡ true
    → Yields (smallest_parts walk (square_at walk 0 r c) s p) (ListsLeaves walk 0 r c s)
unfolding smallest_parts
smallest_listed walk each r c s p h =
    yields_map (walk.block (block_at walk r c (part_size p 0)) s) (Lists walk s (one_leaf r c (part_size p 0))) (ListsLeaves walk 0 r c s) (each r c (part_size p 0) s)
    (λ t l. (cut_of p, lists_as walk s t (one_leaf r c (part_size p 0)) (leaves walk.frame 0 r c (cut_of p)) (smallest_leaves walk r c p h) l))

-- two halves, the second of which may start outside
halves_listed : {S : Type 0} (walk : TileWalk S) → ListsItsBlock walk → (n r c r' c' : ℕ) (s : S) (size : BlockSize) (cut : Cut)
    → leaves walk.frame (suc n) r c cut ≡ one_leaf r c size ++ inside walk.frame r' c' (one_leaf r' c' size)
    → Yields (in_order (walk.block (block_at walk r c size) s) (block_inside walk r' c' size)) (ListsLeaves walk (suc n) r c s)
halves_listed walk each n r c r' c' s size cut is =
    yields_bind (walk.block (block_at walk r c size) s) (block_inside walk r' c' size) (Lists walk s (one_leaf r c size)) (ListsLeaves walk (suc n) r c s) (each r c size s)
    (λ t first. yields_map (block_inside walk r' c' size t) (Lists walk t (inside walk.frame r' c' (one_leaf r' c' size))) (ListsLeaves walk (suc n) r c s)
    (lists_inside walk each r' c' size t)
    (λ u second. (cut, lists_as walk s u _ _ is (lists_both walk s t u (one_leaf r c size) (inside walk.frame r' c' (one_leaf r' c' size)) first second))))

quarters_listed : {S : Type 0} (walk : TileWalk S) (n r c : ℕ) (s : S) → starts_inside walk r c ≡ true
    → ((r c : ℕ) (s : S) → Yields (decode_square walk n r c s) (ListsLeaves walk n r c s))
    → Yields (square_parts walk n r c s Split) (ListsLeaves walk (suc n) r c s)
unfolding parts
quarters_listed walk n r c s h quarter =
    let f = walk.frame in
    let k = 2 ^ n in
    subst (λ x. Yields x (ListsLeaves walk (suc n) r c s)) (sym (quarters_are walk n r c s))
    (yields_bind (decode_square walk n r c s) _ (ListsLeaves walk n r c s) (ListsLeaves walk (suc n) r c s) (quarter r c s)
    (λ t a. yields_bind (decode_square walk n r (c + k) t) _ (ListsLeaves walk n r (c + k) t) (ListsLeaves walk (suc n) r c s) (quarter r (c + k) t)
    (λ u b. yields_bind (decode_square walk n (r + k) c u) _ (ListsLeaves walk n (r + k) c u) (ListsLeaves walk (suc n) r c s) (quarter (r + k) c u)
    (λ v d. yields_map (decode_square walk n (r + k) (c + k) v) (ListsLeaves walk n (r + k) (c + k) v) (ListsLeaves walk (suc n) r c s) (quarter (r + k) (c + k) v)
    (λ w e.
    let la = leaves f n r c a.0 in
    let lb = leaves f n r (c + k) b.0 in
    let ld = leaves f n (r + k) c d.0 in
    let le = leaves f n (r + k) (c + k) e.0 in (
      quarters a.0 b.0 d.0 e.0,
      lists_as walk s w (la ++ lb ++ ld ++ le) (leaves f (suc n) r c (quarters a.0 b.0 d.0 e.0)) (there walk r c (la ++ lb ++ ld ++ le) h)
          (lists_both walk s v w (la ++ lb ++ ld) le (lists_both walk s u v (la ++ lb) ld (lists_both walk s t u la lb a.1 b.1) d.1) e.1),
    ))))))

parts_listed : {S : Type 0} (walk : TileWalk S) → ListsItsBlock walk → (n r c : ℕ) (s : S) → starts_inside walk r c ≡ true
    → ((r c : ℕ) (s : S) → Yields (decode_square walk n r c s) (ListsLeaves walk n r c s))
    → (p : Partition) → Yields (square_parts walk n r c s p) (ListsLeaves walk (suc n) r c s)
unfolding parts
parts_listed walk each n r c s h quarter Whole =
    let size = part_size Whole (suc n) in
    yields_map (walk.block (block_at walk r c size) s) (Lists walk s (one_leaf r c size)) (ListsLeaves walk (suc n) r c s) (each r c size s)
    (λ t l. (whole, lists_as walk s t (one_leaf r c size) _ (there walk r c (one_leaf r c size) h) l))
parts_listed walk each n r c s h quarter Horizontal =
    subst (λ x. Yields x (ListsLeaves walk (suc n) r c s)) (sym (rows_are walk n r c s))
    (halves_listed walk each n r c (r + 2 ^ n) c s (part_size Horizontal (suc n)) upper_and_lower (there walk r c _ h))
parts_listed walk each n r c s h quarter Vertical =
    subst (λ x. Yields x (ListsLeaves walk (suc n) r c s)) (sym (columns_are walk n r c s))
    (halves_listed walk each n r c r (c + 2 ^ n) s (part_size Vertical (suc n)) left_and_right (there walk r c _ h))
parts_listed walk each n r c s h quarter Split = quarters_listed walk n r c s h quarter

-- a square that starts outside has no leaves
outside_listed : {S : Type 0} (walk : TileWalk S) (n r c : ℕ) (s : S) → starts_inside walk r c ≡ false → ListsLeaves walk n r c s s
outside_listed walk zero r c s h = (whole, lists_as walk s s [] _ (nowhere walk r c _ h) (lists_none walk s))
outside_listed walk (suc n) r c s h = (whole, lists_as walk s s [] _ (nowhere walk r c _ h) (lists_none walk s))

pub leaves_listed : {S : Type 0} (walk : TileWalk S) → ListsItsBlock walk → (n r c : ℕ) (s : S) → Yields (decode_square walk n r c s) (ListsLeaves walk n r c s)
unfolding decode_at_level settle
leaves_listed walk each zero r c s = elim (cases_Bool (starts_inside walk r c)) [
  | inl one ↦ rw one (yields_bind (partition_at walk.intra walk.probs (walk.blocks s) walk.frame (square_at walk 0 r c)) (smallest_parts walk (square_at walk 0 r c) s)
      (λ p. Unit {0}) (ListsLeaves walk 0 r c s) (yields_all _) (λ p u. smallest_listed walk each r c s p one))
  | inr none ↦ rw none (outside_listed walk 0 r c s none)
]
leaves_listed walk each (suc n) r c s = elim (cases_Bool (starts_inside walk r c)) [
  | inl one ↦ rw one (yields_bind (partition_at walk.intra walk.probs (walk.blocks s) walk.frame (square_at walk (suc n) r c)) (square_parts walk n r c s)
      (λ p. Unit {0}) (ListsLeaves walk (suc n) r c s) (yields_all _) (λ p u. parts_listed walk each n r c s one (leaves_listed walk each n) p))
  | inr none ↦ rw none (outside_listed walk (suc n) r c s none)
]
