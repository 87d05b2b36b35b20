-- The tree of an array is the one that it stands for.
use Rattle.std.proofs.Common.{◌≡◌, ℕ, zero, suc, ◌+◌, ◌*◌, ◌/◌, ◌<◌, ◌≤◌, true, List, length, refl, ap, sym, ◌∙◌, arith, ℤ, pos, negsuc}
use Rattle.std.specs.Prelude.{neg_ℤ}
use Rattle.vp9_types.specs.Trees.{Tree, leaf, node, IsStored, IsTreeOf, subtree, tree_of, entry_at, is_entry, is_tree}
use Rattle.vp9_types.proofs.TreeTests.{HoldsTree, tree_holds, node_at}

-- deep enough for the tree of an entry
abbrev IsFar : ℕ → ℕ → ℤ → Type 0
IsFar size depth (negsuc x) = Unit {0}
IsFar size depth (pos zero) = Unit {0}
IsFar size depth (pos (suc x)) = size ≤ depth + suc x

far_on : (size depth from place : ℕ) (e : ℤ) → is_entry size place e ≡ true → from ≤ place → size ≤ suc depth + from → IsFar size depth e
far_on size depth from place (negsuc x) h on far = tt
far_on size depth from place (pos zero) h on far = tt
far_on size depth from place (pos (suc x)) h on far =
    let later = (node_at size place x h).later in
    omega arith

stored_by : (array : List ℤ) (depth place : ℕ) (e : ℤ) → HoldsTree array → is_entry (length array) place e ≡ true
    → IsFar (length array) depth e → IsStored array e (subtree depth array e)
unfolding subtree
stored_by array zero place (negsuc x) tree h far = refl
stored_by array (suc depth) place (negsuc x) tree h far = refl
stored_by array zero place (pos zero) tree h far = refl
stored_by array (suc depth) place (pos zero) tree h far = refl
stored_by array zero place (pos (suc x)) tree h far =
    let within = (node_at (length array) place x h).within in
    absurd (omega arith)
stored_by array (suc depth) place (pos (suc x)) tree h far =
    let n = node_at (length array) place x h in
    let even = n.even in
    let within = n.within in
    let half : 2 * (suc x / 2) ≡ suc x = omega arith in
    let here : suc x < length array = omega arith in
    let near : suc x ≤ suc x = omega arith in
    let next : suc x ≤ suc x + 1 = omega arith in
    let zeros = stored_by array depth (suc x) (entry_at array (suc x)) tree (tree.each (suc x) here)
    (far_on (length array) depth (suc x) (suc x) (entry_at array (suc x)) (tree.each (suc x) here) near far) in
    let ones = stored_by array depth (suc x + 1) (entry_at array (suc x + 1)) tree (tree.each (suc x + 1) within)
    (far_on (length array) depth (suc x) (suc x + 1) (entry_at array (suc x + 1)) (tree.each (suc x + 1) within) next far) in
    rw half (omega arith, refl, zeros, ones)

far_first : (size : ℕ) (e : ℤ) → IsFar size size e
far_first size (negsuc x) = tt
far_first size (pos zero) = tt
far_first size (pos (suc x)) = omega arith

pub tree_stored : (array : List ℤ) → is_tree array ≡ true → IsTreeOf array (tree_of array)
unfolding tree_of
tree_stored array h =
    let tree = tree_holds array h in
    let two = tree.two in
    let zero_within : 0 < length array = omega arith in
    let one_within : 1 < length array = omega arith in (
      refl,
      stored_by array (length array) 0 (entry_at array 0) tree (tree.each 0 zero_within) (far_first (length array) (entry_at array 0)),
      stored_by array (length array) 1 (entry_at array 1) tree (tree.each 1 one_within) (far_first (length array) (entry_at array 1)),
    )

-- ---- no other tree

same_leaf : (x y : ℕ) → neg_ℤ (pos x) ≡ neg_ℤ (pos y) → x ≡ y
same_leaf zero zero h = refl
same_leaf zero (suc y) h = cc
same_leaf (suc x) zero h = cc
same_leaf (suc x) (suc y) h = cc

leaf_apart : (x k : ℕ) → 0 < k → neg_ℤ (pos x) ≡ pos (2 * k) → ⊥
leaf_apart zero k some h = let e : 0 ≡ 2 * k = cc in omega arith
leaf_apart (suc x) k some h = cc

same_by : (array : List ℤ) (e : ℤ) (s t : Tree) → IsStored array e s → IsStored array e t → s ≡ t
same_by array e (leaf x) (leaf y) h k = ap (λ n. leaf n) (same_leaf x y (sym h ∙ k))
same_by array e (leaf x) (node j zeros ones) h k = absurd (leaf_apart x j k.0 (sym h ∙ k.1))
same_by array e (node i zeros ones) (leaf y) h k = absurd (leaf_apart y i h.0 (sym k ∙ h.1))
same_by array e (node i a b) (node j c d) h k =
    let numbers : ◌≡◌ {A = ℤ} (pos (2 * i)) (pos (2 * j)) = sym h.1 ∙ k.1 in
    let twice : 2 * i ≡ 2 * j = cc in
    let one : i ≡ j = omega arith in
    let zeros : a ≡ c = same_by array (entry_at array (2 * j)) a c (rw one at h.2) k.2 in
    let ones : b ≡ d = same_by array (entry_at array (2 * j + 1)) b d (rw one at h.3) k.3 in
    ap (λ n. node n a b) one ∙ ap (λ t. node j t b) zeros ∙ ap (λ t. node j c t) ones

pub tree_once : (array : List ℤ) (s t : Tree) → IsTreeOf array s → IsTreeOf array t → s ≡ t
tree_once array (leaf x) t h k = absurd h
tree_once array (node i a b) (leaf y) h k = absurd k
tree_once array (node i a b) (node j c d) h k =
    let one : i ≡ j = h.0 ∙ sym k.0 in
    let zeros = same_by array (entry_at array 0) a c h.1 k.1 in
    let ones = same_by array (entry_at array 1) b d h.2 k.2 in
    ap (λ n. node n a b) one ∙ ap (λ t. node j t b) zeros ∙ ap (λ t. node j c t) ones
