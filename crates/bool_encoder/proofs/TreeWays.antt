-- The way to an entry of a tree's array.
use Rattle.std.proofs.Common.{◌≡◌, ℕ, zero, suc, ◌+◌, ◌-◌, ◌*◌, ◌/◌, ◌%◌, ◌<◌, ◌≤◌, true, List, [], ◌∷◌, inl, inr, length, get_or, refl, sym, subst, arith, rules, to_z, of_z, w8, ◌-ℤ◌, ℤ, pos}
use Rattle.std.specs.Prelude.{nat_eq, if◌then◌else◌, neg_ℤ, Contains}
use Rattle.std.specs.Ordering.{int_eq}
use Rattle.std.proofs.lemmas.Bool.{and_parts, or_cases, cases_eq}
use Rattle.std.proofs.lemmas.Bool.Decides.{Decides-int_eq}
use Rattle.vp9_types.specs.declared.rule.Rule.{Rule}
use Rattle.vp9_types.specs.Syntax.{Syntax, ask}
use Rattle.vp9_types.specs.Trees.{entry_at, subtree, tree_of, tree_symbol, is_tree}
use Rattle.vp9_types.proofs.TreeTests.{node_at, tree_holds}
use Rattle.prob_contexts.specs.Counted.{bool_number}
use Rattle.bool_encoder.specs.Part.{NumberPart, after_put}
use Rattle.bool_encoder.specs.WrittenBools.{LeadsBools, Puts}
use Rattle.bool_encoder.specs.Code.{LeadsTo, IsWhole}
use Rattle.bool_encoder.specs.TreeEntries.{has_entry, has_nodes, has_leaves, is_whole}
use Rattle.bool_encoder.proofs.WriteLaws.{leads_on, leads_end, leads_here}

branch : ℕ → List ℤ → List ℕ → ℕ → Syntax ℕ Rule ℕ
branch depth array probs at = tree_symbol (subtree depth array (entry_at array at)) probs

chosen : (depth : ℕ) (array : List ℤ) (probs : List ℕ) (x b : ℕ) → b < 2
    → (if nat_eq b 1 then branch depth array probs (x + 1) else branch depth array probs x) ≡ branch depth array probs (x + b)
chosen depth array probs x zero h = let e : x + 0 ≡ x = omega arith in rw e refl
chosen depth array probs x (suc zero) h = refl
chosen depth array probs x (suc (suc b)) h = absurd (omega arith)

asks_root : (array : List ℤ) (probs : List ℕ)
    → tree_symbol (tree_of array) probs ≡ ask (get_or probs 0 0) (λ v. if nat_eq v 1 then branch (length array) array probs (0 + 1) else branch (length array) array probs 0)
unfolding tree_symbol tree_of branch
asks_root array probs = refl

asks : (depth : ℕ) (array : List ℤ) (probs : List ℕ) (x : ℕ) → 0 < x
    → tree_symbol {E = Rule} (subtree (suc depth) array (pos x)) probs ≡ ask (get_or probs (x / 2) 0) (λ v. if nat_eq v 1 then branch depth array probs (x + 1) else branch depth array probs x)
unfolding tree_symbol subtree branch
asks depth array probs zero some = absurd (omega arith)
asks depth array probs (suc x) some = refl

pub way_begins : (array : List ℤ) (probs : List ℕ) (at : ℕ) (old next : NumberPart) → at < 2 → get_or probs 0 0 < 256
    → next ≡ after_put (get_or probs 0 0) (at % 2) old → LeadsTo array probs at old next
unfolding branch
way_begins array probs at old next first low is =
    let bit : at % 2 ≡ at = omega arith in
    let way = leads_on (tree_symbol (tree_of array) probs) (get_or probs 0 0) at (λ v. if nat_eq v 1 then branch (length array) array probs (0 + 1) else branch (length array) array probs 0) old old
    (subst (λ (s : Syntax ℕ Rule ℕ). LeadsBools (tree_symbol (tree_of array) probs) old s old) (asks_root array probs) (leads_here (tree_symbol (tree_of array) probs) old)) low first in
    let there : 0 + at ≡ at = omega arith in
    record {
      depth = length array;
      deep = omega arith;
      leads = rw (is, bit) (rw (chosen (length array) array probs 0 at first, there) at way);
    }

pub way_goes : (array : List ℤ) (probs : List ℕ) (up node at : ℕ) (old now next : NumberPart) → is_tree array ≡ true → up < length array
    → entry_at array up ≡ pos node → 0 < node → at ≡ node + at % 2 → at < length array → get_or probs (at / 2) 0 < 256
    → LeadsTo array probs up old now → next ≡ after_put (get_or probs (at / 2) 0) (at % 2) now → LeadsTo array probs at old next
unfolding branch
way_goes array probs up zero at old now next formed there entry some place within low way is = absurd (omega arith)
way_goes array probs up (suc x) at old now next formed there entry some place within low way is =
    let node = suc x in
    let tree = tree_holds array formed in
    let later = (node_at (length array) up x (rw entry at (tree.each up there))).later in
    let deep = way.deep in
    let depth : ℕ = way.depth - 1 in
    let down : way.depth ≡ suc depth = omega arith in
    let half : node / 2 ≡ at / 2 = omega arith in
    let bit : at % 2 < 2 = omega arith in
    let before : LeadsBools {E = Rule} (tree_symbol (tree_of array) probs) old (tree_symbol (subtree (suc depth) array (pos node)) probs) now = rw (down, entry) at way.leads in
    let k = λ (v : ℕ). if nat_eq v 1 then branch depth array probs (node + 1) else branch depth array probs node in
    let asked : LeadsBools {E = Rule} (tree_symbol (tree_of array) probs) old (ask (get_or probs (at / 2) 0) k) now = rw (sym half) (subst (λ (s : Syntax ℕ Rule ℕ). LeadsBools (tree_symbol (tree_of array) probs) old s now) (asks depth array probs node some) before) in
    let on = leads_on (tree_symbol (tree_of array) probs) (get_or probs (at / 2) 0) (at % 2) k old now asked low bit in
    record {
      depth = depth;
      deep = omega arith;
      leads = rw is (rw (chosen depth array probs node (at % 2) bit, sym place) at on);
    }

leaf_is : (depth : ℕ) (array : List ℤ) (probs : List ℕ) (x : ℕ) → tree_symbol {E = Rule} (subtree depth array (neg_ℤ (pos x))) probs ≡ Rattle.vp9_types.specs.Syntax.done x
unfolding tree_symbol subtree
leaf_is zero array probs zero = refl
leaf_is zero array probs (suc x) = refl
leaf_is (suc depth) array probs zero = refl
leaf_is (suc depth) array probs (suc x) = refl

pub way_ends : (array : List ℤ) (probs : List ℕ) (at leaf : ℕ) (old now : NumberPart) → entry_at array at ≡ neg_ℤ (pos leaf)
    → LeadsTo array probs at old now → Puts (tree_symbol (tree_of array) probs) old leaf now
way_ends array probs at leaf old now entry way =
    leads_end (tree_symbol (tree_of array) probs) leaf old now (rw (entry, leaf_is way.depth array probs leaf) at way.leads)

pub node_fits : (x : ℕ) → x < 128 → to_z w8 x ≡ pos x
node_fits x h = search rules

-- a node's entry stands before its branches
pub node_before : (array : List ℤ) (up node : ℕ) → is_tree array ≡ true → up < length array → entry_at array up ≡ pos node → 0 < node → up < node
node_before array up zero formed there entry some = absurd (omega arith)
node_before array up (suc x) formed there entry some = (node_at (length array) up x (rw entry at ((tree_holds array formed).each up there))).later

pub first_number : (at : ℕ) → at < 2 → bool_number (nat_eq at 1) ≡ at % 2
first_number zero h = omega arith
first_number (suc zero) h = omega arith
first_number (suc (suc at)) h = absurd (omega arith)

pub leaf_fits : (x : ℕ) → x < 128 → to_z w8 (of_z w8 (pos 0 -ℤ to_z w8 x)) ≡ neg_ℤ (pos x)
leaf_fits x h = search rules

-- ---- what the tests say

has_contains : (xs : List ℤ) (e : ℤ) → has_entry xs e ≡ true → Contains xs e
has_contains [] e h = absurd cc
has_contains (x ∷ xs) e h =
    elim (or_cases (int_eq x e) (has_entry xs e) h) [
      | inl here ↦ (0, omega arith, (Decides-int_eq x e).0 here)
      | inr there ↦ let found = has_contains xs e there in (suc found.0, omega (arith, found.1), found.2)
    ]

node_there : (array : List ℤ) (n k : ℕ) → has_nodes array n ≡ true → 1 ≤ k → k ≤ n → has_entry array (pos (2 * k)) ≡ true
node_there array zero k h some within = absurd (omega arith)
node_there array (suc n) k h some within =
    let parts = and_parts (has_entry array (pos (2 * suc n))) (has_nodes array n) h in
    elim (cases_eq k (suc n)) [
      | inl same ↦ rw same parts.0
      | inr other ↦ node_there array n k parts.1 some (omega arith)
    ]

pub whole_holds : (array : List ℤ) → is_whole array ≡ true → IsWhole array
whole_holds array h = λ x some even low.
    let k : 2 * (x / 2) ≡ x = omega arith in
    has_contains array (pos x) (rw k at (node_there array ((length array - 1) / 2) (x / 2) h (omega arith) (omega arith)))

pub leaf_there : (array : List ℤ) (n leaf : ℕ) → has_leaves array n ≡ true → leaf ≤ n → Contains array (neg_ℤ (pos leaf))
leaf_there array zero leaf h within = let e : leaf ≡ 0 = omega arith in rw e (has_contains array (neg_ℤ (pos 0)) h)
leaf_there array (suc n) leaf h within =
    let parts = and_parts (has_entry array (neg_ℤ (pos (suc n)))) (has_leaves array n) h in
    elim (cases_eq leaf (suc n)) [
      | inl same ↦ rw same (has_contains array (neg_ℤ (pos (suc n))) parts.0)
      | inr other ↦ leaf_there array n leaf parts.1 (omega arith)
    ]
