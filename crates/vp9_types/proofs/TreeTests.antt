-- What a tree's test says.
use Rattle.std.proofs.Common.{◌≡◌, ℕ, zero, suc, ◌+◌, ◌%◌, ◌<◌, ◌≤◌, true, List, [], ◌∷◌, length, arith, ℤ, pos}
use Rattle.std.specs.Prelude.{nat_le, nat_lt, nat_eq, ◌&&◌}
use Rattle.std.proofs.lemmas.Bool.{and_parts, ltb-true, leb-true, eqb-true}
use Rattle.vp9_types.specs.Trees.{entry_at, is_entry, are_entries, is_tree, leaf_of, greatest_leaf}

entries_at : (size place k : ℕ) (entries : List ℤ) → are_entries size place entries ≡ true → k < length entries
    → is_entry size (place + k) (entry_at entries k) ≡ true
entries_at size place k [] h within = absurd (omega arith)
entries_at size place zero (e ∷ entries) h within =
    let here : place + 0 ≡ place = omega arith in
    rw here ((and_parts (is_entry size place e) (are_entries size (place + 1) entries) h).0)
entries_at size place (suc k) (e ∷ entries) h within =
    let there : place + suc k ≡ place + 1 + k = omega arith in
    rw there (entries_at size (place + 1) k entries ((and_parts (is_entry size place e) (are_entries size (place + 1) entries) h).1) (omega arith))

pub leaves_at : (k : ℕ) (entries : List ℤ) → k < length entries → leaf_of (entry_at entries k) ≤ greatest_leaf entries
leaves_at k [] within = absurd (omega arith)
leaves_at zero (e ∷ entries) within = omega arith
leaves_at (suc k) (e ∷ entries) within = let there = leaves_at k entries (omega arith) in omega arith

-- the parts of the test
pub record HoldsTree (array : List ℤ) : Type 0 where
  pub two : 2 ≤ length array
  pub each : (k : ℕ) → k < length array → is_entry (length array) k (entry_at array k) ≡ true

pub tree_holds : (array : List ℤ) → is_tree array ≡ true → HoldsTree array
tree_holds array h =
    let parts = and_parts (nat_le 2 (length array)) (are_entries (length array) 0 array) h in
    record {
      two = leb-true 2 (length array) parts.0;
      each = λ k within.
          let here : 0 + k ≡ k = omega arith in
          rw here at (entries_at (length array) 0 k array parts.1 within);
    }

-- a node's place is even, further on, and has two entries
pub record IsNode (size place x : ℕ) : Type 0 where
  pub even : x % 2 ≡ 0
  pub later : place < x
  pub within : x + 1 < size

pub node_at : (size place x : ℕ) → is_entry size place (pos (suc x)) ≡ true → IsNode size place (suc x)
node_at size place x h =
    let parts = and_parts (nat_eq (suc x % 2) 0 && nat_lt place (suc x)) (nat_lt (suc x + 1) size) h in
    let first = and_parts (nat_eq (suc x % 2) 0) (nat_lt place (suc x)) parts.0 in
    record {
      even = eqb-true (suc x % 2) 0 first.0;
      later = ltb-true place (suc x) first.1;
      within = ltb-true (suc x + 1) size parts.1;
    }
