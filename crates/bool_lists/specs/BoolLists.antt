-- What symbols are put as: lists of bools, each by its probability out of 256 and its value (9.2 and 9.3 of the standard). What
-- puts them is one list, whatever reads them.
use Rattle.std.specs.Prelude.{◌≡◌, ℕ, zero, suc, ◌+◌, ◌-◌, ◌/◌, ◌%◌, ◌^◌, Bool, true, ◌&&◌, ◌||◌, not, List, [], ◌∷◌, ◌++◌, slice_index, nat_eq, nat_lt, if◌then◌else◌}
use Rattle.vp9_types.specs.Trees.{Tree, leaf, node}
use Rattle.counting_reader.specs.CountedSymbols.{has_leaf}
use Rattle.prob_contexts.specs.Counted.{bool_number}
use Rattle.bool_encoder.specs.Part.{NumberPart, behind_marker, after_bools}

abbrev pub BoolList : Type 0
BoolList = List (ℕ × ℕ)

-- they were put, one behind another
unfoldable pub HasPut : NumberPart → BoolList → NumberPart → Type 0
HasPut old bools new = new ≡ after_bools bools old

-- the bytes that they take, behind the marker: 8 + n bits, n being those of the arithmetic bool after the last one
unfoldable pub bytes_taken : BoolList → ℕ
bytes_taken bools = (8 + (after_bools bools behind_marker).n + 7) / 8

-- B(p)
unfoldable pub one_bool : ℕ → Bool → BoolList
one_bool p b = (p, bool_number b) ∷ []

-- L(n), most significant first (9.2.4)
unfoldable pub number_bools : ℕ → ℕ → BoolList
number_bools zero x = []
number_bools (suc n) x = (128, x / 2 ^ n % 2) ∷ number_bools n x

-- decode_term_subexp (6.3.4): 4 bits below 16, and below 32; 5 below 64; else 7, and from 129 on one bit more
unfoldable pub difference_bools : ℕ → BoolList
difference_bools d =
    if nat_lt d 16 then (number_bools 1 0 ++ number_bools 4 d)
    else (number_bools 1 1 ++ (if nat_lt d 32 then (number_bools 1 0 ++ number_bools 4 (d - 16))
    else (number_bools 1 1 ++ (if nat_lt d 64 then (number_bools 1 0 ++ number_bools 5 (d - 32))
    else (number_bools 1 1 ++ (if nat_lt d 129 then number_bools 7 (d - 64) else (number_bools 7 ((d + 1) / 2) ++ number_bools 1 ((d + 1) % 2))))))))

---- A symbol of a tree ----

-- the way to a leaf: at each node a bool at its probability, 1 where the leaf is in its second branch
unfoldable pub tree_bools : Tree → List ℕ → ℕ → BoolList
tree_bools (leaf x) probs y = []
tree_bools (node k zeros ones) probs y =
    if has_leaf ones y then (slice_index probs k, 1) ∷ tree_bools ones probs y else (slice_index probs k, 0) ∷ tree_bools zeros probs y

-- no leaf of the one is in the other
abbrev pub are_apart : Tree → Tree → Bool
are_apart (leaf x) other = not (has_leaf other x)
are_apart (node k zeros ones) other = are_apart zeros other && are_apart ones other

-- each leaf stands once
abbrev pub is_distinct : Tree → Bool
is_distinct (leaf x) = true
is_distinct (node k zeros ones) = are_apart zeros ones && is_distinct zeros && is_distinct ones
