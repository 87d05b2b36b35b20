-- How often bools are counted (8.4.2 of the standard: counters of syntax elements, here by the bools that leave each node).
use Rattle.std.specs.Prelude.{ℕ, ◌-◌, ◌^◌, ◌<◌, Bool, true, false, ◌&&◌, List, min, nat_eq, count_by}
use Rattle.prob_contexts.specs.declared.kind.CountedBool.{CountedBool}
use Rattle.prob_contexts.specs.Kinds.{kind_number, kind_size}

-- the bool counts for a node that there is
abbrev pub IsCounted : CountedBool → Type 0
IsCounted b = b.place < kind_size b.kind

abbrev pub bool_number : Bool → ℕ
bool_number true = 1
bool_number false = 0

-- the same bool of the same node
abbrev pub is_same : CountedBool → CountedBool → Bool
is_same a b = nat_eq (kind_number a.kind) (kind_number b.kind) && (nat_eq a.place b.place && nat_eq (bool_number a.one) (bool_number b.one))

-- the greatest count, at which a counter stands still
abbrev pub most_counted : ℕ
most_counted = 2 ^ 64 - 1

-- how often a bool was counted, where these were
unfoldable pub times_counted : List CountedBool → CountedBool → ℕ
times_counted bools b = min (count_by (is_same b) bools) most_counted
