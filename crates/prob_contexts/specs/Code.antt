-- The counts as the code keeps them: an array of two counters for each node.
use Rattle.std.specs.Prelude.{◌≡◌, ℕ, ◌+◌, ◌*◌, List, [], ◌∷◌, length, replicate, slice_index, slice_set, sum, take, min, nat_lt, count_by, if◌then◌else◌}
use Rattle.std.specs.List.{fold}
use Rattle.prob_contexts.specs.declared.kind.CountedBool.{CountedBool}
use Rattle.prob_contexts.specs.declared.kind.ProbKind.{ProbKind}
use Rattle.prob_contexts.specs.Kinds.{kind_number, kind_size, kind_sizes}
use Rattle.prob_contexts.specs.Counted.{IsCounted, bool_number, is_same, most_counted}

-- each kind starts where those before it end
abbrev pub kind_start : ProbKind → ℕ
kind_start k = sum (take (kind_number k) kind_sizes)

-- the counter of 0 comes first
abbrev pub counter_place : CountedBool → ℕ
counter_place b = 2 * (kind_start b.kind + b.place) + bool_number b.one

abbrev pub counter_of : List ℕ → CountedBool → ℕ
counter_of counts b = slice_index counts (counter_place b)

-- nothing is counted
abbrev pub no_counts : List ℕ
no_counts = replicate 3790 0

-- one more; a bool of a node that there isn't has no counter
unfoldable pub with_bool : List ℕ → CountedBool → List ℕ
with_bool counts b =
    if nat_lt b.place (kind_size b.kind) then slice_set counts (counter_place b) (min (counter_of counts b + 1) most_counted) else counts

-- the counts after all of these
unfoldable pub counts_after : List ℕ → List CountedBool → List ℕ
counts_after counts bools = fold with_bool counts bools

-- the counts of two parts of a frame added up, counter by counter
unfoldable pub joined_counts : List ℕ → List ℕ → List ℕ
joined_counts [] others = []
joined_counts (n ∷ rest) [] = []
joined_counts (n ∷ rest) (more ∷ others) = min (n + more) most_counted ∷ joined_counts rest others

-- how many bools are counted
abbrev pub number_counted : List ℕ → ℕ
number_counted counts = sum counts

-- each counter is the number of its bools, and there are no others; it is so for fewer than 2 ^ 64 of them
pub record StandFor (counts : List ℕ) (bools : List CountedBool) : Type 0 where
  pub size : length counts ≡ 3790
  pub each : (b : CountedBool) → IsCounted b → counter_of counts b ≡ count_by (is_same b) bools
  pub all : number_counted counts ≡ length bools
