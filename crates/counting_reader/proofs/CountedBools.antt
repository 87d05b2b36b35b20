-- Counts after lists of bools, and the bools of symbols.
use Rattle.std.proofs.Common.{◌≡◌, ℕ, ◌+◌, ◌<◌, ◌≤◌, ◌++◌, ◌∷◌, [], ◌∙◌, false, List, map, refl, sym, ap, arith}
use Rattle.std.proofs.lemmas.Bool.{lt-ltb, le-ltb}
use Rattle.std.proofs.lemmas.List.{append-nil}
use Rattle.std.proofs.lemmas.List.Sums.{fold-append}
use Rattle.std.proofs.lemmas.List.FromFn.{map-range_with_len_more}
use Rattle.std.specs.List.{range_with_len}
use Rattle.prob_contexts.specs.declared.kind.CountedBool.{CountedBool}
use Rattle.prob_contexts.specs.declared.kind.ProbKind.{ProbKind}
use Rattle.prob_contexts.specs.Code.{counts_after, with_bool}
use Rattle.counting_reader.specs.CountedSymbols.{one_at, unary_bools}

pub counts_none : (counts : List ℕ) → counts ≡ counts_after counts []
unfolding counts_after
counts_none counts = refl

pub counts_one : (counts : List ℕ) (b : CountedBool) → with_bool counts b ≡ counts_after counts (b ∷ [])
unfolding counts_after
counts_one counts b = refl

pub counts_more : (counts : List ℕ) (xs ys : List CountedBool) → counts_after counts (xs ++ ys) ≡ counts_after (counts_after counts xs) ys
unfolding counts_after
counts_more counts xs ys = fold-append with_bool counts xs ys

-- one bool more
counted_next : (counts now new : List ℕ) (xs : List CountedBool) (b : CountedBool) → now ≡ counts_after counts xs → new ≡ with_bool now b → new ≡ counts_after counts (xs ++ b ∷ [])
counted_next counts now new xs b so is =
    is ∙ ap (λ n. with_bool n b) so ∙ counts_one (counts_after counts xs) b ∙ sym (counts_more counts xs (b ∷ []))

pub ones_more : (kind : ProbKind) (first k : ℕ) (counts now new : List ℕ)
    → now ≡ counts_after counts (map (one_at kind first) (range_with_len 0 k)) → new ≡ with_bool now (one_at kind first k)
    → new ≡ counts_after counts (map (one_at kind first) (range_with_len 0 (k + 1)))
ones_more kind first k counts now new so is =
    counted_next counts now new (map (one_at kind first) (range_with_len 0 k)) (one_at kind first k) so is
    ∙ ap (counts_after counts) (sym (map-range_with_len_more (one_at kind first) 0 k k refl_place))
  where
    refl_place : 0 + k ≡ k
    refl_place = omega arith

pub unary_ends : (kind : ProbKind) (first nodes symbol k : ℕ) (counts now new : List ℕ) → k ≡ symbol → symbol < nodes
    → now ≡ counts_after counts (map (one_at kind first) (range_with_len 0 k)) → new ≡ with_bool now (record { kind = kind; place = first + symbol; one = false })
    → new ≡ counts_after counts (unary_bools kind first nodes symbol)
unfolding unary_bools
unary_ends kind first nodes symbol k counts now new last low so is =
    rw (lt-ltb symbol nodes low)
    (counted_next counts now new (map (one_at kind first) (range_with_len 0 symbol)) (record { kind = kind; place = first + symbol; one = false })
    (so ∙ ap (λ n. counts_after counts (map (one_at kind first) (range_with_len 0 n))) last) is)

pub unary_full : (kind : ProbKind) (first nodes symbol k : ℕ) (counts now : List ℕ) → k ≡ symbol → nodes ≤ symbol
    → now ≡ counts_after counts (map (one_at kind first) (range_with_len 0 k)) → now ≡ counts_after counts (unary_bools kind first nodes symbol)
unfolding unary_bools
unary_full kind first nodes symbol k counts now last high so =
    rw (le-ltb symbol nodes high, append-nil)
    (so ∙ ap (λ n. counts_after counts (map (one_at kind first) (range_with_len 0 n))) last)
