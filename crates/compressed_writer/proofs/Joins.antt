-- Part of a list is new.
use Rattle.std.proofs.Common.{◌≡◌, ℕ, zero, suc, ◌+◌, ◌*◌, ◌<◌, ◌≤◌, min, List, ◌++◌, length, take, drop, slice_index, refl, ap, sym, subst, ◌∙◌, append_assoc, arith}
use Rattle.std.proofs.Math.Seq.{drop-append_seam, take-append_seam, take-add}
use Rattle.std.proofs.lemmas.List.{append-nil, take_all, drop_all, drop-drop, get_or-take, get_or-drop, length-take, length-take-le, length-drop}
use Rattle.vp9_types.specs.Syntax.{done}
use Rattle.vp9_types.specs.Each.{each}
use Rattle.bool_encoder.specs.Part.{NumberPart}
use Rattle.bool_encoder.specs.WrittenBools.{Puts}
use Rattle.compressed_header.specs.Updates.{update_mv_prob, mv_updates}
use Rattle.compressed_writer.specs.Code.{new_of}
use Rattle.compressed_writer.specs.CodedUpdates.{IsOddUpdate, AreOddUpdates}
use Rattle.compressed_writer.proofs.EachPuts.{puts_bind}

front_of : (xs ys : List ℕ) (k : ℕ) → length xs ≡ k → take k (xs ++ ys) ≡ xs
front_of xs ys k size = subst (λ n. take n (xs ++ ys) ≡ xs) size (take-append_seam xs ys)

back_of : (xs ys : List ℕ) (k : ℕ) → length xs ≡ k → drop k (xs ++ ys) ≡ ys
back_of xs ys k size = subst (λ n. drop n (xs ++ ys) ≡ ys) size (drop-append_seam xs ys)

-- the next part is new too
joined_more : (from n : ℕ) (old new : List ℕ) → from ≤ length new
    → take from (take from new ++ drop from old) ++ (take n (drop from new) ++ drop n (drop from (take from new ++ drop from old))) ≡ take (from + n) new ++ drop (from + n) old
joined_more from n old new low =
    let size = length-take-le from new low in
    let front = front_of (take from new) (drop from old) from size in
    let back = back_of (take from new) (drop from old) from size in
    ap (λ xs. xs ++ (take n (drop from new) ++ drop n (drop from (take from new ++ drop from old)))) front
    ∙ ap (λ ys. take from new ++ (take n (drop from new) ++ drop n ys)) back
    ∙ ap (λ ys. take from new ++ (take n (drop from new) ++ ys)) (drop-drop n from old)
    ∙ sym (append_assoc (take from new) (take n (drop from new)) (drop (from + n) old))
    ∙ ap (λ xs. xs ++ drop (from + n) old) (sym (take-add from n new))

joined_put : (from n k : ℕ) (old new : List ℕ) (now next : NumberPart) → k ≡ n → from + n ≤ length new
    → Puts (each update_mv_prob (take k (drop from old))) now (take k (drop from new)) next
    → Puts (mv_updates from n (take from new ++ drop from old)) now (take (from + n) new ++ drop (from + n) old) next
unfolding mv_updates
joined_put from n k old new now next e fits h =
    let mid = take from new ++ drop from old in
    let low : from ≤ length new = omega (arith, fits) in
    let back = back_of (take from new) (drop from old) from (length-take-le from new low) in
    let g = subst (λ z. Puts (each update_mv_prob (take z (drop from old))) now (take z (drop from new)) next) e h in
    puts_bind (each update_mv_prob (take n (drop from mid))) (λ updated. done (take from mid ++ (updated ++ drop n (drop from mid))))
    now next next (take n (drop from new)) (take (from + n) new ++ drop (from + n) old)
    (subst (λ ys. Puts (each update_mv_prob (take n ys)) now (take n (drop from new)) next) (sym back) g)
    (joined_more from n old new low, refl)

joined_all : (at : ℕ) (old new : List ℕ) → length new ≤ at → length old ≤ at → take at new ++ drop at old ≡ new
joined_all at old new all end =
    ap (λ xs. xs ++ drop at old) (take_all at new all) ∙ ap (λ ys. new ++ ys) (drop_all at old end) ∙ append-nil new

pub component_put : (i from n k : ℕ) (old new : List ℕ) (now next : NumberPart) → i ≤ 1 → from ≡ n * i → k ≡ n → length old ≡ 2 * n → length new ≡ 2 * n
    → Puts (each update_mv_prob (take k (drop from old))) now (take k (drop from new)) next
    → Puts (mv_updates from n (new_of i n old new)) now (new_of (i + 1) n old new) next
component_put zero from n k old new now next few place e o l h =
    let at : from ≡ 0 = omega (arith, place) in
    let fits : 0 + n ≤ length new = omega (arith, l) in
    let zero_on : 0 + n ≡ n = omega arith in
    let put = joined_put 0 n k old new now next e fits (rw at at h) in
    rw at (subst (λ z. Puts (mv_updates 0 n old) now (take z new ++ drop z old) next) zero_on put)
component_put (suc zero) from n k old new now next few place e o l h =
    let at : from ≡ n = omega (arith, place) in
    let fits : n + n ≤ length new = omega (arith, l) in
    let all : length new ≤ n + n = omega (arith, l) in
    let end : length old ≤ n + n = omega (arith, o) in
    let put = joined_put n n k old new now next e fits (rw at at h) in
    rw at (subst (λ ys. Puts (mv_updates n n (take n new ++ drop n old)) now ys next) (joined_all (n + n) old new all end) put)
component_put (suc (suc i)) from n k old new now next few place e o l h = absurd (omega (arith, few))

at_place : (from k i : ℕ) (xs : List ℕ) → i < k → slice_index (take k (drop from xs)) i ≡ slice_index xs (from + i)
at_place from k i xs low = get_or-take k (drop from xs) i 0 low ∙ get_or-drop from xs i 0

pub range_odd : (from k : ℕ) (old new : List ℕ) → AreOddUpdates old new → AreOddUpdates (take k (drop from old)) (take k (drop from new))
range_odd from k old new odd = λ i low.
    let size = length-take k (drop from new) in
    let rest = length-drop from new in
    let short : i < min k (length (drop from new)) = subst (λ n. i < n) size low in
    let within : i < k = omega (arith, short) in
    let there : from + i < length new = omega (arith, short, rest) in
    subst (λ x. IsOddUpdate x (slice_index (take k (drop from new)) i)) (sym (at_place from k i old within))
    (subst (λ y. IsOddUpdate (slice_index old (from + i)) y) (sym (at_place from k i new within)) (odd (from + i) there))
