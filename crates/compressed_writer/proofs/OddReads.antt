-- Updates of vectors that are read are odd.
use Rattle.std.proofs.Common.{◌≡◌, ℕ, zero, suc, ◌+◌, ◌*◌, ◌%◌, ◌<◌, if◌then◌else◌, Bool, true, false, inl, inr, List, [], ◌∷◌, ◌++◌, length, take, drop, slice_index, refl, ap, sym, subst, ◌∙◌, arith}
use Rattle.std.proofs.lemmas.Bool.Decides.{eqb_tells}
use Rattle.std.proofs.lemmas.List.{take-append-drop}
use Rattle.vp9_types.specs.Syntax.{done, ◌>>=◌}
use Rattle.vp9_types.specs.Each.{each}
use Rattle.bool_decoder.specs.Bools.{flag, literal}
use Rattle.compressed_header.specs.Updates.{update_mv_prob, mv_updates}
use Rattle.compressed_writer.specs.CodedUpdates.{IsOddUpdate, AreOddUpdates}
use Rattle.compressed_writer.proofs.Settles.{Settles, settles_bind}

abbrev pub Odds : List ℕ → List ℕ → Type 0
Odds [] [] = Unit {0}
Odds [] (y ∷ ys) = ⊥
Odds (x ∷ xs) [] = ⊥
Odds (x ∷ xs) (y ∷ ys) = IsOddUpdate x y × Odds xs ys

odd_same : (x : ℕ) → IsOddUpdate x x
odd_same x = λ differs. absurd (differs refl)

pub odds_same : (xs : List ℕ) → Odds xs xs
odds_same [] = tt
odds_same (x ∷ xs) = (odd_same x, odds_same xs)

odd_on : (a b c : ℕ) → IsOddUpdate a b → IsOddUpdate b c → IsOddUpdate a c
odd_on a b c h g = λ differs.
    elim (eqb_tells c b) [
      | inl same ↦ subst (λ n. n % 2 ≡ 1) (sym same.1) (h (λ e. differs (same.1 ∙ e)))
      | inr other ↦ g other.1
    ]

pub odds_on : (xs ys zs : List ℕ) → Odds xs ys → Odds ys zs → Odds xs zs
odds_on [] [] [] h g = tt
odds_on [] [] (z ∷ zs) h g = absurd g
odds_on [] (y ∷ ys) zs h g = absurd h
odds_on (x ∷ xs) [] zs h g = absurd h
odds_on (x ∷ xs) (y ∷ ys) [] h g = absurd g
odds_on (x ∷ xs) (y ∷ ys) (z ∷ zs) h g = (odd_on x y z h.0 g.0, odds_on xs ys zs h.1 g.1)

odds_append : (xs ys zs ws : List ℕ) → Odds xs ys → Odds zs ws → Odds (xs ++ zs) (ys ++ ws)
odds_append [] [] zs ws h g = g
odds_append [] (y ∷ ys) zs ws h g = absurd h
odds_append (x ∷ xs) [] zs ws h g = absurd h
odds_append (x ∷ xs) (y ∷ ys) zs ws h g = (h.0, odds_append xs ys zs ws h.1 g)

odds_index : (xs ys : List ℕ) (i : ℕ) → Odds xs ys → i < length ys → IsOddUpdate (slice_index xs i) (slice_index ys i)
odds_index [] [] i h low = absurd (omega (arith, low))
odds_index [] (y ∷ ys) i h low = absurd h
odds_index (x ∷ xs) [] i h low = absurd h
odds_index (x ∷ xs) (y ∷ ys) zero h low = h.0
odds_index (x ∷ xs) (y ∷ ys) (suc i) h low = odds_index xs ys i h.1 (omega (arith, low))

pub odds_at : (xs ys : List ℕ) → Odds xs ys → AreOddUpdates xs ys
odds_at xs ys h = λ i low. odds_index xs ys i h low

double_is_odd : (v y : ℕ) → 2 * v + 1 ≡ y → y % 2 ≡ 1
double_is_odd v y e = omega (arith, e)

odd_update : (x y : ℕ) → Settles (update_mv_prob x) y → IsOddUpdate x y
unfolding update_mv_prob
odd_update x y h =
    let f = λ (update : Bool). if update then (literal 7 >>= λ v. done (2 * v + 1)) else done x in
    let first = settles_bind (flag 252) f y h in
    odd_by x y first.0 first.2
  where
    odd_by : (x y : ℕ) (update : Bool) → Settles (if update then (literal 7 >>= λ v. done (2 * v + 1)) else done x) y → IsOddUpdate x y
    odd_by x y true h =
        let number = settles_bind (literal 7) (λ v. done (2 * v + 1)) y h in
        λ differs. double_is_odd number.0 y number.2
    odd_by x y false h = λ differs. absurd (differs (sym h))

pub odds_each : (xs ys : List ℕ) → Settles (each update_mv_prob xs) ys → Odds xs ys
odds_each [] ys h = subst (λ zs. Odds [] zs) h tt
odds_each (x ∷ xs) ys h =
    let first = settles_bind (update_mv_prob x) (λ y. each update_mv_prob xs >>= λ zs. done (y ∷ zs)) ys h in
    let rest = settles_bind (each update_mv_prob xs) (λ zs. done (first.0 ∷ zs)) ys first.2 in
    subst (λ zs. Odds (x ∷ xs) zs) rest.2 (odd_update x first.0 first.1, odds_each xs rest.0 rest.1)

pub odds_range : (from n : ℕ) (xs ys : List ℕ) → Settles (mv_updates from n xs) ys → Odds xs ys
unfolding mv_updates
odds_range from n xs ys h =
    let part = take n (drop from xs) in
    let back = drop n (drop from xs) in
    let first = settles_bind (each update_mv_prob part) (λ updated. done (take from xs ++ (updated ++ back))) ys h in
    let whole : take from xs ++ (part ++ back) ≡ xs = ap (λ zs. take from xs ++ zs) (take-append-drop n (drop from xs)) ∙ take-append-drop from xs in
    let odds = odds_append (take from xs) (take from xs) (part ++ back) (first.0 ++ back) (odds_same (take from xs))
    (odds_append part first.0 back back (odds_each part first.0 first.1) (odds_same back)) in
    subst (λ zs. Odds xs zs) first.2 (subst (λ zs. Odds zs (take from xs ++ (first.0 ++ back))) whole odds)
