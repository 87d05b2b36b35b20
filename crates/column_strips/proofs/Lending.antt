-- Values that lie apart and are lent, as a list of values.
use Rattle.std.proofs.Common.{◌≡◌, ◌∙◌, ◌<◌, ◌≤◌, ℕ, List, length, get_or, map, sym, ap, arith, Bor}
use Rattle.std.proofs.Math.ListN.{get_or-map}
use Rattle.std.proofs.lemmas.List.{length-map}

pub lent_low : {X : Type 0} (lent : List (Bor X)) (k : ℕ) → k < length lent → k < length (map (λ b. b.now) lent)
lent_low lent k low = let same = length-map lent (λ b. b.now) in omega (arith, low, same)

pub lent_all : {X : Type 0} (lent : List (Bor X)) (k : ℕ) → length lent ≤ k → length (map (λ b. b.now) lent) ≤ k
lent_all lent k all = let same = length-map lent (λ b. b.now) in omega (arith, all, same)

pub lent_is : {X : Type 0} (lent : List (Bor X)) (k : ℕ) (one : Bor X) → one ≡ get_or lent k one → one.now ≡ get_or (map (λ b. b.now) lent) k one.now
lent_is lent k one is = ap (λ b. b.now) is ∙ sym (get_or-map (λ b. b.now) lent k one)
