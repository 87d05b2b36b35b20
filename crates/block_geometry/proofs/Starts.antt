-- The numbers of a range that pass a test are its first ones, if these pass and no others do.
use Rattle.std.proofs.Common.{◌≡◌, ℕ, zero, suc, ◌+◌, ◌-◌, ◌*◌, ◌<◌, ◌≤◌, Bool, true, false, [], ◌∷◌, map, refl, ap, arith, nat_lt, min, mul-le-mul_right}
use Rattle.std.specs.Int.{div_ceil}
use Rattle.std.proofs.lemmas.Grind.{div_ceil_times}
use Rattle.std.proofs.lemmas.Bool.{lt-ltb, le-ltb}
use Rattle.std.specs.List.{range_with_len, filter}
use Rattle.block_geometry.specs.TransformBlocks.{starts, multiples}

none_pass : {X : Type 0} (p : X → Bool) (f : ℕ → X) (a n : ℕ) → ((k : ℕ) → a ≤ k → k < a + n → p (f k) ≡ false) → filter p (map f (range_with_len a n)) ≡ []
none_pass p f a zero fails = refl
none_pass p f a (suc n) fails =
    rw (fails a (omega arith) (omega arith)) (none_pass p f (a + 1) n (λ k h l. fails k (omega arith) (omega arith)))

pub first_pass : {X : Type 0} (p : X → Bool) (f : ℕ → X) (a n m : ℕ) → m ≤ n
    → ((k : ℕ) → a ≤ k → k < a + m → p (f k) ≡ true) → ((k : ℕ) → a + m ≤ k → k < a + n → p (f k) ≡ false)
    → filter p (map f (range_with_len a n)) ≡ map f (range_with_len a m)
first_pass p f a n zero h passes fails = none_pass p f a n (λ k g l. fails k (omega arith) l)
first_pass p f a zero (suc m) h passes fails = absurd (omega arith)
first_pass p f a (suc n) (suc m) h passes fails =
    rw (passes a (omega arith) (omega arith))
    (ap (λ xs. f a ∷ xs) (first_pass p f (a + 1) n m (omega arith) (λ k g l. passes k (omega arith) (omega arith)) (λ k g l. fails k (omega arith) (omega arith))))

-- a multiple of the step starts inside exactly below the number of steps of the room
inside : (step base end k : ℕ) → 1 ≤ step → base ≤ end → k < div_ceil (end - base) (4 * step) → base + 4 * (step * k) < end
inside step base end k some near h =
    let b = div_ceil_times (end - base) (4 * step) (omega arith) in
    let g : (k + 1) * (4 * step) ≤ div_ceil (end - base) (4 * step) * (4 * step) = mul-le-mul_right (4 * step) (omega arith) in
    omega (arith, b.1, g)

outside : (step base end k : ℕ) → 1 ≤ step → base ≤ end → div_ceil (end - base) (4 * step) ≤ k → end ≤ base + 4 * (step * k)
outside step base end k some near h =
    let b = div_ceil_times (end - base) (4 * step) (omega arith) in
    let g : div_ceil (end - base) (4 * step) * (4 * step) ≤ k * (4 * step) = mul-le-mul_right (4 * step) h in
    omega (arith, b.0, g)

pub starts_are : (step side base end n : ℕ) → 1 ≤ step → base ≤ end
    → n ≡ min (div_ceil side step) (div_ceil (end - base) (4 * step)) → starts step side base end ≡ multiples step n
unfolding starts
starts_are step side base end n some near is =
    first_pass (λ at. nat_lt (base + 4 * at) end) (λ k. step * k) 0 (div_ceil side step) n (omega arith)
    (λ k g l. lt-ltb _ _ (inside step base end k some near (omega arith)))
    (λ k g l. le-ltb _ _ (outside step base end k some near (omega arith)))
