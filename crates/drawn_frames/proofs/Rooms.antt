-- Values that are put into a buffer of zeros, one part after another.
use Rattle.std.proofs.Common.{◌≡◌, ◌<◌, ◌≤◌, ◌+◌, ◌*◌, ◌-◌, ◌++◌, ℕ, ℤ, pos, ◌∙◌, sym, ap, arith, List, length, take, drop, replicate}
use borrow.Rule.Slice.PartMut.{put_mid, same_len_mid}
use Rattle.std.proofs.Math.Nat.{mul-le-mul_right}
use Rattle.std.proofs.lemmas.Slice.{take-put_mid_below, between-put_mid, drop-put_mid}
use Rattle.block_plan.proofs.Held.{one_long}
use Rattle.std.proofs.lemmas.List.{append_assoc, drop-take, drop-drop, drop-replicate, take-replicate, length-take-le, length-drop}

-- zeros from a place on
abbrev pub Zeros : ℕ → List ℤ → Type 0
Zeros at values = drop at values ≡ replicate (4096 - at) (pos 0)

behind : (k n : ℕ) → (k + 1) * n ≡ k * n + n
behind k n = grind arith

before : (j k n : ℕ) → j < k → j * n + n ≤ k * n
before j k n low = let whole : (j + 1) * n ≤ k * n = mul-le-mul_right n low_next in omega (arith, whole, behind j n)
  where
    low_next : j + 1 ≤ k
    low_next = omega arith

-- with others in place of as many
pub put_is : (values others : List ℤ) (at n : ℕ) → length others ≡ n → put_mid at n values others ≡ take at values ++ others ++ drop (at + length others) values
put_is values others at n long =
    ap (λ rest. take at values ++ (others ++ rest)) (drop-drop n at values ∙ ap (λ m. drop (at + m) values) (sym long))
    ∙ sym (append_assoc (take at values) others (drop (at + length others) values))

pub put_long : (values others : List ℤ) (at n : ℕ) → at + n ≤ length values → length others ≡ n → length (put_mid at n values others) ≡ length values
put_long values others at n room long =
    let left : n ≤ length (drop at values) = rw length-drop (omega (arith, room)) in
    same_len_mid at n values others (long ∙ sym (length-take-le n (drop at values) left))

-- a part before it stays
pub kept_part : (values others : List ℤ) (j k n : ℕ) → j < k → k * n ≤ length values
    → take n (drop (j * n) (put_mid (k * n) n values others)) ≡ take n (drop (j * n) values)
kept_part values others j k n low long =
    sym (drop-take (j * n) n (put_mid (k * n) n values others))
    ∙ (ap (drop (j * n)) (take-put_mid_below (k * n) n values others (j * n + n) (before j k n low) long)
    ∙ drop-take (j * n) n values)

pub new_part : (values others : List ℤ) (k n : ℕ) → k * n ≤ length values → length others ≡ n → take n (drop (k * n) (put_mid (k * n) n values others)) ≡ others
new_part values others k n long size =
    ap (λ m. take m (drop (k * n) (put_mid (k * n) n values others))) (sym (one_long (k * n) n))
    ∙ between-put_mid (k * n) n values others (k * n + n) long (size ∙ sym (one_long (k * n) n))

-- the next part is zeros
pub zero_part : (values : List ℤ) (at n : ℕ) → Zeros at values → at + n ≤ 4096 → take n (drop at values) ≡ replicate n (pos 0)
zero_part values at n zeros room = ap (take n) zeros ∙ take-replicate n (4096 - at) (pos 0) (omega (arith, room))

fewer : (k n : ℕ) → 4096 - k * n - n ≡ 4096 - (k + 1) * n
fewer k n = omega (arith, behind k n)

pub zeros_more : (values others : List ℤ) (k n : ℕ) → Zeros (k * n) values → k * n ≤ length values → length others ≡ n
    → Zeros ((k + 1) * n) (put_mid (k * n) n values others)
zeros_more values others k n zeros room size =
    ap (λ m. drop m (put_mid (k * n) n values others)) (behind k n)
    ∙ (drop-put_mid (k * n) n values others (k * n + n) (omega arith) room size
    ∙ (sym (drop-drop n (k * n) values)
    ∙ (ap (drop n) zeros
    ∙ (drop-replicate n (4096 - k * n) (pos 0)
    ∙ ap (λ m. replicate m (pos 0)) (fewer k n)))))
