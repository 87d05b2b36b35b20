-- Levels at the first places of transform blocks of 4x4, for tests.
use Rattle.std.proofs.Common.{◌≡◌, ◌≢◌, ◌⊎◌, ◌<◌, ◌≤◌, ◌-◌, ◌*◌, inl, inr, zero, suc, ℕ, ℤ, pos, arith, unsigned_abs, w32, ◌∷◌, length, set, take, drop}
use mir.Val.{to_z, of_z}
use Rattle.std.specs.Prelude.{slice_index, replicate}
use Rattle.std.specs.List.{All}
use Rattle.std.proofs.lemmas.List.{get_or-replicate}
use Rattle.vp9_types.specs.declared.shape.Depth.{Depth}
use Rattle.vp9_types.specs.declared.shape.Depth.TheVariants.{Eight, Ten, Twelve}
use Rattle.coef_tokens.specs.Places.{Tables}
use Rattle.coef_tokens.proofs.Turns.{clear_at, kept}
use Rattle.token_writer.specs.TokenFits.{CanPut, IsCoded, level_in}

coded_below : (depth : Depth) (m : ℕ) → m < 16451 → IsCoded depth m
coded_below Eight m h = omega arith
coded_below Ten m h = omega arith
coded_below Twelve m h = omega arith

abbrev pub IsCountOf : ℕ → ℤ → Type 0
IsCountOf count z = ((count ≡ 0) × (z ≡ pos 0)) ⊎ ((count ≡ 1) × (z ≢ pos 0))

four : (P : ℕ → Type 0) → P 0 → P 1 → P 2 → P 3 → (k : ℕ) → k < 4 → P k
four P a b c d zero low = a
four P a b c d (suc zero) low = b
four P a b c d (suc (suc zero)) low = c
four P a b c d (suc (suc (suc zero))) low = d
four P a b c d (suc (suc (suc (suc k)))) low = absurd (omega arith)

others_of : (t : Tables) (z : ℤ) (count : ℕ) → slice_index t.scan 0 ≡ 0 → IsCountOf count z → (p : ℕ) → ((k : ℕ) → k < count → slice_index t.scan k ≢ p)
    → level_in (z ∷ replicate 15 (pos 0)) p ≡ pos 0
others_of t z count start (inl none) zero far = none.1
others_of t z count start (inr one) zero far = absurd (far 0 (omega (arith, one.0)) start)
others_of t z count start is (suc p) far = clear_at 15 p

last_of : (t : Tables) (z : ℤ) (count : ℕ) → slice_index t.scan 0 ≡ 0 → IsCountOf count z → 0 < count
    → level_in (z ∷ replicate 15 (pos 0)) (slice_index t.scan (count - 1)) ≢ pos 0
last_of t z count start (inl none) some = absurd (omega (arith, none.0))
last_of t z count start (inr one) some = rw (one.0, start) one.1

coded_of : (depth : Depth) (z : ℤ) → unsigned_abs z < 16451 → All (λ level. IsCoded depth (unsigned_abs level)) (z ∷ replicate 15 (pos 0))
coded_of depth z small zero d low = coded_below depth (unsigned_abs z) small
coded_of depth z small (suc k) d low = rw (get_or-replicate 15 k (pos 0) d (omega arith)) (coded_below depth 0 (omega arith))

lone_can : (t : Tables) (z : ℤ) (count : ℕ) → length t.scan ≡ 16 → slice_index t.scan 0 ≡ 0 → unsigned_abs z < 16451 → IsCountOf count z
    → CanPut t (z ∷ replicate 15 (pos 0)) count
lone_can t z count size start small is = record {
  most = rw size (count_fits is);
  coded = coded_of t.depth z small;
  others = others_of t z count start is;
  last = λ some more. last_of t z count start is some;
}
  where
    count_fits : IsCountOf count z → count ≤ 16
    count_fits (inl none) = omega (arith, none.0)
    count_fits (inr one) = omega (arith, one.0)

pub four_can : (t : Tables) (a b c d : ℤ) (i j m n : ℕ) → length t.scan ≡ 16 → slice_index t.scan 0 ≡ 0
    → unsigned_abs a < 16451 → unsigned_abs b < 16451 → unsigned_abs c < 16451 → unsigned_abs d < 16451
    → IsCountOf i a → IsCountOf j b → IsCountOf m c → IsCountOf n d → (k : ℕ) → k < 4
    → CanPut t (take 16 (drop (k * 16) (set (set (set (set (replicate 4096 (pos 0)) 0 a) 16 b) 32 c) 48 d)))
    (slice_index (set (set (set (set (replicate 256 0) 0 i) 1 j) 2 m) 3 n) k)
four_can t a b c d i j m n size start e f g h is js ms ns = four
    (λ k. CanPut t (take 16 (drop (k * 16) (set (set (set (set (replicate 4096 (pos 0)) 0 a) 16 b) 32 c) 48 d)))
    (slice_index (set (set (set (set (replicate 256 0) 0 i) 1 j) 2 m) 3 n) k))
    (lone_can t a i size start e is) (lone_can t b j size start f js) (lone_can t c m size start g ms) (lone_can t d n size start h ns)

pub kept_small : (z : ℤ) → unsigned_abs z < 16451 → unsigned_abs (to_z w32 (of_z w32 z)) < 16451
kept_small z small = rw (kept z (omega arith)) small
