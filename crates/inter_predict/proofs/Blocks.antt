-- Blocks, one row more at a time.
use Rattle.std.proofs.Common.{◌≡◌, ℕ, ◌+◌, ◌-◌, ◌*◌, ◌<◌, ◌≤◌, List, get_or, arith, refl, ◌∙◌, inl, inr, subst, ℤ, pos, negsuc, ◌+ℤ◌, ◌/◌, ◌%◌, take, map, suc, zero}
use Rattle.std.specs.Prelude.{slice_index}
use Rattle.std.proofs.Math.Nat.{mul-le-mul_right, div-add-mod, mod-lt}
use Rattle.std.proofs.lemmas.Nat.{div_below}
use Rattle.std.proofs.lemmas.Bool.{cases_lt}
use Rattle.std.specs.Int.{int_shr}
use Rattle.vp9_types.specs.Sizes.{clip}
use Rattle.tap_filter.specs.Filter.{rounded}
use Rattle.vp9_types.specs.Maps.{Map, HoldsRows, IsAtMost}
use Rattle.inter_predict.proofs.Values.{taken_is, taken_past}

one_up : (a b : ℕ) → a < b → a + 1 ≤ b
one_up a b lt = omega arith

pub place_below : (n i r j : ℕ) → r < i → j < n → r * n + j < i * n
place_below n i r j lt low = omega (arith, mul-le-mul_right n (one_up r i lt))

pub rows_more : (f : Map) (n i : ℕ) (old new : List ℕ) → HoldsRows old n i f →
    ((j : ℕ) → j < n → slice_index new (i * n + j) ≡ f i j) → ((k : ℕ) → k < i * n → slice_index new k ≡ slice_index old k) →
    HoldsRows new n (i + 1) f
rows_more f n i old new so row before = λ r j below low. elim (cases_lt r i) [
  | inl earlier ↦ before (r * n + j) (place_below n i r j earlier low) ∙ so r j earlier low
  | inr now ↦ let last : i ≡ r = omega arith in subst (λ (k : ℕ). slice_index new (k * n + j) ≡ f k j) last (row j low)
]

spread : (a b n j : ℕ) → a * n + (b * n + j) ≡ (a + b) * n + j
spread a b n j = grind arith

-- a row of those behind the first ones, by its place among all
pub same_place : (a b c : ℕ) → a + b + c ≡ a + (b + c)
same_place a b c = omega arith

later_row : (f : Map) (n done m j : ℕ) (new : List ℕ) → slice_index new (done * n + (m * n + j)) ≡ f (done + m) j → slice_index new ((done + m) * n + j) ≡ f (done + m) j
later_row f n done m j new is = subst (λ (k : ℕ). slice_index new k ≡ f (done + m) j) (spread done m n j) is

pub within : (done part count : ℕ) → done < count → part ≤ count - done → done + part ≤ count
within done part count more low = omega arith

pub part_fits : (n done part count size : ℕ) → done + part ≤ count → count * n ≤ size → done * n + part * n ≤ size
part_fits n done part count size low fits = omega (arith, mul-le-mul_right n low, fits)

pub in_part : (n r part j : ℕ) → r < part → j < n → r * n + j < part * n
in_part n r part j low few = place_below n part r j low few

-- some rows more behind the first ones
pub rows_join : (f : Map) (n done part : ℕ) (old new : List ℕ) → HoldsRows old n done f →
    ((r j : ℕ) → r < part → j < n → slice_index new (done * n + (r * n + j)) ≡ f (done + r) j) → ((k : ℕ) → k < done * n → slice_index new k ≡ slice_index old k) →
    HoldsRows new n (done + part) f
rows_join f n done part old new so rows before = λ i j below low. elim (cases_lt i done) [
  | inl earlier ↦ before (i * n + j) (place_below n done i j earlier low) ∙ so i j earlier low
  | inr later ↦
      let split : done + (i - done) ≡ i = omega arith in
      subst (λ (k : ℕ). slice_index new (k * n + j) ≡ f k j) split (later_row f n done (i - done) j new (rows (i - done) j (omega (arith, below)) low))
]

pub rounded_small : (most : ℕ) (s : ℤ) → rounded most s ≤ most
unfolding rounded
rounded_small most s = clip_small most (int_shr (s +ℤ pos 64) 7)
  where
    clip_small : (most : ℕ) (z : ℤ) → clip most z ≤ most
    clip_small most (pos n) = omega arith
    clip_small most (negsuc n) = omega arith

-- lines of small values have no sample above the greatest
pub lines_small : {X : Type 0} (most n rows : ℕ) (g : X → ℕ) (xs : List X) (f : Map) → HoldsRows (map g xs) n rows f → IsAtMost most f →
    (k : ℕ) → slice_index (map g (take (rows * n) xs)) k ≤ most
lines_small most n rows g xs f so small k = elim (cases_lt k (rows * n)) [
  | inl low ↦
      let some : 0 < n = some_of n rows k low in
      let split : k / n * n + k % n ≡ k = omega (arith, div-add-mod k n) in
      let is : get_or (map g xs) (k / n * n + k % n) 0 ≡ f (k / n) (k % n) = so (k / n) (k % n) (div_below k n rows some low) (mod-lt k some) in
      let value : get_or (map g xs) k 0 ≡ f (k / n) (k % n) = subst (λ (z : ℕ). get_or (map g xs) z 0 ≡ f (k / n) (k % n)) split is in
      rw (taken_is g xs (rows * n) k k refl low, value) (omega (arith, small (k / n) (k % n)))
  | inr past ↦ rw (taken_past g xs (rows * n) k past) (omega arith)
]
  where
    some_of : (n rows k : ℕ) → k < rows * n → 0 < n
    some_of zero rows k low = absurd (omega (arith, low))
    some_of (suc n) rows k low = omega arith

-- a block of multiples of 4 has a multiple of 16 values
sixteens : (a b : ℕ) → 4 * a * (4 * b) ≡ 16 * (4 * a * (4 * b) / 16)
sixteens a b = let e : 4 * a * (4 * b) ≡ 16 * (a * b) = grind arith in let d : 16 * (a * b) / 16 ≡ a * b = omega arith in rw (e, d) refl

pub fours_are : (rows n : ℕ) → rows ≡ 4 * (rows / 4) → n ≡ 4 * (n / 4) → rows * n ≡ 16 * (rows * n / 16)
fours_are rows n high wide = rw (high, wide) (sixteens (rows / 4) (n / 4))
