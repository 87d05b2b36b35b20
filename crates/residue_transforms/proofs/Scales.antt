-- Levels whose products are small are multiplied, all by the step of the others, and the first four anew.
use Rattle.std.proofs.Common.{◌≡◌, ℕ, zero, suc, ◌+◌, ◌-◌, ◌*◌, ◌/◌, ◌^◌, ◌<◌, ◌≤◌, ℤ, pos, negsuc, neg_ℤ, ◌*ℤ◌, Bool, true, false, List, length, get_or, set, length-set, refl, sym, ◌∙◌, ap, subst, arith, to_z, of_z, inl, inr, nat_eq, nat_lt, All, unsigned_abs, bit_or, below_more, int_div, if◌then◌else◌}
use Rattle.std.proofs.Math.Nat.{mul-le-mul}
use Rattle.std.proofs.lemmas.Nat.{le_or_l, le_or_r}
use mir.Syntax.{w32}
use mir.Val.{SFits}
use Rattle.std.proofs.lemmas.Int.{unsigned_abs-mul, to_z-of_z}
use Rattle.std.proofs.lemmas.List.{get_or_default, get_or-set_other, ext_get_or}
use Rattle.std.proofs.lemmas.List.FromFn.{length-map-range_with_len}
use Rattle.std.proofs.lemmas.List.Sums.{list_all-from_AllPass}
use Rattle.std.proofs.lemmas.Bool.{cases_lt}
use Rattle.std.proofs.lemmas.Bool.Decides.{nat_tests}
use Rattle.std.specs.List.{list_all}
use Rattle.std.specs.Bool.{OnTrue}
use borrow.Author.Tests.{ltb-true}
use Rattle.vp9_types.specs.Maps.{is_within}
use Rattle.vp9_types.specs.declared.block.TxSize.{TxSize}
use Rattle.vp9_types.specs.declared.block.TxSize.TheVariants.{T4x4, T8x8, T16x16, T32x32}
use Rattle.vp9_types.specs.declared.shape.Depth.{Depth}
use Rattle.vp9_types.specs.declared.shape.Depth.TheVariants.{Eight, Ten, Twelve}
use Rattle.vp9_tables.specs.Scans.{area}
use Rattle.inverse_transforms.specs.Ranges.{IsSmall, fits, limit_of}
use Rattle.inverse_transforms.specs.Flow.{at}
use Rattle.residue_transforms.specs.SquareBlocks.{HasPiece}
use Rattle.residue_transforms.specs.Residue.{scaled, quantiser, coefficient, coefficients}
use Rattle.residue_transforms.specs.Code.{AllFit}
use Rattle.residue_transforms.specs.declared.quant.Quant.{Quant}
use Rattle.inverse_transforms.proofs.LaneLemmas.{place_more}
use Rattle.residue_transforms.proofs.Coefs.{at_coefficients}

pub all_under : (levels : List ℤ) (n whole : ℕ) → length levels ≤ n → ((k : ℕ) → k < n → unsigned_abs (at levels k) ≤ whole) →
    All (λ x. unsigned_abs x ≤ whole) levels
all_under levels n whole past so_far = λ k d low. rw (get_or_default levels k d (pos 0) low) (so_far k (omega arith))

-- one more magnitude, whose bits are put in
pub under_more : (levels : List ℤ) (n whole m : ℕ) → unsigned_abs (at levels n) ≡ m → ((k : ℕ) → k < n → unsigned_abs (at levels k) ≤ whole) →
    (k : ℕ) → k < n + 1 → unsigned_abs (at levels k) ≤ bit_or whole m
under_more levels n whole m is so_far =
    below_more (λ k. unsigned_abs (at levels k) ≤ bit_or whole m) n (λ k low. omega (arith, so_far k low, le_or_l whole m))
    (omega (arith, is, le_or_r whole m))

negated : (n : ℕ) → unsigned_abs (neg_ℤ (pos n)) ≡ n
negated zero = refl
negated (suc n) = refl

halved : (x : ℤ) → unsigned_abs (int_div x (pos 2)) ≡ unsigned_abs x / 2
halved (pos n) = refl
halved (negsuc n) = negated (suc n / 2)

-- a product is at most twice what it becomes, and one more
not_halved : (tx : TxSize) (x : ℤ) (n : ℕ) → unsigned_abs (scaled tx x) < n → unsigned_abs x < 2 * n
not_halved T4x4 x n low = omega arith
not_halved T8x8 x n low = omega arith
not_halved T16x16 x n low = omega arith
not_halved T32x32 x n low = omega (arith, halved x)

limit_small : (depth : Depth) → limit_of depth ≤ 2 ^ 19
limit_small Eight = omega arith
limit_small Ten = omega arith
limit_small Twelve = omega arith

step_under : (first : Bool) (dc ac most : ℕ) → dc ≤ most → ac ≤ most → (if first then dc else ac) ≤ most
step_under true dc ac most dc_under ac_under = dc_under
step_under false dc ac most dc_under ac_under = ac_under

-- where the greatest product is below what can become a coefficient that fits
products_fit : (quant : Quant) (tx : TxSize) (whole step n : ℕ) → quant.dc ≤ step → quant.ac ≤ step → whole * step < n →
    ((x : ℤ) → unsigned_abs x < n → unsigned_abs (scaled tx x) < limit_of quant.depth) → AllFit quant tx whole
unfolding coefficient
products_fit quant tx whole step n dc ac low scales = λ place x under.
    let times : unsigned_abs (x *ℤ pos (quantiser quant place)) ≡ unsigned_abs x * quantiser quant place = unsigned_abs-mul x (pos (quantiser quant place)) in
    let most : unsigned_abs x * quantiser quant place ≤ whole * step = mul-le-mul under (step_under (nat_eq place 0) quant.dc quant.ac step dc ac) in
    scales (x *ℤ pos (quantiser quant place)) (omega (arith, times, most))

product_small : (quant : Quant) (tx : TxSize) (whole place : ℕ) (x : ℤ) → AllFit quant tx whole → unsigned_abs x ≤ whole →
    IsSmall (x *ℤ pos (quantiser quant place))
unfolding coefficient
product_small quant tx whole place x fit under =
    omega (arith, not_halved tx (x *ℤ pos (quantiser quant place)) (limit_of quant.depth) (fit place x under), limit_small quant.depth)

pub first_small : (quant : Quant) (tx : TxSize) (whole : ℕ) (levels : List ℤ) → AllFit quant tx whole → 0 < length levels →
    All (λ x. unsigned_abs x ≤ whole) levels → IsSmall (at levels 0 *ℤ pos quant.dc)
first_small quant tx whole levels fit some under = product_small quant tx whole 0 (at levels 0) fit (under 0 (pos 0) some)

pub others_small : (quant : Quant) (tx : TxSize) (whole : ℕ) (levels : List ℤ) → AllFit quant tx whole → All (λ x. unsigned_abs x ≤ whole) levels →
    All (λ x. IsSmall (x *ℤ pos quant.ac)) levels
others_small quant tx whole levels fit under = λ k d low. product_small quant tx whole 1 (get_or levels k d) fit (under k d low)

below_fits : (n : ℕ) (x : ℤ) → unsigned_abs x < n → fits n x ≡ true
below_fits n (pos x) low = grind (arith, nat_tests)
below_fits n (negsuc x) low = grind (arith, nat_tests)

pub coefficients_fit : (quant : Quant) (tx : TxSize) (whole : ℕ) (levels : List ℤ) → AllFit quant tx whole → All (λ x. unsigned_abs x ≤ whole) levels →
    list_all (fits (limit_of quant.depth)) (coefficients quant tx levels) ≡ true
coefficients_fit quant tx whole levels fit under =
    let size = length-map-range_with_len (λ place. coefficient quant tx place (at levels place)) 0 (length levels) in
    list_all-from_AllPass (fits (limit_of quant.depth)) (coefficients quant tx levels) (λ k d low.
    rw (get_or_default (coefficients quant tx levels) k d (pos 0) low)
    (ap (fits (limit_of quant.depth)) (at_coefficients quant tx levels k (omega (arith, size)))
    ∙ below_fits (limit_of quant.depth) (coefficient quant tx k (at levels k)) (fit k (at levels k) (under k (pos 0) (omega (arith, size))))))

pub products_tested : (quant : Quant) (tx : TxSize) (whole step n : ℕ) (below : Bool) → quant.dc ≤ step → quant.ac ≤ step → below ≡ nat_lt (whole * step) n →
    ((x : ℤ) → unsigned_abs x < n → unsigned_abs (scaled tx x) < limit_of quant.depth) → OnTrue below (AllFit quant tx whole)
products_tested quant tx whole step n true dc ac tested scales = products_fit quant tx whole step n dc ac (ltb-true (whole * step) n (sym tested)) scales
products_tested quant tx whole step n false dc ac tested scales = tt

-- all places but the first have the step of the others
other_step : (quant : Quant) (k : ℕ) → 0 < k → quantiser quant k ≡ quant.ac
other_step quant k past = let other : nat_eq k 0 ≡ false = grind (arith, nat_tests) in rw other refl

other_coefficient : (quant : Quant) (tx : TxSize) (k : ℕ) (x : ℤ) → 0 < k → scaled tx (x *ℤ pos quant.ac) ≡ coefficient quant tx k x
unfolding coefficient
other_coefficient quant tx k x past = ap (λ z. scaled tx (x *ℤ pos z)) (sym (other_step quant k past))

-- the first n places are done by the step of the others
pub record OthersDone (quant : Quant) (tx : TxSize) (old now : List ℤ) (n : ℕ) : Type 0 where
  pub size : length now ≡ length old
  pub done : (k : ℕ) → k < n → at now k ≡ scaled tx (at old k *ℤ pos quant.ac)
  pub rest : (k : ℕ) → n ≤ k → at now k ≡ at old k

others_more : (quant : Quant) (tx : TxSize) (old now : List ℤ) (n : ℕ) (v : ℤ) → n < length now → SFits w32 v →
    v ≡ scaled tx (at now n *ℤ pos quant.ac) → OthersDone quant tx old now n →
    OthersDone quant tx old (set now n (to_z w32 (of_z w32 v))) (n + 1)
others_more quant tx old now n v low in_i32 is s =
    let value : v ≡ scaled tx (at old n *ℤ pos quant.ac) = is ∙ ap (λ z. scaled tx (z *ℤ pos quant.ac)) (s.rest n (omega arith)) in
    rw (to_z-of_z w32 v in_i32) record {
      size = length-set now n v ∙ s.size;
      done = place_more (λ k. scaled tx (at old k *ℤ pos quant.ac)) now n v low value s.done;
      rest = λ k past. get_or-set_other now n k v (pos 0) (λ same. omega arith) ∙ s.rest k (omega arith);
    }

pub others_step : (quant : Quant) (tx : TxSize) (old now : List ℤ) (n : ℕ) (p v : ℤ) → n < length now → to_z w32 (of_z w32 (at now n)) ≡ at now n →
    SFits w32 p → SFits w32 v → p ≡ (to_z w32 (of_z w32 (at now n)) *ℤ pos quant.ac) → v ≡ scaled tx (to_z w32 (of_z w32 p)) →
    OthersDone quant tx old now n → OthersDone quant tx old (set now n (to_z w32 (of_z w32 v))) (n + 1)
others_step quant tx old now n p v low same p_fits v_fits p_is v_is s =
    let product : p ≡ (at now n *ℤ pos quant.ac) = p_is ∙ ap (λ z. z *ℤ pos quant.ac) same in
    others_more quant tx old now n v low v_fits (v_is ∙ ap (scaled tx) (to_z-of_z w32 p p_fits ∙ product)) s

pub product_small_again : (quant : Quant) (tx : TxSize) (old now : List ℤ) (n : ℕ) → n < length now → to_z w32 (of_z w32 (at now n)) ≡ at now n →
    All (λ x. IsSmall (x *ℤ pos quant.ac)) old → OthersDone quant tx old now n → IsSmall (to_z w32 (of_z w32 (at now n)) *ℤ pos quant.ac)
product_small_again quant tx old now n low same small s =
    subst (λ z. IsSmall (z *ℤ pos quant.ac)) (sym (same ∙ s.rest n (omega arith))) (small n (pos 0) (omega (arith, s.size)))

-- what a piece of four at the start has put in, and what it has left
put_first : (f : ℕ → ℤ) (old new : List ℤ) (k : ℕ) → HasPiece 0 4 f old new → k < 4 → at new k ≡ f k
put_first f old new k piece low =
    let within : is_within 0 4 k ≡ true = grind (arith, nat_tests) in
    let place : k - 0 ≡ k = omega arith in
    piece k ∙ (ap (λ b. if b then f (k - 0) else at old k) within ∙ ap f place)

left_behind : (f : ℕ → ℤ) (old new : List ℤ) (k : ℕ) → HasPiece 0 4 f old new → 4 ≤ k → at new k ≡ at old k
left_behind f old new k piece past =
    let outside : is_within 0 4 k ≡ false = grind (arith, nat_tests) in
    piece k ∙ ap (λ b. if b then f (k - 0) else at old k) outside

-- the first four are put in last
pub all_made : (quant : Quant) (tx : TxSize) (old now new values : List ℤ) (n : ℕ) → length old ≤ n → length new ≡ length now →
    ((k : ℕ) → k < 4 → at values k ≡ coefficient quant tx k (at old k)) → HasPiece 0 4 (λ k. at values k) now new → OthersDone quant tx old now n →
    new ≡ coefficients quant tx old
all_made quant tx old now new values n past size made piece s =
    let long = length-map-range_with_len (λ place. coefficient quant tx place (at old place)) 0 (length old) in
    ext_get_or (pos 0) new (coefficients quant tx old) (size ∙ (s.size ∙ sym long)) (λ k low.
    elim (cases_lt k 4) [
      | inl first ↦ put_first (λ k. at values k) now new k piece first ∙ made k first
      | inr later ↦ left_behind (λ k. at values k) now new k piece (omega arith)
          ∙ (s.done k (omega (arith, size, s.size)) ∙ other_coefficient quant tx k (at old k) (omega arith))
    ] ∙ sym (at_coefficients quant tx old k (omega (arith, size, s.size))))

pub four_places : (tx : TxSize) → 4 ≤ area tx
four_places T4x4 = omega arith
four_places T8x8 = omega arith
four_places T16x16 = omega arith
four_places T32x32 = omega arith
