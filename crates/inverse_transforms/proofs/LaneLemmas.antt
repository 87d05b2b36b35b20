-- Lanes, one place more at a time.
use Rattle.std.proofs.Common.{◌≡◌, ℕ, ◌+◌, ◌<◌, ◌≤◌, ℤ, pos, negsuc, Bool, true, false, ◌&&◌, List, length, set, refl, sym, ◌∙◌, ap, arith, below_more, length-set, to_z, of_z, subst}
use Rattle.std.proofs.lemmas.Int.{to_z-of_z}
use mir.Syntax.{w32}
use mir.Val.{SFits}
use Rattle.std.proofs.lemmas.Grind.{get_or-set_at}
use Rattle.std.proofs.lemmas.List.{get_or-set_other}
use Rattle.inverse_transforms.specs.declared.values.Two.{Two}
use Rattle.inverse_transforms.specs.declared.values.Four.{Four}
use Rattle.inverse_transforms.specs.Flow.{at, two_fit, four_fit}
use Rattle.inverse_transforms.specs.Ranges.{IsSmall, fits}
use Rattle.inverse_transforms.specs.LaneColumns.{TwoLanes, FourLanes, AllHold}

-- a list that has g in each of the first n places, with g n put in at n
pub place_more : (g : ℕ → ℤ) (u : List ℤ) (n : ℕ) (p : ℤ) → n < length u → p ≡ g n →
    ((j : ℕ) → j < n → at u j ≡ g j) → (j : ℕ) → j < n + 1 → at (set u n p) j ≡ g j
place_more g u n p low is below =
    below_more (λ j. at (set u n p) j ≡ g j) n
    (λ j h. get_or-set_other u n j p (pos 0) (λ same. omega arith) ∙ below j h)
    (get_or-set_at u n n p (pos 0) refl low ∙ is)

pub two_more : (f : ℤ → ℤ → Two) (x y u v : List ℤ) (n : ℕ) (r : Two) → n < length u → n < length v → r ≡ f (at x n) (at y n) →
    TwoLanes f x y u v n → TwoLanes f x y (set u n r.first) (set v n r.second) (n + 1)
two_more f x y u v n r low_u low_v is so_far = record {
  first = place_more (λ j. (f (at x j) (at y j)).first) u n r.first low_u (ap (λ (z : Two). z.first) is) so_far.first;
  second = place_more (λ j. (f (at x j) (at y j)).second) v n r.second low_v (ap (λ (z : Two). z.second) is) so_far.second;
}

pub hold_more : (test : ℕ → Bool) (n : ℕ) (all here : Bool) → here ≡ test n → AllHold test n all → AllHold test (n + 1) (all && here)
hold_more test n true true is so_far = below_more (λ j. test j ≡ true) n so_far (sym is)
hold_more test n true false is so_far = (n, omega arith, sym is)
hold_more test n false here is so_far = (so_far.0, omega (arith, so_far.1), so_far.2)

pub kept : (z : ℤ) → IsSmall z → to_z w32 (of_z w32 z) ≡ z
kept (pos x) small = to_z-of_z w32 (pos x) (record { sfits = omega arith })
kept (negsuc x) small = to_z-of_z w32 (negsuc x) (record { sfits = omega arith })

-- the state of a loop over lanes
pub record TwoSoFar (limit : ℕ) (f : ℤ → ℤ → Two) (x y u v : List ℤ) (n : ℕ) (all : Bool) : Type 0 where
  pub u_size : length u ≡ 8
  pub v_size : length v ≡ 8
  pub made : TwoLanes f x y u v n
  pub fit : AllHold (λ j. two_fit limit (f (at x j) (at y j))) n all

pub two_begin : (limit : ℕ) (f : ℤ → ℤ → Two) (x y u v : List ℤ) → length u ≡ 8 → length v ≡ 8 → TwoSoFar limit f x y u v 0 true
two_begin limit f x y u v u_size v_size = record {
  u_size = u_size;
  v_size = v_size;
  made = record { first = λ j low. absurd (omega arith); second = λ j low. absurd (omega arith) };
  fit = λ j low. absurd (omega arith);
}

pub two_step : (limit : ℕ) (f : ℤ → ℤ → Two) (x y u v : List ℤ) (n : ℕ) (all here : Bool) (r : Two) →
    SFits w32 r.first → SFits w32 r.second → n < 8 → IsSmall (at x n) → IsSmall (at y n) →
    r ≡ f (to_z w32 (of_z w32 (at x n))) (to_z w32 (of_z w32 (at y n))) → here ≡ two_fit limit r →
    TwoSoFar limit f x y u v n all →
    TwoSoFar limit f x y (set u n (to_z w32 (of_z w32 r.first))) (set v n (to_z w32 (of_z w32 r.second))) (n + 1) (all && here)
two_step limit f x y u v n all here r first second low small_x small_y is tested so_far =
    let low_u : n < length u = omega (arith, so_far.u_size) in
    let low_v : n < length v = omega (arith, so_far.v_size) in
    let value : r ≡ f (at x n) (at y n) = rw (kept (at x n) small_x, kept (at y n) small_y) at is in
    let test = λ (j : ℕ). two_fit limit (f (at x j) (at y j)) in
    rw (to_z-of_z w32 r.first first, to_z-of_z w32 r.second second) record {
      u_size = simp length-set so_far.u_size;
      v_size = simp length-set so_far.v_size;
      made = two_more f x y u v n r low_u low_v value so_far.made;
      fit = hold_more test n all here (tested ∙ ap (two_fit limit) value) so_far.fit;
    }

-- the same of four
pub four_more : (f : ℤ → ℤ → ℤ → ℤ → Four) (a b c d p q r s : List ℤ) (n : ℕ) (v : Four) →
    n < length p → n < length q → n < length r → n < length s → v ≡ f (at a n) (at b n) (at c n) (at d n) →
    FourLanes f a b c d p q r s n → FourLanes f a b c d (set p n v.first) (set q n v.second) (set r n v.third) (set s n v.fourth) (n + 1)
four_more f a b c d p q r s n v low_p low_q low_r low_s is so_far = record {
  first = place_more (λ j. (f (at a j) (at b j) (at c j) (at d j)).first) p n v.first low_p (ap (λ (z : Four). z.first) is) so_far.first;
  second = place_more (λ j. (f (at a j) (at b j) (at c j) (at d j)).second) q n v.second low_q (ap (λ (z : Four). z.second) is) so_far.second;
  third = place_more (λ j. (f (at a j) (at b j) (at c j) (at d j)).third) r n v.third low_r (ap (λ (z : Four). z.third) is) so_far.third;
  fourth = place_more (λ j. (f (at a j) (at b j) (at c j) (at d j)).fourth) s n v.fourth low_s (ap (λ (z : Four). z.fourth) is) so_far.fourth;
}

pub record FourSoFar (limit : ℕ) (f : ℤ → ℤ → ℤ → ℤ → Four) (a b c d p q r s : List ℤ) (n : ℕ) (all : Bool) : Type 0 where
  pub p_size : length p ≡ 8
  pub q_size : length q ≡ 8
  pub r_size : length r ≡ 8
  pub s_size : length s ≡ 8
  pub made : FourLanes f a b c d p q r s n
  pub fit : AllHold (λ j. four_fit limit (f (at a j) (at b j) (at c j) (at d j))) n all

pub four_begin : (limit : ℕ) (f : ℤ → ℤ → ℤ → ℤ → Four) (a b c d p q r s : List ℤ) →
    length p ≡ 8 → length q ≡ 8 → length r ≡ 8 → length s ≡ 8 → FourSoFar limit f a b c d p q r s 0 true
four_begin limit f a b c d p q r s p_size q_size r_size s_size = record {
  p_size = p_size;
  q_size = q_size;
  r_size = r_size;
  s_size = s_size;
  made = record {
    first = λ j low. absurd (omega arith);
    second = λ j low. absurd (omega arith);
    third = λ j low. absurd (omega arith);
    fourth = λ j low. absurd (omega arith);
  };
  fit = λ j low. absurd (omega arith);
}

pub record FourSmall (a b c d : List ℤ) (n : ℕ) : Type 0 where
  pub first : IsSmall (at a n)
  pub second : IsSmall (at b n)
  pub third : IsSmall (at c n)
  pub fourth : IsSmall (at d n)

pub record FourFits (v : Four) : Type 0 where
  pub first : SFits w32 v.first
  pub second : SFits w32 v.second
  pub third : SFits w32 v.third
  pub fourth : SFits w32 v.fourth

pub four_step : (limit : ℕ) (f : ℤ → ℤ → ℤ → ℤ → Four) (a b c d p q r s : List ℤ) (n : ℕ) (all here : Bool) (v : Four) →
    FourFits v → n < 8 → FourSmall a b c d n →
    v ≡ f (to_z w32 (of_z w32 (at a n))) (to_z w32 (of_z w32 (at b n))) (to_z w32 (of_z w32 (at c n))) (to_z w32 (of_z w32 (at d n))) →
    here ≡ four_fit limit v →
    FourSoFar limit f a b c d p q r s n all →
    FourSoFar limit f a b c d (set p n (to_z w32 (of_z w32 v.first))) (set q n (to_z w32 (of_z w32 v.second)))
    (set r n (to_z w32 (of_z w32 v.third))) (set s n (to_z w32 (of_z w32 v.fourth))) (n + 1) (all && here)
four_step limit f a b c d p q r s n all here v in_i32 low small is tested so_far =
    let low_p : n < length p = omega (arith, so_far.p_size) in
    let low_q : n < length q = omega (arith, so_far.q_size) in
    let low_r : n < length r = omega (arith, so_far.r_size) in
    let low_s : n < length s = omega (arith, so_far.s_size) in
    let value : v ≡ f (at a n) (at b n) (at c n) (at d n) =
    rw (kept (at a n) small.first, kept (at b n) small.second, kept (at c n) small.third, kept (at d n) small.fourth) at is in
    let test = λ (j : ℕ). four_fit limit (f (at a j) (at b j) (at c j) (at d j)) in
    rw (to_z-of_z w32 v.first in_i32.first, to_z-of_z w32 v.second in_i32.second, to_z-of_z w32 v.third in_i32.third, to_z-of_z w32 v.fourth in_i32.fourth) record {
      p_size = simp length-set so_far.p_size;
      q_size = simp length-set so_far.q_size;
      r_size = simp length-set so_far.r_size;
      s_size = simp length-set so_far.s_size;
      made = four_more f a b c d p q r s n v low_p low_q low_r low_s value so_far.made;
      fit = hold_more test n all here (tested ∙ ap (four_fit limit) value) so_far.fit;
    }

-- at the end
pub four_end : (limit : ℕ) (f : ℤ → ℤ → ℤ → ℤ → Four) (a b c d p q r s : List ℤ) (n : ℕ) (all : Bool) → n ≤ 8 → 8 ≤ n →
    FourSoFar limit f a b c d p q r s n all → FourSoFar limit f a b c d p q r s 8 all
four_end limit f a b c d p q r s n all most least so_far =
    let all_done : n ≡ 8 = omega arith in subst (λ m. FourSoFar limit f a b c d p q r s m all) all_done so_far

-- of one
pub record OneSoFar (limit : ℕ) (f : ℤ → ℤ) (x u : List ℤ) (n : ℕ) (all : Bool) : Type 0 where
  pub u_size : length u ≡ 8
  pub made : (j : ℕ) → j < n → at u j ≡ f (at x j)
  pub fit : AllHold (λ j. fits limit (f (at x j))) n all

pub one_step : (limit : ℕ) (f : ℤ → ℤ) (x u : List ℤ) (n : ℕ) (all here : Bool) (r : ℤ) → SFits w32 r → n < 8 → IsSmall (at x n) →
    r ≡ f (to_z w32 (of_z w32 (at x n))) → here ≡ fits limit (to_z w32 (of_z w32 r)) →
    OneSoFar limit f x u n all → OneSoFar limit f x (set u n (to_z w32 (of_z w32 r))) (n + 1) (all && here)
one_step limit f x u n all here r in_i32 low small is tested so_far =
    let low_u : n < length u = omega (arith, so_far.u_size) in
    let value : r ≡ f (at x n) = rw (kept (at x n) small) at is in
    let test : here ≡ fits limit r = rw (to_z-of_z w32 r in_i32) at tested in
    rw (to_z-of_z w32 r in_i32) record {
      u_size = simp length-set so_far.u_size;
      made = place_more (λ j. f (at x j)) u n r low_u value so_far.made;
      fit = hold_more (λ (j : ℕ). fits limit (f (at x j))) n all here (test ∙ ap (fits limit) value) so_far.fit;
    }
