-- What is done to rows of lanes is done to each column.
use Rattle.std.proofs.Common.{◌≡◌, ℕ, ◌<◌, ◌≤◌, ◌^◌, ℤ, pos, Bool, true, false, inl, inr, List, [], ◌∷◌, map, take, length, set, get_or, refl, sym, ◌∙◌, ap, subst, arith, All, Result, Ok, Err}
use Rattle.std.proofs.lemmas.List.{map-set, get_or-map, get_or_default, get_or_past, length-map}
use Rattle.std.proofs.lemmas.List.Elements.{All-set, All-map}
use Rattle.std.proofs.lemmas.Bool.{cases_lt}
use Rattle.vp9_types.specs.declared.rule.Rule.{Rule}
use Rattle.vp9_types.specs.declared.rule.Rule.TheVariants.{TransformRange}
use Rattle.inverse_transforms.specs.declared.values.Two.{Two}
use Rattle.inverse_transforms.specs.declared.values.Four.{Four}
use Rattle.inverse_transforms.specs.Flow.{at, two_fit, four_fit, rotated_wide, store_one, store_two, store_four, permuted}
use Rattle.inverse_transforms.specs.Ranges.{fits, IsSmall}
use Rattle.inverse_transforms.specs.LaneColumns.{column, gathered, GivesColumns, FitsAll, TwoLanes, FourLanes, AllHold}
use Rattle.inverse_transforms.proofs.Small.{two_small, two_fits, four_small, fits_small}

pub column_set : (j : ℕ) (t : List (List ℤ)) (a : ℕ) (u : List ℤ) → column j (set t a u) ≡ set (column j t) a (at u j)
column_set j t a u = map-set (λ row. at row j) t a u

pub column_at : (j : ℕ) (t : List (List ℤ)) (a : ℕ) → a < length t → at (column j t) a ≡ at (get_or t a []) j
column_at j t a low = get_or-map (λ row. at row j) t a [] (pos 0) low

pub all_hold : (test : ℕ → Bool) (n : ℕ) (all : Bool) → all ≡ true → AllHold test n all → (j : ℕ) → j < n → test j ≡ true
all_hold test n true is hold = hold
all_hold test n false is hold = let no : ⊥ = cc in absurd no

pub one_fails : (test : ℕ → Bool) (n : ℕ) (all : Bool) → all ≡ false → AllHold test n all → (j : ℕ) × (j < n) × (test j ≡ false)
one_fails test n true is hold = let no : ⊥ = cc in absurd no
one_fails test n false is hold = hold

pub lanes_small : (u : List ℤ) → length u ≡ 8 → ((j : ℕ) → j < 8 → IsSmall (at u j)) → All IsSmall u
lanes_small u size small k d low = rw (get_or_default u k d (pos 0) low) (small k (omega (arith, size)))

-- what a step makes of two rows of lanes
pub record TwoStored (limit : ℕ) (f : ℤ → ℤ → Two) (t : List (List ℤ)) (a b : ℕ) (x y u v : List ℤ) : Type 0 where
  pub a_low : a < length t
  pub b_low : b < length t
  pub x_is : x ≡ get_or t a []
  pub y_is : y ≡ get_or t b []
  pub made : TwoLanes f x y u v 8

two_of_column : (limit : ℕ) (f : ℤ → ℤ → Two) (t : List (List ℤ)) (a b : ℕ) (x y u v : List ℤ) → TwoStored limit f t a b x y u v →
    (j : ℕ) → f (at (column j t) a) (at (column j t) b) ≡ f (at x j) (at y j)
two_of_column limit f t a b x y u v s j =
    let first : at (column j t) a ≡ at x j = column_at j t a s.a_low ∙ ap (λ row. at row j) (sym s.x_is) in
    let second : at (column j t) b ≡ at y j = column_at j t b s.b_low ∙ ap (λ row. at row j) (sym s.y_is) in
    ap (λ z. f z (at (column j t) b)) first ∙ ap (f (at x j)) second

store_two_given : (limit : ℕ) (xs : List ℤ) (a b : ℕ) (w : Two) (p q : ℤ) → two_fit limit w ≡ true → p ≡ w.first → q ≡ w.second →
    store_two limit xs a b w ≡ Ok (set (set xs a p) b q)
store_two_given limit xs a b w p q fit p_is q_is = rw (fit, p_is, q_is) refl

store_two_refused : (limit : ℕ) (xs : List ℤ) (a b : ℕ) (w : Two) → two_fit limit w ≡ false → store_two limit xs a b w ≡ Err TransformRange
store_two_refused limit xs a b w fails = rw fails refl

pub two_given : (limit : ℕ) (f : ℤ → ℤ → Two) (t : List (List ℤ)) (a b : ℕ) (x y u v : List ℤ) → TwoStored limit f t a b x y u v →
    ((j : ℕ) → j < 8 → two_fit limit (f (at x j) (at y j)) ≡ true) →
    (j : ℕ) → j < 8 → store_two limit (column j t) a b (f (at (column j t) a) (at (column j t) b)) ≡ Ok (column j (set (set t a u) b v))
two_given limit f t a b x y u v s fit j low =
    ap (store_two limit (column j t) a b) (two_of_column limit f t a b x y u v s j)
    ∙ (store_two_given limit (column j t) a b (f (at x j) (at y j)) (at u j) (at v j) (fit j low) (s.made.first j low) (s.made.second j low)
    ∙ ap Ok (sym (column_set j (set t a u) b v ∙ ap (λ c. set c b (at v j)) (column_set j t a u))))

pub two_refused : (limit : ℕ) (f : ℤ → ℤ → Two) (t : List (List ℤ)) (a b : ℕ) (x y u v : List ℤ) → TwoStored limit f t a b x y u v →
    (j : ℕ) × (j < 8) × (two_fit limit (f (at x j) (at y j)) ≡ false) →
    (j : ℕ) × (j < 8) × (store_two limit (column j t) a b (f (at (column j t) a) (at (column j t) b)) ≡ Err TransformRange)
two_refused limit f t a b x y u v s (j, low, fails) = (
  j,
  low,
  ap (store_two limit (column j t) a b) (two_of_column limit f t a b x y u v s j)
      ∙ store_two_refused limit (column j t) a b (f (at x j) (at y j)) fails,
)

pub two_rows_small : (limit : ℕ) (f : ℤ → ℤ → Two) (t : List (List ℤ)) (a b : ℕ) (x y u v : List ℤ) → limit ≤ 2 ^ 24 →
    length u ≡ 8 → length v ≡ 8 → TwoLanes f x y u v 8 → ((j : ℕ) → j < 8 → two_fit limit (f (at x j) (at y j)) ≡ true) →
    All (All IsSmall) t → All (All IsSmall) (set (set t a u) b v)
two_rows_small limit f t a b x y u v most u_size v_size made fit small =
    let both = λ (j : ℕ) (low : j < 8). two_small (2 ^ 24) limit (f (at x j) (at y j)) most (fit j low) in
    let u_small : All IsSmall u = lanes_small u u_size (λ j low. rw (made.first j low) (both j low).0) in
    let v_small : All IsSmall v = lanes_small v v_size (λ j low. rw (made.second j low) (both j low).1) in
    All-set (All IsSmall) (set t a u) b v v_small (All-set (All IsSmall) t a u u_small small)

-- the same for an f that is g, as the call of lanes names it
pub two_ok : (limit : ℕ) (f g : ℤ → ℤ → Two) (t : List (List ℤ)) (a b : ℕ) (u v : List ℤ) (all : Bool) → f ≡ g → a < length t → b < length t →
    TwoLanes f (get_or t a []) (get_or t b []) u v 8 → all ≡ true →
    AllHold (λ j. two_fit limit (f (at (get_or t a []) j) (at (get_or t b []) j))) 8 all →
    (j : ℕ) → j < 8 → store_two limit (column j t) a b (g (at (column j t) a) (at (column j t) b)) ≡ Ok (column j (set (set t a u) b v))
two_ok limit f g t a b u v all same a_low b_low made is fit j low =
    let stored : TwoStored limit f t a b (get_or t a []) (get_or t b []) u v =
    record { a_low = a_low; b_low = b_low; x_is = refl; y_is = refl; made = made } in
    ap (λ (h : ℤ → ℤ → Two). store_two limit (column j t) a b (h (at (column j t) a) (at (column j t) b))) (sym same)
    ∙ two_given limit f t a b (get_or t a []) (get_or t b []) u v stored
    (all_hold (λ j. two_fit limit (f (at (get_or t a []) j) (at (get_or t b []) j))) 8 all is fit) j low

pub two_err : (limit : ℕ) (f g : ℤ → ℤ → Two) (t : List (List ℤ)) (a b : ℕ) (u v : List ℤ) (all : Bool) → f ≡ g → a < length t → b < length t →
    TwoLanes f (get_or t a []) (get_or t b []) u v 8 → all ≡ false →
    AllHold (λ j. two_fit limit (f (at (get_or t a []) j) (at (get_or t b []) j))) 8 all →
    (j : ℕ) × (j < 8) × (store_two limit (column j t) a b (g (at (column j t) a) (at (column j t) b)) ≡ Err TransformRange)
two_err limit f g t a b u v all same a_low b_low made is fit =
    let stored : TwoStored limit f t a b (get_or t a []) (get_or t b []) u v =
    record { a_low = a_low; b_low = b_low; x_is = refl; y_is = refl; made = made } in
    let r = two_refused limit f t a b (get_or t a []) (get_or t b []) u v stored
    (one_fails (λ j. two_fit limit (f (at (get_or t a []) j) (at (get_or t b []) j))) 8 all is fit) in
    (r.0, r.1, ap (λ (h : ℤ → ℤ → Two). store_two limit (column r.0 t) a b (h (at (column r.0 t) a) (at (column r.0 t) b))) (sym same) ∙ r.2)

pub two_small_after : (limit : ℕ) (f : ℤ → ℤ → Two) (t : List (List ℤ)) (a b : ℕ) (u v : List ℤ) (all : Bool) → limit ≤ 2 ^ 24 →
    length u ≡ 8 → length v ≡ 8 → TwoLanes f (get_or t a []) (get_or t b []) u v 8 → all ≡ true →
    AllHold (λ j. two_fit limit (f (at (get_or t a []) j) (at (get_or t b []) j))) 8 all →
    All (All IsSmall) t → All (All IsSmall) (set (set t a u) b v)
two_small_after limit f t a b u v all most u_size v_size made is fit small =
    two_rows_small limit f t a b (get_or t a []) (get_or t b []) u v most u_size v_size made
    (all_hold (λ j. two_fit limit (f (at (get_or t a []) j) (at (get_or t b []) j))) 8 all is fit) small

-- where the step is known to give some list for each column
pub two_hold : (limit : ℕ) (f g : ℤ → ℤ → Two) (t : List (List ℤ)) (a b : ℕ) → f ≡ g → a < length t → b < length t →
    FitsAll (λ xs. store_two limit xs a b (g (at xs a) (at xs b))) t →
    AllHold (λ j. two_fit limit (f (at (get_or t a []) j) (at (get_or t b []) j))) 8 true
two_hold limit f g t a b same a_low b_low fits = λ j low.
    let given = fits j low in
    ap (λ (h : ℤ → ℤ → Two). two_fit limit (h (at (get_or t a []) j) (at (get_or t b []) j))) same
    ∙ (ap (λ z. two_fit limit (g z (at (get_or t b []) j))) (sym (column_at j t a a_low))
    ∙ (ap (λ z. two_fit limit (g (at (column j t) a) z)) (sym (column_at j t b b_low))
    ∙ two_fits limit (column j t) given.0 a b (g (at (column j t) a) (at (column j t) b)) given.1))

-- the same of four rows
pub four_of_column : (f : ℤ → ℤ → ℤ → ℤ → Four) (t : List (List ℤ)) (a b c d : ℕ) →
    a < length t → b < length t → c < length t → d < length t → (j : ℕ) →
    f (at (column j t) a) (at (column j t) b) (at (column j t) c) (at (column j t) d)
    ≡ f (at (get_or t a []) j) (at (get_or t b []) j) (at (get_or t c []) j) (at (get_or t d []) j)
four_of_column f t a b c d a_low b_low c_low d_low j =
    ap (λ z. f z (at (column j t) b) (at (column j t) c) (at (column j t) d)) (column_at j t a a_low)
    ∙ (ap (λ z. f (at (get_or t a []) j) z (at (column j t) c) (at (column j t) d)) (column_at j t b b_low)
    ∙ (ap (λ z. f (at (get_or t a []) j) (at (get_or t b []) j) z (at (column j t) d)) (column_at j t c c_low)
    ∙ ap (f (at (get_or t a []) j) (at (get_or t b []) j) (at (get_or t c []) j)) (column_at j t d d_low)))

store_four_given : (limit : ℕ) (xs : List ℤ) (a b c d : ℕ) (w : Four) (p q r s : ℤ) → four_fit limit w ≡ true →
    p ≡ w.first → q ≡ w.second → r ≡ w.third → s ≡ w.fourth →
    store_four limit xs a b c d w ≡ Ok (set (set (set (set xs a p) b q) c r) d s)
store_four_given limit xs a b c d w p q r s fit p_is q_is r_is s_is = rw (fit, p_is, q_is, r_is, s_is) refl

pub column_set_four : (j : ℕ) (t : List (List ℤ)) (a b c d : ℕ) (p q r s : List ℤ) →
    column j (set (set (set (set t a p) b q) c r) d s) ≡ set (set (set (set (column j t) a (at p j)) b (at q j)) c (at r j)) d (at s j)
column_set_four j t a b c d p q r s =
    column_set j (set (set (set t a p) b q) c r) d s
    ∙ ap (λ z. set z d (at s j)) (column_set j (set (set t a p) b q) c r
    ∙ ap (λ z. set z c (at r j)) (column_set j (set t a p) b q
    ∙ ap (λ z. set z b (at q j)) (column_set j t a p)))

-- four rows of lanes, made of four rows of t
pub record FourMade (limit : ℕ) (f : ℤ → ℤ → ℤ → ℤ → Four) (t : List (List ℤ)) (a b c d : ℕ) (p q r s : List ℤ) (all : Bool) : Type 0 where
  pub a_low : a < length t
  pub b_low : b < length t
  pub c_low : c < length t
  pub d_low : d < length t
  pub made : FourLanes f (get_or t a []) (get_or t b []) (get_or t c []) (get_or t d []) p q r s 8
  pub fit : AllHold (λ j. four_fit limit (f (at (get_or t a []) j) (at (get_or t b []) j) (at (get_or t c []) j) (at (get_or t d []) j))) 8 all

four_all : (limit : ℕ) (f : ℤ → ℤ → ℤ → ℤ → Four) (t : List (List ℤ)) (a b c d : ℕ) (p q r s : List ℤ) (all : Bool) →
    FourMade limit f t a b c d p q r s all → all ≡ true → (j : ℕ) → j < 8 →
    four_fit limit (f (at (get_or t a []) j) (at (get_or t b []) j) (at (get_or t c []) j) (at (get_or t d []) j)) ≡ true
four_all limit f t a b c d p q r s all m is =
    all_hold (λ j. four_fit limit (f (at (get_or t a []) j) (at (get_or t b []) j) (at (get_or t c []) j) (at (get_or t d []) j))) 8 all is m.fit

pub four_ok : (limit : ℕ) (f : ℤ → ℤ → ℤ → ℤ → Four) (t : List (List ℤ)) (a b c d : ℕ) (p q r s : List ℤ) (all : Bool) →
    FourMade limit f t a b c d p q r s all → all ≡ true →
    (j : ℕ) → j < 8 →
    store_four limit (column j t) a b c d (f (at (column j t) a) (at (column j t) b) (at (column j t) c) (at (column j t) d))
    ≡ Ok (column j (set (set (set (set t a p) b q) c r) d s))
four_ok limit f t a b c d p q r s all m is j low =
    ap (store_four limit (column j t) a b c d) (four_of_column f t a b c d m.a_low m.b_low m.c_low m.d_low j)
    ∙ (store_four_given limit (column j t) a b c d (f (at (get_or t a []) j) (at (get_or t b []) j) (at (get_or t c []) j) (at (get_or t d []) j))
    (at p j) (at q j) (at r j) (at s j) (four_all limit f t a b c d p q r s all m is j low)
    (m.made.first j low) (m.made.second j low) (m.made.third j low) (m.made.fourth j low)
    ∙ ap Ok (sym (column_set_four j t a b c d p q r s)))

store_four_refused : (limit : ℕ) (xs : List ℤ) (a b c d : ℕ) (w : Four) → four_fit limit w ≡ false → store_four limit xs a b c d w ≡ Err TransformRange
store_four_refused limit xs a b c d w fails = rw fails refl

pub four_err : (limit : ℕ) (f : ℤ → ℤ → ℤ → ℤ → Four) (t : List (List ℤ)) (a b c d : ℕ) (p q r s : List ℤ) (all : Bool) →
    FourMade limit f t a b c d p q r s all → all ≡ false →
    (j : ℕ) × (j < 8) × (store_four limit (column j t) a b c d (f (at (column j t) a) (at (column j t) b) (at (column j t) c) (at (column j t) d)) ≡ Err TransformRange)
four_err limit f t a b c d p q r s all m is =
    let one = one_fails (λ j. four_fit limit (f (at (get_or t a []) j) (at (get_or t b []) j) (at (get_or t c []) j) (at (get_or t d []) j))) 8 all is m.fit in (
      one.0,
      one.1,
      ap (store_four limit (column one.0 t) a b c d) (four_of_column f t a b c d m.a_low m.b_low m.c_low m.d_low one.0)
          ∙ store_four_refused limit (column one.0 t) a b c d _ one.2,
    )

pub four_small_after : (limit : ℕ) (f : ℤ → ℤ → ℤ → ℤ → Four) (t : List (List ℤ)) (a b c d : ℕ) (p q r s : List ℤ) (all : Bool) →
    limit ≤ 2 ^ 24 → length p ≡ 8 → length q ≡ 8 → length r ≡ 8 → length s ≡ 8 → FourMade limit f t a b c d p q r s all → all ≡ true →
    All (All IsSmall) t → All (All IsSmall) (set (set (set (set t a p) b q) c r) d s)
four_small_after limit f t a b c d p q r s all most p_size q_size r_size s_size m is small =
    let each = λ (j : ℕ) (low : j < 8). four_small (2 ^ 24) limit (f (at (get_or t a []) j) (at (get_or t b []) j) (at (get_or t c []) j) (at (get_or t d []) j)) most
    (four_all limit f t a b c d p q r s all m is j low) in
    let p_small : All IsSmall p = lanes_small p p_size (λ j low. rw (m.made.first j low) (each j low).0) in
    let q_small : All IsSmall q = lanes_small q q_size (λ j low. rw (m.made.second j low) (each j low).1) in
    let r_small : All IsSmall r = lanes_small r r_size (λ j low. rw (m.made.third j low) (each j low).2) in
    let s_small : All IsSmall s = lanes_small s s_size (λ j low. rw (m.made.fourth j low) (each j low).3) in
    All-set (All IsSmall) _ d s s_small (All-set (All IsSmall) _ c r r_small (All-set (All IsSmall) _ b q q_small (All-set (All IsSmall) t a p p_small small)))

-- by the angles that the step names
pub wide_made : (limit first second k m : ℕ) (t : List (List ℤ)) (a b c d : ℕ) (p q r s : List ℤ) (all : Bool) → k ≡ first → m ≡ second →
    a < length t → b < length t → c < length t → d < length t →
    FourLanes (rotated_wide limit k m) (get_or t a []) (get_or t b []) (get_or t c []) (get_or t d []) p q r s 8 →
    AllHold (λ j. four_fit limit (rotated_wide limit k m (at (get_or t a []) j) (at (get_or t b []) j) (at (get_or t c []) j) (at (get_or t d []) j))) 8 all →
    FourMade limit (rotated_wide limit first second) t a b c d p q r s all
wide_made limit first second k m t a b c d p q r s all is_first is_second a_low b_low c_low d_low made fit =
    let same : rotated_wide limit k m ≡ rotated_wide limit first second =
    ap (λ z. rotated_wide limit z m) is_first ∙ ap (rotated_wide limit first) is_second in
    let all_made : FourMade limit (rotated_wide limit k m) t a b c d p q r s all =
    record { a_low = a_low; b_low = b_low; c_low = c_low; d_low = d_low; made = made; fit = fit } in
    subst (λ f. FourMade limit f t a b c d p q r s all) same all_made

-- of one
pub one_ok : (limit : ℕ) (f : ℤ → ℤ) (t : List (List ℤ)) (a : ℕ) (u : List ℤ) (all : Bool) → a < length t →
    ((j : ℕ) → j < 8 → at u j ≡ f (at (get_or t a []) j)) → all ≡ true → AllHold (λ j. fits limit (f (at (get_or t a []) j))) 8 all →
    (j : ℕ) → j < 8 → store_one limit (column j t) a (f (at (column j t) a)) ≡ Ok (column j (set t a u))
one_ok limit f t a u all a_low made is fit j low =
    let value : f (at (column j t) a) ≡ at u j = ap f (column_at j t a a_low) ∙ sym (made j low) in
    let test : fits limit (at u j) ≡ true =
    ap (fits limit) (made j low) ∙ all_hold (λ j. fits limit (f (at (get_or t a []) j))) 8 all is fit j low in
    ap (store_one limit (column j t) a) value ∙ (rw test refl ∙ ap Ok (sym (column_set j t a u)))

pub one_small_after : (limit : ℕ) (f : ℤ → ℤ) (t : List (List ℤ)) (a : ℕ) (u : List ℤ) (all : Bool) → limit ≤ 2 ^ 24 → length u ≡ 8 →
    ((j : ℕ) → j < 8 → at u j ≡ f (at (get_or t a []) j)) → all ≡ true → AllHold (λ j. fits limit (f (at (get_or t a []) j))) 8 all →
    All (All IsSmall) t → All (All IsSmall) (set t a u)
one_small_after limit f t a u all most size made is fit small =
    let u_small : All IsSmall u = lanes_small u size (λ j low. rw (made j low) (fits_small (2 ^ 24) limit (f (at (get_or t a []) j)) most
    (all_hold (λ j. fits limit (f (at (get_or t a []) j))) 8 all is fit j low))) in
    All-set (All IsSmall) t a u u_small small

-- a permutation of rows
pub row_small : (t : List (List ℤ)) (place : ℕ) → All (All IsSmall) t → All IsSmall (get_or t place [])
row_small t place small = elim (cases_lt place (length t)) [
  | inl low ↦ small place [] low
  | inr past ↦ rw (get_or_past t place [] past) (λ k d low. absurd (omega arith))
]

column_anywhere : (j : ℕ) (t : List (List ℤ)) (place : ℕ) → at (get_or t place []) j ≡ at (column j t) place
column_anywhere j t place = elim (cases_lt place (length t)) [
  | inl low ↦ sym (column_at j t place low)
  | inr past ↦ rw (get_or_past t place [] past, get_or_past (column j t) place (pos 0) (rw (length-map t (λ row. at row j)) past)) refl
]

same_places : (j : ℕ) (t : List (List ℤ)) (places : List ℕ) →
    map (λ row. at row j) (map (λ place. get_or t place []) places) ≡ map (λ place. at (column j t) place) places
same_places j t [] = refl
same_places j t (place ∷ places) = ap (λ z. z ∷ map (λ row. at row j) (map (λ p. get_or t p []) places)) (column_anywhere j t place)
    ∙ ap (λ zs. at (column j t) place ∷ zs) (same_places j t places)

pub gathered_column : (j : ℕ) (t : List (List ℤ)) (order : List ℕ) → permuted order (column j t) ≡ column j (gathered order t)
gathered_column j t order =
    ap (λ n. map (λ place. at (column j t) place) (take n order)) (length-map t (λ row. at row j)) ∙ sym (same_places j t (take (length t) order))

pub gathered_small : (t : List (List ℤ)) (order : List ℕ) → All (All IsSmall) t → All (All IsSmall) (gathered order t)
gathered_small t order small = All-map (All IsSmall) (λ place. get_or t place []) (take (length t) order)
    (λ k d low. row_small t (get_or (take (length t) order) k d) small)

-- rows that are a transform of lists as long as the columns
pub gives_of_size : (n : ℕ) (f g : List ℤ → Result (List ℤ) Rule) (r : Result (Unit {0}) Rule) (old new : List (List ℤ)) → length old ≡ n →
    ((xs : List ℤ) → length xs ≡ n → f xs ≡ g xs) → GivesColumns f r old new → GivesColumns g r old new
gives_of_size n f g (Ok _) old new size same gives = λ j low. sym (same (column j old) (length-map old (λ row. at row j) ∙ size)) ∙ gives j low
gives_of_size n f g (Err rule) old new size same gives = (gives.0, gives.1, sym (same (column gives.0 old) (length-map old (λ row. at row gives.0) ∙ size)) ∙ gives.2)
