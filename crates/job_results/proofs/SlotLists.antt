-- The numbers of frames that slots hold: no more than eight, of frames before, and each frame changes them to itself alone.
use Rattle.std.proofs.Common.{◌≡◌, ◌≤◌, ◌<◌, ◌+◌, ◌-◌, ℕ, zero, suc, ◌⊎◌, inl, inr, ⊎_elim, Bool, true, false, List, [], ◌∷◌, length, ap, sym, subst, refl, ◌∙◌, arith}
use Rattle.std.proofs.lemmas.Bool.{ltb-false, ltb-true}
use Rattle.std.specs.Prelude.{All, Contains, get_or, nat_lt, ◌/◌, ◌%◌, ◌==◌, IfSome, Option, Some, None, if◌then◌else◌}
use Rattle.frame_headers.specs.HeaderState.{refreshed}
use Rattle.frame_output.specs.declared.rendering.Format.{Format}
use Rattle.job_order.specs.Truths.{AreSlots}
use Rattle.numbered_frames.specs.Coded.{IsFrameBefore}
use Rattle.numbered_frames.specs.Films.{Film}
use Rattle.numbered_frames.specs.FrameNumbers.{before}
use Rattle.numbered_frames.proofs.SlotFrames.{slots_hold}
use Rattle.numbered_frames.proofs.SlotNumbers.{AreNext, eight_slots, next_slots}
use Rattle.numbered_frames.proofs.Ways.{passed}
use Rattle.numbered_frames.specs.seq_decoder.DecoderState.{Picture}
use Rattle.numbered_frames.specs.seq_decoder.Outputs.{Putting}
use Rattle.job_results.specs.Groups.{numbers_in as numbers_from}
use Rattle.job_results.specs.Slots.{numbers_in, slots_of}

---- Lists ----

in_none : {A : Type 0} (x : A) → Contains [] x → ⊥
in_none x h = let low = h.1 in omega (arith, low)

pub here : {A : Type 0} (x : A) (xs : List A) → Contains (x ∷ xs) x
here x xs = (0, omega arith, refl)

pub there : {A : Type 0} (y : A) (ys : List A) (x : A) → Contains ys x → Contains (y ∷ ys) x
there y ys x h = (suc h.0, (let low = h.1 in omega (arith, low)), h.2)

either_at : {A : Type 0} (y : A) (ys : List A) (x : A) (k : ℕ) → k < length (y ∷ ys) → get_or (y ∷ ys) k x ≡ x → (y ≡ x) ⊎ Contains ys x
either_at y ys x zero low is = inl is
either_at y ys x (suc k) low is = inr (k, omega (arith, low), is)

either : {A : Type 0} (y : A) (ys : List A) (x : A) → Contains (y ∷ ys) x → (y ≡ x) ⊎ Contains ys x
either y ys x h = either_at y ys x h.0 h.1 h.2

---- What slots hold ----

few : (slots : List (Option Picture)) → length (numbers_in slots) ≤ length slots
few [] = omega arith
few (None ∷ slots) = let low = few slots in omega (arith, low)
few (Some picture ∷ slots) = let low = few slots in omega (arith, low)

earlier : (format : Format) (film : Film) (f g : ℕ) (slots : List (Option Picture)) → All (λ slot. IfSome slot (IsFrameBefore format film f)) slots → Contains (numbers_in slots) g → g < f
earlier format film f g [] all h = absurd (in_none g h)
earlier format film f g (None ∷ slots) all h = earlier format film f g slots (λ k d low. all (suc k) d (omega (arith, low))) h
earlier format film f g (Some picture ∷ slots) all h =
    ⊎_elim (λ (is : picture.frame ≡ g). let first : IsFrameBefore format film f picture = all 0 (Some picture) (omega arith) in let low = first.earlier in omega (arith, is, low))
    (λ (rest : Contains (numbers_in slots) g). earlier format film f g slots (λ k d low. all (suc k) d (omega (arith, low))) rest)
    (either picture.frame (numbers_in slots) g h)

pub slot_in : (slots : List (Option Picture)) (slot : ℕ) (picture : Picture) → get_or slots slot None ≡ Some picture → Contains (numbers_in slots) picture.frame
slot_in [] slot picture is = absurd cc
slot_in (None ∷ slots) zero picture is = absurd cc
slot_in (Some old ∷ slots) zero picture is =
    let same : old ≡ picture = cc in
    subst (λ (p : Picture). Contains (old.frame ∷ numbers_in slots) p.frame) same (here old.frame (numbers_in slots))
slot_in (None ∷ slots) (suc n) picture is = slot_in slots n picture is
slot_in (Some old ∷ slots) (suc n) picture is = there old.frame (numbers_in slots) picture.frame (slot_in slots n picture is)

also : (slot : Option Picture) (slots : List (Option Picture)) (g : ℕ) → Contains (numbers_in slots) g → Contains (numbers_in (slot ∷ slots)) g
also None slots g h = h
also (Some picture) slots g h = there picture.frame (numbers_in slots) g h

lifted : (f : ℕ) (slot : Option Picture) (slots : List (Option Picture)) (g : ℕ) → (f ≡ g) ⊎ Contains (numbers_in slots) g → (f ≡ g) ⊎ Contains (numbers_in (slot ∷ slots)) g
lifted f slot slots g h = ⊎_elim (λ (is : f ≡ g). inl is) (λ (rest : Contains (numbers_in slots) g). inr (also slot slots g rest)) h

one_next : (taken : Bool) (picture : Picture) (slot : Option Picture) (slots new : List (Option Picture)) (g : ℕ)
    → (Contains (numbers_in new) g → (picture.frame ≡ g) ⊎ Contains (numbers_in slots) g)
    → Contains (numbers_in ((if taken then Some picture else slot) ∷ new)) g → (picture.frame ≡ g) ⊎ Contains (numbers_in (slot ∷ slots)) g
one_next true picture slot slots new g rest h =
    ⊎_elim (λ (is : picture.frame ≡ g). inl is) (λ (more : Contains (numbers_in new) g). lifted picture.frame slot slots g (rest more)) (either picture.frame (numbers_in new) g h)
one_next false picture None slots new g rest h = rest h
one_next false picture (Some old) slots new g rest h =
    ⊎_elim (λ (is : old.frame ≡ g). inr (subst (λ k. Contains (old.frame ∷ numbers_in slots) k) is (here old.frame (numbers_in slots))))
    (λ (more : Contains (numbers_in new) g). lifted picture.frame (Some old) slots g (rest more)) (either old.frame (numbers_in new) g h)

refreshed_next : (flags : ℕ) (picture : Picture) (slots : List (Option Picture)) (g : ℕ) → Contains (numbers_in (refreshed flags picture slots)) g → (picture.frame ≡ g) ⊎ Contains (numbers_in slots) g
refreshed_next flags picture [] g h = inr h
refreshed_next flags picture (slot ∷ slots) g h =
    one_next (flags % 2 == 1) picture slot slots (refreshed (flags / 2) picture slots) g (λ more. refreshed_next (flags / 2) picture slots g more) h

are_next : (f g : ℕ) (old new : List (Option Picture)) → AreNext f old new → Contains (numbers_in new) g → (g ≡ f) ⊎ Contains (numbers_in old) g
are_next f g old new next h =
    ⊎_elim (λ (same : new ≡ old). inr (subst (λ (xs : List (Option Picture)). Contains (numbers_in xs) g) same h))
    (λ (x : (flags : ℕ) × (picture : Picture) × (picture.frame ≡ f) × (new ≡ refreshed flags picture old)).
    ⊎_elim (λ (is : x.1.frame ≡ g). inl (sym is ∙ x.2)) (λ (rest : Contains (numbers_in old) g). inr rest)
    (refreshed_next x.0 x.1 old g (subst (λ (xs : List (Option Picture)). Contains (numbers_in xs) g) x.3 h)))
    next

---- Of a film ----

module _ (format : Format) (film : Film) where
  eight_of : (f : ℕ) (from : Option Putting) → before format film f ≡ from → length (slots_of from) ≤ 8
  eight_of f None is = omega arith
  eight_of f (Some p) is = let low = few p.state.slots in let many = eight_slots format film f p is in omega (arith, low, many)

  earlier_of : (f g : ℕ) (from : Option Putting) → before format film f ≡ from → Contains (slots_of from) g → g < f
  earlier_of f g None is h = absurd (in_none g h)
  earlier_of f g (Some p) is h = earlier format film f g p.state.slots (slots_hold format film f p is) h

  next_of : (f g : ℕ) (from to : Option Putting) → before format film f ≡ from → before format film (suc f) ≡ to → Contains (slots_of to) g → (g ≡ f) ⊎ Contains (slots_of from) g
  next_of f g from None old new h = absurd (in_none g h)
  next_of f g None (Some q) old new h = let way = passed format film f q new in let none : None ≡ Some way.kept = sym old ∙ way.before in absurd cc
  next_of f g (Some p) (Some q) old new h = are_next f g p.state.slots q.state.slots (next_slots format film f p q old new) h

  pub film_slots : AreSlots (λ f. slots_of (before format film f))
  film_slots = record {
    eight = λ f. eight_of f (before format film f) refl;
    earlier = λ f g h. earlier_of f g (before format film f) refl h;
    next = λ f g h. next_of f g (before format film f) (before format film (suc f)) refl refl
        (subst (λ i. Contains (slots_of (before format film i)) g) (let one : f + 1 ≡ suc f = omega arith in one) h);
  }

---- Of a group ----

fewer : (n : ℕ) (xs : List ℕ) → length (numbers_from n xs) ≤ length xs
fewer n [] = omega arith
fewer n (x ∷ xs) = fewer_by n x xs (nat_lt x n) (fewer n xs)
  where
    fewer_by : (n x : ℕ) (xs : List ℕ) (low : Bool) → length (numbers_from n xs) ≤ length xs → length (if low then numbers_from n xs else (x - n) ∷ numbers_from n xs) ≤ suc (length xs)
    fewer_by n x xs true h = omega (arith, h)
    fewer_by n x xs false h = omega (arith, h)

pub in_film_too : (n : ℕ) (xs : List ℕ) (g : ℕ) → Contains (numbers_from n xs) g → Contains xs (n + g)
in_film_too n [] g h = absurd (in_none g h)
in_film_too n (x ∷ xs) g h = by n x xs g (nat_lt x n) refl (λ more. in_film_too n xs g more) h
  where
    by : (n x : ℕ) (xs : List ℕ) (g : ℕ) (low : Bool) → nat_lt x n ≡ low → (Contains (numbers_from n xs) g → Contains xs (n + g))
        → Contains (if low then numbers_from n xs else (x - n) ∷ numbers_from n xs) g → Contains (x ∷ xs) (n + g)
    by n x xs g true is rest h = there x xs (n + g) (rest h)
    by n x xs g false is rest h =
        ⊎_elim (λ (same : x - n ≡ g). subst (λ k. Contains (x ∷ xs) k) (let low = ltb-false x n is in let at : x ≡ n + g = omega (arith, low, same) in at) (here x xs))
        (λ (more : Contains (numbers_from n xs) g). there x xs (n + g) (rest more)) (either (x - n) (numbers_from n xs) g h)

pub in_group_too : (n : ℕ) (xs : List ℕ) (g : ℕ) → Contains xs (n + g) → Contains (numbers_from n xs) g
in_group_too n [] g h = absurd (in_none (n + g) h)
in_group_too n (x ∷ xs) g h = by n x xs g (nat_lt x n) refl (λ more. in_group_too n xs g more) (either x xs (n + g) h)
  where
    by : (n x : ℕ) (xs : List ℕ) (g : ℕ) (low : Bool) → nat_lt x n ≡ low → (Contains xs (n + g) → Contains (numbers_from n xs) g) → (x ≡ n + g) ⊎ Contains xs (n + g)
        → Contains (if low then numbers_from n xs else (x - n) ∷ numbers_from n xs) g
    by n x xs g true is rest h = ⊎_elim (λ (same : x ≡ n + g). let low = ltb-true x n is in absurd (omega (arith, low, same))) (λ (more : Contains xs (n + g)). rest more) h
    by n x xs g false is rest h =
        ⊎_elim (λ (same : x ≡ n + g). subst (λ k. Contains ((x - n) ∷ numbers_from n xs) k) (let at : x - n ≡ g = omega (arith, same) in at) (here (x - n) (numbers_from n xs)))
        (λ (more : Contains xs (n + g)). there (x - n) (numbers_from n xs) g (rest more)) h

pub group_slots : (n : ℕ) (format : Format) (film : Film) → AreSlots (λ f. numbers_from n (slots_of (before format film (n + f))))
group_slots n format film =
    let all = film_slots format film in
    record {
      eight = λ f. let low = fewer n (slots_of (before format film (n + f))) in let eight = all.eight (n + f) in omega (arith, low, eight);
      earlier = λ f g h. let low = all.earlier (n + f) (n + g) (in_film_too n (slots_of (before format film (n + f))) g h) in omega (arith, low);
      next = λ f g h.
          ⊎_elim (λ (is : n + g ≡ n + f). inl (omega (arith, is))) (λ (rest : Contains (slots_of (before format film (n + f))) (n + g)). inr (in_group_too n (slots_of (before format film (n + f))) g rest))
          (all.next (n + f) (n + g)
          (subst (λ i. Contains (slots_of (before format film i)) (n + g)) (let one : n + (f + 1) ≡ (n + f) + 1 = omega arith in one) (in_film_too n (slots_of (before format film (n + (f + 1)))) g h)));
    }
