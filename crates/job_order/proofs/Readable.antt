-- The frames that can still be read.
use Rattle.std.proofs.Common.{◌≡◌, ℕ, zero, suc, ◌+◌, ◌-◌, ◌<◌, ◌≤◌, ◌⊎◌, inl, inr, ⊎_elim, ◌∙◌, subst, List, ◌++◌, length, arith, length-append, Contains}
use Rattle.std.specs.List.{range_with_len}
use Rattle.std.proofs.lemmas.Bool.{cases_lt}
use Rattle.std.proofs.lemmas.List.FromFn.{length-range_with_len, get_or-range_with_len}
use Rattle.std.proofs.lemmas.List.Elements.{Contains-append_left, Contains-append_right}
use Rattle.vp9_types.specs.declared.job.JobName.TheVariants.{Head, Write}
use Rattle.job_order.specs.Worlds.{Rules, WorldState, IsFinished, IsReady}
use Rattle.job_order.specs.Truths.{Truth, AreSlots}
use Rattle.job_order.specs.Sound.{MayRead, CanBeRead}
use Rattle.job_order.proofs.Counts.{Counts, has_room}

in_window : (k n g : ℕ) → k ≤ g → g < k + n → Contains (range_with_len k n) g
in_window k n g low high =
    let inside : g - k < n = omega (arith, low, high) in
    (g - k, let l = length-range_with_len k n in omega (arith, l, inside), get_or-range_with_len k n (g - k) g inside ∙ (let z : k + (g - k) ≡ g = omega (arith, low) in z))

-- what a slot holds before a later frame, it held before, or it is a frame since
since : (slots : ℕ → List ℕ) → AreSlots slots → (n k g : ℕ) → Contains (slots (k + n)) g → Contains (slots k) g ⊎ (k ≤ g)
since slots h zero k g c = inl (subst (λ i. Contains (slots i) g) (let z : k + 0 ≡ k = omega arith in z) c)
since slots h (suc n) k g c =
    ⊎_elim
    (λ (e : g ≡ k + n). inr (let z : k ≤ g = omega (arith, e) in z))
    (λ (e : Contains (slots (k + n)) g). since slots h n k g e)
    (h.next (k + n) g (subst (λ i. Contains (slots i) g) (let z : k + suc n ≡ k + n + 1 = omega arith in z) c))

module _ {X : Type 0} (m : Rules X) (t : Truth X) (w : WorldState X) (wide : 2 ≤ w.window) (ok : AreSlots t.slots) (c : Counts {X = X} w.window w.finished w.segments) where
  not_yet : (f : ℕ) → ¬ IsFinished w.finished (Write f) → c.writes ≤ f
  not_yet f new = ⊎_elim (λ (less : f < c.writes). absurd (new (c.write.all f less))) (λ (le : c.writes ≤ f). le) (cases_lt f c.writes)

  begun : (g : ℕ) → IsFinished w.finished (Head g) ⊎ IsReady m w (Head g) → g < c.writes + w.window
  begun g either =
      ⊎_elim
      (λ (e : IsFinished w.finished (Head g)). let less = c.head.below g e in let room = c.room in let z : g < c.writes + w.window = omega (arith, less, room) in z)
      (λ (r : IsReady m w (Head g)). has_room m w wide g r c)
      either

  recent : (g : ℕ) → g < c.writes + w.window → c.writes ≤ g → Contains (t.slots c.writes ++ range_with_len c.writes w.window) g
  recent g less le = Contains-append_right (t.slots c.writes) (range_with_len c.writes w.window) g (in_window c.writes w.window g le less)

  readable_in : (g f : ℕ) → g < c.writes + w.window → c.writes ≤ f → MayRead t f g → Contains (t.slots c.writes ++ range_with_len c.writes w.window) g
  readable_in g f less le may =
      ⊎_elim
      (λ (e : g ≡ f). recent g less (let z : c.writes ≤ g = omega (arith, e, le) in z))
      (λ (e : Contains (t.slots f) g).
      ⊎_elim
      (λ (s : Contains (t.slots c.writes) g). Contains-append_left (t.slots c.writes) (range_with_len c.writes w.window) g s)
      (λ (later : c.writes ≤ g). recent g less later)
      (since t.slots ok (f - c.writes) c.writes g (subst (λ i. Contains (t.slots i) g) (let z : f ≡ c.writes + (f - c.writes) = omega (arith, le) in z) e)))
      may

  pub few_readable : (frames : List ℕ) × (length frames ≤ w.window + 8) × ((g : ℕ) → CanBeRead m t w g → Contains frames g)
  few_readable = (
    t.slots c.writes ++ range_with_len c.writes w.window,
    (let l = length-append (t.slots c.writes) (range_with_len c.writes w.window) in let r = length-range_with_len c.writes w.window in let e = ok.eight c.writes in omega (arith, l, r, e)),
    λ g can. readable_in g can.1.0 (begun g can.0) (not_yet can.1.0 can.1.1) can.1.2,
  )
