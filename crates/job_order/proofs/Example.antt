-- The rules of the example are true.
use Rattle.std.proofs.Common.{◌≡◌, ℕ, zero, suc, ◌+◌, ◌-◌, ◌<◌, ◌≤◌, ◌⊎◌, inl, ⊎_elim, refl, sym, ◌∙◌, ap, subst, Bool, true, false, if◌then◌else◌, nat_lt, List, [], ◌∷◌, length, get_or, Some, None, arith, All, Contains}
use Rattle.std.proofs.lemmas.Bool.{ltb-true, ltb-false}
use Rattle.std.proofs.lemmas.Option.{same_Some}
use Rattle.std.proofs.lemmas.List.Elements.{All-nil, All-cons}
use Rattle.vp9_types.specs.declared.job.JobName.{JobName}
use Rattle.vp9_types.specs.declared.job.JobName.TheVariants.{Head, Column, Close, Rows, Filter, Write, End}
use Rattle.job_order.specs.declared.segment.Shown.{Shown}
use Rattle.job_order.specs.declared.event.Done.{Done}
use Rattle.job_order.specs.Needs.{IsInSpan, HasBand}
use Rattle.job_order.specs.Worlds.{Building, WorldState, HasResult, IsReady, IsBehind, direct, Does}
use Rattle.job_order.specs.Truths.{AreTrue, AreSlots, IsRightBuilding}
use Rattle.job_order.specs.Sound.{IsSound, AreTotal, AreSettled, frame_of}
use Rattle.job_order.specs.Example.{example_rules, example_truth, two_rows, TakesWrite, both_before, reads_before}

abbrev slots_if : ℕ → Bool → List ℕ
slots_if f b = if b then (f - 1) ∷ [] else []

few : (f : ℕ) (b : Bool) → length (slots_if f b) ≤ 8
few f true = omega arith
few f false = omega arith

only_one : (xs : ℕ) (g k : ℕ) → k < 1 → get_or (xs ∷ []) k g ≡ g → xs ≡ g
only_one xs g zero less e = e
only_one xs g (suc k) less e = absurd (omega (arith, less))

none_in : (g k : ℕ) → k < 0 → ⊥
none_in g k less = omega (arith, less)

below_it : (f g : ℕ) (b : Bool) → (b ≡ true → 0 < f) → Contains (slots_if f b) g → (0 < f) × (g ≡ f - 1)
below_it f g true some c = (some refl, sym (only_one (f - 1) g c.0 c.1 c.2))
below_it f g false some c = absurd (none_in g c.0 c.1)

in_it : (f : ℕ) (b : Bool) → (b ≡ false → f ≤ 0) → 0 < f → Contains (slots_if f b) (f - 1)
in_it f true none less = (0, omega arith, refl)
in_it f false none less = let l = none refl in absurd (omega (arith, l, less))

pub in_slot : (f g : ℕ) → Contains (example_truth.slots f) g → (0 < f) × (g ≡ f - 1)
in_slot f g c = below_it f g (nat_lt 0 f) (λ e. ltb-true 0 f e) c

example_slots : AreSlots example_truth.slots
example_slots =
    record {
      eight = λ f. few f (nat_lt 0 f);
      earlier = λ f g c. let s = in_slot f g c in omega (arith, s.0, s.1);
      next = λ f g c. let s = in_slot (f + 1) g c in inl (omega (arith, s.1));
    }

right_one : (f x : ℕ) (b : Building) → x ≡ f → two_rows x ≡ Some b → IsRightBuilding example_truth f b
right_one f x b is e =
    let same : record { columns = 2; rows = 2; shown = Some (record { frame = x; bands = 2 }) } ≡ b = same_Some _ b e in
    subst (λ (y : Building). IsRightBuilding example_truth f y) same
    (refl, λ shown s. let y = same_Some (record { frame = x; bands = 2 }) shown s in (inl (sym (ap (λ (z : Shown). z.frame) y) ∙ is), sym (ap (λ (z : Shown). z.bands) y)))

read_if : (f g band : ℕ) (b : Bool) → (b ≡ true → 0 < f) → IsInSpan (if b then Some (record { frame = f - 1; first = 0; last = 1 }) else None) g band → (0 < f) × (f - 1 ≡ g) × (band < 2)
read_if f g band true some h = (some refl, h.0, (let l = h.2 in omega (arith, l)))
read_if f g band false some h = absurd h

none_read : (g band : ℕ) → HasBand (None ∷ None ∷ []) g band → ⊥
none_read g band h = ⊎_elim (λ (x : ⊥). x) (λ (y : ⊥ ⊎ ⊥). ⊎_elim (λ (x : ⊥). x) (λ (x : ⊥). x) y) h

right_reads : (f c r g band : ℕ) → HasBand (reads_before (Rows f c r)) g band → Contains (example_truth.slots f) g × (band < 2)
right_reads f c r g band h =
    let x = read_if f g band (nat_lt 0 f) (λ e. ltb-true 0 f e) (⊎_elim (λ (x : IsInSpan (both_before f) g band). x) (λ (y : HasBand (None ∷ None ∷ []) g band). absurd (none_read g band y)) h) in
    (subst (λ i. Contains (example_truth.slots f) i) x.1 (in_it f (nat_lt 0 f) (λ e. ltb-false 0 f e) x.0), x.2)

not_true : false ≡ true → ⊥
not_true e = cc

pub example_true : AreTrue example_rules example_truth
example_true =
    record {
      slots = example_slots;
      right = λ job uses x are d. d.0;
      builds = λ f x b is e. right_one f x b is e;
      reads = λ f c r results g band are h. right_reads f c r g band h;
      text = λ f x is. ap (λ i. i ∷ []) is;
      hands_on = λ f uses y d. (f, d.1 f refl, λ bad. absurd (not_true bad));
    }

module _ (w : WorldState ℕ) where
  abbrev Uses : JobName → List (Done ℕ) → Type 0
  Uses job uses = All (λ d. HasResult w.finished d.job d.result × IsBehind example_rules w job d.job) uses

  does_plain : (job : JobName) → TakesWrite job [] → Does example_rules w job (frame_of job)
  does_plain job takes = ([], All-nil (λ (d : Done ℕ). HasResult w.finished d.job d.result × IsBehind example_rules w job d.job), (refl, takes))

  does_write : (f : ℕ) → IsSound example_rules example_truth w → IsReady example_rules w (Write f) → Does example_rules w (Write f) f
  does_write zero s r = ([], All-nil (λ (d : Done ℕ). HasResult w.finished d.job d.result × IsBehind example_rules w (Write 0) d.job), (refl, λ g e. absurd (omega (arith, e))))
  does_write (suc g) s r =
      let step : suc g ≡ g + 1 = omega arith in
      let before = r.needs (Write g) step in
      let same : before.0 ≡ g = s.right (Write g) before.0 before.1 in (
        record { job = Write g; result = g } ∷ [],
        All-cons (λ (d : Done ℕ). HasResult w.finished d.job d.result × IsBehind example_rules w (Write (suc g)) d.job) (record { job = Write g; result = g }) []
            (subst (λ y. HasResult w.finished (Write g) y) same before.1, direct (Write (suc g)) (Write g) step)
            (All-nil (λ (d : Done ℕ). HasResult w.finished d.job d.result × IsBehind example_rules w (Write (suc g)) d.job)),
        (refl, λ k e. subst (λ i. Contains {X = Done ℕ} (record { job = Write g; result = g } ∷ []) (record { job = Write i; result = i })) (let z : g ≡ k = omega (arith, e) in z) (0, omega arith, refl)),
      )

pub example_does : (w : WorldState ℕ) (job : JobName) → IsSound example_rules example_truth w → IsReady example_rules w job → Does example_rules w job (frame_of job)
example_does w (Write f) s r = does_write w f s r
example_does w (Head f) s r = does_plain w (Head f) tt
example_does w (Column f c) s r = does_plain w (Column f c) tt
example_does w (Close f) s r = does_plain w (Close f) tt
example_does w (Rows f c q) s r = does_plain w (Rows f c q) tt
example_does w (Filter f q) s r = does_plain w (Filter f q) tt
example_does w (End f) s r = does_plain w (End f) tt

pub example_settled : AreSettled example_rules example_truth
example_settled w e f c r s a done = refl

pub example_total : AreTotal example_rules example_truth
example_total w job s r = (frame_of job, example_does w job s r)
