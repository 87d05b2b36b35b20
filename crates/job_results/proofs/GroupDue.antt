-- What is due in a group of frames is due in the film.
use Rattle.std.proofs.Common.{◌≡◌, inl, inr, ◌<◌, ◌≤◌, ℕ, zero, suc, ◌+◌, ◌-◌, List, ◌++◌, ap, sym, subst, refl, ◌∙◌, arith, append_assoc}
use Rattle.std.specs.Prelude.{Some, None, length}
use Rattle.std.proofs.lemmas.Option.{slice_get_within}
use Rattle.std.proofs.lemmas.List.{append-nil}
use Rattle.vp9_types.specs.declared.job.JobName.{JobName}
use Rattle.vp9_types.specs.declared.job.JobName.TheVariants.{Head, Column, Close, Rows, Filter, Write, End}
use Rattle.frame_output.specs.declared.rendering.Format.{Format}
use Rattle.job_order.specs.Sound.{frame_of, texts_below}
use Rattle.job_order.specs.Worlds.{Building}
use Rattle.job_crew.specs.Runs.{IsBuiltSo, IsDue, IsLastOne, IsParsedSo}
use Rattle.numbered_frames.specs.Films.{Film}
use Rattle.numbered_frames.proofs.Ways.{passed}
use Rattle.job_results.proofs.Later.{coded_within}
use Rattle.job_results.specs.JobResults.{IsClose, IsHead}
use Rattle.job_results.specs.Groups.{IsCounted, IsNoEnd, builds_in, group_rules, group_truth, in_film, numbered, shown_in}
use Rattle.job_results.specs.Meaning.{builds, decode_rules, decode_truth, parses, shown_as}
use Rattle.job_results.specs.declared.result.JobResult.{JobResult}
use Rattle.job_results.specs.declared.result.JobResult.TheVariants as result

-- what a close's result says, but for what is shown
told : (n : ℕ) (x : JobResult) (b : Building) → builds_in n x ≡ Some b → (c : Building) × (builds x ≡ Some c) × (c.columns ≡ b.columns) × (c.rows ≡ b.rows)
told n (result.Begun b0) b is = absurd cc
told n (result.Existing slot) b is = absurd cc
told n (result.Column c0) b is = absurd cc
told n (result.Closed k) b is = let made : Building = record { columns = k.value.columns; rows = k.value.rows; shown = shown_in n k.value.shown } in let same : made ≡ b = cc in
    (record { columns = k.value.columns; rows = k.value.rows; shown = shown_as k.value.shown }, refl, ap (λ (c : Building). c.columns) same, ap (λ (c : Building). c.rows) same)
told n (result.Strip planes) b is = absurd cc
told n (result.Filtered planes) b is = absurd cc
told n result.Starved b is = absurd cc
told n result.Written b is = absurd cc
told n (result.Refused fault) b is = absurd cc
told n (result.Ended o) b is = absurd cc

pub told_none : (n : ℕ) (x : JobResult) → builds_in n x ≡ None → builds x ≡ None
told_none n (result.Begun b0) is = refl
told_none n (result.Existing slot) is = refl
told_none n (result.Column c0) is = refl
told_none n (result.Closed k) is = absurd cc
told_none n (result.Strip planes) is = refl
told_none n (result.Filtered planes) is = refl
told_none n result.Starved is = refl
told_none n result.Written is = refl
told_none n (result.Refused fault) is = refl
told_none n (result.Ended o) is = refl

module _ (n : ℕ) (format : Format) (film : Film) where
  built : (f : ℕ) (b : Building) → IsBuiltSo (group_rules n format film) (group_truth n format film) f b
      → (c : Building) × IsBuiltSo (decode_rules format film) (decode_truth format film) (n + f) c × (c.columns ≡ b.columns) × (c.rows ≡ b.rows)
  built f b h = let s = told n h.0 b h.2 in (s.0, (h.0, h.1, s.1), s.2, s.3)

  last : (f : ℕ) → IsLastOne (group_rules n format film) (group_truth n format film) f → IsLastOne (decode_rules format film) (decode_truth format film) (n + f)
  last f h = (
    h.0,
    elim h.1 [
      | inl at_head ↦ inl at_head
      | inr at_close ↦ inr (at_close.0, told_none n h.0 at_close.1)
    ],
  )

  head : (f : ℕ) → IsDue (decode_rules format film) (decode_truth format film) (Head n) → IsDue (group_rules n format film) (group_truth n format film) (Head f)
      → IsDue (decode_rules format film) (decode_truth format film) (Head (n + f))
  head f first h = elim h [
    | inl zeroth ↦ let same : n ≡ n + f = omega (arith, zeroth) in subst (λ k. IsDue (decode_rules format film) (decode_truth format film) (Head k)) same first
    | inr behind ↦
        let c = built behind.0 behind.2.0 behind.2.1 in
        let next : n + f ≡ (n + behind.0) + 1 = omega (arith, behind.1) in
        inr (n + behind.0, next, (c.0, c.1))
  ]

  pub due_in_film : (job : JobName) → IsDue (decode_rules format film) (decode_truth format film) (Head n) → IsDue (group_rules n format film) (group_truth n format film) job
      → IsDue (decode_rules format film) (decode_truth format film) (in_film n job)
  due_in_film (Head f) first h = head f first h
  due_in_film (Column f c) first h = h
  due_in_film (Close f) first h = h
  due_in_film (Rows f c r) first h = let b = built f h.0 h.1 in (b.0, b.1, subst (λ k. c < k) (sym b.2) h.2, subst (λ k. r < k) (sym b.3) h.3)
  due_in_film (Filter f r) first h = let b = built f h.0 h.1 in (b.0, b.1, subst (λ k. r < k) (sym b.3) h.2)
  due_in_film (Write f) first h = let b = built f h.0 h.1 in (b.0, b.1)
  due_in_film (End f) first h = last f h

-- the texts below a frame, and then those from it on
pub texts_behind : (text : ℕ → List ℕ) (n k : ℕ) → texts_below text (n + k) ≡ texts_below text n ++ texts_below (λ f. text (n + f)) k
texts_behind text n zero =
    let none : n + 0 ≡ n = omega arith in
    ap (texts_below text) none ∙ sym (append-nil (texts_below text n))
texts_behind text n (suc k) =
    let next : n + suc k ≡ suc (n + k) = omega arith in
    ap (texts_below text) next ∙ ap (λ t. t ++ text (n + k)) (texts_behind text n k) ∙ append_assoc (texts_below text n) (texts_below (λ f. text (n + f)) k) (text (n + k))

---- Frames that are there ----

head_there : (format : Format) (film : Film) (f : ℕ) (x : JobResult) (columns : ℕ) → IsHead format film f x → parses x ≡ Some columns → f < length film.frames
head_there format film f (result.Begun b0) columns r is = coded_within format film f r.0 r.1
head_there format film f (result.Existing slot) columns r is = slice_get_within film.frames f r.frame r.there
head_there format film f (result.Column c0) columns r is = absurd r
head_there format film f (result.Closed k) columns r is = absurd r
head_there format film f (result.Strip planes) columns r is = absurd r
head_there format film f (result.Filtered planes) columns r is = absurd r
head_there format film f result.Starved columns r is = absurd r
head_there format film f result.Written columns r is = absurd r
head_there format film f (result.Refused fault) columns r is = absurd r
head_there format film f (result.Ended o) columns r is = absurd cc

close_there : (format : Format) (film : Film) (f : ℕ) (x : JobResult) (b : Building) → IsClose format film f x → builds x ≡ Some b → f < length film.frames
close_there format film f (result.Begun b0) b r is = absurd r
close_there format film f (result.Existing slot) b r is = absurd r
close_there format film f (result.Column c0) b r is = absurd r
close_there format film f (result.Closed k) b r is = let h = passed format film f r.next r.reached in slice_get_within film.frames f h.bytes h.there
close_there format film f (result.Strip planes) b r is = absurd r
close_there format film f (result.Filtered planes) b r is = absurd r
close_there format film f result.Starved b r is = absurd r
close_there format film f result.Written b r is = absurd r
close_there format film f (result.Refused fault) b r is = absurd r
close_there format film f (result.Ended o) b r is = absurd cc

module _ (format : Format) (film : Film) where
  parsed_there : (f columns : ℕ) → IsParsedSo (decode_rules format film) (decode_truth format film) f columns → f < length film.frames
  parsed_there f columns h = head_there format film f h.0 columns h.1 h.2

  built_there : (f : ℕ) (b : Building) → IsBuiltSo (decode_rules format film) (decode_truth format film) f b → f < length film.frames
  built_there f b h = close_there format film f h.0 b h.1 h.2

  pub due_counted : (job : JobName) → IsDue (decode_rules format film) (decode_truth format film) job → IsCounted (length film.frames) job
  due_counted (Head f) h = elim h [
    | inl zeroth ↦ omega (arith, zeroth)
    | inr behind ↦ omega (arith, behind.1, built_there behind.0 behind.2.0 behind.2.1)
  ]
  due_counted (Column f c) h = parsed_there f h.0 h.1
  due_counted (Close f) h = parsed_there f h.0 h.1
  due_counted (Rows f c r) h = built_there f h.0 h.1
  due_counted (Filter f r) h = built_there f h.0 h.1
  due_counted (Write f) h = built_there f h.0 h.1
  due_counted (End f) h = tt

---- Numbers ----

pub frame_in_film : (n : ℕ) (job : JobName) → frame_of (in_film n job) ≡ n + frame_of job
frame_in_film n (Head f) = refl
frame_in_film n (Column f c) = refl
frame_in_film n (Close f) = refl
frame_in_film n (Rows f c r) = refl
frame_in_film n (Filter f r) = refl
frame_in_film n (Write f) = refl
frame_in_film n (End f) = refl

-- a job of a frame from n on is that of the group again
pub back_in_film : (n : ℕ) (job : JobName) → n ≤ frame_of job → in_film n (numbered (frame_of job - n) job) ≡ job
back_in_film n (Head f) h = let same : n + (f - n) ≡ f = omega (arith, h) in ap Head same
back_in_film n (Column f c) h = let same : n + (f - n) ≡ f = omega (arith, h) in ap (λ k. Column k c) same
back_in_film n (Close f) h = let same : n + (f - n) ≡ f = omega (arith, h) in ap Close same
back_in_film n (Rows f c r) h = let same : n + (f - n) ≡ f = omega (arith, h) in ap (λ k. Rows k c r) same
back_in_film n (Filter f r) h = let same : n + (f - n) ≡ f = omega (arith, h) in ap (λ k. Filter k r) same
back_in_film n (Write f) h = let same : n + (f - n) ≡ f = omega (arith, h) in ap Write same
back_in_film n (End f) h = let same : n + (f - n) ≡ f = omega (arith, h) in ap End same

pub counted_below : (n count : ℕ) (job : JobName) → IsNoEnd job → IsCounted count (in_film n job) → n + frame_of job ≤ count
counted_below n count (Head f) none_end h = h
counted_below n count (Column f c) none_end h = omega (arith, h)
counted_below n count (Close f) none_end h = omega (arith, h)
counted_below n count (Rows f c r) none_end h = omega (arith, h)
counted_below n count (Filter f r) none_end h = omega (arith, h)
counted_below n count (Write f) none_end h = omega (arith, h)
counted_below n count (End f) none_end h = absurd none_end
