-- The jobs of a group, by their numbers in the film.
use Rattle.std.proofs.Common.{◌≡◌, ◌∙◌, ◌<◌, ℕ, zero, suc, ◌+◌, ◌^◌, List, ◌++◌, length, ap, sym, subst, refl, arith}
use Rattle.std.specs.Prelude.{Some}
use Rattle.vp9_types.specs.declared.job.JobName.{JobName}
use Rattle.vp9_types.specs.declared.job.JobName.TheVariants.{Head, Column, Close, Rows, Filter, Write, End}
use Rattle.frame_output.specs.declared.rendering.Format.{Format}
use Rattle.job_crew.specs.Runs.{GoesOn, IsDue}
use Rattle.job_order.specs.Sound.{frame_of, texts_below}
use Rattle.job_rows.proofs.of_job_results.GroupDue.{counted_below, due_counted, due_in_film}
use Rattle.job_rows.specs.job_results.Groups.{IsNoEnd, builds_in, group_rules, group_truth, in_film}
use Rattle.job_rows.specs.job_results.Meaning.{builds, decode_rules, decode_truth, shown_as}
use Rattle.job_rows.specs.job_results.declared.result.JobResult.{JobResult}
use Rattle.job_rows.specs.job_results.declared.result.JobResult.TheVariants as result
use Rattle.job_order.specs.Worlds.{Building}
use Rattle.job_rows.specs.numbered_frames.Films.{Film}

-- the number in the film is within bounds
pub fits_in_film : (n own : ℕ) (format : Format) (film : Film) (job : JobName) → own ≡ n → length film.frames < 2 ^ 64 → IsDue (decode_rules format film) (decode_truth format film) (Head n)
    → IsDue (group_rules n format film) (group_truth n format film) job → IsNoEnd job → own + frame_of job < 2 ^ 64
fits_in_film n own format film job is few first due none_end =
    let below = counted_below n (length film.frames) job none_end (due_counted format film (in_film n job) (due_in_film n format film job first due)) in
    omega (arith, is, few, below)

-- and the job of this number is due
pub due_by_name : (n own : ℕ) (format : Format) (film : Film) (job named : JobName) → own ≡ n → named ≡ in_film own job → IsDue (decode_rules format film) (decode_truth format film) (Head n)
    → IsDue (group_rules n format film) (group_truth n format film) job → IsDue (decode_rules format film) (decode_truth format film) named
due_by_name n own format film job named is same first due =
    subst (λ j. IsDue (decode_rules format film) (decode_truth format film) j) (sym (same ∙ ap (λ k. in_film k job) is)) (due_in_film n format film job first due)

pub same_texts : (text : ℕ → List ℕ) (n k : ℕ) → n ≡ 0 → texts_below (λ f. text (n + f)) k ≡ texts_below text k
same_texts text n zero is = refl
same_texts text n (suc k) is =
    let same : n + k ≡ k = omega (arith, is) in
    (λ i. same_texts text n k is i ++ text (same i))

-- a close by which the group's run goes on is one by which the film's does
builds_too : (n : ℕ) (x : JobResult) (b : Building) → builds_in n x ≡ Some b → (c : Building) × (builds x ≡ Some c)
builds_too n (result.Begun b0) b is = absurd cc
builds_too n (result.Existing slot) b is = absurd cc
builds_too n (result.Column c0) b is = absurd cc
builds_too n (result.Closed k) b is = (record { columns = k.value.columns; rows = k.value.rows; shown = shown_as k.value.shown }, refl)
builds_too n (result.Strip planes) b is = absurd cc
builds_too n (result.Filtered planes) b is = absurd cc
builds_too n result.Starved b is = absurd cc
builds_too n result.Written b is = absurd cc
builds_too n (result.Refused fault) b is = absurd cc
builds_too n (result.Ended o) b is = absurd cc

pub goes_on_in_film : (n : ℕ) (format : Format) (film : Film) (job : JobName) (x : JobResult) → GoesOn (group_rules n format film) job x → GoesOn (decode_rules format film) (in_film n job) x
goes_on_in_film n format film (Head f) x h = h
goes_on_in_film n format film (Close f) x h = builds_too n x h.0 h.1
goes_on_in_film n format film (Column f c) x h = tt
goes_on_in_film n format film (Rows f c r) x h = tt
goes_on_in_film n format film (Filter f r) x h = tt
goes_on_in_film n format film (Write f) x h = tt
goes_on_in_film n format film (End f) x h = tt
