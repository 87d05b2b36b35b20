-- The rules of a group's run are true.
use Rattle.std.proofs.Common.{◌≡◌, ◌+◌, ◌-◌, ℕ, ◌⊎◌, inl, inr, ⊎_elim, Bool, true, false, List, [], ◌∷◌, ◌++◌, ap, sym, subst, refl, ◌∙◌, arith}
use Rattle.std.proofs.lemmas.Bool.{ltb-false}
use Rattle.std.specs.Prelude.{Contains, nat_lt, Option, Some, None, Ok, if◌then◌else◌}
use Rattle.vp9_types.specs.Shapes.{mi_rows}
use Rattle.vp9_types.specs.Sizes.{superblocks_along}
use Rattle.vp9_types.specs.declared.job.JobName.{JobName}
use Rattle.vp9_types.specs.declared.job.JobName.TheVariants as job
use Rattle.vp9_types.specs.declared.shape.Shape.{Shape}
use Rattle.band_cells.specs.Bands.{Picture}
use Rattle.frame_output.specs.declared.rendering.Format.{Format}
use Rattle.numbered_frames.specs.frame_state.FrameReading.{FrameRead}
use Rattle.job_order.specs.Truths.{AreTrue, IsFront, IsRightBuilding, IsRightText}
use Rattle.job_order.specs.Worlds.{Building}
use Rattle.job_order.specs.declared.event.Done.{Done}
use Rattle.job_order.specs.declared.segment.Shown.{Shown}
use Rattle.job_crew.specs.Events.{CanDo}
use Rattle.job_crew.specs.Runs.{IsNoWrite}
use Rattle.numbered_frames.specs.Coded.{CodedFrame, coded, read_of}
use Rattle.numbered_frames.specs.Films.{Film}
use Rattle.numbered_frames.specs.FrameNumbers.{before, text}
use Rattle.numbered_frames.specs.NumberedPictures.{picture_from, picture_read, pictures}
use Rattle.job_results.specs.Groups.{builds_in, group_rules, group_truth, numbers_in, shown_in}
use Rattle.job_results.specs.JobResults.{IsBuiltAs, IsClose, IsClosedAs, IsNamed, IsShown}
use Rattle.job_results.specs.Meaning.{FollowsWrite, fails, rows_of, text_put}
use Rattle.job_results.specs.Slots.{slots_of}
use Rattle.job_results.specs.declared.result.ClosedFrame.{ClosedFrame}
use Rattle.job_results.specs.declared.result.JobResult.{JobResult}
use Rattle.job_results.specs.declared.result.JobResult.TheVariants as result
use Rattle.job_results.specs.declared.result.ShownFrame.{ShownFrame}
use Rattle.job_results.proofs.ReadBands.{group_reads}
use Rattle.job_results.proofs.SlotLists.{group_slots, in_group_too}

not_both : (b : Bool) → b ≡ false → b ≡ true → ⊥
not_both b p q = cc

text_by : (b : Bool) (whole : List ℕ) → IsRightText b (if b then [] else whole) whole
text_by true whole = (whole, refl)
text_by false whole = refl

abbrev bands_of : Shape → ℕ
bands_of shape = superblocks_along (mi_rows shape)

module _ (format : Format) (film : Film) where
  rows_by : (f : ℕ) (k : ClosedFrame) (o : Option CodedFrame) → IsBuiltAs o k → k.rows ≡ bands_of (picture_from o).shape
  rows_by f k None is = is.1
  rows_by f k (Some c) is = is.1 ∙ ap (λ r. bands_of (picture_read c r).shape) (sym is.2.1)

  rows_are : (f : ℕ) (k : ClosedFrame) → IsBuiltAs (coded format film f) k → k.rows ≡ bands_of (pictures format film f).shape
  unfolding pictures
  rows_are f k is = rows_by f k (coded format film f) is

  abbrev IsShownRight : ℕ → ℕ → Shown → Type 0
  IsShownRight n f s = ((s.frame ≡ f) ⊎ Contains (numbers_in n (slots_of (before format film (n + f)))) s.frame) × (s.bands ≡ bands_of (pictures format film (n + s.frame)).shape)

  named_in : (n f g : ℕ) → nat_lt g n ≡ false → (g ≡ n + f) ⊎ Contains (slots_of (before format film (n + f))) g
      → (g - n ≡ f) ⊎ Contains (numbers_in n (slots_of (before format film (n + f)))) (g - n)
  named_in n f g is h =
      ⊎_elim (λ (own : g ≡ n + f). inl (omega (arith, own)))
      (λ (rest : Contains (slots_of (before format film (n + f))) g).
      inr (in_group_too n (slots_of (before format film (n + f))) (g - n)
      (subst (λ i. Contains (slots_of (before format film (n + f))) i) (let low = ltb-false g n is in let at : g ≡ n + (g - n) = omega (arith, low) in at) rest)))
      h

  shown_by : (n f : ℕ) (s : ShownFrame) (low : Bool) (shown : Shown) → nat_lt s.frame n ≡ low → IsShown format film (Some s) → IsNamed format film (n + f) (Some s)
      → (if low then None else Some (record { frame = s.frame - n; bands = rows_of s })) ≡ Some shown → IsShownRight n f shown
  shown_by n f s true shown is h named e = absurd cc
  shown_by n f s false shown is h named e =
      let one : Shown = record { frame = s.frame - n; bands = rows_of s } in
      let same : one ≡ shown = cc in
      subst (λ (x : Shown). IsShownRight n f x) same (
        named_in n f s.frame is named,
        ap bands_of h.1 ∙ ap (λ i. bands_of (pictures format film i).shape) (let low = ltb-false s.frame n is in let at : s.frame ≡ n + (s.frame - n) = omega (arith, low) in at),
      )

  shown_is : (n f : ℕ) (o : Option ShownFrame) (shown : Shown) → IsShown format film o → IsNamed format film (n + f) o → shown_in n o ≡ Some shown → IsShownRight n f shown
  shown_is n f None shown h named e = absurd cc
  shown_is n f (Some s) shown h named e = shown_by n f s (nat_lt s.frame n) shown refl h named e

  closed_is : (n f : ℕ) (k : ClosedFrame) (b : Building) → IsClosedAs format film (n + f) k → Some (record { columns = k.columns; rows = k.rows; shown = shown_in n k.shown }) ≡ Some b
      → IsRightBuilding (group_truth n format film) f b
  closed_is n f k b h e =
      let one : Building = record { columns = k.columns; rows = k.rows; shown = shown_in n k.shown } in
      let same : one ≡ b = cc in
      subst (λ (x : Building). IsRightBuilding (group_truth n format film) f x) same (rows_are (n + f) k h.built, λ shown is. shown_is n f k.shown shown h.shown h.named is)

  builds_right : (n f : ℕ) (x : JobResult) (b : Building) → IsClose format film (n + f) x → builds_in n x ≡ Some b → IsRightBuilding (group_truth n format film) f b
  builds_right n f (result.Closed k) b h e = closed_is n f k.value b h e
  builds_right n f (result.Begun k) b h e = absurd h
  builds_right n f (result.Existing slot) b h e = absurd h
  builds_right n f (result.Column r) b h e = absurd h
  builds_right n f (result.Strip planes) b h e = absurd h
  builds_right n f (result.Filtered planes) b h e = absurd h
  builds_right n f result.Starved b h e = absurd h
  builds_right n f result.Written b h e = absurd h
  builds_right n f (result.Refused fault) b h e = absurd h
  builds_right n f (result.Ended o) b h e = absurd cc

pub group_true : (n : ℕ) (format : Format) (film : Film) → AreTrue (group_rules n format film) (group_truth n format film)
group_true n format film = record {
  slots = group_slots n format film;
  right = λ job uses x are d. d.0;
  builds = λ f x b is e. builds_right format film n f x b is e;
  reads = λ f c r results g band are h. group_reads n format film f c r g band h;
  text = λ f x is. text_by (fails x) (text format film (n + f));
  hands_on = λ f uses y d. let w = d.1 f refl in (w.0, w.2, λ bad. absurd (not_both (fails w.0) w.1 bad));
}

---- What jobs may do ----

follows_none : (name : JobName) → IsNoWrite name → FollowsWrite name []
follows_none (job.Head f) plain = tt
follows_none (job.Column f c) plain = tt
follows_none (job.Close f) plain = tt
follows_none (job.Rows f c r) plain = tt
follows_none (job.Filter f r) plain = tt
follows_none (job.Write f) plain = absurd plain
follows_none (job.End f) plain = tt

follows_one : (f : ℕ) (x : JobResult) → fails x ≡ false → FollowsWrite (job.Write (f + 1)) (record { job = job.Write f; result = x } ∷ [])
follows_one f x passed = λ g e.
    let same : f ≡ g = omega (arith, e) in
    let one : Done JobResult = record { job = job.Write f; result = x } in
    (x, passed, (0, omega arith, ap (λ i. record { job = job.Write i; result = x }) same))

pub group_can : (n : ℕ) (format : Format) (film : Film) → CanDo (group_rules n format film) (group_truth n format film)
group_can n format film = (
  λ name x plain right. (right, follows_none name plain),
  λ x right. (right, λ g e. absurd (omega (arith, e))),
  λ f x y passed right. (right, follows_one f x passed),
)
