-- A result that is right stays right when more frames come behind those of the film.
use Rattle.std.proofs.Common.{◌≡◌, ◌<◌, inl, inr, ℕ, zero, suc, List, [], ◌∷◌, ap, sym, subst, refl, ◌∙◌, arith}
use Rattle.std.specs.Prelude.{◌⊎◌, Contains, Option, Some, None, length, slice_get}
use Rattle.std.proofs.lemmas.Option.{slice_get_within}
use Rattle.vp9_types.specs.declared.job.JobName.{JobName}
use Rattle.vp9_types.specs.declared.job.JobName.TheVariants as job
use Rattle.vp9_types.specs.declared.outcome.Outcome.{Outcome}
use Rattle.vp9_types.specs.declared.rule.Rule.{Rule}
use Rattle.frame_output.specs.Formats.{output_text}
use Rattle.frame_output.specs.declared.rendering.Format.{Format}
use Rattle.job_order.specs.Sound.{frame_of}
use Rattle.numbered_frames.specs.Coded.{CodedFrame, coded, coded_from}
use Rattle.numbered_frames.specs.Films.{Film, GoesOn}
use Rattle.numbered_frames.specs.FrameNumbers.{EndsAt, before, frame_at}
use Rattle.numbered_frames.specs.NumberedPictures.{pictures}
use Rattle.numbered_frames.proofs.LaterFrames.{before_same, coded_same, frame_same, pictures_same, text_same}
use Rattle.band_cells.specs.Bands.{Picture}
use Rattle.numbered_frames.specs.seq_decoder.Outputs.{Putting, is_first}
use Rattle.job_results.specs.Slots.{slots_of}
use Rattle.job_results.specs.JobResults.{IsBegunAs, IsBuiltAs, IsClose, IsClosedAs, IsColumn, IsColumnAs, IsEnd, IsEndResult, HasReads, IsFiltered, IsHead, IsNamed, IsReadFrame, IsRight, IsShown, IsStrip, ShowsSlot, shown_text}
use Rattle.job_results.specs.declared.result.ClosedFrame.{ClosedFrame}
use Rattle.job_results.specs.declared.result.JobResult.{JobResult}
use Rattle.job_results.specs.declared.result.JobResult.TheVariants as result
use Rattle.job_results.specs.declared.result.ShownFrame.{ShownFrame}

no_none : {X : Type 0} (xs : List X) (k : ℕ) → k < length xs → slice_get xs k ≡ None → ⊥
no_none [] k low none = omega (arith, low)
no_none (x ∷ xs) zero low none = absurd cc
no_none (x ∷ xs) (suc k) low none = no_none xs k (omega (arith, low)) none

-- a coded frame is one of the film's
there : (from : Option Putting) (frame : Option (List ℕ)) (c : CodedFrame) → coded_from from frame ≡ Some c → (bytes : List ℕ) × (frame ≡ Some bytes)
there None frame c is = absurd cc
there (Some p) None c is = absurd cc
there (Some p) (Some bytes) c is = (bytes, refl)

pub coded_within : (format : Format) (film : Film) (f : ℕ) (c : CodedFrame) → coded format film f ≡ Some c → f < length film.frames
unfolding coded
coded_within format film f c is =
    let at = there (before format film f) (frame_at film f) c is in
    slice_get_within film.frames f at.0 at.1

module _ (format : Format) (film more : Film) (h : GoesOn film more) where
  ends : (f : ℕ) (ending : Option (ℕ × Rule)) → f < length film.frames → EndsAt format film f ending → EndsAt format more f ending
  ends f ending low e =
      record {
        kept = e.kept;
        reached = before_same format film more f h (omega (arith, low)) ∙ e.reached;
        ends = elim e.ends [
          | inl at ↦ absurd (no_none film.frames f low at.0)
          | inr at ↦ inr (at.0, at.1, frame_same film more f h low ∙ at.2, at.3, at.4)
        ];
      }

  is_end : (f : ℕ) (o : Outcome) → f < length film.frames → IsEnd format film f o → IsEnd format more f o
  is_end f o low e = elim e [
    | inl starved ↦ inl starved
    | inr at ↦ inr (at.0, ends f at.0 low at.1, at.2)
  ]

  still : (f : ℕ) (c : CodedFrame) → coded format film f ≡ Some c → coded format more f ≡ Some c
  still f c is = coded_same format film more f h (coded_within format film f c is) ∙ is

  -- what is said of a coded frame
  of_coded : (P : CodedFrame → Type 0) (f : ℕ) → (c : CodedFrame) × (coded format film f ≡ Some c) × P c → (c : CodedFrame) × (coded format more f ≡ Some c) × P c
  of_coded P f at = (at.0, still f at.0 at.1, at.2)

  shows : (f slot : ℕ) → f < length film.frames → ShowsSlot format film f slot → ShowsSlot format more f slot
  shows f slot low s =
      record {
        kept = s.kept;
        reached = before_same format film more f h (omega (arith, low)) ∙ s.reached;
        frame = s.frame;
        there = frame_same film more f h low ∙ s.there;
        head = s.head;
      }

  read_frame : (f : ℕ) → IsReadFrame format film f → IsReadFrame format more f
  read_frame f r = (r.0, still f r.0 r.1, r.2)

  picture : (f : ℕ) → IsReadFrame format film f → pictures format more f ≡ pictures format film f
  picture f r = pictures_same format film more f h (coded_within format film f r.0 r.1)

  is_shown : (shown : Option ShownFrame) → IsShown format film shown → IsShown format more shown
  is_shown None s = tt
  is_shown (Some shown) s = (read_frame shown.frame s.0, s.1 ∙ ap (λ (p : Picture). p.shape) (sym (picture shown.frame s.0)))

  is_named : (f : ℕ) (shown : Option ShownFrame) → f < length film.frames → IsNamed format film f shown → IsNamed format more f shown
  is_named f None low s = tt
  is_named f (Some shown) low s =
      subst (λ (o : Option Putting). (shown.frame ≡ f) ⊎ Contains (slots_of o) shown.frame) (sym (before_same format film more f h (omega (arith, low)))) s

  same_text : (k : ClosedFrame) (shown : Option ShownFrame) → IsShown format film shown → shown_text format more k shown ≡ shown_text format film k shown
  same_text k None s = refl
  same_text k (Some shown) s = (λ i. shown_text_of k shown (picture shown.frame s.0 i))
    where
      shown_text_of : ClosedFrame → ShownFrame → Picture → List ℕ
      shown_text_of k shown p = output_text k.form.format k.form.rate (is_first k.form.first) shown.shape p.map

  closed : (f : ℕ) (k : ClosedFrame) → f < length film.frames → IsClosedAs format film f k → IsClosedAs format more f k
  closed f k low c =
      record {
        next = c.next;
        reached = before_same format film more (suc f) h (omega (arith, low)) ∙ c.reached;
        stands = c.stands;
        form = c.form;
        may = c.may;
        built = subst (λ (o : Option CodedFrame). IsBuiltAs o k) (sym (coded_same format film more f h low)) c.built;
        reads = subst (λ (o : Option CodedFrame). HasReads o k) (sym (coded_same format film more f h low)) c.reads;
        shown = is_shown k.shown c.shown;
        named = is_named f k.shown low c.named;
        puts = text_same format film more f h low ∙ c.puts ∙ sym (same_text k k.shown c.shown);
      }

  ---- By job ----

  head : (f : ℕ) (x : JobResult) → f < length film.frames → IsHead format film f x → IsHead format more f x
  head f (result.Begun b) low r = of_coded (λ c. IsBegunAs c b.value) f r
  head f (result.Existing slot) low r = shows f slot low r
  head f (result.Column x) low r = absurd r
  head f (result.Closed k) low r = absurd r
  head f (result.Strip planes) low r = absurd r
  head f (result.Filtered planes) low r = absurd r
  head f result.Starved low r = absurd r
  head f result.Written low r = absurd r
  head f (result.Refused fault) low r = absurd r
  head f (result.Ended o) low r = is_end f o low r

  column : (f k : ℕ) (x : JobResult) → IsColumn format film f k x → IsColumn format more f k x
  column f n (result.Begun b) r = absurd r
  column f n (result.Existing slot) r = absurd r
  column f n (result.Column x) r = of_coded (λ c. IsColumnAs c n x) f r
  column f n (result.Closed k) r = absurd r
  column f n (result.Strip planes) r = absurd r
  column f n (result.Filtered planes) r = absurd r
  column f n result.Starved r = absurd r
  column f n result.Written r = absurd r
  column f n (result.Refused fault) r = absurd r
  column f n (result.Ended o) r = absurd r

  close : (f : ℕ) (x : JobResult) → f < length film.frames → IsClose format film f x → IsClose format more f x
  close f (result.Begun b) low r = absurd r
  close f (result.Existing slot) low r = absurd r
  close f (result.Column x) low r = absurd r
  close f (result.Closed k) low r = closed f k.value low r
  close f (result.Strip planes) low r = absurd r
  close f (result.Filtered planes) low r = absurd r
  close f result.Starved low r = absurd r
  close f result.Written low r = absurd r
  close f (result.Refused fault) low r = absurd r
  close f (result.Ended o) low r = is_end f o low r

  strip : (f k q : ℕ) (x : JobResult) → IsStrip format film f k q x → IsStrip format more f k q x
  strip f n q (result.Begun b) r = absurd r
  strip f n q (result.Existing slot) r = absurd r
  strip f n q (result.Column x) r = absurd r
  strip f n q (result.Closed k) r = absurd r
  strip f n q (result.Strip planes) r = (r.0, still f r.0 r.1, r.2, r.3)
  strip f n q (result.Filtered planes) r = absurd r
  strip f n q result.Starved r = tt
  strip f n q result.Written r = absurd r
  strip f n q (result.Refused fault) r = absurd r
  strip f n q (result.Ended o) r = absurd r

  filtered : (f q : ℕ) (x : JobResult) → IsFiltered format film f q x → IsFiltered format more f q x
  filtered f q (result.Begun b) r = absurd r
  filtered f q (result.Existing slot) r = absurd r
  filtered f q (result.Column x) r = absurd r
  filtered f q (result.Closed k) r = absurd r
  filtered f q (result.Strip planes) r = absurd r
  filtered f q (result.Filtered planes) r = (r.0, still f r.0 r.1, r.2, r.3)
  filtered f q result.Starved r = tt
  filtered f q result.Written r = absurd r
  filtered f q (result.Refused fault) r = absurd r
  filtered f q (result.Ended o) r = absurd r

  end_result : (f : ℕ) (x : JobResult) → f < length film.frames → IsEndResult format film f x → IsEndResult format more f x
  end_result f (result.Begun b) low r = absurd r
  end_result f (result.Existing slot) low r = absurd r
  end_result f (result.Column x) low r = absurd r
  end_result f (result.Closed k) low r = absurd r
  end_result f (result.Strip planes) low r = absurd r
  end_result f (result.Filtered planes) low r = absurd r
  end_result f result.Starved low r = absurd r
  end_result f result.Written low r = absurd r
  end_result f (result.Refused fault) low r = absurd r
  end_result f (result.Ended o) low r = is_end f o low r

  pub right_still : (name : JobName) (x : JobResult) → frame_of name < length film.frames → IsRight format film name x → IsRight format more name x
  right_still (job.Head f) x low r = head f x low r
  right_still (job.Column f k) x low r = column f k x r
  right_still (job.Close f) x low r = close f x low r
  right_still (job.Rows f k q) x low r = strip f k q x r
  right_still (job.Filter f q) x low r = filtered f q x r
  right_still (job.Write f) x low r = r
  right_still (job.End f) x low r = end_result f x low r
