-- Walks, frame by frame.
use Rattle.std.proofs.Common.{◌≡◌, ℕ, ◌+◌, List, [], ◌∷◌, ◌++◌, length, ap, sym, refl, ◌∙◌, append_assoc, arith}
use Rattle.std.specs.Prelude.{Option, Some, None, Result, Ok, Err}
use Rattle.std.proofs.lemmas.List.{append-nil}
use Rattle.vp9_types.specs.declared.rule.Rule.{Rule}
use Rattle.file_frames.specs.Walks.{Added, Walk, Walked, ended, adding, followed, walk_from, walk}
use Rattle.file_frames.specs.Laws.{more_added, next_behind, steps_over, going_on, GoesOn}
use Rattle.file_frames.specs.Code.{Ahead, all_ahead, walk_ahead, IsOnWay}
use Rattle.file_frames.specs.FileFrames.{frames_of_file}

only_adds : {A E : Type 0} (adds : List A) (ending : Option (ℕ × E)) → adding adds (ended ending) ≡ record { adds = adds; ending = ending }
only_adds adds ending = ap (λ x. record { adds = x; ending = ending }) (append-nil adds)

module _ {S A E : Type 0} where
  more_going : (adds : List A) (r : Result (Added S A) (Walked A E)) (more : S → Walked A E) → adding adds (going_on r more) ≡ going_on (more_added adds r) more
  more_going adds (Ok r) more = ap (λ a. record { adds = a; ending = (more r.state).ending }) (sym (append_assoc adds r.adds (more r.state).adds))
  more_going adds (Err r) more = refl

  next_going : (number : ℕ) (r : Result (Added S A) E) (next : S → Walked A E) (first : S → Result (Added S A) (Walked A E)) (more : S → Walked A E) → ((s : S) → next s ≡ going_on (first s) more)
      → followed number r next ≡ going_on (next_behind number r first) more
  next_going number (Ok r) next first more h = ap (adding r.adds) (h r.state) ∙ more_going r.adds (first r.state) more
  next_going number (Err fault) next first more h = refl

  pub goes_on : (w : Walk S A E) (first : List (List ℕ)) (number : ℕ) (state : S) (rest : List (List ℕ)) (ending : Option Rule) → GoesOn w number state first rest ending
  goes_on w [] number state rest ending =
      let none : number ≡ number + 0 = omega arith in
      ap (λ k. walk_from w k state rest ending) none
  goes_on w (frame ∷ frames) number state rest ending =
      let numbers : (number + 1) + length frames ≡ number + length (frame ∷ frames) = omega arith in
      next_going number (w.step number state frame) _ (λ next. steps_over w (number + 1) next frames) (λ next. walk_from w (number + length (frame ∷ frames)) next rest ending)
      (λ s. goes_on w frames (number + 1) s rest ending ∙ ap (λ k. going_on (steps_over w (number + 1) s frames) (λ next. walk_from w k next rest ending)) numbers)

  ---- A walk by the calls of a cursor ----

  -- before the first frame
  pub sets_out : (w : Walk S A E) (bytes : List ℕ) (a : Ahead) → a ≡ all_ahead bytes → IsOnWay w bytes [] w.start a
  sets_out w bytes a is = ap (walk_ahead w w.start) (sym is)

  at_frame : (w : Walk S A E) (bytes : List ℕ) (adds : List A) (state : S) (old new : Ahead) (number : ℕ) (frame : List ℕ) (r : Result (Added S A) E)
      → IsOnWay w bytes adds state old → old ≡ record { number = number; frames = frame ∷ new.frames; ending = new.ending } → w.step number state frame ≡ r
      → walk w (frames_of_file bytes) ≡ adding adds (followed number r (λ next. walk_from w (number + 1) next new.frames new.ending))
  at_frame w bytes adds state old new number frame r on is step =
      on ∙ ap (λ a. adding adds (walk_ahead w state a)) is ∙ ap (λ r. adding adds (followed number r (λ next. walk_from w (number + 1) next new.frames new.ending))) step

  -- one frame more
  pub goes_by : (w : Walk S A E) (bytes : List ℕ) (adds : List A) (state : S) (old new : Ahead) (number : ℕ) (frame : List ℕ) (added : Added S A)
      → IsOnWay w bytes adds state old → (old ≡ record { number = number; frames = frame ∷ new.frames; ending = new.ending }) × (new.number ≡ number + 1) → w.step number state frame ≡ Ok added
      → IsOnWay w bytes (adds ++ added.adds) added.state new
  goes_by w bytes adds state old new number frame added on is step =
      let more = walk_from w (number + 1) added.state new.frames new.ending in
      at_frame w bytes adds state old new number frame (Ok added) on is.0 step
      ∙ ap (λ x. record { adds = x; ending = more.ending }) (sym (append_assoc adds added.adds more.adds))
      ∙ ap (λ n. adding (adds ++ added.adds) (walk_from w n added.state new.frames new.ending)) (sym is.1)

  -- at a frame that has a fault
  pub ends_at : (w : Walk S A E) (bytes : List ℕ) (adds : List A) (state : S) (old new : Ahead) (number : ℕ) (frame : List ℕ) (fault : E)
      → IsOnWay w bytes adds state old → (old ≡ record { number = number; frames = frame ∷ new.frames; ending = new.ending }) × (new.number ≡ number + 1) → w.step number state frame ≡ Err fault
      → walk w (frames_of_file bytes) ≡ record { adds = adds; ending = Some (number, fault) }
  ends_at w bytes adds state old new number frame fault on is step =
      at_frame w bytes adds state old new number frame (Err fault) on is.0 step ∙ only_adds adds (Some (number, fault))

  -- at the end of the file
  pub arrives : (w : Walk S A E) (bytes : List ℕ) (adds : List A) (state : S) (old : Ahead) (number : ℕ)
      → IsOnWay w bytes adds state old → old ≡ record { number = number; frames = []; ending = None } → walk w (frames_of_file bytes) ≡ record { adds = adds; ending = None }
  arrives w bytes adds state old number on is = on ∙ ap (λ a. adding adds (walk_ahead w state a)) is ∙ only_adds adds None

  -- at a rule of the container
  pub breaks : (w : Walk S A E) (bytes : List ℕ) (adds : List A) (state : S) (old : Ahead) (number : ℕ) (rule : Rule)
      → IsOnWay w bytes adds state old → old ≡ record { number = number; frames = []; ending = Some rule }
      → walk w (frames_of_file bytes) ≡ record { adds = adds; ending = Some (number, w.broken rule) }
  breaks w bytes adds state old number rule on is = on ∙ ap (λ a. adding adds (walk_ahead w state a)) is ∙ only_adds adds (Some (number, w.broken rule))
