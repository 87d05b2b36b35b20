-- How the slots change from frame to frame.
use Rattle.std.proofs.Common.{◌≡◌, ℕ, zero, suc, ◌⊎◌, inl, inr, ⊎_elim, List, [], ◌∷◌, length, ap, sym, subst, refl, ◌∙◌}
use Rattle.std.specs.Prelude.{◌/◌, Option, Some, None, Result, Ok, Err}
use Rattle.vp9_types.specs.declared.rule.Rule.{Rule}
use Rattle.frame_headers.specs.Header.{head_of}
use Rattle.frame_headers.specs.HeaderState.{refreshed}
use Rattle.frame_headers.specs.declared.header.FrameHead.{FrameHead}
use Rattle.frame_headers.specs.declared.header.FrameHead.TheVariants as head
use Rattle.frame_output.specs.declared.rendering.Format.{Format}
use Rattle.seq_decoder.specs.After.{Stepped, behind_head, decoded_in, picture_of, step}
use Rattle.seq_decoder.specs.Outputs.{Putting}
use Rattle.seq_decoder.specs.DecoderState.{Picture, State, persist_of}
use Rattle.numbered_frames.specs.FrameNumbers.{before, start}
use Rattle.numbered_frames.proofs.SlotFrames.{after_decoded, stepped_by}
use Rattle.numbered_frames.proofs.Ways.{passed}
use Rattle.numbered_frames.specs.Films.{Film}

-- behind frame f the slots are what they were, or some of them hold what the frame was decoded to
abbrev pub AreNext : ℕ → List (Option Picture) → List (Option Picture) → Type 0
AreNext f old new = (new ≡ old) ⊎ ((flags : ℕ) × (picture : Picture) × (picture.frame ≡ f) × (new ≡ refreshed flags picture old))

behind_it : (f : ℕ) (p : Putting) (frame : List ℕ) (heads : Result FrameHead Rule) (stepped : Stepped) → behind_head f p.state frame heads ≡ Ok stepped → AreNext f p.state.slots stepped.state.slots
behind_it f p frame (Err rule) stepped steps = absurd cc
behind_it f p frame (Ok (head.ShowExisting slot)) stepped steps =
    let same : p.state ≡ stepped.state = cc in
    inl (ap (λ (s : State). s.slots) (sym same))
behind_it f p frame (Ok (head.Coded header compressed)) stepped steps =
    let d = after_decoded f p.state header (decoded_in p.state frame header compressed) stepped steps in
    inr (header.refresh, picture_of f header d.0, refl, ap (λ (s : State). s.slots) d.2)

pub next_slots : (format : Format) (film : Film) (f : ℕ) (p q : Putting) → before format film f ≡ Some p → before format film (suc f) ≡ Some q → AreNext f p.state.slots q.state.slots
unfolding step
next_slots format film f p q from is =
    let h = passed format film f q is in
    let both : Some h.kept ≡ Some p = sym h.before ∙ from in
    let same : h.kept ≡ p = cc in
    let s = stepped_by h.kept.form (step f h.kept.state h.bytes) h.added h.put in
    let steps : behind_head f h.kept.state h.bytes (head_of (persist_of h.kept.state) h.bytes) ≡ Ok s.0 = s.1 in
    let one = behind_it f h.kept h.bytes (head_of (persist_of h.kept.state) h.bytes) s.0 steps in
    subst (λ (x : Putting). AreNext f x.state.slots q.state.slots) same
    (subst (λ (x : Putting). AreNext f h.kept.state.slots x.state.slots) h.is (subst (λ (st : State). AreNext f h.kept.state.slots st.slots) (sym s.2) one))

---- There are eight ----

as_many : {A : Type 0} (flags : ℕ) (frame : A) (slots : List (Option A)) → length (refreshed flags frame slots) ≡ length slots
as_many flags frame [] = refl
as_many flags frame (slot ∷ slots) = ap suc (as_many (flags / 2) frame slots)

still_eight : (f : ℕ) (old new : List (Option Picture)) → length old ≡ 8 → AreNext f old new → length new ≡ 8
still_eight f old new eight next =
    ⊎_elim (λ (same : new ≡ old). ap (λ (xs : List (Option Picture)). length xs) same ∙ eight)
    (λ (x : (flags : ℕ) × (picture : Picture) × (picture.frame ≡ f) × (new ≡ refreshed flags picture old)).
    ap (λ (xs : List (Option Picture)). length xs) x.3 ∙ as_many x.0 x.1 old ∙ eight)
    next

pub eight_slots : (format : Format) (film : Film) (f : ℕ) (p : Putting) → before format film f ≡ Some p → length p.state.slots ≡ 8
unfolding before
eight_slots format film zero p is =
    let same : start format film ≡ p = cc in
    subst (λ (q : Putting). length q.state.slots ≡ 8) same refl
eight_slots format film (suc f) p is =
    let h = passed format film f p is in
    still_eight f h.kept.state.slots p.state.slots (eight_slots format film f h.kept h.before) (next_slots format film f h.kept p h.before is)
