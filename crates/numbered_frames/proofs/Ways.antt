-- The frames below a number are a front of the walk over the film.
use Rattle.std.proofs.Common.{◌≡◌, ℕ, zero, suc, ◌+◌, ◌<◌, List, [], ◌∷◌, ◌++◌, length, take, drop, get_or, ap, sym, refl, ◌∙◌, arith, inl, inr, append_assoc}
use Rattle.std.specs.Prelude.{Option, Some, None, Result, Ok, Err, slice_get}
use Rattle.std.proofs.lemmas.Bool.{cases_lt}
use Rattle.std.proofs.lemmas.List.{append-nil, drop_more, drop_all}
use Rattle.std.proofs.lemmas.Option.{slice_get_within, get_or_from_slice_get, slice_get-get_or}
use Rattle.std.proofs.Math.Seq.{take-append_seam}
use Rattle.vp9_types.specs.declared.rule.Rule.{Rule}
use Rattle.file_frames.specs.Walks.{Added, Walked, adding, ended, followed, walk_from}
use Rattle.frame_output.specs.declared.rendering.Format.{Format}
use Rattle.job_order.specs.Sound.{texts_below}
use Rattle.seq_decoder.specs.Code.{put_text}
use Rattle.seq_decoder.specs.Outputs.{Putting, form_from, output_of, putting}
use Rattle.numbered_frames.specs.FrameNumbers.{EndsAt, before, film_output, kept_after, after_frame, file_ending, frame_at, put_frame, start, text, text_from}
use Rattle.numbered_frames.specs.Films.{Film, film_of}

-- the walk from a frame on, behind what is kept before it
abbrev pub walk_at : Format → Film → ℕ → Putting → Walked ℕ Rule
walk_at format film f p = walk_from (putting (form_from format film.rate)) f p (drop f film.frames) film.ending

---- Lists ----

dropped : {X : Type 0} (xs : List X) (n : ℕ) (x : X) → slice_get xs n ≡ Some x → drop n xs ≡ x ∷ drop (n + 1) xs
dropped xs n x is = drop_more xs n x (slice_get_within xs n x is) ∙ ap (λ y. y ∷ drop (n + 1) xs) (get_or_from_slice_get xs n x x is)

past_none : {X : Type 0} (ys : List X) (m : ℕ) → m < length ys → slice_get ys m ≡ None → drop m ys ≡ []
past_none [] m low none = let no : ⊥ = omega (arith, low) in absurd no
past_none (y ∷ ys) m low none = let no : Some (get_or (y ∷ ys) m y) ≡ None = sym (slice_get-get_or (y ∷ ys) m y low) ∙ none in absurd cc

past_end : {X : Type 0} (xs : List X) (n : ℕ) → slice_get xs n ≡ None → drop n xs ≡ []
past_end xs n is = elim (cases_lt n (length xs)) [
  | inl low ↦ past_none xs n low is
  | inr far ↦ drop_all n xs far
]

---- One frame ----

-- what is kept before a frame and behind it
pub record Passed (f : ℕ) (from : Option Putting) (frame : Option (List ℕ)) (next : Putting) : Type 0 where
  pub kept : Putting
  pub before : from ≡ Some kept
  pub bytes : List ℕ
  pub there : frame ≡ Some bytes
  pub added : Added Putting ℕ
  pub put : put_frame f kept bytes ≡ Ok added
  pub is : added.state ≡ next

state_of : (r : Result (Added Putting ℕ) Rule) (next : Putting) → kept_after r ≡ Some next → (added : Added Putting ℕ) × (r ≡ Ok added) × (added.state ≡ next)
state_of (Ok added) next is = (added, refl, cc)
state_of (Err rule) next is = absurd cc

passed_by : (f : ℕ) (from : Option Putting) (frame : Option (List ℕ)) (next : Putting) → after_frame f from frame ≡ Some next → Passed f from frame next
passed_by f None frame next is = absurd cc
passed_by f (Some p) None next is = absurd cc
passed_by f (Some p) (Some bytes) next is =
    let s = state_of (put_frame f p bytes) next is in
    record { kept = p; before = refl; bytes = bytes; there = refl; added = s.0; put = s.1; is = s.2 }

pub passed : (format : Format) (film : Film) (f : ℕ) (next : Putting) → before format film (suc f) ≡ Some next → Passed f (before format film f) (frame_at film f) next
unfolding before
passed format film f next is = passed_by f (before format film f) (frame_at film f) next is

pub text_is : (format : Format) (film : Film) (f : ℕ) (p : Putting) (frame : List ℕ) (r : Result (Added Putting ℕ) Rule) → before format film f ≡ Some p → frame_at film f ≡ Some frame
    → put_frame f p frame ≡ r → text format film f ≡ put_text r
unfolding text
text_is format film f p frame r from there is =
    ap (λ o. text_from f o (frame_at film f)) from ∙ ap (text_from f (Some p)) there ∙ ap put_text is

---- The way ----

-- the texts below frame f, and then the walk from there on
abbrev pub IsOnWay : Format → Film → ℕ → Putting → Type 0
IsOnWay format film f p = film_output format film ≡ adding (texts_below (text format film) f) (walk_at format film f p)

-- the walk at a frame that is there
at_frame : (format : Format) (film : Film) (f : ℕ) (p : Putting) (frame : List ℕ) (r : Result (Added Putting ℕ) Rule) → frame_at film f ≡ Some frame → put_frame f p frame ≡ r
    → walk_at format film f p ≡ followed f r (λ next. walk_at format film (f + 1) next)
at_frame format film f p frame r there is =
    ap (λ (xs : List (List ℕ)). walk_from (putting (form_from format film.rate)) f p xs film.ending) (dropped film.frames f frame there)
    ∙ ap (λ (x : Result (Added Putting ℕ) Rule). followed f x (λ next. walk_at format film (f + 1) next)) is

adding_both : (a b : List ℕ) (w : Walked ℕ Rule) → adding a (adding b w) ≡ adding (a ++ b) w
adding_both a b w = ap (λ (x : List ℕ). record { adds = x; ending = w.ending }) (sym (append_assoc a b w.adds))

only_adds : (adds : List ℕ) (ending : Option (ℕ × Rule)) → adding adds (ended ending) ≡ record { adds = adds; ending = ending }
only_adds adds ending = ap (λ (x : List ℕ). record { adds = x; ending = ending }) (append-nil adds)

pub on_way : (format : Format) (film : Film) (f : ℕ) (p : Putting) → before format film f ≡ Some p → IsOnWay format film f p
unfolding before
on_way format film zero p is =
    let same : start format film ≡ p = cc in
    ap (λ (q : Putting). walk_at format film 0 q) same
on_way format film (suc f) p is =
    let h = passed format film f p is in
    let words = text_is format film f h.kept h.bytes (Ok h.added) h.before h.there h.put in
    let one : f + 1 ≡ suc f = omega arith in
    on_way format film f h.kept h.before
    ∙ ap (adding (texts_below (text format film) f)) (at_frame format film f h.kept h.bytes (Ok h.added) h.there h.put)
    ∙ adding_both (texts_below (text format film) f) h.added.adds (walk_at format film (f + 1) h.added.state)
    ∙ (λ i. adding (texts_below (text format film) f ++ sym words i) (walk_at format film (one i) (h.is i)))

---- Where it ends ----

ends_behind : (format : Format) (film : Film) (f : ℕ) (p : Putting) (e : Option Rule) → before format film f ≡ Some p → frame_at film f ≡ None → film.ending ≡ e
    → film_output format film ≡ record { adds = texts_below (text format film) f; ending = file_ending f e }
ends_behind format film f p None from none is =
    on_way format film f p from
    ∙ (λ i. adding (texts_below (text format film) f) (walk_from (putting (form_from format film.rate)) f p (past_end film.frames f none i) (is i)))
    ∙ only_adds (texts_below (text format film) f) None
ends_behind format film f p (Some rule) from none is =
    on_way format film f p from
    ∙ (λ i. adding (texts_below (text format film) f) (walk_from (putting (form_from format film.rate)) f p (past_end film.frames f none i) (is i)))
    ∙ only_adds (texts_below (text format film) f) (Some (f, rule))

ends_in : (format : Format) (film : Film) (f : ℕ) (p : Putting) (frame : List ℕ) (rule : Rule) → before format film f ≡ Some p → frame_at film f ≡ Some frame → put_frame f p frame ≡ Err rule
    → film_output format film ≡ record { adds = texts_below (text format film) f; ending = Some (f, rule) }
ends_in format film f p frame rule from there is =
    on_way format film f p from
    ∙ ap (adding (texts_below (text format film) f)) (at_frame format film f p frame (Err rule) there is)
    ∙ only_adds (texts_below (text format film) f) (Some (f, rule))

pub ends : (format : Format) (film : Film) (f : ℕ) (ending : Option (ℕ × Rule)) → EndsAt format film f ending
    → film_output format film ≡ record { adds = texts_below (text format film) f; ending = ending }
ends format film f ending h = elim h.ends [
  | inl at ↦ ends_behind format film f h.kept film.ending h.reached at.0 refl
      ∙ ap (λ (e : Option (ℕ × Rule)). record { adds = texts_below (text format film) f; ending = e }) (sym at.1)
  | inr at ↦ ends_in format film f h.kept at.0 at.1 h.reached at.2 at.3
      ∙ ap (λ (e : Option (ℕ × Rule)). record { adds = texts_below (text format film) f; ending = e }) (sym at.4)
]

-- what is written of a file is that of its film
pub files_are_films : (format : Format) (bytes : List ℕ) → output_of format bytes ≡ film_output format (film_of bytes)
unfolding output_of
files_are_films format bytes = refl

---- A front ----

abbrev pub IsFrontAt : Format → Film → ℕ → Type 0
IsFrontAt format film f = (n : ℕ) × (texts_below (text format film) f ≡ take n (film_output format film).adds)

front_by : (format : Format) (film : Film) (f : ℕ) (p : Putting) → before format film f ≡ Some p → IsFrontAt format film f
front_by format film f p from =
    let texts = texts_below (text format film) f in
    (length texts, sym (ap (λ (w : Walked ℕ Rule). take (length texts) w.adds) (on_way format film f p from) ∙ take-append_seam texts (walk_at format film f p).adds))

-- nothing is added
front_still : (format : Format) (film : Film) (f : ℕ) → text format film f ≡ [] → IsFrontAt format film f → IsFrontAt format film (suc f)
front_still format film f none h = (h.0, ap (λ t. texts_below (text format film) f ++ t) none ∙ append-nil (texts_below (text format film) f) ∙ h.1)

front_put : (format : Format) (film : Film) (f : ℕ) (p : Putting) (frame : List ℕ) (r : Result (Added Putting ℕ) Rule) → before format film f ≡ Some p → frame_at film f ≡ Some frame
    → put_frame f p frame ≡ r → IsFrontAt format film f → IsFrontAt format film (suc f)
unfolding before
front_put format film f p frame (Err rule) from there is h = front_still format film f (text_is format film f p frame (Err rule) from there is) h
front_put format film f p frame (Ok added) from there is h =
    let next : before format film (suc f) ≡ Some added.state =
    ap (λ o. after_frame f o (frame_at film f)) from ∙ ap (after_frame f (Some p)) there ∙ ap kept_after is in
    front_by format film (suc f) added.state next

front_on : (format : Format) (film : Film) (f : ℕ) (from : Option Putting) (frame : Option (List ℕ)) → before format film f ≡ from → frame_at film f ≡ frame
    → IsFrontAt format film f → IsFrontAt format film (suc f)
unfolding text
front_on format film f None frame from there h = front_still format film f (ap (λ o. text_from f o (frame_at film f)) from) h
front_on format film f (Some p) None from there h = front_still format film f (ap (λ o. text_from f o (frame_at film f)) from ∙ ap (text_from f (Some p)) there) h
front_on format film f (Some p) (Some frame) from there h = front_put format film f p frame (put_frame f p frame) from there refl h

pub front : (format : Format) (film : Film) (f : ℕ) → IsFrontAt format film f
front format film zero = (0, refl)
front format film (suc f) = front_on format film f (before format film f) (frame_at film f) refl refl (front format film f)
