-- The pool stays one when a segment is published, a job is put in or taken out.
use Rattle.std.proofs.Common.{◌≡◌, ℕ, ◌+◌, ◌<◌, ◌≤◌, ◌⊎◌, inl, inr, ⊎_elim, List, [], ◌∷◌, ◌++◌, length, slice_get, take, drop, get_or, Some, arith}
use Rattle.std.proofs.lemmas.Option.{none-some}
use Rattle.std.proofs.lemmas.List.{length-append}
use Rattle.std.proofs.lemmas.List.Elements.{All-append, All-take, All-drop, All-weaker, All-nil, All-cons, All-get_or}
use Rattle.vp9_types.specs.declared.job.JobName.{JobName}
use Rattle.job_order.specs.declared.segment.Segment.{Segment}
use Rattle.job_order.specs.declared.segment.Segment.TheVariants.{Last}
use Rattle.job_order.specs.declared.order.Mark.{Mark}
use Rattle.job_order.specs.JobSegments.{jobs_of, jobs_in, job_at, InOrder, IsListed}
use Rattle.job_order.specs.Code.{IsMark}
use Rattle.job_order.specs.Worlds.{Rules}
use Rattle.job_order.specs.Truths.{Truth}
use Rattle.job_order.proofs.Places.{got_left, got_right, got_either, IsBehindIn}
use Rattle.job_order.proofs.Grows.{IsOpen, at_still, pushed}
use Rattle.job_order.proofs.Walk.{mark_stays}
use Rattle.job_crew.specs.Code.{AreDue, Fits, IsPool}

-- no segment behind the last one
is_open : (segments : List Segment) → InOrder segments → ((place f : ℕ) → place + 1 ≡ length segments → slice_get segments place ≡ Some (Last f) → ⊥) → IsOpen segments
is_open segments order goes_on = record { no_last = λ place f e. goes_on place f (order.last place f e) e }

-- a ticket of more segments is one of these, or of the one behind them
listed_either : (segments : List Segment) (s : Segment) (ticket : ℕ) (job : JobName) → job_at (segments ++ s ∷ []) ticket ≡ Some job
    → IsListed segments job ⊎ ((place : ℕ) × (slice_get (jobs_of s) place ≡ Some job))
listed_either [] s ticket job e =
    ⊎_elim
    (λ (h : slice_get (jobs_of s) ticket ≡ Some job). inr (ticket, h))
    (λ (h : IsBehindIn (jobs_of s) [] ticket job). absurd (none-some job h.there))
    (got_either (jobs_of s) [] ticket job e)
listed_either (x ∷ rest) s ticket job e =
    ⊎_elim
    (λ (h : slice_get (jobs_of x) ticket ≡ Some job). inl (at_first x rest ticket job h))
    (λ (h : IsBehindIn (jobs_of x) (jobs_in (rest ++ s ∷ [])) ticket job).
    ⊎_elim
    (λ (l : IsListed rest job). inl (behind x rest job l))
    (λ (l : (place : ℕ) × (slice_get (jobs_of s) place ≡ Some job)). inr l)
    (listed_either rest s h.place job h.there))
    (got_either (jobs_of x) (jobs_in (rest ++ s ∷ [])) ticket job e)
  where
    at_first : (x : Segment) (rest : List Segment) (ticket : ℕ) (job : JobName) → slice_get (jobs_of x) ticket ≡ Some job → IsListed (x ∷ rest) job
    at_first x rest ticket job h = (ticket, got_left (jobs_of x) (jobs_in rest) ticket job h)

    behind : (x : Segment) (rest : List Segment) (job : JobName) → IsListed rest job → IsListed (x ∷ rest) job
    behind x rest job l = (length (jobs_of x) + l.0, got_right (jobs_of x) (jobs_in rest) l.0 job l.1)

-- how many jobs there are with those of one segment more
jobs_more : (segments : List Segment) (s : Segment) → length (jobs_in (segments ++ s ∷ [])) ≡ length (jobs_in segments) + length (jobs_of s)
jobs_more [] s = omega (arith, length-append (jobs_of s) (jobs_in []))
jobs_more (x ∷ rest) s =
    let h = jobs_more rest s in
    omega (arith, h, length-append (jobs_of x) (jobs_in (rest ++ s ∷ [])), length-append (jobs_of x) (jobs_in rest))

module _ {X : Type 0} (m : Rules X) (t : Truth X) where
  pub publishes : (segments : List Segment) (s : Segment) (names : List JobName) (mark : Mark) (published more drawn : ℕ) → IsPool m t segments names mark published drawn
      → Fits segments s → AreDue m t s → more ≡ published + length (jobs_of s) → IsPool m t (segments ++ s ∷ []) names mark more drawn
  publishes segments s names mark published more drawn h fits due few =
      record {
        order = pushed segments s h.order (is_open segments h.order fits.goes_on) fits.at fits.shown;
        marked = mark_stays segments (Some s) mark h.marked;
        later = h.later;
        tickets = omega (arith, few, h.tickets, jobs_more segments s);
        listed = All-weaker (IsListed segments) (IsListed (segments ++ s ∷ [])) (λ job l. (l.0, at_still segments (Some s) l.0 job l.1)) names h.listed;
        due = λ job l.
            ⊎_elim
            (λ (old : IsListed segments job). h.due job old)
            (λ (new : (place : ℕ) × (slice_get (jobs_of s) place ≡ Some job)). due new.0 job new.1)
            (listed_either segments s l.0 job l.1);
      }

  pub puts : (segments : List Segment) (names : List JobName) (mark new : Mark) (published drawn ticket : ℕ) (job : JobName) → IsPool m t segments names mark published drawn
      → IsMark segments new → new.ticket ≤ ticket → IsListed segments job → IsPool m t segments (names ++ job ∷ []) new published (ticket + 1)
  puts segments names mark new published drawn ticket job h marked later listed =
      record {
        order = h.order;
        marked = marked;
        later = omega (arith, later);
        tickets = h.tickets;
        listed = All-append (IsListed segments) names (job ∷ []) h.listed (All-cons (IsListed segments) job [] listed (All-nil (IsListed segments)));
        due = h.due;
      }

  pub moves : (segments : List Segment) (names : List JobName) (mark new : Mark) (published drawn : ℕ) → IsPool m t segments names mark published drawn → IsMark segments new
      → new.ticket ≤ drawn → IsPool m t segments names new published drawn
  moves segments names mark new published drawn h marked later =
      record { order = h.order; marked = marked; later = later; tickets = h.tickets; listed = h.listed; due = h.due }

  pub takes : (segments : List Segment) (names : List JobName) (mark : Mark) (published drawn at : ℕ) → IsPool m t segments names mark published drawn
      → IsPool m t segments (take at names ++ drop (at + 1) names) mark published drawn
  takes segments names mark published drawn at h =
      record {
        order = h.order;
        marked = h.marked;
        later = h.later;
        tickets = h.tickets;
        listed = All-append (IsListed segments) (take at names) (drop (at + 1) names) (All-take (IsListed segments) at names h.listed) (All-drop (IsListed segments) (at + 1) names h.listed);
        due = h.due;
      }

  pub named : (segments : List Segment) (names : List JobName) (mark : Mark) (published drawn at : ℕ) (d : JobName) → IsPool m t segments names mark published drawn → at < length names
      → IsListed segments (get_or names at d)
  named segments names mark published drawn at d h inside = All-get_or (IsListed segments) names at d inside h.listed
