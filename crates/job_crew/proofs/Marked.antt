-- Marks of tickets.
use Rattle.std.proofs.Common.{◌≡◌, ◌↔◌, ℕ, zero, suc, ◌+◌, ◌-◌, ◌*◌, ◌<◌, ◌≤◌, ◌⊎◌, inl, inr, ⊎_elim, Bool, true, false, List, [], ◌∷◌, ◌++◌, length, take, drop, get_or, slice_get, slice_set, IfSome, SomeIff, Option, Some, None, sym, subst, refl, ◌∙◌, ap, arith, length-append}
use Rattle.std.proofs.lemmas.Bool.{false≢true, cases_lt}
use Rattle.std.proofs.lemmas.Option.{none-some, same_Some, slice_get_within, slice_get-get_or}
use Rattle.std.proofs.lemmas.List.{take_all, take-append-le}
use Rattle.vp9_types.specs.declared.job.JobName.{JobName}
use Rattle.vp9_types.specs.declared.job.JobName.TheVariants.{Column, Close, Rows, Filter, Write}
use Rattle.job_order.specs.declared.segment.Segment.{Segment}
use Rattle.job_order.specs.declared.segment.Segment.TheVariants.{Parse, Build}
use Rattle.job_order.specs.JobSegments.{jobs_of, jobs_in, job_at}
use Rattle.job_order.proofs.Places.{got_left, got_right, got_either, only, IsBehindIn}
use Rattle.job_order.proofs.Orders.{StandsIn, got}
use Rattle.job_crew.specs.Events.{IsMarked, AreStarts}

pub none_marked : (ticket : ℕ) → IsMarked 0 [] ticket → ⊥
none_marked ticket k = none-some true (k ticket (omega arith))

pub more_marked : (base : ℕ) (marks : List Bool) (ticket : ℕ) → IsMarked base marks ticket → IsMarked base (marks ++ false ∷ []) ticket
more_marked base marks ticket k n is = got_left marks (false ∷ []) n true (k n is)

pub less_marked : (base : ℕ) (marks : List Bool) (ticket : ℕ) → IsMarked base (marks ++ false ∷ []) ticket → IsMarked base marks ticket
less_marked base marks ticket k n is =
    ⊎_elim
    (λ (h : slice_get marks n ≡ Some true). h)
    (λ (h : IsBehindIn marks (false ∷ []) n true). absurd (false≢true (only false true h.place h.there).1))
    (got_either marks (false ∷ []) n true (k n is))

set_same : (marks : List Bool) (at : ℕ) (b : Bool) → slice_get marks at ≡ Some b → slice_get (slice_set marks at true) at ≡ Some true
set_same [] at b e = absurd (none-some b e)
set_same (y ∷ marks) zero b e = refl
set_same (y ∷ marks) (suc at) b e = set_same marks at b e

set_keeps : (marks : List Bool) (at n : ℕ) → slice_get marks n ≡ Some true → slice_get (slice_set marks at true) n ≡ Some true
set_keeps [] at n e = absurd (none-some true e)
set_keeps (y ∷ marks) zero zero e = refl
set_keeps (y ∷ marks) zero (suc n) e = e
set_keeps (y ∷ marks) (suc at) zero e = e
set_keeps (y ∷ marks) (suc at) (suc n) e = set_keeps marks at n e

set_other : (marks : List Bool) (at n : ℕ) → slice_get (slice_set marks at true) n ≡ Some true → (n ≡ at) ⊎ (slice_get marks n ≡ Some true)
set_other [] at n e = absurd (none-some true e)
set_other (y ∷ marks) zero zero e = inl refl
set_other (y ∷ marks) zero (suc n) e = inr e
set_other (y ∷ marks) (suc at) zero e = inr e
set_other (y ∷ marks) (suc at) (suc n) e = ⊎_elim (λ (h : n ≡ at). inl (ap suc h)) inr (set_other marks at n e)

-- the ticket whose mark is set
pub now_marked : (base : ℕ) (marks : List Bool) (at ticket : ℕ) → ticket ≡ base + at → slice_get marks at ≡ Some false → IsMarked base (slice_set marks at true) ticket
now_marked base marks at ticket here was n is =
    subst (λ i. slice_get (slice_set marks at true) i ≡ Some true) (let z : at ≡ n = omega (arith, here, is) in z) (set_same marks at false was)

pub still_marked : (base : ℕ) (marks : List Bool) (at ticket : ℕ) → IsMarked base marks ticket → IsMarked base (slice_set marks at true) ticket
still_marked base marks at ticket k n is = set_keeps marks at n (k n is)

-- every other one
pub before_marked : (base : ℕ) (marks : List Bool) (at ticket : ℕ) → (ticket ≡ base + at → ⊥) → IsMarked base (slice_set marks at true) ticket → IsMarked base marks ticket
before_marked base marks at ticket other k n is =
    ⊎_elim (λ (h : n ≡ at). absurd (other (omega (arith, is, h)))) (λ (h : slice_get marks n ≡ Some true). h) (set_other marks at n (k n is))

pub not_marked : (base : ℕ) (marks : List Bool) (at : ℕ) → slice_get marks at ≡ Some false → IsMarked base marks (base + at) → ⊥
not_marked base marks at was k = false≢true (same_Some false true (sym was ∙ k at refl))

-- a marked ticket is drawn
pub marked_below : (base : ℕ) (marks : List Bool) (ticket : ℕ) → IsMarked base marks ticket → ticket < base + length marks
marked_below base marks ticket k = ⊎_elim (λ (h : ticket < base). omega (arith, h)) (λ (h : base ≤ ticket). from base ticket h k) (cases_lt ticket base)
  where
    from : (base ticket : ℕ) → base ≤ ticket → IsMarked base marks ticket → ticket < base + length marks
    from base ticket le k = let n = ticket - base in let e : ticket ≡ base + n = omega (arith, le) in let l = slice_get_within marks n true (k n e) in omega (arith, e, l)

-- the first mark is let go
pub pops : (base : ℕ) (marks rest : List Bool) → marks ≡ true ∷ rest → (ticket : ℕ) → IsMarked base marks ticket ↔ IsMarked (base + 1) rest ticket
pops base marks rest is ticket = subst (λ l. IsMarked base l ticket ↔ IsMarked (base + 1) rest ticket) (sym is) (λ k n e. k (suc n) (omega (arith, e)), back)
  where
    back : IsMarked (base + 1) rest ticket → IsMarked base (true ∷ rest) ticket
    back k zero e = refl
    back k (suc n) e = k n (omega (arith, e))

-- the ticket of a job that stands in a segment
pub ticket_here : (segments : List Segment) (place : ℕ) (s : Segment) (k : ℕ) (job : JobName) → slice_get segments place ≡ Some s → slice_get (jobs_of s) k ≡ Some job
    → job_at segments (length (jobs_in (take place segments)) + k) ≡ Some job
ticket_here [] place s k job e h = absurd (none-some s e)
ticket_here (x ∷ rest) zero s k job e h =
    subst (λ i. slice_get (jobs_of x ++ jobs_in rest) i ≡ Some job) (let z : k ≡ 0 + k = omega arith in z)
    (got_left (jobs_of x) (jobs_in rest) k job (subst (λ y. slice_get (jobs_of y) k ≡ Some job) (sym (same_Some x s e)) h))
ticket_here (x ∷ rest) (suc place) s k job e h =
    let l = length-append (jobs_of x) (jobs_in (take place rest)) in
    subst (λ i. slice_get (jobs_of x ++ jobs_in rest) i ≡ Some job)
    (let z : length (jobs_of x) + (length (jobs_in (take place rest)) + k) ≡ length (jobs_of x ++ jobs_in (take place rest)) + k = omega (arith, l) in z)
    (got_right (jobs_of x) (jobs_in rest) (length (jobs_in (take place rest)) + k) job (ticket_here rest place s k job e h))

pub ticket_at : (segments : List Segment) (starts : List ℕ) (place start k ticket : ℕ) (s : Segment) (job : JobName) → AreStarts segments starts → slice_get starts place ≡ Some start
    → slice_get segments place ≡ Some s → slice_get (jobs_of s) k ≡ Some job → ticket ≡ start + k → job_at segments ticket ≡ Some job
ticket_at segments starts place start k ticket s job h at there stands is =
    subst (λ i. job_at segments i ≡ Some job) (let b = h.1 place start at in let z : length (jobs_in (take place segments)) + k ≡ ticket = omega (arith, b, is) in z)
    (ticket_here segments place s k job there stands)

-- the first tickets of segments, one more of them
pub starts_more : (segments : List Segment) (starts : List ℕ) (published : ℕ) (s : Segment) → AreStarts segments starts → published ≡ length (jobs_in segments)
    → AreStarts (segments ++ s ∷ []) (starts ++ published ∷ [])
starts_more segments starts published s h all = (
  omega (arith, length-append segments (s ∷ []), length-append starts (published ∷ []), h.0),
  λ place start e.
      ⊎_elim
      (λ (old : slice_get starts place ≡ Some start).
      let inside = slice_get_within starts place start old in
      h.1 place start old ∙ ap (λ l. length (jobs_in l)) (sym (take-append-le place segments (s ∷ []) (omega (arith, inside, h.0)))))
      (λ (new : IsBehindIn starts (published ∷ []) place start).
      let one = only published start new.place new.there in
      let here : place ≡ length segments = let i = new.is in omega (arith, i, one.0, h.0) in
      sym one.1 ∙ (all ∙ ap (λ l. length (jobs_in l)) (sym (subst (λ n. take n (segments ++ s ∷ []) ≡ segments) (sym here) (front segments (s ∷ []))))))
      (got_either starts (published ∷ []) place start e),
)
  where
    front : (xs ys : List Segment) → take (length xs) (xs ++ ys) ≡ xs
    front xs ys = take-append-le (length xs) xs ys (omega arith) ∙ take_all (length xs) xs (omega arith)

-- the first element of a list, and the rest
pub first_rest : (marks rest : List Bool) (x : Bool) → 0 < length marks → x ≡ get_or marks 0 x → x ≡ true → rest ≡ drop 1 marks → marks ≡ true ∷ rest
first_rest [] rest x some is set so = absurd (omega (arith, some))
first_rest (y ∷ marks) rest x some is set so = rw so (ap (λ b. b ∷ marks) (sym is ∙ set))

pub ticket_if : (segments : List Segment) (starts : List ℕ) (place k : ℕ) (e : Segment) (P : Type 0) (found : Option ℕ) (job : JobName) → AreStarts segments starts → place < length segments
    → place < length starts → slice_get (jobs_of (get_or segments place e)) k ≡ Some job → SomeIff found P (get_or starts place 0 + k)
    → IfSome found (λ ticket. job_at segments ticket ≡ Some job)
ticket_if segments starts place k e P None job h inside within stands is = tt
ticket_if segments starts place k e P (Some ticket) job h inside within stands is =
    ticket_at segments starts place (get_or starts place 0) k ticket (get_or segments place e) job h (slice_get-get_or starts place 0 within) (slice_get-get_or segments place e inside) stands is.1

-- the place of a job in a segment
pub column_place : (g own columns c : ℕ) (job : JobName) → job ≡ Column own c → own ≡ g → c < columns → slice_get (jobs_of (Parse g columns)) c ≡ Some job
column_place g own columns c job is same less = subst (λ j. slice_get (jobs_of (Parse g columns)) c ≡ Some j) (sym is) (got (Parse g columns) (Column own c) c (same, less, refl))

pub close_place : (g own columns : ℕ) (job : JobName) → job ≡ Close own → own ≡ g → slice_get (jobs_of (Parse g columns)) columns ≡ Some job
close_place g own columns job is same = subst (λ j. slice_get (jobs_of (Parse g columns)) columns ≡ Some j) (sym is) (got (Parse g columns) (Close own) columns (same, refl))

module _ (g columns rows : ℕ) (job : JobName) where
  place_behind : (other : JobName) (n : ℕ) (P : Type 0) (found : Option ℕ) → job ≡ other → StandsIn (Build g columns rows None) other (1 + n) → SomeIff found P (n + 1)
      → IfSome found (λ place. slice_get (jobs_of (Build g columns rows None)) place ≡ Some job)
  place_behind other n P None is stands so = tt
  place_behind other n P (Some place) is stands so =
      subst (λ i. slice_get (jobs_of (Build g columns rows None)) i ≡ Some job) (let e = so.1 in let z : 1 + n ≡ place = omega (arith, e) in z)
      (subst (λ j. slice_get (jobs_of (Build g columns rows None)) (1 + n) ≡ Some j) (sym is) (got (Build g columns rows None) other (1 + n) stands))

  pub rows_place : (own c r : ℕ) (P : Type 0) (found : Option ℕ) → job ≡ Rows own c r → own ≡ g → c < columns → r < rows → SomeIff found P (r * (columns + 1) + c + 1)
      → IfSome found (λ place. slice_get (jobs_of (Build g columns rows None)) place ≡ Some job)
  rows_place own c r P found is same column row so = place_behind (Rows own c r) (r * (columns + 1) + c) P found is (same, column, row, refl) so

  pub filter_place : (own r : ℕ) (P : Type 0) (found : Option ℕ) → job ≡ Filter own r → own ≡ g → r < rows → SomeIff found P (r * (columns + 1) + columns + 1)
      → IfSome found (λ place. slice_get (jobs_of (Build g columns rows None)) place ≡ Some job)
  filter_place own r P found is same row so = place_behind (Filter own r) (r * (columns + 1) + columns) P found is (same, row, refl) so

  pub write_place : (own : ℕ) (P : Type 0) (found : Option ℕ) → job ≡ Write own → own ≡ g → SomeIff found P (rows * (columns + 1) + 1)
      → IfSome found (λ place. slice_get (jobs_of (Build g columns rows None)) place ≡ Some job)
  write_place own P found is same so = place_behind (Write own) (rows * (columns + 1)) P found is (same, refl) so
