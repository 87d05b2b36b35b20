-- What lies under the lock tells of a world, after each step.
use Rattle.std.proofs.Common.{◌≡◌, ◌↔◌, ℕ, ◌+◌, ◌*◌, ◌<◌, ◌≤◌, ◌⊎◌, inl, inr, ⊎_elim, Bool, true, false, List, [], ◌∷◌, ◌++◌, length, take, All, slice_get, slice_set, Option, Some, None, sym, subst, refl, ◌∙◌, ap, arith, length-append}
use Rattle.std.proofs.lemmas.Bool.{cases_lt}
use Rattle.std.proofs.lemmas.Option.{same_Some, slice_get_within, none-some}
use Rattle.std.proofs.lemmas.List.{length-set}
use Rattle.std.proofs.lemmas.List.Elements.{All-nil}
use Rattle.vp9_types.specs.declared.job.JobName.{JobName}
use Rattle.vp9_types.specs.declared.job.JobName.TheVariants.{Head, Column, Close, Rows, Filter, Write, End}
use Rattle.vp9_types.specs.declared.job.BandSpan.{BandSpan}
use Rattle.job_order.specs.declared.segment.Segment.{Segment}
use Rattle.job_order.specs.declared.segment.Segment.TheVariants.{Opening, Build}
use Rattle.job_order.specs.declared.segment.Shown.{Shown}
use Rattle.job_order.specs.declared.order.Mark.{Mark}
use Rattle.job_order.specs.declared.event.Event.TheVariants.{Finish}
use Rattle.job_order.specs.JobSegments.{jobs_in, job_at, IsListed, InOrder}
use Rattle.job_order.specs.Needs.{IsNeed, IsInSpan, Publishes}
use Rattle.job_order.specs.Code.{IsMark}
use Rattle.job_order.specs.Worlds.{Rules, Building, WorldState, HasResult, IsReached, opening, after, parsed, built, published, and_published}
use Rattle.job_order.specs.Truths.{Truth}
use Rattle.job_order.proofs.Places.{only}
use Rattle.job_order.proofs.Keeps.{opening_order}
use Rattle.job_order.proofs.Readiness.{band_of}
use Rattle.job_crew.specs.Runs.{IsDue}
use Rattle.job_crew.specs.Code.{AreDue, Fits, IsPool, HasPut}
use Rattle.job_crew.specs.Events.{CanDo, Covers, HasPassed, MayBegin, IsMarked, IsDoneBy, AreStarts, IsWorld, IsShop}
use Rattle.job_crew.proofs.Due.{parse_due, build_due, last_due}
use Rattle.job_crew.proofs.Marked.{starts_more}
use Rattle.job_crew.proofs.Logged.{first_world, world_draws, world_pops, world_finishes, ready_now, next_reached, done_before}
use Rattle.job_crew.proofs.Pools.{publishes}

-- the row of the filter that publishes a band is none behind that of the last band
row_before : (band last rows row filter : ℕ) → band ≤ last → (last + 1 < rows → filter ≡ last + 1) → (rows ≤ last + 1 → filter ≡ last)
    → ((row ≡ band + 1) × (band + 1 < rows)) ⊎ ((row ≡ band) × (band + 1 ≡ rows)) → row ≤ filter
row_before band last rows row filter le next end by =
    ⊎_elim
    (λ (l : last + 1 < rows). let f = next l in ⊎_elim (λ (b : (row ≡ band + 1) × (band + 1 < rows)). omega (arith, f, b.0, le)) (λ (b : (row ≡ band) × (band + 1 ≡ rows)). omega (arith, f, b.0, le)) by)
    (λ (l : rows ≤ last + 1).
    let f = end l in ⊎_elim (λ (b : (row ≡ band + 1) × (band + 1 < rows)). omega (arith, f, b.0, b.1, l)) (λ (b : (row ≡ band) × (band + 1 ≡ rows)). omega (arith, f, b.0, le)) by)
    (cases_lt (last + 1) rows)

-- what was put behind the segments
pub puts_same : (segments more : List Segment) (starts begins : List ℕ) (before sum : ℕ) (o : Option Segment) → HasPut segments starts before o more begins sum → more ≡ and_published segments o
puts_same segments more starts begins before sum None put = put.0
puts_same segments more starts begins before sum (Some s) put = put.1

pub puts_next : (segments more : List Segment) (starts begins : List ℕ) (before sum : ℕ) (o : Option Segment) → HasPut segments starts before o more begins sum → (s : Segment) → o ≡ Some s
    → Fits segments s
puts_next segments more starts begins before sum None put s is = absurd (none-some s is)
puts_next segments more starts begins before sum (Some first) put s is = subst (λ y. Fits segments y) (same_Some first s is) put.0

module _ {X : Type 0} (m : Rules X) (t : Truth X) where
  opened_due : (job : JobName) → Head 0 ≡ job → IsDue m t job
  opened_due job is = subst (λ j. IsDue m t j) is (inl refl)

  pool_opened : (names : List JobName) (mark : Mark) → names ≡ [] → IsMark (Opening ∷ []) mark → mark.ticket ≡ 0 → IsPool m t (Opening ∷ []) names mark 1 0
  pool_opened names mark none marked first =
      record {
        order = opening_order;
        marked = marked;
        later = omega (arith, first);
        tickets = refl;
        listed = subst (λ n. All (IsListed (Opening ∷ [])) n) (sym none) (All-nil (IsListed (Opening ∷ [])));
        due = λ job l. opened_due job (only (Head 0) job l.0 l.1).1;
      }

  pub pool_first : (segments : List Segment) (names : List JobName) (mark : Mark) → segments ≡ Opening ∷ [] → names ≡ [] → IsMark segments mark → mark.ticket ≡ 0
      → IsPool m t segments names mark 1 0
  pool_first segments names mark is none marked first =
      subst (λ s. IsPool m t s names mark 1 0) (sym is) (pool_opened names mark none (subst (λ s. IsMark s mark) is marked) first)

  shop_opened : (own : ℕ) → CanDo m t → IsShop m t own (Opening ∷ []) (0 ∷ []) 0 0 [] false
  shop_opened own can =
      record {
        can = can;
        begins = (refl, λ place start e. let o = only 0 start place e in sym o.1 ∙ ap (λ p. length (jobs_in (take p (Opening ∷ [])))) (sym o.0));
        few = omega arith;
        long = refl;
        world = (opening own, first_world m own);
      }

  pub shop_first : (own : ℕ) (segments : List Segment) (starts : List ℕ) (base : ℕ) (marks : List Bool) → CanDo m t → segments ≡ Opening ∷ [] → starts ≡ 0 ∷ [] → base ≡ 0 → marks ≡ []
      → IsShop m t own segments starts 0 base marks false
  shop_first own segments starts base marks can is begin low none =
      subst (λ s. IsShop m t own s starts 0 base marks false) (sym is)
      (subst (λ s. IsShop m t own (Opening ∷ []) s 0 base marks false) (sym begin)
      (subst (λ b. IsShop m t own (Opening ∷ []) (0 ∷ []) 0 b marks false) (sym low)
      (subst (λ l. IsShop m t own (Opening ∷ []) (0 ∷ []) 0 0 l false) (sym none) (shop_opened own can))))

  -- what a right result publishes is due
  head_due : (f : ℕ) (x : X) (o : Option ℕ) → m.parses x ≡ o → t.right (Head f) x → AreDue m t (parsed f o)
  head_due f x None e right = last_due m t f (x, inl (right, e))
  head_due f x (Some columns) e right = parse_due m t f columns (x, right, e)

  close_due : (f : ℕ) (x : X) (o : Option Building) → m.builds x ≡ o → t.right (Close f) x → AreDue m t (built f o)
  close_due f x None e right = last_due m t f (x, inr (right, e))
  close_due f x (Some b) e right = build_due m t f b (x, right, e)

  due_of : (job : JobName) (x : X) (s : Segment) → t.right job x → published m job x ≡ Some s → AreDue m t s
  due_of (Head f) x s right e = subst (λ y. AreDue m t y) (same_Some (parsed f (m.parses x)) s e) (head_due f x (m.parses x) refl right)
  due_of (Close f) x s right e = subst (λ y. AreDue m t y) (same_Some (built f (m.builds x)) s e) (close_due f x (m.builds x) refl right)
  due_of (Column f c) x s right e = absurd (none-some s e)
  due_of (Rows f c r) x s right e = absurd (none-some s e)
  due_of (Filter f r) x s right e = absurd (none-some s e)
  due_of (Write f) x s right e = absurd (none-some s e)
  due_of (End f) x s right e = absurd (none-some s e)

  module _ (segments more : List Segment) (starts begins : List ℕ) (names : List JobName) (mark : Mark) (before sum drawn : ℕ) (h : IsPool m t segments names mark before drawn) where
    pub record HasMore (o : Option Segment) : Type 0 where
      pub same : more ≡ and_published segments o
      pub pool : IsPool m t more names mark sum drawn
      pub begin : AreStarts more begins
      pub up : before ≤ sum

    puts_more : (o : Option Segment) → ((s : Segment) → o ≡ Some s → AreDue m t s) → AreStarts segments starts → HasPut segments starts before o more begins sum → HasMore o
    puts_more None due s put =
        record {
          same = put.0;
          pool = subst (λ l. IsPool m t l names mark sum drawn) (sym put.0) (subst (λ n. IsPool m t segments names mark n drawn) (sym put.2) h);
          begin = subst (λ l. AreStarts l begins) (sym put.0) (subst (λ l. AreStarts segments l) (sym put.1) s);
          up = omega (arith, put.2);
        }
    puts_more (Some segment) due s put =
        record {
          same = put.1;
          pool = subst (λ l. IsPool m t l names mark sum drawn) (sym put.1) (publishes m t segments segment names mark before sum drawn h put.0 (due segment refl) put.3);
          begin = subst (λ l. AreStarts l begins) (sym put.1) (subst (λ l. AreStarts (segments ++ segment ∷ []) l) (sym put.2) (starts_more segments starts before segment s h.tickets));
          up = omega (arith, put.3);
        }

    module _ (own base : ℕ) (marks : List Bool) (s : IsShop m t own segments starts drawn base marks false) (at : ℕ) (job : JobName) (there : job_at segments (base + at) ≡ Some job)
        (open_mark : slice_get marks at ≡ Some false) (reads : List (Option BandSpan)) (covers : Covers m job reads)
        (needs : (need : JobName) → IsNeed segments own reads job need → IsDoneBy segments base marks need) (x : X) (right : t.right job x) where
      next : WorldState X
      next = after m s.world.0 (Finish job x (published m job x))

      -- the job's event was allowed
      pub event_of : (w : WorldState X) × IsReached m own w × HasResult w.finished job x
      event_of = (
        after m s.world.0 (Finish job x (published m job x)),
        next_reached m own t s.can segments drawn base marks s.world.0 s.world.1 s.long s.few at job there open_mark reads covers needs x right,
        inl (refl, refl),
      )

      pub finishes : (o : Option Segment) (ends : Bool) → o ≡ published m job x → (ends ≡ false → HasPassed m job x) → HasPut segments starts before o more begins sum
          → IsPool m t more names mark sum drawn × IsShop m t own more begins drawn base (slice_set marks at true) ends
      finishes o ends says passes put =
          let all = puts_more o (λ y e. due_of job x y right (sym says ∙ e)) s.begins put in
          let same : more ≡ and_published segments (published m job x) = all.same ∙ ap (λ p. and_published segments p) says in
          let pool = all.pool in
          let order : InOrder (and_published segments (published m job x)) = subst (λ l. InOrder l) same pool.order in (
            all.pool,
            record {
              can = s.can;
              begins = all.begin;
              few = let a = pool.tickets in let b = h.tickets in let u = all.up in let f = s.few in omega (arith, a, b, u, f);
              long = let l = s.long in omega (arith, l, length-set marks at true);
              world = (
                after m s.world.0 (Finish job x (published m job x)),
                subst (λ l. IsWorld m own l drawn base (slice_set marks at true) ends (after m s.world.0 (Finish job x (published m job x)))) (sym same)
                    (world_finishes m own t s.can segments drawn base marks s.world.0 s.world.1 s.long s.few at job there open_mark reads covers needs x right order ends passes),
              );
            },
          )

  module _ (own : ℕ) (segments : List Segment) (starts : List ℕ) (drawn base : ℕ) (marks : List Bool) (over : Bool) (s : IsShop m t own segments starts drawn base marks over) where
    pub shop_pops : (low : ℕ) (rest : List Bool) → ((ticket : ℕ) → IsMarked base marks ticket ↔ IsMarked low rest ticket) → low + length rest ≡ base + length marks
        → IsShop m t own segments starts drawn low rest over
    shop_pops low rest same long =
        record {
          can = s.can;
          begins = s.begins;
          few = s.few;
          long = let l = s.long in omega (arith, l, long);
          world = (s.world.0, world_pops m own segments drawn base marks over s.world.0 s.world.1 low rest same);
        }

    pub shop_draws : (ticket low : ℕ) (job : JobName) (more : List Bool) → ticket ≡ drawn → job_at segments ticket ≡ Some job → low ≡ base → more ≡ marks ++ false ∷ []
        → IsShop m t own segments starts (ticket + 1) low more over
    shop_draws ticket low job more is there same so =
        subst (λ n. IsShop m t own segments starts (n + 1) low more over) (sym is)
        (subst (λ b. IsShop m t own segments starts (drawn + 1) b more over) (sym same)
        (subst (λ l. IsShop m t own segments starts (drawn + 1) base l over) (sym so)
        (record {
          can = s.can;
          begins = s.begins;
          few = let i = slice_get_within (jobs_in segments) ticket job there in omega (arith, i, is);
          long = let l = s.long in omega (arith, l, length-append marks (false ∷ []));
          world = (_, world_draws m own segments drawn base marks over s.world.0 s.world.1);
        })))

    pub may_begin : (at : ℕ) (job : JobName) → job_at segments (base + at) ≡ Some job → slice_get marks at ≡ Some false → (reads : List (Option BandSpan)) → Covers m job reads
        → ((need : JobName) → IsNeed segments own reads job need → IsDoneBy segments base marks need) → MayBegin m own job
    may_begin at job there open_mark reads covers needs =
        (s.world.0, s.world.1.reached, ready_now m own segments drawn base marks over s.world.0 s.world.1 s.long at job there open_mark reads covers needs)

    -- the filters of a span of bands are finished where the last one is
    pub out_before : (order : InOrder segments) (span : BandSpan) (rows filter : ℕ)
        → (f : ℕ) × (columns : ℕ) × (shown : Option Shown) × (slice_get segments (2 * span.frame + 2) ≡ Some (Build f columns rows shown))
        → (span.last + 1 < rows → filter ≡ span.last + 1) → (rows ≤ span.last + 1 → filter ≡ span.last) → IsDoneBy segments base marks (Filter span.frame filter)
        → (g band row : ℕ) → IsInSpan (Some span) g band → Publishes segments g row band → IsDoneBy segments base marks (Filter g row)
    out_before order span rows filter is next end d g band row inside p =
        let at = order.places (2 * span.frame + 2) (Build is.0 is.1 rows is.2) is.3 in
        let own_frame : is.0 ≡ g = let i = inside.0 in omega (arith, at, i) in
        let there : slice_get segments (2 * g + 2) ≡ Some (Build g is.1 rows is.2) =
        subst (λ i. slice_get segments (2 * g + 2) ≡ Some (Build i is.1 rows is.2)) own_frame (subst (λ i. slice_get segments (2 * i + 2) ≡ Some (Build is.0 is.1 rows is.2)) inside.0 is.3) in
        let by = band_of segments order g is.1 rows row band is.2 there p in
        done_before m own segments drawn base marks over s.world.0 s.world.1 g filter row (row_before band span.last rows row filter inside.2 next end by) p.0
        (subst (λ i. IsDoneBy segments base marks (Filter i filter)) inside.0 d)
