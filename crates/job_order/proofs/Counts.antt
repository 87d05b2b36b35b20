-- Heads, closes and writes are finished in the order of their frames.
use Rattle.std.proofs.Common.{◌≡◌, ℕ, zero, suc, ◌+◌, ◌-◌, ◌*◌, ◌<◌, ◌≤◌, inl, inr, ⊎_elim, refl, ◌∙◌, ap, subst, List, [], ◌∷◌, length, Option, Some, None, arith, length-append, eq-or-lt_of_le}
use Rattle.std.proofs.lemmas.Bool.{cases_lt}
use Rattle.vp9_types.specs.declared.job.JobName.{JobName}
use Rattle.vp9_types.specs.declared.job.JobName.TheVariants.{Head, Column, Close, Rows, Filter, Write, End}
use Rattle.job_order.specs.declared.segment.Segment.{Segment}
use Rattle.job_order.specs.declared.segment.Segment.TheVariants.{Parse, Build}
use Rattle.job_order.specs.declared.segment.Shown.{Shown}
use Rattle.job_order.specs.declared.event.Done.{Done}
use Rattle.job_order.specs.JobSegments.{InOrder, StandsAt}
use Rattle.job_order.specs.Worlds.{Rules, Building, WorldState, IsFinished, IsReady, and_published, published, parsed, built}
use Rattle.job_order.proofs.Homes.{head_home, close_home}
use Rattle.job_order.proofs.Finished.{UpTo, up_same, up_next}
use Rattle.job_order.proofs.Grows.{is_open, pushed}

pub record Counts {X : Type 0} (window : ℕ) (finished : List (Done X)) (segments : List Segment) : Type 0 where
  pub heads : ℕ
  pub closes : ℕ
  pub writes : ℕ
  pub head : UpTo {X = X} Head finished heads
  pub close : UpTo {X = X} Close finished closes
  pub write : UpTo {X = X} Write finished writes
  pub low : closes ≤ heads
  pub high : heads ≤ closes + 1
  pub room : heads ≤ writes + window
  pub long : length segments ≡ 1 + heads + closes

module _ {X : Type 0} (m : Rules X) (w : WorldState X) where
  abbrev pub CountsOf : Type 0
  CountsOf = Counts {X = X} w.window w.finished w.segments

  -- not below, and not above
  turn : (kind : ℕ → JobName) (n f : ℕ) → UpTo {X = X} kind w.finished n → ¬ IsFinished w.finished (kind f) → f ≤ n → f ≡ n
  turn kind n f up new le = ⊎_elim (λ (e : f ≡ n). e) (λ (less : f < n). absurd (new (up.all f less))) (eq-or-lt_of_le le)

  pub has_room : (wide : 2 ≤ w.window) (f : ℕ) → IsReady m w (Head f) → (c : CountsOf) → f < c.writes + w.window
  has_room wide f r c =
      ⊎_elim
      (λ (less : f < w.window). let z : f < c.writes + w.window = omega (arith, less) in z)
      (λ (le : w.window ≤ f).
      let done = c.write.below (f - w.window) (r.needs (Write (f - w.window)) (let z : f ≡ f - w.window + w.window = omega (arith, le) in z)) in
      let z : f < c.writes + w.window = omega (arith, done, le) in z)
      (cases_lt f w.window)

  pub head_turn : (f : ℕ) → IsReady m w (Head f) → (c : CountsOf) → (f ≡ c.heads) × (c.closes ≡ c.heads)
  head_turn zero r c = let is = turn Head c.heads 0 c.head r.unfinished (omega arith) in let low = c.low in (is, omega (arith, is, low))
  head_turn (suc g) r c =
      let closed = c.close.below g (r.needs (Close g) (let z : suc g ≡ g + 1 = omega arith in z)) in
      let low = c.low in
      let is = turn Head c.heads (suc g) c.head r.unfinished (omega (arith, closed, low)) in
      (is, omega (arith, is, low, closed))

  pub close_turn : (f : ℕ) → IsReady m w (Close f) → (c : CountsOf) → (f ≡ c.closes) × (c.heads ≡ c.closes + 1)
  close_turn f r c =
      let begun = c.head.below f (r.needs (Head f) refl) in
      let high = c.high in
      let is = turn Close c.closes f c.close r.unfinished (omega (arith, begun, high)) in
      (is, omega (arith, is, high, begun))

  pub write_turn : (f : ℕ) → IsReady m w (Write f) → (c : CountsOf) → f ≡ c.writes
  write_turn zero r c = turn Write c.writes 0 c.write r.unfinished (omega arith)
  write_turn (suc g) r c =
      let before = c.write.below g (r.needs (Write g) (let z : suc g ≡ g + 1 = omega arith in z)) in
      turn Write c.writes (suc g) c.write r.unfinished before

  abbrev pub CountsAfter : JobName → X → Type 0
  CountsAfter job x = Counts {X = X} w.window (record { job = job; result = x } ∷ w.finished) (and_published w.segments (published m job x))

  head_count : (wide : 2 ≤ w.window) (f : ℕ) (x : X) → IsReady m w (Head f) → CountsOf → CountsAfter (Head f) x
  head_count wide f x r c =
      let t = head_turn f r c in
      let rooms = has_room wide f r c in
      let low = c.low in
      record {
        heads = suc c.heads;
        closes = c.closes;
        writes = c.writes;
        head = up_next Head (record { job = Head f; result = x }) w.finished c.heads (λ g e. let z : g ≡ f = cc in z ∙ t.0) (ap Head t.0) c.head;
        close = up_same Close (record { job = Head f; result = x }) w.finished c.closes (λ g e. cc) c.close;
        write = up_same Write (record { job = Head f; result = x }) w.finished c.writes (λ g e. cc) c.write;
        low = omega (arith, low);
        high = omega (arith, t.1);
        room = omega (arith, rooms, t.0);
        long = let l = length-append w.segments (parsed f (m.parses x) ∷ []) in let k = c.long in omega (arith, l, k);
      }

  close_count : (f : ℕ) (x : X) → IsReady m w (Close f) → CountsOf → CountsAfter (Close f) x
  close_count f x r c =
      let t = close_turn f r c in
      record {
        heads = c.heads;
        closes = suc c.closes;
        writes = c.writes;
        head = up_same Head (record { job = Close f; result = x }) w.finished c.heads (λ g e. cc) c.head;
        close = up_next Close (record { job = Close f; result = x }) w.finished c.closes (λ g e. let z : g ≡ f = cc in z ∙ t.0) (ap Close t.0) c.close;
        write = up_same Write (record { job = Close f; result = x }) w.finished c.writes (λ g e. cc) c.write;
        low = omega (arith, t.1);
        high = omega (arith, t.1);
        room = c.room;
        long = let l = length-append w.segments (built f (m.builds x) ∷ []) in let k = c.long in omega (arith, l, k);
      }

  write_count : (f : ℕ) (x : X) → IsReady m w (Write f) → CountsOf → CountsAfter (Write f) x
  write_count f x r c =
      let t = write_turn f r c in
      record {
        heads = c.heads;
        closes = c.closes;
        writes = suc c.writes;
        head = up_same Head (record { job = Write f; result = x }) w.finished c.heads (λ g e. cc) c.head;
        close = up_same Close (record { job = Write f; result = x }) w.finished c.closes (λ g e. cc) c.close;
        write = up_next Write (record { job = Write f; result = x }) w.finished c.writes (λ g e. let z : g ≡ f = cc in z ∙ t) (ap Write t) c.write;
        low = c.low;
        high = c.high;
        room = let k = c.room in omega (arith, k);
        long = c.long;
      }

  other_count : (job : JobName) (x : X) → ((f : ℕ) → job ≡ Head f → ⊥) → ((f : ℕ) → job ≡ Close f → ⊥) → ((f : ℕ) → job ≡ Write f → ⊥) → CountsOf
      → Counts {X = X} w.window (record { job = job; result = x } ∷ w.finished) w.segments
  other_count job x a b d c =
      record {
        heads = c.heads;
        closes = c.closes;
        writes = c.writes;
        head = up_same Head (record { job = job; result = x }) w.finished c.heads a c.head;
        close = up_same Close (record { job = job; result = x }) w.finished c.closes b c.close;
        write = up_same Write (record { job = job; result = x }) w.finished c.writes d c.write;
        low = c.low;
        high = c.high;
        room = c.room;
        long = c.long;
      }

  pub counts_after : (wide : 2 ≤ w.window) (job : JobName) (x : X) → IsReady m w job → CountsOf → CountsAfter job x
  counts_after wide (Head f) x r c = head_count wide f x r c
  counts_after wide (Close f) x r c = close_count f x r c
  counts_after wide (Write f) x r c = write_count f x r c
  counts_after wide (Column f k) x r c = other_count (Column f k) x (λ g e. cc) (λ g e. cc) (λ g e. cc) c
  counts_after wide (Rows f k q) x r c = other_count (Rows f k q) x (λ g e. cc) (λ g e. cc) (λ g e. cc) c
  counts_after wide (Filter f q) x r c = other_count (Filter f q) x (λ g e. cc) (λ g e. cc) (λ g e. cc) c
  counts_after wide (End f) x r c = other_count (End f) x (λ g e. cc) (λ g e. cc) (λ g e. cc) c

  parsed_stands : (f place : ℕ) (o : Option ℕ) → place ≡ 2 * f + 1 → StandsAt place (parsed f o)
  parsed_stands f place None e = inl e
  parsed_stands f place (Some columns) e = e

  parsed_shows : (f : ℕ) (o : Option ℕ) (g columns rows : ℕ) (shown : Shown) → parsed f o ≡ Build g columns rows (Some shown) → shown.frame ≤ g
  parsed_shows f None g columns rows shown e = absurd cc
  parsed_shows f (Some n) g columns rows shown e = absurd cc

  built_stands : (f place : ℕ) (o : Option Building) → place ≡ 2 * f + 2 → StandsAt place (built f o)
  built_stands f place None e = inr e
  built_stands f place (Some b) e = e

  built_shows : (f : ℕ) (o : Option Building) → ((b : Building) (shown : Shown) → o ≡ Some b → b.shown ≡ Some shown → shown.frame ≤ f)
      → (g columns rows : ℕ) (shown : Shown) → built f o ≡ Build g columns rows (Some shown) → shown.frame ≤ g
  built_shows f None ok g columns rows shown e = absurd cc
  built_shows f (Some b) ok g columns rows shown e =
      let same : f ≡ g = cc in
      let shows : b.shown ≡ Some shown = cc in
      subst (λ i. shown.frame ≤ i) same (ok b shown refl shows)

  head_order : (f : ℕ) (x : X) → IsReady m w (Head f) → CountsOf → InOrder w.segments → InOrder (and_published w.segments (published m (Head f) x))
  head_order f x r c h =
      let t = head_turn f r c in
      let k = c.long in
      let at = head_home w.segments h r.drawn.0 f r.drawn.2 in
      pushed w.segments (parsed f (m.parses x)) h
      (is_open w.segments h (2 * f) at.segment at.there at.goes_on (let z : 2 * f + 1 ≡ length w.segments = omega (arith, t.0, t.1, k) in z))
      (parsed_stands f (length w.segments) (m.parses x) (omega (arith, t.0, t.1, k)))
      (parsed_shows f (m.parses x))

  close_order : (f : ℕ) (x : X) → ((b : Building) (shown : Shown) → m.builds x ≡ Some b → b.shown ≡ Some shown → shown.frame ≤ f) → IsReady m w (Close f) → CountsOf → InOrder w.segments
      → InOrder (and_published w.segments (published m (Close f) x))
  close_order f x ok r c h =
      let t = close_turn f r c in
      let k = c.long in
      let at = close_home w.segments h r.drawn.0 f r.drawn.2 in
      pushed w.segments (built f (m.builds x)) h
      (is_open w.segments h (2 * f + 1) (Parse f at.columns) at.there (λ g bad. cc) (let z : 2 * f + 1 + 1 ≡ length w.segments = omega (arith, t.0, t.1, k) in z))
      (built_stands f (length w.segments) (m.builds x) (omega (arith, t.0, t.1, k)))
      (built_shows f (m.builds x) ok)

  pub order_after : (job : JobName) (x : X) → ((f : ℕ) (b : Building) (shown : Shown) → job ≡ Close f → m.builds x ≡ Some b → b.shown ≡ Some shown → shown.frame ≤ f)
      → IsReady m w job → CountsOf → InOrder w.segments → InOrder (and_published w.segments (published m job x))
  order_after (Head f) x ok r c h = head_order f x r c h
  order_after (Close f) x ok r c h = close_order f x (λ b shown. ok f b shown refl) r c h
  order_after (Write f) x ok r c h = h
  order_after (Column f k) x ok r c h = h
  order_after (Rows f k q) x ok r c h = h
  order_after (Filter f q) x ok r c h = h
  order_after (End f) x ok r c h = h
