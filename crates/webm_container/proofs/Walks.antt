-- The walk, by its steps.
use Rattle.std.proofs.Common.{◌≡◌, ℕ, zero, suc, ◌+◌, ◌<◌, ◌≤◌, List, length, refl, sym, ap, subst, ◌∙◌, arith}
use Rattle.std.specs.Prelude.{Some, None, Result, Ok, Err, slice_range}
use Rattle.vp9_types.specs.declared.job.Span.{Span}
use Rattle.vp9_types.specs.declared.rule.Rule.{Rule}
use Rattle.ivf_container.specs.Packets.{Packets, no_packets, with_payload}
use Rattle.webm_container.specs.Walk.{step_at, go_on_by_step, fewer_steps_from, webm_packets_from}
use Rattle.webm_container.specs.Code.{Fits, blocks_ahead, GivesBlock}
use Rattle.webm_container.specs.declared.cursor.Parent.{Parent}
use Rattle.webm_container.specs.declared.cursor.Parent.TheVariants as parent
use Rattle.webm_container.specs.declared.cursor.WebmCursor.{WebmCursor}
use Rattle.webm_container.specs.declared.steps.WebmStep.{WebmStep}
use Rattle.webm_container.specs.declared.steps.WebmStep.TheVariants.{Moved, Block, End}
use Rattle.webm_container.proofs.Progress.{LiesWithin, lies, fits_of, depth, left_of, GoesOn, GoesBehind, IsStep, is_step}

-- what a step leads to is decided by the packets from where it ends
goes_on : (bytes : List ℕ) (c : WebmCursor) (f g : WebmCursor → Packets) (r : Result WebmStep Rule) → IsStep (length bytes) c r
    → ((d : WebmCursor) → GoesOn (length bytes) c d → f d ≡ g d) → go_on_by_step bytes f r ≡ go_on_by_step bytes g r
goes_on bytes c f g (Ok (Moved d)) step same = same d step
goes_on bytes c f g (Ok (Block span d)) step same = ap (with_payload (slice_range bytes span.from span.to)) (same d step.goes)
goes_on bytes c f g (Ok End) step same = refl
goes_on bytes c f g (Err rule) step same = refl

-- the packets from a place on are the same for each bound that is large enough
pub any_bound : (n m : ℕ) (bytes : List ℕ) (c : WebmCursor) → LiesWithin (length bytes) c.at c.segment c.parent → left_of (length bytes) c < n → left_of (length bytes) c < m → fewer_steps_from n bytes c ≡ fewer_steps_from m bytes c
any_bound zero m bytes c fits below also = absurd (omega arith)
any_bound (suc n) zero bytes c fits below also = absurd (omega arith)
any_bound (suc n) (suc m) bytes c fits below also =
    goes_on bytes c (fewer_steps_from n bytes) (fewer_steps_from m bytes) (step_at bytes c) (is_step bytes c fits)
    (λ d goes. any_bound n m bytes d goes.fits (omega (arith, goes.nearer)) (omega (arith, goes.nearer)))

depth_low : (p : Parent) → depth p ≤ 2
depth_low parent.File = omega arith
depth_low parent.Segment = omega arith
depth_low (parent.Tracks to) = omega arith
depth_low (parent.Entry tracks to entry) = omega arith
depth_low (parent.Cluster cluster) = omega arith
depth_low (parent.Group cluster to) = omega arith

pub left_low : (long : ℕ) (c : WebmCursor) → left_of long c < long + 3
left_low long c = omega (arith, depth_low c.parent)

-- the packets from a place on, by the next step
pub next_from : (bytes : List ℕ) (c : WebmCursor) → LiesWithin (length bytes) c.at c.segment c.parent → webm_packets_from bytes c ≡ go_on_by_step bytes (webm_packets_from bytes) (step_at bytes c)
unfolding webm_packets_from
next_from bytes c fits =
    let n = length bytes in
    let more : n + 3 ≡ suc (n + 2) = omega arith in
    ap (λ k. fewer_steps_from k bytes c) more
    ∙ goes_on bytes c _ _ (step_at bytes c) (is_step bytes c fits)
    (λ d goes. any_bound (n + 2) (n + 3) bytes d goes.fits (omega (arith, goes.nearer, left_low n c)) (left_low n d))

-- what a step that was taken says of what is ahead
abbrev pub IsTaken : List ℕ → WebmCursor → Result WebmStep Rule → Type 0
IsTaken bytes c (Ok (Moved d)) = (GoesOn (length bytes) c d) × (blocks_ahead bytes c ≡ blocks_ahead bytes d)
IsTaken bytes c (Ok (Block span d)) = (GoesBehind (length bytes) c span d) × (blocks_ahead bytes c ≡ with_payload (slice_range bytes span.from span.to) (blocks_ahead bytes d))
IsTaken bytes c (Ok End) = blocks_ahead bytes c ≡ no_packets None
IsTaken bytes c (Err rule) = blocks_ahead bytes c ≡ no_packets (Some rule)

pub is_taken : (bytes : List ℕ) (c : WebmCursor) (r : Result WebmStep Rule) → Fits (length bytes) c → r ≡ step_at bytes c → IsTaken bytes c r
unfolding blocks_ahead
is_taken bytes c r fits same =
    by_step r (subst (IsStep (length bytes) c) (sym same) (is_step bytes c (lies (length bytes) c fits))) (next_from bytes c (lies (length bytes) c fits) ∙ ap (go_on_by_step bytes (webm_packets_from bytes)) (sym same)) where
      by_step : (r : Result WebmStep Rule) → IsStep (length bytes) c r → webm_packets_from bytes c ≡ go_on_by_step bytes (webm_packets_from bytes) r → IsTaken bytes c r
      by_step (Ok (Moved d)) step is = (step, is)
      by_step (Ok (Block span d)) step is = (step, is)
      by_step (Ok End) step is = is
      by_step (Err rule) step is = is

abbrev ok_step : WebmStep → Result WebmStep Rule
ok_step s = Ok s

-- the same of a step that is told by its parts
pub is_taken_to : (bytes : List ℕ) (c : WebmCursor) (r : Result WebmStep Rule) (told s : WebmStep) → Fits (length bytes) c → r ≡ step_at bytes c → r ≡ Ok told → told ≡ s → IsTaken bytes c (Ok s)
is_taken_to bytes c r told s fits same ok is = is_taken bytes c (Ok s) fits (ap ok_step (sym is) ∙ sym ok ∙ same)

-- on the way from a cursor to a later one, with nothing between them
pub record IsOnWay (bytes : List ℕ) (first c : WebmCursor) : Type 0 where
  pub fits : Fits (length bytes) c
  pub ahead : blocks_ahead bytes first ≡ blocks_ahead bytes c
  pub onward : first.at ≤ c.at

at_within : (long at segment : ℕ) (p : Parent) → LiesWithin long at segment p → at ≤ long
at_within long at segment parent.File h = h
at_within long at segment parent.Segment h = omega (arith, h.0, h.1)
at_within long at segment (parent.Tracks to) h = omega (arith, h.0, h.1, h.2)
at_within long at segment (parent.Entry tracks to entry) h = omega (arith, h.0, h.1, h.2, h.3)
at_within long at segment (parent.Cluster cluster) h = omega (arith, h.0, h.1, h.2)
at_within long at segment (parent.Group cluster to) h = omega (arith, h.0, h.1, h.2, h.3)

pub lies_within : (long : ℕ) (c : WebmCursor) → Fits long c → c.at ≤ long
lies_within long c h = at_within long c.at c.segment c.parent (lies long c h)

pub goes_further : (bytes : List ℕ) (first c d : WebmCursor) → IsOnWay bytes first c → IsTaken bytes c (Ok (Moved d)) → IsOnWay bytes first d
goes_further bytes first c d way taken =
    record { fits = fits_of (length bytes) d taken.0.fits; ahead = way.ahead ∙ taken.1; onward = omega (arith, way.onward, taken.0.onward) }

pub comes_to_block : (bytes : List ℕ) (first c d : WebmCursor) (span : Span) → IsOnWay bytes first c → IsTaken bytes c (Ok (Block span d)) → GivesBlock bytes first span d
comes_to_block bytes first c d span way taken =
    record {
      in_order = taken.0.in_order;
      within = taken.0.within;
      behind = omega (arith, way.onward, taken.0.behind);
      ahead = way.ahead ∙ taken.1;
    }

pub behind_fits : (long : ℕ) (c d : WebmCursor) (span : Span) → GoesBehind long c span d → Fits long d
behind_fits long c d span h = fits_of long d h.goes.fits
