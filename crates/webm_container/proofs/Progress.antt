-- What a step comes to: the cursor's places still lie within the bytes, and it is nearer to the end.
use Rattle.std.proofs.Common.{ℕ, ◌+◌, ◌-◌, ◌<◌, ◌≤◌, List, length, subst, arith}
use Rattle.std.specs.Prelude.{Option, Some, None, Result, Ok, Err, not, ◌&&◌, nat_eq, nat_le}
use Rattle.vp9_types.specs.declared.job.Span.{Span}
use Rattle.vp9_types.specs.declared.rule.Rule.{Rule}
use Rattle.webm_container.specs.Elements.{element_at, known_at}
use Rattle.webm_container.specs.TrackEntries.{noted, chosen}
use Rattle.webm_container.specs.ClusterBlocks.{payload_at}
use Rattle.webm_container.specs.Walk.{in_file, file_step, if_chosen, in_segment, segment_step, in_tracks, tracks_step, with_track, entry_step, behind_block, block_step, in_cluster, cluster_step, in_group, group_step, step_within, step_at, moved_on}
use Rattle.webm_container.specs.Code.{inner_end, outer_end, segment_end, Fits}
use Rattle.webm_container.specs.declared.cursor.Cluster.{Cluster}
use Rattle.webm_container.specs.declared.cursor.Parent.{Parent}
use Rattle.webm_container.specs.declared.cursor.Parent.TheVariants as parent
use Rattle.webm_container.specs.declared.cursor.WebmCursor.{WebmCursor}
use Rattle.webm_container.specs.declared.elements.Element.{Element}
use Rattle.webm_container.specs.Ids as the
use Rattle.webm_container.specs.Ids.{is_top_level}
use Rattle.webm_container.specs.declared.entries.TrackEntry.{TrackEntry}
use Rattle.webm_container.specs.declared.steps.WebmStep.{WebmStep}
use Rattle.webm_container.specs.declared.steps.WebmStep.TheVariants.{Moved, Block, End}
use Rattle.webm_container.proofs.Tests.{by_test, by_result}
use Rattle.webm_container.proofs.Places.{Lies, element_lies, known_lies, PayloadLies, payload_lies}

-- what is open at a place ends behind it, a child no later than its parent
abbrev pub LiesWithin : ℕ → ℕ → ℕ → Parent → Type 0
LiesWithin long at segment parent.File = at ≤ long
LiesWithin long at segment parent.Segment = (at ≤ segment) × (segment ≤ long)
LiesWithin long at segment (parent.Tracks to) = (at ≤ to) × (to ≤ segment) × (segment ≤ long)
LiesWithin long at segment (parent.Entry tracks to entry) = (at ≤ to) × (to ≤ tracks) × (tracks ≤ segment) × (segment ≤ long)
LiesWithin long at segment (parent.Cluster cluster) = (at ≤ cluster.to) × (cluster.to ≤ segment) × (segment ≤ long)
LiesWithin long at segment (parent.Group cluster to) = (at ≤ to) × (to ≤ cluster.to) × (cluster.to ≤ segment) × (segment ≤ long)

lies_within : (long at segment : ℕ) (p : Parent) → at ≤ inner_end long segment p → inner_end long segment p ≤ outer_end long segment p → outer_end long segment p ≤ segment_end long segment p → segment_end long segment p ≤ long
    → LiesWithin long at segment p
lies_within long at segment parent.File here inner outer inside = here
lies_within long at segment parent.Segment here inner outer inside = (here, inside)
lies_within long at segment (parent.Tracks to) here inner outer inside = (here, outer, inside)
lies_within long at segment (parent.Entry tracks to entry) here inner outer inside = (here, inner, outer, inside)
lies_within long at segment (parent.Cluster cluster) here inner outer inside = (here, outer, inside)
lies_within long at segment (parent.Group cluster to) here inner outer inside = (here, inner, outer, inside)

pub lies : (long : ℕ) (c : WebmCursor) → Fits long c → LiesWithin long c.at c.segment c.parent
lies long c h = lies_within long c.at c.segment c.parent h.here h.inner h.outer h.inside

abbrev pub cursor_at : ℕ → ℕ → Parent → Option ℕ → WebmCursor
cursor_at at segment within track = record { at = at; segment = segment; parent = within; track = track }

fits_within : (long at segment : ℕ) (p : Parent) (track : Option ℕ) → LiesWithin long at segment p → Fits long (cursor_at at segment p track)
fits_within long at segment parent.File track h = record { here = h; inner = omega arith; outer = omega arith; inside = omega arith }
fits_within long at segment parent.Segment track h = record { here = h.0; inner = omega arith; outer = omega arith; inside = h.1 }
fits_within long at segment (parent.Tracks to) track h = record { here = h.0; inner = omega arith; outer = h.1; inside = h.2 }
fits_within long at segment (parent.Entry tracks to entry) track h = record { here = h.0; inner = h.1; outer = h.2; inside = h.3 }
fits_within long at segment (parent.Cluster cluster) track h = record { here = h.0; inner = omega arith; outer = h.1; inside = h.2 }
fits_within long at segment (parent.Group cluster to) track h = record { here = h.0; inner = h.1; outer = h.2; inside = h.3 }

pub fits_of : (long : ℕ) (c : WebmCursor) → LiesWithin long c.at c.segment c.parent → Fits long c
fits_of long c h = fits_within long c.at c.segment c.parent c.track h

-- how many parents of a place are open that end before the Segment does
abbrev pub depth : Parent → ℕ
depth parent.File = 0
depth parent.Segment = 0
depth (parent.Tracks to) = 1
depth (parent.Entry tracks to entry) = 2
depth (parent.Cluster cluster) = 1
depth (parent.Group cluster to) = 2

abbrev pub left_of : ℕ → WebmCursor → ℕ
left_of long c = long - c.at + depth c.parent

-- a cursor that goes on from another
pub record GoesOn (long : ℕ) (c d : WebmCursor) : Type 0 where
  pub fits : LiesWithin long d.at d.segment d.parent
  pub onward : c.at ≤ d.at
  pub within : d.at ≤ long
  pub nearer : left_of long d < left_of long c

pub record GoesBehind (long : ℕ) (c : WebmCursor) (span : Span) (d : WebmCursor) : Type 0 where
  pub goes : GoesOn long c d
  pub in_order : span.from ≤ span.to
  pub within : span.to ≤ long
  pub behind : c.at + 6 + (span.to - span.from) ≤ d.at

abbrev pub IsStep : ℕ → WebmCursor → Result WebmStep Rule → Type 0
IsStep long c (Ok (Moved d)) = GoesOn long c d
IsStep long c (Ok (Block span d)) = GoesBehind long c span d
IsStep long c (Ok End) = Unit {0}
IsStep long c (Err rule) = Unit {0}

in_file_steps : (long at segment : ℕ) (track : Option ℕ) (e : Element) → Lies at long (Ok e) → IsStep long (cursor_at at segment parent.File track) (in_file (cursor_at at segment parent.File track) e)
in_file_steps long at segment track e h =
    let P = IsStep long (cursor_at at segment parent.File track) in
    by_test P (nat_eq at 0 && not (nat_eq e.id the.ebml)) _ _ (λ _. tt) (λ _.
    by_test P (nat_eq e.id the.segment) _ _ (λ _. record { fits = (h.1, h.2); onward = omega (arith, h.0); within = omega (arith, h.1, h.2); nearer = omega (arith, h.0, h.1, h.2) }) (λ _.
    by_test P e.unknown _ _ (λ _. tt) (λ _. record { fits = h.2; onward = omega (arith, h.0, h.1); within = h.2; nearer = omega (arith, h.0, h.1, h.2) })))

pub file_steps : (bytes : List ℕ) (at segment : ℕ) (track : Option ℕ) → IsStep (length bytes) (cursor_at at segment parent.File track) (file_step bytes (cursor_at at segment parent.File track))
unfolding file_step
file_steps bytes at segment track =
    let c = cursor_at at segment parent.File track in
    by_result (IsStep (length bytes) c) (element_at bytes at (length bytes)) (in_file c)
    (λ e is. in_file_steps (length bytes) at segment track e (subst (Lies at (length bytes)) is (element_lies bytes at (length bytes)))) (λ _. tt)

if_chosen_steps : (long : ℕ) (c : WebmCursor) (track : Option ℕ) (r : Result WebmStep Rule) → IsStep long c r → IsStep long c (if_chosen track r)
if_chosen_steps long c None r h = tt
if_chosen_steps long c (Some number) r h = h

in_segment_steps : (long at segment : ℕ) (track : Option ℕ) (e : Element) → segment ≤ long → Lies at segment (Ok e) → IsStep long (cursor_at at segment parent.Segment track) (in_segment (cursor_at at segment parent.Segment track) e)
in_segment_steps long at segment track e fits h =
    let c = cursor_at at segment parent.Segment track in
    let P = IsStep long c in
    by_test P (nat_eq e.id the.cluster) _ _
    (λ _. if_chosen_steps long c track (moved_on c e.from (parent.Cluster (record { to = e.to; unknown = e.unknown })))
    (record { fits = (h.1, h.2, fits); onward = omega (arith, h.0); within = omega (arith, h.1, h.2); nearer = omega (arith, h.0, h.1, h.2) })) (λ _.
    by_test P e.unknown _ _ (λ _. tt) (λ _.
    by_test P (nat_eq e.id the.tracks) _ _
    (λ _. record { fits = (h.1, h.2, fits); onward = omega (arith, h.0); within = omega (arith, h.1, h.2); nearer = omega (arith, h.0, h.1, h.2) })
    (λ _. record { fits = (h.2, fits); onward = omega (arith, h.0, h.1); within = omega (arith, h.2); nearer = omega (arith, h.0, h.1, h.2) })))

pub segment_steps : (bytes : List ℕ) (at segment : ℕ) (track : Option ℕ) → segment ≤ length bytes → IsStep (length bytes) (cursor_at at segment parent.Segment track) (segment_step bytes (cursor_at at segment parent.Segment track))
unfolding segment_step
segment_steps bytes at segment track fits =
    let c = cursor_at at segment parent.Segment track in
    by_test (IsStep (length bytes) c) (nat_le segment at) _ _ (λ _. if_chosen_steps (length bytes) c track (Ok End) tt) (λ _.
    by_result (IsStep (length bytes) c) (element_at bytes at segment) (in_segment c)
    (λ e is. in_segment_steps (length bytes) at segment track e fits (subst (Lies at segment) is (element_lies bytes at segment))) (λ _. tt))

in_tracks_steps : (long at segment to : ℕ) (track : Option ℕ) (e : Element) → to ≤ segment → segment ≤ long → Lies at to (Ok e)
    → IsStep long (cursor_at at segment (parent.Tracks to) track) (in_tracks (cursor_at at segment (parent.Tracks to) track) to e)
in_tracks_steps long at segment to track e inner fits h =
    let c = cursor_at at segment (parent.Tracks to) track in
    by_test (IsStep long c) (nat_eq e.id the.track_entry) _ _
    (λ _. record { fits = (h.1, h.2, inner, fits); onward = omega (arith, h.0); within = omega (arith, h.1, h.2); nearer = omega (arith, h.0, h.1, h.2) })
    (λ _. record { fits = (h.2, inner, fits); onward = omega (arith, h.0, h.1); within = omega (arith, h.2); nearer = omega (arith, h.0, h.1, h.2) })

pub tracks_steps : (bytes : List ℕ) (at segment to : ℕ) (track : Option ℕ) → at ≤ to → to ≤ segment → segment ≤ length bytes
    → IsStep (length bytes) (cursor_at at segment (parent.Tracks to) track) (tracks_step bytes (cursor_at at segment (parent.Tracks to) track) to)
unfolding tracks_step
tracks_steps bytes at segment to track here inner fits =
    let c = cursor_at at segment (parent.Tracks to) track in
    by_test (IsStep (length bytes) c) (nat_le to at) _ _ (λ _. record { fits = (omega arith, fits); onward = omega arith; within = omega arith; nearer = omega arith }) (λ _.
    by_result (IsStep (length bytes) c) (known_at bytes at to) (in_tracks c to)
    (λ e is. in_tracks_steps (length bytes) at segment to track e inner fits (subst (Lies at to) is (known_lies bytes at to))) (λ _. tt))

pub entry_steps : (bytes : List ℕ) (at segment tracks to : ℕ) (entry : TrackEntry) (track : Option ℕ) → at ≤ to → to ≤ tracks → tracks ≤ segment → segment ≤ length bytes
    → IsStep (length bytes) (cursor_at at segment (parent.Entry tracks to entry) track) (entry_step bytes (cursor_at at segment (parent.Entry tracks to entry) track) tracks to entry)
unfolding entry_step
entry_steps bytes at segment tracks to entry track here inner outer fits =
    let long = length bytes in
    let c = cursor_at at segment (parent.Entry tracks to entry) track in
    by_test (IsStep long c) (nat_le to at) _ _
    (λ _. by_result (IsStep long c) (chosen track entry) (with_track c tracks)
    (λ track is. record { fits = (omega arith, outer, fits); onward = omega arith; within = omega arith; nearer = omega arith }) (λ _. tt)) (λ _.
    by_result (IsStep long c) (known_at bytes at to) (λ e. moved_on c e.to (parent.Entry tracks to (noted bytes entry e)))
    (λ e is.
    let h = subst (Lies at to) is (known_lies bytes at to) in
    record { fits = (h.2, inner, outer, fits); onward = omega (arith, h.0, h.1); within = omega (arith, h.2); nearer = omega (arith, h.0, h.1, h.2) }) (λ _. tt))

behind_block_steps : (long at segment from to : ℕ) (within : Parent) (track : Option ℕ) (r : Option Span) → LiesWithin long to segment within → at + 2 ≤ from → from ≤ to → to ≤ long → PayloadLies from to (Ok r)
    → IsStep long (cursor_at at segment within track) (behind_block (cursor_at to segment within track) r)
behind_block_steps long at segment from to within track None fits head order inside h =
    record { fits = fits; onward = omega arith; within = inside; nearer = omega arith }
behind_block_steps long at segment from to within track (Some span) fits head order inside h =
    record {
      goes = record { fits = fits; onward = omega arith; within = inside; nearer = omega arith };
      in_order = h.1;
      within = omega (arith, h.2);
      behind = omega (arith, h.0, h.1, h.2);
    }

block_steps : (bytes : List ℕ) (at segment : ℕ) (within : Parent) (track : Option ℕ) (e : Element) → LiesWithin (length bytes) e.to segment within → e.to ≤ length bytes → (at + 2 ≤ e.from) × (e.from ≤ e.to)
    → IsStep (length bytes) (cursor_at at segment within track) (block_step bytes (cursor_at at segment within track) e)
unfolding block_step
block_steps bytes at segment within track e fits inside h =
    let c = cursor_at at segment within track in
    by_result (IsStep (length bytes) c) (payload_at bytes track e.from e.to) (behind_block (cursor_at e.to segment within track))
    (λ r is. behind_block_steps (length bytes) at segment e.from e.to within track r fits h.0 h.1 inside (subst (PayloadLies e.from e.to) is (payload_lies bytes track e.from e.to))) (λ _. tt)

in_cluster_steps : (bytes : List ℕ) (at segment : ℕ) (cluster : Cluster) (track : Option ℕ) (e : Element) → at ≤ cluster.to → cluster.to ≤ segment → segment ≤ length bytes → Lies at cluster.to (Ok e)
    → IsStep (length bytes) (cursor_at at segment (parent.Cluster cluster) track) (in_cluster bytes (cursor_at at segment (parent.Cluster cluster) track) cluster e)
in_cluster_steps bytes at segment cluster track e here inner fits h =
    let long = length bytes in
    let c = cursor_at at segment (parent.Cluster cluster) track in
    let P = IsStep long c in
    by_test P (cluster.unknown && is_top_level e.id) _ _ (λ _. record { fits = (omega arith, fits); onward = omega arith; within = omega arith; nearer = omega arith }) (λ _.
    by_test P e.unknown _ _ (λ _. tt) (λ _.
    by_test P (nat_eq e.id the.simple_block) _ _ (λ _. block_steps bytes at segment (parent.Cluster cluster) track e (h.2, inner, fits) (omega (arith, h.2)) (h.0, h.1)) (λ _.
    by_test P (nat_eq e.id the.block_group) _ _
    (λ _. record { fits = (h.1, h.2, inner, fits); onward = omega (arith, h.0); within = omega (arith, h.1, h.2); nearer = omega (arith, h.0, h.1, h.2) })
    (λ _. record { fits = (h.2, inner, fits); onward = omega (arith, h.0, h.1); within = omega (arith, h.2); nearer = omega (arith, h.0, h.1, h.2) }))))

pub cluster_steps : (bytes : List ℕ) (at segment : ℕ) (cluster : Cluster) (track : Option ℕ) → at ≤ cluster.to → cluster.to ≤ segment → segment ≤ length bytes
    → IsStep (length bytes) (cursor_at at segment (parent.Cluster cluster) track) (cluster_step bytes (cursor_at at segment (parent.Cluster cluster) track) cluster)
unfolding cluster_step
cluster_steps bytes at segment cluster track here inner fits =
    let c = cursor_at at segment (parent.Cluster cluster) track in
    by_test (IsStep (length bytes) c) (nat_le cluster.to at) _ _ (λ _. record { fits = (omega arith, fits); onward = omega arith; within = omega arith; nearer = omega arith }) (λ _.
    by_result (IsStep (length bytes) c) (element_at bytes at cluster.to) (in_cluster bytes c cluster)
    (λ e is. in_cluster_steps bytes at segment cluster track e here inner fits (subst (Lies at cluster.to) is (element_lies bytes at cluster.to))) (λ _. tt))

in_group_steps : (bytes : List ℕ) (at segment to : ℕ) (cluster : Cluster) (track : Option ℕ) (e : Element) → to ≤ cluster.to → cluster.to ≤ segment → segment ≤ length bytes → Lies at to (Ok e)
    → IsStep (length bytes) (cursor_at at segment (parent.Group cluster to) track) (in_group bytes (cursor_at at segment (parent.Group cluster to) track) e)
in_group_steps bytes at segment to cluster track e inner outer fits h =
    by_test (IsStep (length bytes) (cursor_at at segment (parent.Group cluster to) track)) (nat_eq e.id the.block) _ _
    (λ _. block_steps bytes at segment (parent.Group cluster to) track e (h.2, inner, outer, fits) (omega (arith, h.2)) (h.0, h.1))
    (λ _. record { fits = (h.2, inner, outer, fits); onward = omega (arith, h.0, h.1); within = omega (arith, h.2); nearer = omega (arith, h.0, h.1, h.2) })

pub group_steps : (bytes : List ℕ) (at segment to : ℕ) (cluster : Cluster) (track : Option ℕ) → at ≤ to → to ≤ cluster.to → cluster.to ≤ segment → segment ≤ length bytes
    → IsStep (length bytes) (cursor_at at segment (parent.Group cluster to) track) (group_step bytes (cursor_at at segment (parent.Group cluster to) track) cluster to)
unfolding group_step
group_steps bytes at segment to cluster track here inner outer fits =
    let c = cursor_at at segment (parent.Group cluster to) track in
    by_test (IsStep (length bytes) c) (nat_le to at) _ _ (λ _. record { fits = (omega arith, outer, fits); onward = omega arith; within = omega arith; nearer = omega arith }) (λ _.
    by_result (IsStep (length bytes) c) (known_at bytes at to) (in_group bytes c)
    (λ e is. in_group_steps bytes at segment to cluster track e inner outer fits (subst (Lies at to) is (known_lies bytes at to))) (λ _. tt))

steps_within : (bytes : List ℕ) (at segment : ℕ) (within : Parent) (track : Option ℕ) → LiesWithin (length bytes) at segment within
    → IsStep (length bytes) (cursor_at at segment within track) (step_within bytes (cursor_at at segment within track) within)
steps_within bytes at segment parent.File track h = file_steps bytes at segment track
steps_within bytes at segment parent.Segment track h = segment_steps bytes at segment track h.1
steps_within bytes at segment (parent.Tracks to) track h = tracks_steps bytes at segment to track h.0 h.1 h.2
steps_within bytes at segment (parent.Entry tracks to entry) track h = entry_steps bytes at segment tracks to entry track h.0 h.1 h.2 h.3
steps_within bytes at segment (parent.Cluster cluster) track h = cluster_steps bytes at segment cluster track h.0 h.1 h.2
steps_within bytes at segment (parent.Group cluster to) track h = group_steps bytes at segment to cluster track h.0 h.1 h.2 h.3

pub is_step : (bytes : List ℕ) (c : WebmCursor) → LiesWithin (length bytes) c.at c.segment c.parent → IsStep (length bytes) c (step_at bytes c)
is_step bytes c h = steps_within bytes c.at c.segment c.parent c.track h
