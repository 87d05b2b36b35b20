-- Where the walk ends without a rule, what it went over is spelled as a file is.
use Rattle.std.proofs.Common.{◌≡◌, ◌≢◌, ℕ, zero, suc, ◌-◌, ◌<◌, ◌≤◌, List, [], ◌∷◌, ◌++◌, length, drop, refl, sym, ap, subst, ◌∙◌, arith, Bool, true, false, length-append, append_assoc}
use Rattle.std.specs.Prelude.{Option, Some, None, Result, Ok, Err, ◌&&◌, nat_eq, nat_le}
use Rattle.std.specs.List.{flat_map, AllByRecursion}
use Rattle.std.proofs.lemmas.Bool.{leb-true, eqb-true, eqb-false}
use Rattle.vp9_types.specs.declared.job.Span.{Span}
use Rattle.vp9_types.specs.declared.rule.Rule.{Rule}
use Rattle.ivf_container.specs.Packets.{Packets}
use Rattle.webm_container.specs.Ids as the
use Rattle.webm_container.specs.Ids.{is_top_level}
use Rattle.webm_container.specs.Elements.{element_at, known_at}
use Rattle.webm_container.specs.TrackEntries.{new_entry, noted, chosen}
use Rattle.webm_container.specs.ClusterBlocks.{payload_at}
use Rattle.webm_container.specs.Walk.{moved_on, if_chosen, in_segment, segment_step, in_tracks, tracks_step, with_track, entry_step, behind_block, block_step, in_cluster, cluster_step, in_group, group_step, step_within, go_on_by_step, webm_packets_from}
use Rattle.webm_container.specs.Webm as webm
use Rattle.webm_container.specs.Webm.{Head, head_bytes, id_of, IsHead, Other, other_bytes, others_bytes, IsOther, IsChosen, InTracks, tracks_bytes, AreTracks, Block, block_bytes, IsBlock, block_payloads, InGroup, group_bytes, IsInGroup, group_payloads, InCluster, cluster_element, cluster_bytes, IsInCluster, cluster_payloads, InSegment, segment_bytes, EndsCluster, AreInSegment}
use Rattle.webm_container.specs.declared.cursor.Cluster.{Cluster}
use Rattle.webm_container.specs.declared.cursor.Parent.{Parent}
use Rattle.webm_container.specs.declared.cursor.Parent.TheVariants as parent
use Rattle.webm_container.specs.declared.cursor.WebmCursor.{WebmCursor}
use Rattle.webm_container.specs.declared.elements.Element.{Element}
use Rattle.webm_container.specs.declared.entries.TrackEntry.{TrackEntry}
use Rattle.webm_container.specs.declared.steps.WebmStep.{WebmStep}
use Rattle.webm_container.specs.declared.steps.WebmStep.TheVariants as step
use Rattle.webm_container.proofs.Tests.{by_test, by_result}
use Rattle.webm_container.proofs.Progress.{LiesWithin, left_of, GoesOn, IsStep, is_step, cursor_at}
use Rattle.webm_container.proofs.Walks.{next_from}
use Rattle.webm_container.proofs.Spelled.{head_long}
use Rattle.webm_container.proofs.Entered.{notes, note, is_chosen_back}
use Rattle.webm_container.proofs.Readings.{Reads, reads_none, reads_both, ElementThere, IsElementThere, element_is, KnownThere, IsKnownThere, known_is, known_head, OtherThere, other_there, same_id, given, BlockThere, IsBlockThere, payload_is}

module _ (bytes : List ℕ) (segment : ℕ) (fits : segment ≤ length bytes) where
  ---- What is spelled from a place on, by the parent of the place ----

  pub record SegmentRest (at : ℕ) (track : Option ℕ) (payloads : List (List ℕ)) : Type 0 where
    pub items : List InSegment
    pub reads : Reads bytes at (segment_bytes items) segment
    pub are : AreInSegment track items payloads

  pub record TracksRest (to at : ℕ) (track : Option ℕ) (payloads : List (List ℕ)) : Type 0 where
    pub items : List InTracks
    pub next : Option ℕ
    pub reads : Reads bytes at (tracks_bytes items) to
    pub are : AreTracks track items next
    pub behind : SegmentRest to next payloads

  pub record EntryRest (tracks to at : ℕ) (entry : TrackEntry) (track : Option ℕ) (payloads : List (List ℕ)) : Type 0 where
    pub elements : List Other
    pub next : Option ℕ
    pub reads : Reads bytes at (others_bytes elements) to
    pub each : AllByRecursion IsOther elements
    pub picks : chosen track (notes entry elements) ≡ Ok next
    pub behind : TracksRest tracks to next payloads

  pub record ClusterRest (cluster : Cluster) (at track : ℕ) (payloads : List (List ℕ)) : Type 0 where
    pub items : List InCluster
    pub end : ℕ
    pub more : List (List ℕ)
    pub reads : Reads bytes at (cluster_bytes items) end
    pub each : AllByRecursion (IsInCluster cluster.unknown track) items
    pub is : payloads ≡ flat_map (cluster_payloads track) items ++ more
    pub behind : SegmentRest end (Some track) more
    pub known : cluster.unknown ≡ false → end ≡ cluster.to
    pub last : cluster.unknown ≡ true → EndsCluster behind.items

  pub record GroupRest (cluster : Cluster) (to at track : ℕ) (payloads : List (List ℕ)) : Type 0 where
    pub items : List InGroup
    pub more : List (List ℕ)
    pub reads : Reads bytes at (group_bytes items) to
    pub each : AllByRecursion (IsInGroup track) items
    pub is : payloads ≡ flat_map (group_payloads track) items ++ more
    pub behind : ClusterRest cluster to track more

  -- a Cluster of unknown size may reach to the end of the Segment
  abbrev pub IsOpen : Cluster → Type 0
  IsOpen cluster = cluster.unknown ≡ true → cluster.to ≡ segment

  abbrev pub Rest : Parent → ℕ → Option ℕ → List (List ℕ) → Type 0
  Rest parent.File at track payloads = Unit {0}
  Rest parent.Segment at track payloads = SegmentRest at track payloads
  Rest (parent.Tracks to) at track payloads = TracksRest to at track payloads
  Rest (parent.Entry tracks to entry) at track payloads = EntryRest tracks to at entry track payloads
  Rest (parent.Cluster cluster) at None payloads = Unit {0}
  Rest (parent.Cluster cluster) at (Some track) payloads = IsOpen cluster → ClusterRest cluster at track payloads
  Rest (parent.Group cluster to) at None payloads = Unit {0}
  Rest (parent.Group cluster to) at (Some track) payloads = IsOpen cluster → GroupRest cluster to at track payloads

  abbrev in_place : ℕ → Parent → Option ℕ → WebmCursor
  in_place at within track = cursor_at at segment within track

  -- if no rule ends the packets, this is spelled
  abbrev pub Sound : ℕ → Parent → Option ℕ → Packets → Type 0
  Sound at within track packets = packets.ending ≡ None → Rest within at track packets.payloads

  -- what a step leads to
  abbrev After : ℕ → Parent → Option ℕ → Result WebmStep Rule → Type 0
  After at within track r =
      IsStep (length bytes) (in_place at within track) r
      → ((d : WebmCursor) → GoesOn (length bytes) (in_place at within track) d → d.segment ≡ segment → Sound d.at d.parent d.track (webm_packets_from bytes d))
      → Sound at within track (go_on_by_step bytes (webm_packets_from bytes) r)

  breaks : (at : ℕ) (within : Parent) (track : Option ℕ) (rule : Rule) → After at within track (Err rule)
  breaks at within track rule goes ih none = cc

  ---- In the Segment ----

  over_tracks_head : (at : ℕ) (track : Option ℕ) (e : Element) (payloads : List (List ℕ)) → ElementThere bytes at segment e → e.unknown ≡ false → e.id ≡ the.tracks
      → TracksRest e.to e.from track payloads → SegmentRest at track payloads
  over_tracks_head at track e payloads h known is w =
      record {
        items = webm.tracks h.head w.items ∷ w.behind.items;
        reads = reads_both bytes _ _ at e.to segment (reads_both bytes (head_bytes h.head) (tracks_bytes w.items) at e.from e.to h.reads w.reads) w.behind.reads;
        are = (known_head bytes at segment (length (tracks_bytes w.items)) e h known w.reads.long, sym h.id ∙ is, (w.next, w.are, w.behind.are));
      }

  over_cluster_head : (at track : ℕ) (e : Element) (payloads : List (List ℕ)) → ElementThere bytes at segment e → e.id ≡ the.cluster
      → ClusterRest (record { to = e.to; unknown = e.unknown }) e.from track payloads → SegmentRest at (Some track) payloads
  over_cluster_head at track e payloads h is w =
      record {
        items = webm.cluster e.unknown h.head w.items ∷ w.behind.items;
        reads = reads_both bytes _ _ at w.end segment (reads_both bytes (head_bytes h.head) (cluster_bytes w.items) at e.from w.end h.reads w.reads) w.behind.reads;
        are = (h.is_head (length (cluster_bytes w.items)) (λ known. w.reads.long ∙ w.known known), sym h.id ∙ is, w.last, (track, w.more, refl, w.each, w.is, w.behind.are));
      }

  over_other : (at : ℕ) (track : Option ℕ) (e : Element) (payloads : List (List ℕ)) → OtherThere bytes at e → e.id ≢ the.tracks → e.id ≢ the.cluster → SegmentRest e.to track payloads → SegmentRest at track payloads
  over_other at track e payloads o no_tracks no_cluster w =
      record {
        items = webm.other_in_segment o.other ∷ w.items;
        reads = reads_both bytes _ _ at e.to segment o.reads w.reads;
        are = (o.is, (λ is. no_tracks (o.id ∙ is)), (λ is. no_cluster (o.id ∙ is)), w.are);
      }

  to_cluster : (at : ℕ) (track : Option ℕ) (e : Element) → ElementThere bytes at segment e → e.id ≡ the.cluster
      → After at parent.Segment track (if_chosen track (moved_on (in_place at parent.Segment track) e.from (parent.Cluster (record { to = e.to; unknown = e.unknown }))))
  to_cluster at None e h is goes ih none = cc
  to_cluster at (Some track) e h is goes ih none = over_cluster_head at track e _ h is (ih _ goes refl none h.last)

  in_segment_is : (at : ℕ) (track : Option ℕ) (e : Element) → ElementThere bytes at segment e → After at parent.Segment track (in_segment (in_place at parent.Segment track) e)
  in_segment_is at track e h =
      let P = After at parent.Segment track in
      by_test P (nat_eq e.id the.cluster) _ _ (λ is. to_cluster at track e h (eqb-true e.id the.cluster is)) (λ no_cluster.
      by_test P e.unknown _ _ (λ _. breaks at parent.Segment track _) (λ known.
      by_test P (nat_eq e.id the.tracks) _ _
      (λ is goes ih none. over_tracks_head at track e _ h known (eqb-true e.id the.tracks is) (ih _ goes refl none))
      (λ no_tracks goes ih none. over_other at track e _ (other_there bytes at segment e fits h known) (eqb-false e.id the.tracks no_tracks) (eqb-false e.id the.cluster no_cluster) (ih _ goes refl none))))

  segment_is_over : (at : ℕ) (track : Option ℕ) → at ≡ segment → After at parent.Segment track (if_chosen track (Ok step.End))
  segment_is_over at None is goes ih none = cc
  segment_is_over at (Some track) is goes ih none = record { items = []; reads = reads_none bytes at segment is; are = ((track, refl), refl) }

  segment_is : (at : ℕ) (track : Option ℕ) → at ≤ segment → After at parent.Segment track (segment_step bytes (in_place at parent.Segment track))
  unfolding segment_step
  segment_is at track here =
      by_test (After at parent.Segment track) (nat_le segment at) _ _ (λ over. segment_is_over at track (let a = leb-true segment at over in omega arith)) (λ _.
      by_result (After at parent.Segment track) (element_at bytes at segment) (in_segment (in_place at parent.Segment track))
      (λ e is. in_segment_is at track e (subst (IsElementThere bytes at segment) is (element_is bytes at segment fits))) (breaks at parent.Segment track))

  ---- In Tracks ----

  over_entry_head : (to at : ℕ) (track : Option ℕ) (e : Element) (payloads : List (List ℕ)) → KnownThere bytes at to e → e.id ≡ the.track_entry → EntryRest to e.to e.from new_entry track payloads → TracksRest to at track payloads
  over_entry_head to at track e payloads h is w =
      record {
        items = webm.track_entry h.there.head w.elements ∷ w.behind.items;
        next = w.behind.next;
        reads = reads_both bytes _ _ at e.to to (reads_both bytes (head_bytes h.there.head) (others_bytes w.elements) at e.from e.to h.there.reads w.reads) w.behind.reads;
        are = (known_head bytes at to (length (others_bytes w.elements)) e h.there h.known w.reads.long, sym h.there.id ∙ is, w.each, (w.next, is_chosen_back track w.elements w.next w.picks, w.behind.are));
        behind = w.behind.behind;
      }

  over_other_in_tracks : (to at : ℕ) (track : Option ℕ) (e : Element) (payloads : List (List ℕ)) → OtherThere bytes at e → e.id ≢ the.track_entry → TracksRest to e.to track payloads → TracksRest to at track payloads
  over_other_in_tracks to at track e payloads o no_entry w =
      record {
        items = webm.other_in_tracks o.other ∷ w.items;
        next = w.next;
        reads = reads_both bytes _ _ at e.to to o.reads w.reads;
        are = (o.is, (λ is. no_entry (o.id ∙ is)), w.are);
        behind = w.behind;
      }

  in_tracks_is : (to at : ℕ) (track : Option ℕ) (e : Element) → to ≤ segment → KnownThere bytes at to e → After at (parent.Tracks to) track (in_tracks (in_place at (parent.Tracks to) track) to e)
  in_tracks_is to at track e inner h =
      by_test (After at (parent.Tracks to) track) (nat_eq e.id the.track_entry) _ _
      (λ is goes ih none. over_entry_head to at track e _ h (eqb-true e.id the.track_entry is) (ih _ goes refl none))
      (λ no_entry goes ih none. over_other_in_tracks to at track e _ (other_there bytes at to e (omega arith) h.there h.known) (eqb-false e.id the.track_entry no_entry) (ih _ goes refl none))

  tracks_over : (to at : ℕ) (track : Option ℕ) (payloads : List (List ℕ)) → at ≡ to → SegmentRest at track payloads → TracksRest to at track payloads
  tracks_over to at track payloads is w =
      record { items = []; next = track; reads = reads_none bytes at to is; are = refl; behind = subst (λ k. SegmentRest k track payloads) is w }

  tracks_is : (to at : ℕ) (track : Option ℕ) → at ≤ to → to ≤ segment → After at (parent.Tracks to) track (tracks_step bytes (in_place at (parent.Tracks to) track) to)
  unfolding tracks_step
  tracks_is to at track here inner =
      let P = After at (parent.Tracks to) track in
      by_test P (nat_le to at) _ _ (λ over goes ih none. tracks_over to at track _ (let a = leb-true to at over in omega arith) (ih _ goes refl none)) (λ _.
      by_result P (known_at bytes at to) (in_tracks (in_place at (parent.Tracks to) track) to)
      (λ e is. in_tracks_is to at track e inner (subst (IsKnownThere bytes at to) is (known_is bytes at to (omega arith)))) (breaks at (parent.Tracks to) track))

  ---- In an entry ----

  entry_over : (tracks to at : ℕ) (entry : TrackEntry) (track next : Option ℕ) (payloads : List (List ℕ)) → at ≡ to → chosen track entry ≡ Ok next → TracksRest tracks at next payloads → EntryRest tracks to at entry track payloads
  entry_over tracks to at entry track next payloads is picks w =
      record { elements = []; next = next; reads = reads_none bytes at to is; each = tt; picks = picks; behind = subst (λ k. TracksRest tracks k next payloads) is w }

  over_element : (tracks to at : ℕ) (entry : TrackEntry) (track : Option ℕ) (e : Element) (payloads : List (List ℕ)) → OtherThere bytes at e → EntryRest tracks to e.to (noted bytes entry e) track payloads → EntryRest tracks to at entry track payloads
  over_element tracks to at entry track e payloads o w =
      let same : noted bytes entry e ≡ note entry (id_of o.other.head) o.other.content = ap (λ xs. note entry e.id xs) o.content ∙ ap (λ id. note entry id o.other.content) o.id in
      record {
        elements = o.other ∷ w.elements;
        next = w.next;
        reads = reads_both bytes _ _ at e.to to o.reads w.reads;
        each = (o.is, w.each);
        picks = ap (λ n. chosen track (notes n w.elements)) (sym same) ∙ w.picks;
        behind = w.behind;
      }

  entry_is : (tracks to at : ℕ) (entry : TrackEntry) (track : Option ℕ) → at ≤ to → to ≤ tracks → tracks ≤ segment
      → After at (parent.Entry tracks to entry) track (entry_step bytes (in_place at (parent.Entry tracks to entry) track) tracks to entry)
  unfolding entry_step
  entry_is tracks to at entry track here inner outer =
      let within = parent.Entry tracks to entry in
      let c = in_place at within track in
      let P = After at within track in
      by_test P (nat_le to at) _ _
      (λ over. by_result P (chosen track entry) (with_track c tracks)
      (λ next picks goes ih none. entry_over tracks to at entry track next _ (let a = leb-true to at over in omega arith) picks (ih _ goes refl none)) (breaks at within track)) (λ _.
      by_result P (known_at bytes at to) (λ e. moved_on c e.to (parent.Entry tracks to (noted bytes entry e)))
      (λ e is goes ih none.
      let h = subst (IsKnownThere bytes at to) is (known_is bytes at to (omega arith)) in
      over_element tracks to at entry track e _ (other_there bytes at to e (omega arith) h.there h.known) (ih _ goes refl none)) (breaks at within track))

  ---- In Clusters ----

  -- one more block of a Cluster, or of a BlockGroup
  over_block : (at track : ℕ) (cluster : Cluster) (e : Element) (r : Option Span) (payloads : List (List ℕ)) → ElementThere bytes at cluster.to e → e.unknown ≡ false → e.id ≡ the.simple_block → BlockThere bytes track e.from e.to r
      → ClusterRest cluster e.to track payloads → ClusterRest cluster at track (given bytes r payloads)
  over_block at track cluster e r payloads h known is b w =
      let pays = block_payloads track b.spelled in
      record {
        items = webm.simple_block h.head b.spelled ∷ w.items;
        end = w.end;
        more = w.more;
        reads = reads_both bytes _ _ at e.to w.end (reads_both bytes (head_bytes h.head) (block_bytes b.spelled) at e.from e.to h.reads b.reads) w.reads;
        each = ((known_head bytes at cluster.to (length (block_bytes b.spelled)) e h known b.reads.long, sym h.id ∙ is, b.is), w.each);
        is = b.gives payloads ∙ ap (λ ps. pays ++ ps) w.is ∙ sym (append_assoc pays (flat_map (cluster_payloads track) w.items) w.more);
        behind = w.behind;
        known = w.known;
        last = w.last;
      }

  over_group_block : (to at track : ℕ) (cluster : Cluster) (e : Element) (r : Option Span) (payloads : List (List ℕ)) → KnownThere bytes at to e → e.id ≡ the.block → BlockThere bytes track e.from e.to r
      → GroupRest cluster to e.to track payloads → GroupRest cluster to at track (given bytes r payloads)
  over_group_block to at track cluster e r payloads h is b w =
      let pays = block_payloads track b.spelled in
      record {
        items = webm.group_block h.there.head b.spelled ∷ w.items;
        more = w.more;
        reads = reads_both bytes _ _ at e.to to (reads_both bytes (head_bytes h.there.head) (block_bytes b.spelled) at e.from e.to h.there.reads b.reads) w.reads;
        each = ((known_head bytes at to (length (block_bytes b.spelled)) e h.there h.known b.reads.long, sym h.there.id ∙ is, b.is), w.each);
        is = b.gives payloads ∙ ap (λ ps. pays ++ ps) w.is ∙ sym (append_assoc pays (flat_map (group_payloads track) w.items) w.more);
        behind = w.behind;
      }

  -- a block in any parent, by what it is told to be there
  block_is : (at track : ℕ) (within : Parent) (e : Element) → e.to ≤ length bytes
      → ((r : Option Span) (payloads : List (List ℕ)) → BlockThere bytes track e.from e.to r → Rest within e.to (Some track) payloads → Rest within at (Some track) (given bytes r payloads))
      → After at within (Some track) (block_step bytes (in_place at within (Some track)) e)
  unfolding block_step
  block_is at track within e room over =
      by_result (After at within (Some track)) (payload_at bytes (Some track) e.from e.to) (behind_block (in_place e.to within (Some track)))
      (λ r is. told r (subst (IsBlockThere bytes track e.from e.to) is (payload_is bytes track e.from e.to room))) (breaks at within (Some track)) where
        told : (r : Option Span) → BlockThere bytes track e.from e.to r → After at within (Some track) (behind_block (in_place e.to within (Some track)) r)
        told None b goes ih none = over None _ b (ih _ goes refl none)
        told (Some span) b goes ih none = over (Some span) _ b (ih _ goes.goes refl none)

  over_group_head : (at track : ℕ) (cluster : Cluster) (e : Element) (payloads : List (List ℕ)) → ElementThere bytes at cluster.to e → e.unknown ≡ false → e.id ≡ the.block_group
      → GroupRest cluster e.to e.from track payloads → ClusterRest cluster at track payloads
  over_group_head at track cluster e payloads h known is g =
      let w = g.behind in
      let pays = flat_map (group_payloads track) g.items in
      record {
        items = webm.block_group h.head g.items ∷ w.items;
        end = w.end;
        more = w.more;
        reads = reads_both bytes _ _ at e.to w.end (reads_both bytes (head_bytes h.head) (group_bytes g.items) at e.from e.to h.reads g.reads) w.reads;
        each = ((known_head bytes at cluster.to (length (group_bytes g.items)) e h known g.reads.long, sym h.id ∙ is, g.each), w.each);
        is = g.is ∙ ap (λ ps. pays ++ ps) w.is ∙ sym (append_assoc pays (flat_map (cluster_payloads track) w.items) w.more);
        behind = w.behind;
        known = w.known;
        last = w.last;
      }

  over_other_in_cluster : (at track : ℕ) (cluster : Cluster) (e : Element) (payloads : List (List ℕ)) → OtherThere bytes at e → e.id ≢ the.simple_block → e.id ≢ the.block_group → (cluster.unknown ≡ true → is_top_level e.id ≡ false)
      → ClusterRest cluster e.to track payloads → ClusterRest cluster at track payloads
  over_other_in_cluster at track cluster e payloads o no_block no_group low w =
      record {
        items = webm.other_in_cluster o.other ∷ w.items;
        end = w.end;
        more = w.more;
        reads = reads_both bytes _ _ at e.to w.end o.reads w.reads;
        each = ((o.is, (λ is. no_block (o.id ∙ is)), (λ is. no_group (o.id ∙ is)), (λ u. ap is_top_level (sym o.id) ∙ low u)), w.each);
        is = w.is;
        behind = w.behind;
        known = w.known;
        last = w.last;
      }

  over_other_in_group : (to at track : ℕ) (cluster : Cluster) (e : Element) (payloads : List (List ℕ)) → OtherThere bytes at e → e.id ≢ the.block → GroupRest cluster to e.to track payloads → GroupRest cluster to at track payloads
  over_other_in_group to at track cluster e payloads o no_block w =
      record {
        items = webm.other_in_group o.other ∷ w.items;
        more = w.more;
        reads = reads_both bytes _ _ at e.to to o.reads w.reads;
        each = ((o.is, λ is. no_block (o.id ∙ is)), w.each);
        is = w.is;
        behind = w.behind;
      }

  -- before the end of the Segment an element follows, and its id is the one that was read
  ends_at_top : (at end : ℕ) (e : Element) (items : List InSegment) (track : Option ℕ) (payloads : List (List ℕ)) → ElementThere bytes at end e → is_top_level e.id ≡ true → Reads bytes at (segment_bytes items) segment
      → AreInSegment track items payloads → EndsCluster items
  ends_at_top at end e [] track payloads h top reads are = tt
  ends_at_top at end e (webm.tracks head elements ∷ more) track payloads h top reads are = tt
  ends_at_top at end e (webm.cluster unknown head elements ∷ more) track payloads h top reads are = tt
  ends_at_top at end e (webm.other_in_segment o ∷ more) track payloads h top reads are =
      let is = h.is_head (e.to - e.from) (λ _. omega (arith, h.order)) in
      let one : drop at bytes ≡ h.head.id ++ (h.head.size ++ drop e.from bytes) = h.reads.here ∙ simp append_assoc in
      let other : drop at bytes ≡ o.head.id ++ (o.head.size ++ (o.content ++ (segment_bytes more ++ drop segment bytes))) = reads.here ∙ simp append_assoc in
      ap is_top_level (same_id bytes o.head.id h.head.id _ _ at other one are.0.id is.id ∙ sym h.id) ∙ top

  ends_at_end : (at : ℕ) (items : List InSegment) (track : Option ℕ) (payloads : List (List ℕ)) → at ≡ segment → Reads bytes at (segment_bytes items) segment → AreInSegment track items payloads → EndsCluster items
  ends_at_end at [] track payloads there reads are = tt
  ends_at_end at (webm.tracks head elements ∷ more) track payloads there reads are = tt
  ends_at_end at (webm.cluster unknown head elements ∷ more) track payloads there reads are = tt
  ends_at_end at (webm.other_in_segment o ∷ more) track payloads there reads are =
      absurd (omega (arith, there, reads.long, length-append (other_bytes o) (segment_bytes more), length-append (head_bytes o.head) o.content, head_long false (length o.content) o.head are.0))

  cluster_over : (at track : ℕ) (cluster : Cluster) (payloads : List (List ℕ)) (w : SegmentRest at (Some track) payloads) → (cluster.unknown ≡ false → at ≡ cluster.to) → (cluster.unknown ≡ true → EndsCluster w.items)
      → ClusterRest cluster at track payloads
  cluster_over at track cluster payloads w known last =
      record { items = []; end = at; more = payloads; reads = reads_none bytes at at refl; each = tt; is = refl; behind = w; known = known; last = last }

  both_hold : (a b : Bool) → (a && b) ≡ true → (a ≡ true) × (b ≡ true)
  both_hold true b h = (refl, h)
  both_hold false b h = cc

  one_fails : (a b : Bool) → (a && b) ≡ false → a ≡ true → b ≡ false
  one_fails true b h is = h
  one_fails false b h is = cc

  in_cluster_is : (at track : ℕ) (cluster : Cluster) (e : Element) → cluster.to ≤ segment → ElementThere bytes at cluster.to e
      → After at (parent.Cluster cluster) (Some track) (in_cluster bytes (in_place at (parent.Cluster cluster) (Some track)) cluster e)
  in_cluster_is at track cluster e inner h =
      let within = parent.Cluster cluster in
      let P = After at within (Some track) in
      by_test P (cluster.unknown && is_top_level e.id) _ _
      (λ top goes ih none open_to.
      let both = both_hold cluster.unknown (is_top_level e.id) top in
      let w = ih _ goes refl none in
      cluster_over at track cluster _ w (λ known. cc) (λ _. ends_at_top at cluster.to e w.items (Some track) _ h both.1 w.reads w.are)) (λ low.
      by_test P e.unknown _ _ (λ _. breaks at within (Some track) _) (λ known.
      by_test P (nat_eq e.id the.simple_block) _ _
      (λ is. block_is at track within e (omega (arith, h.within)) (λ r payloads b w open_to. over_block at track cluster e r payloads h known (eqb-true e.id the.simple_block is) b (w open_to))) (λ no_block.
      by_test P (nat_eq e.id the.block_group) _ _
      (λ is goes ih none open_to. over_group_head at track cluster e _ h known (eqb-true e.id the.block_group is) (ih (in_place e.from (parent.Group cluster e.to) (Some track)) goes refl none open_to))
      (λ no_group goes ih none open_to.
      over_other_in_cluster at track cluster e _ (other_there bytes at cluster.to e (omega arith) h known) (eqb-false e.id the.simple_block no_block) (eqb-false e.id the.block_group no_group)
      (one_fails cluster.unknown (is_top_level e.id) low) (ih (in_place e.to within (Some track)) goes refl none open_to)))))

  cluster_is : (at track : ℕ) (cluster : Cluster) → at ≤ cluster.to → cluster.to ≤ segment → After at (parent.Cluster cluster) (Some track) (cluster_step bytes (in_place at (parent.Cluster cluster) (Some track)) cluster)
  unfolding cluster_step
  cluster_is at track cluster here inner =
      let within = parent.Cluster cluster in
      let P = After at within (Some track) in
      by_test P (nat_le cluster.to at) _ _
      (λ over goes ih none open_to.
      let a = leb-true cluster.to at over in
      let there : at ≡ cluster.to = omega arith in
      let w = ih _ goes refl none in
      cluster_over at track cluster _ w (λ _. there) (λ u. ends_at_end at w.items (Some track) _ (there ∙ open_to u) w.reads w.are)) (λ _.
      by_result P (element_at bytes at cluster.to) (in_cluster bytes (in_place at within (Some track)) cluster)
      (λ e is. in_cluster_is at track cluster e inner (subst (IsElementThere bytes at cluster.to) is (element_is bytes at cluster.to (omega arith)))) (breaks at within (Some track)))

  in_group_is : (to at track : ℕ) (cluster : Cluster) (e : Element) → to ≤ segment → KnownThere bytes at to e
      → After at (parent.Group cluster to) (Some track) (in_group bytes (in_place at (parent.Group cluster to) (Some track)) e)
  in_group_is to at track cluster e inner h =
      let within = parent.Group cluster to in
      by_test (After at within (Some track)) (nat_eq e.id the.block) _ _
      (λ is. block_is at track within e (omega (arith, h.there.within)) (λ r payloads b w open_to. over_group_block to at track cluster e r payloads h (eqb-true e.id the.block is) b (w open_to)))
      (λ no_block goes ih none open_to. over_other_in_group to at track cluster e _ (other_there bytes at to e (omega arith) h.there h.known) (eqb-false e.id the.block no_block) (ih (in_place e.to within (Some track)) goes refl none open_to))

  group_over : (to at track : ℕ) (cluster : Cluster) (payloads : List (List ℕ)) → at ≡ to → ClusterRest cluster at track payloads → GroupRest cluster to at track payloads
  group_over to at track cluster payloads is w =
      record { items = []; more = payloads; reads = reads_none bytes at to is; each = tt; is = refl; behind = subst (λ k. ClusterRest cluster k track payloads) is w }

  group_is : (to at track : ℕ) (cluster : Cluster) → at ≤ to → to ≤ cluster.to → cluster.to ≤ segment
      → After at (parent.Group cluster to) (Some track) (group_step bytes (in_place at (parent.Group cluster to) (Some track)) cluster to)
  unfolding group_step
  group_is to at track cluster here inner outer =
      let within = parent.Group cluster to in
      let P = After at within (Some track) in
      by_test P (nat_le to at) _ _
      (λ over goes ih none open_to. group_over to at track cluster _ (let a = leb-true to at over in omega arith) (ih (in_place at (parent.Cluster cluster) (Some track)) goes refl none open_to)) (λ _.
      by_result P (known_at bytes at to) (in_group bytes (in_place at within (Some track)))
      (λ e is. in_group_is to at track cluster e (omega arith) (subst (IsKnownThere bytes at to) is (known_is bytes at to (omega arith)))) (breaks at within (Some track)))

  ---- All together ----

  -- a cursor of no file, and of no Cluster before a track is chosen
  after_step : (at : ℕ) (within : Parent) (track : Option ℕ) → LiesWithin (length bytes) at segment within → After at within track (step_within bytes (in_place at within track) within)
  after_step at parent.File track lies = λ goes ih none. tt
  after_step at parent.Segment track lies = segment_is at track lies.0
  after_step at (parent.Tracks to) track lies = tracks_is to at track lies.0 lies.1
  after_step at (parent.Entry tracks to entry) track lies = entry_is tracks to at entry track lies.0 lies.1 lies.2
  after_step at (parent.Cluster cluster) None lies = λ goes ih none. tt
  after_step at (parent.Cluster cluster) (Some track) lies = cluster_is at track cluster lies.0 lies.1
  after_step at (parent.Group cluster to) None lies = λ goes ih none. tt
  after_step at (parent.Group cluster to) (Some track) lies = group_is to at track cluster lies.0 lies.1 lies.2

  pub is_sound : (n : ℕ) (c : WebmCursor) → left_of (length bytes) c < n → LiesWithin (length bytes) c.at c.segment c.parent → c.segment ≡ segment → Sound c.at c.parent c.track (webm_packets_from bytes c)
  is_sound zero c below lies here = absurd (omega arith)
  is_sound (suc n) c below lies here =
      let placed = subst (λ s. LiesWithin (length bytes) c.at s c.parent) here lies in
      let d = in_place c.at c.parent c.track in
      let same : c ≡ d = ap (λ s. cursor_at c.at s c.parent c.track) here in
      subst (Sound c.at c.parent c.track) (sym (ap (webm_packets_from bytes) same ∙ next_from bytes d placed))
      (after_step c.at c.parent c.track placed (is_step bytes d placed)
      (λ e goes on. is_sound n e (omega (arith, goes.nearer, ap (left_of (length bytes)) same)) goes.fits on))
