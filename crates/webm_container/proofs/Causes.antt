-- Each rule that the walk meets has its cause where it stops.
use Rattle.std.proofs.Common.{◌≡◌, ℕ, zero, suc, ◌+◌, ◌-◌, ◌<◌, ◌≤◌, ◌^◌, List, length, refl, sym, ap, subst, ◌∙◌, arith, Bool, true, false}
use Rattle.std.specs.Prelude.{Option, Some, None, Result, Ok, Err, ◌&&◌, not, nat_eq, nat_lt, nat_le, slice_index}
use Rattle.std.proofs.lemmas.Bool.{leb-true, ltb-true, eqb-true, eqb-false}
use Rattle.vp9_types.specs.Results.{◌>>=◌}
use Rattle.vp9_types.specs.declared.job.Span.{Span}
use Rattle.vp9_types.specs.declared.rule.Rule.{Rule}
use Rattle.vp9_types.specs.declared.rule.Rule.TheVariants.{WebmElement, WebmTrack}
use Rattle.ivf_container.specs.Packets.{Packets}
use Rattle.webm_container.specs.Ids as the
use Rattle.webm_container.specs.Ids.{is_top_level}
use Rattle.webm_container.specs.Elements.{coded_octets, coded_at, sized, element_at, if_known, known_at}
use Rattle.webm_container.specs.TrackEntries.{noted, usable, chosen_by, chosen}
use Rattle.webm_container.specs.ClusterBlocks.{is_of, is_laced, behind_number, payload_at}
use Rattle.webm_container.specs.Walk.{moved_on, in_file, file_step, if_chosen, in_segment, segment_step, in_tracks, tracks_step, with_track, entry_step, behind_block, block_step, in_cluster, cluster_step, in_group, group_step, step_within, step_at, go_on_by_step, webm_packets_from, at_start, webm_packets}
use Rattle.webm_container.specs.Laws as law
use Rattle.webm_container.specs.Laws.{LeadsTo, Comes, element_of, MayBeUnknown, IsBlockId, HasNoNumber, EndsEntry, AtBlock, Breaks}
use Rattle.webm_container.specs.declared.cursor.Cluster.{Cluster}
use Rattle.webm_container.specs.declared.cursor.Parent.{Parent}
use Rattle.webm_container.specs.declared.cursor.Parent.TheVariants as parent
use Rattle.webm_container.specs.declared.cursor.WebmCursor.{WebmCursor}
use Rattle.webm_container.specs.declared.elements.Coded.{Coded}
use Rattle.webm_container.specs.declared.elements.Element.{Element}
use Rattle.webm_container.specs.declared.entries.TrackEntry.{TrackEntry}
use Rattle.webm_container.specs.declared.entries.TrackNumber.{TrackNumber}
use Rattle.webm_container.specs.declared.entries.TrackNumber.TheVariants.{Malformed, Is}
use Rattle.webm_container.specs.declared.steps.WebmStep.{WebmStep}
use Rattle.webm_container.specs.declared.steps.WebmStep.TheVariants.{Moved, Block, End}
use Rattle.webm_container.proofs.Tests.{by_test, by_result_is}
use Rattle.webm_container.proofs.Progress.{LiesWithin, GoesOn, IsStep, is_step, left_of, cursor_at}
use Rattle.webm_container.proofs.Walks.{next_from, left_low}

---- What no element breaks ----

abbrev IsWebmElement : {A : Type 0} → Result A Rule → Type 0
IsWebmElement (Ok x) = Unit {0}
IsWebmElement (Err rule) = rule ≡ WebmElement

coded_breaks : (bytes : List ℕ) (at end most : ℕ) → IsWebmElement (coded_at bytes at end most)
unfolding coded_at
coded_breaks bytes at end most =
    let n = coded_octets (slice_index bytes at) in
    let P : Result Coded Rule → Type 0 = λ r. IsWebmElement r in
    by_test P (nat_le end at) _ _ (λ _. refl) (λ _. by_test P (nat_lt most n) _ _ (λ _. refl) (λ _. by_test P (nat_lt (end - at) n) _ _ (λ _. refl) (λ _. tt)))

element_breaks : (bytes : List ℕ) (at end : ℕ) → IsWebmElement (element_at bytes at end)
unfolding element_at
element_breaks bytes at end =
    let P : Result Element Rule → Type 0 = λ r. IsWebmElement r in
    by_result_is P (coded_at bytes at end 4) _ (λ id _.
    by_result_is P (coded_at bytes id.to end 8) (sized end id.marked)
    (λ size _. by_test P size.all_ones _ _ (λ _. tt) (λ _. by_test P (nat_lt (end - size.to) size.value) _ _ (λ _. refl) (λ _. tt)))
    (λ rule is. subst (λ (r : Result Coded Rule). IsWebmElement r) is (coded_breaks bytes id.to end 8)))
    (λ rule is. subst (λ (r : Result Coded Rule). IsWebmElement r) is (coded_breaks bytes at end 4))

---- Steps that fail ----

module _ (bytes : List ℕ) where
  abbrev Fails : WebmCursor → Result WebmStep Rule → Type 0
  Fails c (Ok s) = Unit {0}
  Fails c (Err rule) = Breaks bytes c rule

  no_element_there : (c : WebmCursor) (rule : Rule) → element_of bytes c ≡ Err rule → Fails c (Err rule)
  no_element_there c rule is =
      let same = subst (λ (r : Result Element Rule). IsWebmElement r) is (element_breaks bytes c.at _) in
      subst (Breaks bytes c) (sym same) (law.no_element rule is)

  by_known : (P : Result WebmStep Rule → Type 0) (at end : ℕ) (f : Element → Result WebmStep Rule) → ((e : Element) → element_at bytes at end ≡ Ok e → e.unknown ≡ false → P (f e))
      → ((e : Element) → element_at bytes at end ≡ Ok e → e.unknown ≡ true → P (Err WebmElement)) → ((rule : Rule) → element_at bytes at end ≡ Err rule → P (Err rule)) → P (known_at bytes at end >>= f)
  unfolding known_at
  by_known P at end f known unknown err =
      let Q : Result Element Rule → Type 0 = λ r. P (r >>= f) in
      by_result_is Q (element_at bytes at end) if_known (λ e is. by_test Q e.unknown _ _ (λ u. unknown e is u) (λ k. known e is k)) err

  if_fails : (c : WebmCursor) (track : Option ℕ) (r : Result WebmStep Rule) → (track ≡ None → Breaks bytes c WebmTrack) → Fails c r → Fails c (if_chosen track r)
  if_fails c None r none h = none refl
  if_fails c (Some t) r none h = h

  both_hold : (a b : Bool) → (a && b) ≡ true → (a ≡ true) × (b ≡ true)
  both_hold true b h = (refl, h)
  both_hold false b h = cc

  not_true : (b : Bool) → not b ≡ true → b ≡ false
  not_true true e = cc
  not_true false e = refl

  not_false : (b : Bool) → not b ≡ false → b ≡ true
  not_false true e = refl
  not_false false e = cc

  file_fails : (at segment : ℕ) (track : Option ℕ) → Fails (cursor_at at segment parent.File track) (file_step bytes (cursor_at at segment parent.File track))
  unfolding file_step
  file_fails at segment track =
      let c = cursor_at at segment parent.File track in
      let P = Fails c in
      by_result_is P (element_at bytes at (length bytes)) (in_file c) (λ e is.
      by_test P (nat_eq at 0 && not (nat_eq e.id the.ebml)) _ _
      (λ t. let both = both_hold (nat_eq at 0) (not (nat_eq e.id the.ebml)) t in law.no_ebml e refl (eqb-true at 0 both.0) is (eqb-false e.id the.ebml (not_true _ both.1))) (λ _.
      by_test P (nat_eq e.id the.segment) _ _ (λ _. tt) (λ no_segment.
      by_test P e.unknown _ _ (λ u. law.unknown_size e is u (eqb-false e.id the.segment no_segment)) (λ _. tt)))) (λ rule is. no_element_there c rule is)

  segment_fails : (at segment : ℕ) (track : Option ℕ) → Fails (cursor_at at segment parent.Segment track) (segment_step bytes (cursor_at at segment parent.Segment track))
  unfolding segment_step
  segment_fails at segment track =
      let c = cursor_at at segment parent.Segment track in
      let P = Fails c in
      by_test P (nat_le segment at) _ _ (λ over. if_fails c track (Ok End) (λ none. law.no_track_at_end refl (leb-true segment at over) none) tt) (λ _.
      by_result_is P (element_at bytes at segment) (in_segment c) (λ e is.
      by_test P (nat_eq e.id the.cluster) _ _
      (λ here. if_fails c track (moved_on c e.from (parent.Cluster (record { to = e.to; unknown = e.unknown }))) (λ none. law.no_track_at_cluster e refl is (eqb-true e.id the.cluster here) none) tt) (λ no_cluster.
      by_test P e.unknown _ _ (λ u. law.unknown_size e is u (eqb-false e.id the.cluster no_cluster)) (λ _.
      by_test P (nat_eq e.id the.tracks) _ _ (λ _. tt) (λ _. tt)))) (λ rule is. no_element_there c rule is))

  tracks_fails : (at segment to : ℕ) (track : Option ℕ) → Fails (cursor_at at segment (parent.Tracks to) track) (tracks_step bytes (cursor_at at segment (parent.Tracks to) track) to)
  unfolding tracks_step
  tracks_fails at segment to track =
      let c = cursor_at at segment (parent.Tracks to) track in
      let P = Fails c in
      by_test P (nat_le to at) _ _ (λ _. tt) (λ _.
      by_known P at to (in_tracks c to) (λ e is _. by_test P (nat_eq e.id the.track_entry) _ _ (λ _. tt) (λ _. tt)) (λ e is u. law.unknown_size e is u (λ h. h)) (λ rule is. no_element_there c rule is))

  entry_ends : (c : WebmCursor) (tracks to : ℕ) (entry : TrackEntry) → c.parent ≡ parent.Entry tracks to entry → to ≤ c.at → c.track ≡ None
      → (vp9 : Option Bool) (number : Option TrackNumber) (encoded : Bool) → entry.is_vp9 ≡ vp9 → entry.number ≡ number → entry.encoded ≡ encoded
      → Fails c (chosen_by vp9 (usable number encoded) >>= with_track c tracks)
  entry_ends c tracks to entry within over first None number encoded v n e = tt
  entry_ends c tracks to entry within over first (Some false) number encoded v n e = tt
  entry_ends c tracks to entry within over first (Some true) None encoded v n e =
      law.no_number entry (record { tracks = tracks; to = to; within = within; at_end = over; first = first; vp9 = v }) (subst HasNoNumber (sym n) tt)
  entry_ends c tracks to entry within over first (Some true) (Some Malformed) encoded v n e =
      law.no_number entry (record { tracks = tracks; to = to; within = within; at_end = over; first = first; vp9 = v }) (subst HasNoNumber (sym n) tt)
  entry_ends c tracks to entry within over first (Some true) (Some (Is number)) true v n e =
      law.is_encoded entry number (record { tracks = tracks; to = to; within = within; at_end = over; first = first; vp9 = v }) n e
  entry_ends c tracks to entry within over first (Some true) (Some (Is number)) false v n e = tt

  entry_over : (at segment tracks to : ℕ) (entry : TrackEntry) (track : Option ℕ) → to ≤ at
      → Fails (cursor_at at segment (parent.Entry tracks to entry) track) (chosen track entry >>= with_track (cursor_at at segment (parent.Entry tracks to entry) track) tracks)
  entry_over at segment tracks to entry (Some track) over = tt
  entry_over at segment tracks to entry None over =
      entry_ends (cursor_at at segment (parent.Entry tracks to entry) None) tracks to entry refl over refl entry.is_vp9 entry.number entry.encoded refl refl refl

  entry_fails : (at segment tracks to : ℕ) (entry : TrackEntry) (track : Option ℕ)
      → Fails (cursor_at at segment (parent.Entry tracks to entry) track) (entry_step bytes (cursor_at at segment (parent.Entry tracks to entry) track) tracks to entry)
  unfolding entry_step
  entry_fails at segment tracks to entry track =
      let c = cursor_at at segment (parent.Entry tracks to entry) track in
      let P = Fails c in
      by_test P (nat_le to at) _ _ (λ over. entry_over at segment tracks to entry track (leb-true to at over)) (λ _.
      by_known P at to (λ e. moved_on c e.to (parent.Entry tracks to (noted bytes entry e))) (λ e is _. tt) (λ e is u. law.unknown_size e is u (λ h. h)) (λ rule is. no_element_there c rule is))

  is_chosen_track : (track : Option ℕ) (number : ℕ) → is_of track number ≡ true → track ≡ Some number
  is_chosen_track None number h = cc
  is_chosen_track (Some t) number h = ap (λ k. some_track k) (eqb-true t number h) where
    some_track : ℕ → Option ℕ
    some_track k = Some k

  fails_or_not : (c d : WebmCursor) (r : Option Span) → Fails c (behind_block d r)
  fails_or_not c d None = tt
  fails_or_not c d (Some span) = tt

  block_fails : (c : WebmCursor) (b : Element) → element_of bytes c ≡ Ok b → IsBlockId c.parent b.id → Fails c (block_step bytes c b)
  unfolding block_step payload_at
  block_fails c b is block =
      let d : WebmCursor = record c { at = b.to } in
      let P : Result (Option Span) Rule → Type 0 = λ r. Fails c (r >>= behind_block d) in
      by_result_is P (coded_at bytes b.from b.to 8) (behind_number bytes c.track b.to) (λ number is_number.
      let at_block : AtBlock bytes c b number = record { stands = is; is_block = block; numbered = is_number } in
      by_test P (nat_lt (b.to - number.to) 3) _ _ (λ short. law.short_block b number at_block (ltb-true (b.to - number.to) 3 short)) (λ _.
      by_test P (not (is_of c.track number.value)) _ _ (λ _. tt) (λ ours.
      let track = is_chosen_track c.track number.value (not_false _ ours) in
      by_test P (is_laced (slice_index bytes (number.to + 2))) _ _ (λ laced. law.laced b number at_block track laced) (λ _.
      by_test P (nat_le (2 ^ 32) (b.to - (number.to + 3))) _ _ (λ long. law.long_payload b number at_block track (leb-true (2 ^ 32) (b.to - (number.to + 3)) long)) (λ _. tt)))))
      (λ rule is_rule.
      let same = subst (λ (r : Result Coded Rule). IsWebmElement r) is_rule (coded_breaks bytes b.from b.to 8) in
      subst (Breaks bytes c) (sym same) (law.no_block_number b rule is block is_rule))

  cluster_fails : (at segment : ℕ) (cluster : Cluster) (track : Option ℕ) → Fails (cursor_at at segment (parent.Cluster cluster) track) (cluster_step bytes (cursor_at at segment (parent.Cluster cluster) track) cluster)
  unfolding cluster_step
  cluster_fails at segment cluster track =
      let c = cursor_at at segment (parent.Cluster cluster) track in
      let P = Fails c in
      by_test P (nat_le cluster.to at) _ _ (λ _. tt) (λ _.
      by_result_is P (element_at bytes at cluster.to) (in_cluster bytes c cluster) (λ e is.
      by_test P (cluster.unknown && is_top_level e.id) _ _ (λ _. tt) (λ _.
      by_test P e.unknown _ _ (λ u. law.unknown_size e is u (λ h. h)) (λ _.
      by_test P (nat_eq e.id the.simple_block) _ _ (λ here. block_fails c e is (eqb-true e.id the.simple_block here)) (λ _.
      by_test P (nat_eq e.id the.block_group) _ _ (λ _. tt) (λ _. tt))))) (λ rule is. no_element_there c rule is))

  group_fails : (at segment to : ℕ) (cluster : Cluster) (track : Option ℕ) → Fails (cursor_at at segment (parent.Group cluster to) track) (group_step bytes (cursor_at at segment (parent.Group cluster to) track) cluster to)
  unfolding group_step
  group_fails at segment to cluster track =
      let c = cursor_at at segment (parent.Group cluster to) track in
      let P = Fails c in
      by_test P (nat_le to at) _ _ (λ _. tt) (λ _.
      by_known P at to (in_group bytes c) (λ e is _. by_test P (nat_eq e.id the.block) _ _ (λ here. block_fails c e is (eqb-true e.id the.block here)) (λ _. tt)) (λ e is u. law.unknown_size e is u (λ h. h)) (λ rule is. no_element_there c rule is))

  fails_within : (at segment : ℕ) (within : Parent) (track : Option ℕ) → Fails (cursor_at at segment within track) (step_within bytes (cursor_at at segment within track) within)
  fails_within at segment parent.File track = file_fails at segment track
  fails_within at segment parent.Segment track = segment_fails at segment track
  fails_within at segment (parent.Tracks to) track = tracks_fails at segment to track
  fails_within at segment (parent.Entry tracks to entry) track = entry_fails at segment tracks to entry track
  fails_within at segment (parent.Cluster cluster) track = cluster_fails at segment cluster track
  fails_within at segment (parent.Group cluster to) track = group_fails at segment to cluster track

  ---- Where the walk stops ----

  abbrev Stops : WebmCursor → Rule → Type 0
  Stops c rule = (n : ℕ) × (d : WebmCursor) × Comes n bytes c d × Breaks bytes d rule

  one_more : (c next : WebmCursor) (rule : Rule) → LeadsTo (step_at bytes c) next → Stops next rule → Stops c rule
  one_more c next rule leads h = (suc h.0, h.1, (next, leads, h.2), h.3)

  by_step : (c : WebmCursor) (rule : Rule) (r : Result WebmStep Rule) → step_at bytes c ≡ r → IsStep (length bytes) c r → Fails c r
      → ((d : WebmCursor) → GoesOn (length bytes) c d → (webm_packets_from bytes d).ending ≡ Some rule → Stops d rule)
      → (go_on_by_step bytes (webm_packets_from bytes) r).ending ≡ Some rule → Stops c rule
  by_step c rule (Ok (Moved d)) is goes fails further ends = one_more c d rule (subst (λ s. LeadsTo s d) (sym is) refl) (further d goes ends)
  by_step c rule (Ok (Block span d)) is goes fails further ends = one_more c d rule (subst (λ s. LeadsTo s d) (sym is) refl) (further d goes.goes ends)
  by_step c rule (Ok End) is goes fails further ends = cc
  by_step c rule (Err met) is goes fails further ends =
      let same : met ≡ rule = cc in
      (zero, c, refl, subst (Breaks bytes c) same fails)

  stops_from : (n : ℕ) (c : WebmCursor) (rule : Rule) → left_of (length bytes) c < n → LiesWithin (length bytes) c.at c.segment c.parent → (webm_packets_from bytes c).ending ≡ Some rule → Stops c rule
  stops_from zero c rule below lies ends = absurd (omega arith)
  stops_from (suc n) c rule below lies ends =
      by_step c rule (step_at bytes c) refl (is_step bytes c lies) (fails_within c.at c.segment c.parent c.track)
      (λ d goes more. stops_from n d rule (omega (arith, goes.nearer)) goes.fits more)
      (sym (ap (λ (p : Packets). p.ending) (next_from bytes c lies)) ∙ ends)

  pub stops_with_cause : (rule : Rule) → (webm_packets bytes).ending ≡ Some rule → Stops at_start rule
  unfolding webm_packets
  stops_with_cause rule ends = stops_from (length bytes + 3) at_start rule (left_low (length bytes) at_start) (omega arith) ends
