-- The walk over a whole file that is spelled as one.
use Rattle.std.proofs.Common.{◌≡◌, ◌≢◌, ℕ, ◌+◌, ◌≤◌, List, [], ◌∷◌, ◌++◌, length, drop, refl, sym, ap, ◌∙◌, arith, Bool, true, false, length-append, append_assoc}
use Rattle.std.specs.Prelude.{Option, Some, None, Result, ◌&&◌, not, nat_eq, nat_le}
use Rattle.std.specs.List.{flat_map}
use Rattle.std.proofs.lemmas.Bool.{le-leb}
use Rattle.vp9_types.specs.Results.{◌>>=◌}
use Rattle.vp9_types.specs.declared.rule.Rule.{Rule}
use Rattle.ivf_container.specs.Packets.{Packets, no_packets, with_payloads}
use Rattle.webm_container.specs.Walk.{in_file, file_step, in_segment, segment_step, tracks_step, in_cluster, cluster_step, go_on_by_step, webm_packets_from, at_start, webm_packets}
use Rattle.webm_container.specs.Webm as webm
use Rattle.webm_container.specs.Webm.{Head, head_bytes, id_of, IsHead, Other, other_bytes, others_bytes, IsOther, InTracks, tracks_bytes, InCluster, cluster_bytes, IsInCluster, cluster_payloads, InSegment, segment_element, segment_bytes, EndsCluster, AreInSegment, WebmFile, file_bytes, HasPayloads, IsWebmFile}
use Rattle.webm_container.specs.declared.cursor.Cluster.{Cluster}
use Rattle.webm_container.specs.declared.cursor.Parent.TheVariants as parent
use Rattle.webm_container.specs.declared.cursor.WebmCursor.{WebmCursor}
use Rattle.webm_container.specs.declared.elements.Element.{Element}
use Rattle.webm_container.specs.Ids as the
use Rattle.webm_container.specs.Ids.{is_top_level}
use Rattle.webm_container.proofs.Walks.{next_from}
use Rattle.webm_container.proofs.Spelled.{if_false, if_true, differs, agrees, after, end_of, element_of, element_there, content_there, head_long}
use Rattle.webm_container.proofs.Moves.{moves, over_all}
use Rattle.webm_container.proofs.Clusters.{content_end, not_yet, over_cluster}
use Rattle.webm_container.proofs.Entered.{over_tracks}

---- In the Segment ----

end_low : (unknown : Bool) (end to : ℕ) → to ≤ end → (to ≤ end_of unknown end to) × (end_of unknown end to ≤ end)
end_low true end to h = (h, omega arith)
end_low false end to h = (omega arith, h)

module _ (bytes : List ℕ) (segment : ℕ) (fits : segment ≤ length bytes) where
  abbrev in_segment_at : Option ℕ → ℕ → WebmCursor
  in_segment_at track at = record { at = at; segment = segment; parent = parent.Segment; track = track }

  abbrev in_cluster_at : Bool → ℕ → ℕ → ℕ → WebmCursor
  in_cluster_at unknown to track at = record { at = at; segment = segment; parent = parent.Cluster (record { to = to; unknown = unknown }); track = Some track }

  segment_reads : (unknown : Bool) (track : Option ℕ) (at : ℕ) (head : Head) (content rest : List ℕ) → drop at bytes ≡ (head_bytes head ++ content) ++ rest → IsHead unknown (length content) head
      → at + length (head_bytes head ++ content) ≤ segment
      → segment_step bytes (in_segment_at track at) ≡ in_segment (in_segment_at track at) (element_of unknown (id_of head) (at + length (head_bytes head)) (at + length (head_bytes head ++ content)) segment)
  unfolding segment_step
  segment_reads unknown track at head content rest here h room =
      if_false (nat_le segment at) _ _ (not_yet unknown (length content) head content at segment h room)
      ∙ ap (λ (r : Result Element Rule). r >>= in_segment (in_segment_at track at)) (element_there unknown bytes content rest head at segment here h room)

  segment_ends : (track : ℕ) → webm_packets_from bytes (in_segment_at (Some track) segment) ≡ no_packets None
  unfolding segment_step
  segment_ends track =
      next_from bytes (in_segment_at (Some track) segment) (omega arith, fits)
      ∙ ap (go_on_by_step bytes (webm_packets_from bytes)) (if_true (nat_le segment segment) _ _ (le-leb segment segment (omega arith)))

  ---- The end of a Cluster ----

  -- one of known size
  known_ends : (unknown : Bool) (to track : ℕ) → to ≤ segment → webm_packets_from bytes (in_cluster_at unknown to track to) ≡ webm_packets_from bytes (in_segment_at (Some track) to)
  unfolding cluster_step
  known_ends unknown to track inside =
      moves bytes (in_cluster_at unknown to track to) (in_segment_at (Some track) to) (omega arith, inside, fits) (if_true (nat_le to to) _ _ (le-leb to to (omega arith)))

  -- one of unknown size, before an element of the Segment
  ends_before : (unknown : Bool) (track at : ℕ) (head : Head) (content rest : List ℕ) → drop at bytes ≡ (head_bytes head ++ content) ++ rest → IsHead unknown (length content) head
      → at + length (head_bytes head ++ content) ≤ segment → is_top_level (id_of head) ≡ true
      → webm_packets_from bytes (in_cluster_at true segment track at) ≡ webm_packets_from bytes (in_segment_at (Some track) at)
  unfolding cluster_step
  ends_before unknown track at head content rest here h room top =
      let c = in_cluster_at true segment track at in
      let cluster : Cluster = record { to = segment; unknown = true } in
      moves bytes c (in_segment_at (Some track) at) (omega arith, omega arith, fits)
      (if_false (nat_le segment at) _ _ (not_yet unknown (length content) head content at segment h room)
      ∙ ap (λ (r : Result Element Rule). r >>= in_cluster bytes c cluster) (element_there unknown bytes content rest head at segment here h room)
      ∙ if_true (true && is_top_level (id_of head)) _ _ top)

  open_ends : (before : Option ℕ) (track at : ℕ) (more : List InSegment) (payloads : List (List ℕ)) (rest : List ℕ) → EndsCluster more → AreInSegment before more payloads → drop at bytes ≡ segment_bytes more ++ rest
      → at + length (segment_bytes more) ≡ segment → webm_packets_from bytes (in_cluster_at true segment track at) ≡ webm_packets_from bytes (in_segment_at (Some track) at)
  open_ends before track at [] payloads rest ends are here room =
      let there : at ≡ segment = omega (arith, room) in
      ap (λ k. webm_packets_from bytes (in_cluster_at true segment track k)) there ∙ known_ends true segment track (omega arith) ∙ ap (λ k. webm_packets_from bytes (in_segment_at (Some track) k)) (sym there)
  open_ends before track at (webm.tracks head items ∷ more) payloads rest ends are here room =
      let spelled = head_bytes head ++ tracks_bytes items in
      ends_before false track at head (tracks_bytes items) (segment_bytes more ++ rest) (here ∙ append_assoc spelled (segment_bytes more) rest) are.0
      (omega (arith, room, length-append spelled (segment_bytes more))) (ap is_top_level are.1)
  open_ends before track at (webm.cluster unknown head items ∷ more) payloads rest ends are here room =
      let spelled = head_bytes head ++ cluster_bytes items in
      ends_before unknown track at head (cluster_bytes items) (segment_bytes more ++ rest) (here ∙ append_assoc spelled (segment_bytes more) rest) are.0
      (omega (arith, room, length-append spelled (segment_bytes more))) (ap is_top_level are.1)
  open_ends before track at (webm.other_in_segment e ∷ more) payloads rest ends are here room =
      let spelled = other_bytes e in
      ends_before false track at e.head e.content (segment_bytes more ++ rest) (here ∙ append_assoc spelled (segment_bytes more) rest) are.0
      (omega (arith, room, length-append spelled (segment_bytes more))) ends

  cluster_ends : (unknown : Bool) (before : Option ℕ) (track at : ℕ) (more : List InSegment) (payloads : List (List ℕ)) (rest : List ℕ) → (unknown ≡ true → EndsCluster more) → AreInSegment before more payloads
      → drop at bytes ≡ segment_bytes more ++ rest → at + length (segment_bytes more) ≡ segment
      → webm_packets_from bytes (in_cluster_at unknown (end_of unknown segment at) track at) ≡ webm_packets_from bytes (in_segment_at (Some track) at)
  cluster_ends false before track at more payloads rest ends are here room = known_ends false at track (omega (arith, room))
  cluster_ends true before track at more payloads rest ends are here room = open_ends before track at more payloads rest (ends refl) are here room

  tracks_end : (to : ℕ) (track : Option ℕ) → to ≤ segment → webm_packets_from bytes (record { at = to; segment = segment; parent = parent.Tracks to; track = track }) ≡ webm_packets_from bytes (in_segment_at track to)
  unfolding tracks_step
  tracks_end to track inside =
      moves bytes (record { at = to; segment = segment; parent = parent.Tracks to; track = track }) (in_segment_at track to) (omega arith, inside, fits) (if_true (nat_le to to) _ _ (le-leb to to (omega arith)))

  abbrev ended_by : List (List ℕ) → Packets
  ended_by payloads = record { payloads = payloads; ending = None }

  pub over_segment : (items : List InSegment) (before : Option ℕ) (payloads : List (List ℕ)) (at : ℕ) (rest : List ℕ) → AreInSegment before items payloads → drop at bytes ≡ segment_bytes items ++ rest
      → at + length (segment_bytes items) ≡ segment → webm_packets_from bytes (in_segment_at before at) ≡ ended_by payloads
  over_segment [] before payloads at rest are here room =
      let there : at ≡ segment = omega (arith, room) in
      ap (λ t. webm_packets_from bytes (in_segment_at t at)) are.0.1 ∙ ap (λ k. webm_packets_from bytes (in_segment_at (Some are.0.0) k)) there ∙ segment_ends are.0.0 ∙ ap ended_by (sym are.1)
  over_segment (webm.tracks head items ∷ more) before payloads at rest are here room =
      let content = tracks_bytes items in
      let spelled = head_bytes head ++ content in
      let behind = segment_bytes more in
      let long : length (spelled ++ behind) ≡ length spelled + length behind = length-append spelled behind in
      let first : drop at bytes ≡ spelled ++ (behind ++ rest) = here ∙ append_assoc spelled behind rest in
      let inner = at + length (head_bytes head) in
      let end = at + length spelled in
      let ends : end ≡ inner + length content = content_end head content at in
      let inside : end ≤ segment = omega (arith, long, room) in
      let next = are.2.0 in
      moves bytes (in_segment_at before at) (record { at = inner; segment = segment; parent = parent.Tracks end; track = before }) (omega (arith, inside), fits)
      (segment_reads false before at head content (behind ++ rest) first are.0 inside
      ∙ if_false (nat_eq (id_of head) the.cluster) _ _ (ap (λ id. nat_eq id the.cluster) are.1)
      ∙ if_true (nat_eq (id_of head) the.tracks) _ _ (agrees _ _ are.1))
      ∙ over_tracks bytes segment fits end inside items before next inner (behind ++ rest) are.2.1 (content_there bytes content (behind ++ rest) head at first) (omega (arith, ends))
      ∙ ap (λ k. webm_packets_from bytes (record { at = k; segment = segment; parent = parent.Tracks end; track = next })) (sym ends)
      ∙ tracks_end end next inside
      ∙ over_segment more next payloads end rest are.2.2 (after bytes spelled (behind ++ rest) at first) (omega (arith, long, room))
  over_segment (webm.cluster unknown head items ∷ more) before payloads at rest are here room =
      let content = cluster_bytes items in
      let spelled = head_bytes head ++ content in
      let behind = segment_bytes more in
      let long : length (spelled ++ behind) ≡ length spelled + length behind = length-append spelled behind in
      let first : drop at bytes ≡ spelled ++ (behind ++ rest) = here ∙ append_assoc spelled behind rest in
      let inner = at + length (head_bytes head) in
      let end = at + length spelled in
      let ends : end ≡ inner + length content = content_end head content at in
      let inside : end ≤ segment = omega (arith, long, room) in
      let track = are.3.0 in
      let others = are.3.1 in
      let to = end_of unknown segment end in
      let low = end_low unknown segment end inside in
      let pays = flat_map (cluster_payloads track) items in
      let there = after bytes spelled (behind ++ rest) at first in
      ap (λ t. webm_packets_from bytes (in_segment_at t at)) are.3.2
      ∙ moves bytes (in_segment_at (Some track) at) (in_cluster_at unknown to track inner) (omega (arith, inside), fits)
      (segment_reads unknown (Some track) at head content (behind ++ rest) first are.0 inside ∙ if_true (nat_eq (id_of head) the.cluster) _ _ (agrees _ _ are.1))
      ∙ over_cluster bytes track segment (record { to = to; unknown = unknown }) low.1 fits items inner (behind ++ rest) are.3.3 (content_there bytes content (behind ++ rest) head at first) (omega (arith, ends, low.0))
      ∙ ap (λ k. with_payloads pays (webm_packets_from bytes (in_cluster_at unknown to track k))) (sym ends)
      ∙ ap (with_payloads pays) (cluster_ends unknown before track end more others rest are.2 are.3.5 there (omega (arith, long, room))
      ∙ ap (λ t. webm_packets_from bytes (in_segment_at t end)) (sym are.3.2)
      ∙ over_segment more before others end rest are.3.5 there (omega (arith, long, room)))
      ∙ ap ended_by (sym are.3.4)
  over_segment (webm.other_in_segment e ∷ more) before payloads at rest are here room =
      let spelled = other_bytes e in
      let behind = segment_bytes more in
      let long : length (spelled ++ behind) ≡ length spelled + length behind = length-append spelled behind in
      let first : drop at bytes ≡ spelled ++ (behind ++ rest) = here ∙ append_assoc spelled behind rest in
      let end = at + length spelled in
      let inside : end ≤ segment = omega (arith, long, room) in
      moves bytes (in_segment_at before at) (in_segment_at before end) (omega (arith, inside), fits)
      (segment_reads false before at e.head e.content (behind ++ rest) first are.0 inside
      ∙ if_false (nat_eq (id_of e.head) the.cluster) _ _ (differs _ _ are.2)
      ∙ if_false (nat_eq (id_of e.head) the.tracks) _ _ (differs _ _ are.1))
      ∙ over_segment more before payloads end rest are.3 (after bytes spelled (behind ++ rest) at first) (omega (arith, long, room))

---- Before the Segment ----

abbrev none_of : {A : Type 0} → A → List (List ℕ)
none_of x = []

no_payloads : {A : Type 0} (xs : List A) → flat_map none_of xs ≡ []
no_payloads [] = refl
no_payloads (x ∷ xs) = no_payloads xs

module _ (bytes : List ℕ) where
  abbrev in_file_at : ℕ → WebmCursor
  in_file_at at = record { at = at; segment = 0; parent = parent.File; track = None }

  file_reads : (unknown : Bool) (at : ℕ) (head : Head) (content rest : List ℕ) → drop at bytes ≡ (head_bytes head ++ content) ++ rest → IsHead unknown (length content) head
      → at + length (head_bytes head ++ content) ≤ length bytes
      → file_step bytes (in_file_at at) ≡ in_file (in_file_at at) (element_of unknown (id_of head) (at + length (head_bytes head)) (at + length (head_bytes head ++ content)) (length bytes))
  unfolding file_step
  file_reads unknown at head content rest here h room =
      ap (λ (r : Result Element Rule). r >>= in_file (in_file_at at)) (element_there unknown bytes content rest head at (length bytes) here h room)

  not_first : (at : ℕ) (b : Bool) → 1 ≤ at → (nat_eq at 0 && b) ≡ false
  not_first at b low = ap (λ t. t && b) (differs at 0 (λ e. omega (arith, e)))

  over_ebml : (e : Other) (rest : List ℕ) → bytes ≡ other_bytes e ++ rest → IsOther e → id_of e.head ≡ the.ebml → webm_packets_from bytes at_start ≡ webm_packets_from bytes (in_file_at (length (other_bytes e)))
  over_ebml e rest here h is =
      let n = length (other_bytes e) in
      let zero_more : 0 + n ≡ n = omega arith in
      moves bytes at_start (in_file_at (0 + n)) (omega arith)
      (file_reads false 0 e.head e.content rest here h (omega (arith, ap length here, length-append (other_bytes e) rest))
      ∙ if_false (not (nat_eq (id_of e.head) the.ebml)) _ _ (ap (λ id. not (nat_eq id the.ebml)) is)
      ∙ if_false (nat_eq (id_of e.head) the.segment) _ _ (ap (λ id. nat_eq id the.segment) is))
      ∙ ap (λ k. webm_packets_from bytes (in_file_at k)) zero_more

  abbrev IsBefore : Other → Type 0
  IsBefore element = IsOther element × (id_of element.head ≢ the.segment)

  over_one_before : (e : Other) (at : ℕ) (rest : List ℕ) → IsBefore e → 1 ≤ at → drop at bytes ≡ other_bytes e ++ rest → at + length (other_bytes e) ≤ length bytes
      → webm_packets_from bytes (in_file_at at) ≡ with_payloads (none_of e) (webm_packets_from bytes (in_file_at (at + length (other_bytes e))))
  over_one_before e at rest h low here room =
      moves bytes (in_file_at at) (in_file_at (at + length (other_bytes e))) (omega arith)
      (file_reads false at e.head e.content rest here h.0 room
      ∙ if_false (nat_eq at 0 && not (nat_eq (id_of e.head) the.ebml)) _ _ (not_first at (not (nat_eq (id_of e.head) the.ebml)) low)
      ∙ if_false (nat_eq (id_of e.head) the.segment) _ _ (differs _ _ h.1))

  segment_end : (unknown : Bool) (end : ℕ) → end ≤ length bytes → (unknown ≡ true → end ≡ length bytes) → end_of unknown (length bytes) end ≡ end
  segment_end true end inside last = sym (last refl)
  segment_end false end inside last = refl

  over_head : (unknown : Bool) (at : ℕ) (head : Head) (items : List InSegment) (behind : List ℕ) (payloads : List (List ℕ)) → 1 ≤ at
      → drop at bytes ≡ (head_bytes head ++ segment_bytes items) ++ behind → IsHead unknown (length (segment_bytes items)) head → id_of head ≡ the.segment
      → at + length (head_bytes head ++ segment_bytes items) + length behind ≡ length bytes → (unknown ≡ true → behind ≡ []) → AreInSegment None items payloads
      → webm_packets_from bytes (in_file_at at) ≡ record { payloads = payloads; ending = None }
  over_head unknown at head items behind payloads low here h is long last are =
      let content = segment_bytes items in
      let end = at + length (head_bytes head ++ content) in
      let from = at + length (head_bytes head) in
      let ends : end ≡ from + length content = content_end head content at in
      let inside : end ≤ length bytes = omega (arith, long) in
      let segment = end_of unknown (length bytes) end in
      let to : segment ≡ end = segment_end unknown end inside (λ u. omega (arith, long, ap length (last u))) in
      moves bytes (in_file_at at) (record { at = from; segment = segment; parent = parent.Segment; track = None }) (omega (arith, inside))
      (file_reads unknown at head content behind here h inside
      ∙ if_false (nat_eq at 0 && not (nat_eq (id_of head) the.ebml)) _ _ (not_first at (not (nat_eq (id_of head) the.ebml)) low)
      ∙ if_true (nat_eq (id_of head) the.segment) _ _ (agrees _ _ is))
      ∙ over_segment bytes segment (omega (arith, to, inside)) items None payloads from behind are (content_there bytes content behind head at here) (omega (arith, ends, to))

pub over_file : (bytes : List ℕ) (file : WebmFile) (payloads : List (List ℕ)) → bytes ≡ file_bytes file → HasPayloads file payloads → webm_packets bytes ≡ record { payloads = payloads; ending = None }
unfolding webm_packets
over_file bytes file payloads whole h =
    let first = other_bytes file.ebml in
    let others = others_bytes file.others in
    let segment = head_bytes file.head ++ segment_bytes file.elements in
    let n = length first in
    let at = n + length others in
    let tail = head_bytes file.head ++ (segment_bytes file.elements ++ file.behind) in
    let grouped : tail ≡ segment ++ file.behind = sym (append_assoc (head_bytes file.head) (segment_bytes file.elements) file.behind) in
    let zero_more : 0 + n ≡ n = omega arith in
    let at_others : drop n bytes ≡ others ++ tail = ap (λ k. drop k bytes) (sym zero_more) ∙ after bytes first (others ++ tail) 0 whole in
    let at_head : drop at bytes ≡ tail = after bytes others tail n at_others in
    let long : at + length segment + length file.behind ≡ length bytes =
    omega (arith, ap length whole, length-append first (others ++ tail), length-append others tail, ap length grouped, length-append segment file.behind) in
    let some : 1 ≤ n = omega (arith, head_long false (length file.ebml.content) file.ebml.head h.is_ebml.0, length-append (head_bytes file.ebml.head) file.ebml.content) in
    over_ebml bytes file.ebml (others ++ tail) whole h.is_ebml.0 h.is_ebml.1
    ∙ over_all bytes other_bytes none_of (in_file_at bytes) 1 (length bytes) (IsBefore bytes) (over_one_before bytes) file.others n tail h.others some at_others (omega (arith, long))
    ∙ ap (λ ps. with_payloads ps (webm_packets_from bytes (in_file_at bytes at))) (no_payloads file.others)
    ∙ over_head bytes file.unknown at file.head file.elements file.behind payloads (omega (arith, some)) (at_head ∙ grouped) h.is_segment.0 h.is_segment.1 long h.last h.elements

pub only_packets : (bytes : List ℕ) (packets : Packets) → IsWebmFile bytes packets → webm_packets bytes ≡ packets
only_packets bytes packets h =
    over_file bytes h.0 packets.payloads h.1 h.2 ∙ ap (λ e. record { payloads = packets.payloads; ending = e }) (sym h.3)
