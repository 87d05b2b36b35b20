-- The walk over what is spelled in BlockGroups and Clusters.
use Rattle.std.proofs.Common.{◌≡◌, ℕ, ◌+◌, ◌≤◌, List, ◌++◌, length, drop, refl, sym, ap, ◌∙◌, arith, Bool, true, false, length-append}
use Rattle.std.specs.Prelude.{Some, Result, ◌&&◌, nat_eq, nat_le, if◌then◌else◌}
use Rattle.std.specs.List.{flat_map, AllByRecursion}
use Rattle.std.proofs.lemmas.Bool.{lt-leb, le-leb}
use Rattle.vp9_types.specs.Results.{◌>>=◌}
use Rattle.vp9_types.specs.declared.rule.Rule.{Rule}
use Rattle.ivf_container.specs.Packets.{with_payloads}
use Rattle.webm_container.specs.Walk.{moved_on, in_cluster, cluster_step, in_group, group_step, block_step, go_on_by_step, webm_packets_from}
use Rattle.webm_container.specs.Webm as webm
use Rattle.webm_container.specs.Webm.{Head, head_bytes, id_of, IsHead, Other, other_bytes, IsOther, Block, block_bytes, InGroup, group_element, group_bytes, IsInGroup, group_payloads, InCluster, cluster_element, cluster_bytes, IsInCluster, cluster_payloads}
use Rattle.webm_container.specs.declared.cursor.Cluster.{Cluster}
use Rattle.webm_container.specs.declared.cursor.Parent.TheVariants as parent
use Rattle.webm_container.specs.declared.cursor.WebmCursor.{WebmCursor}
use Rattle.webm_container.specs.declared.elements.Element.{Element}
use Rattle.webm_container.specs.Ids as the
use Rattle.webm_container.specs.Ids.{is_top_level}
use Rattle.webm_container.proofs.Walks.{next_from}
use Rattle.webm_container.proofs.Spelled.{if_false, if_true, differs, agrees, element_of, element_there, known_there, content_there, head_long}
use Rattle.webm_container.proofs.Moves.{moves, over_all, block_goes}

-- the element there, and how far its content reaches
abbrev pub known_of : Head → List ℕ → ℕ → ℕ → Element
known_of head content at end = element_of false (id_of head) (at + length (head_bytes head)) (at + length (head_bytes head ++ content)) end

pub content_end : (head : Head) (content : List ℕ) (at : ℕ) → at + length (head_bytes head ++ content) ≡ at + length (head_bytes head) + length content
content_end head content at = omega (arith, length-append (head_bytes head) content)

pub not_yet : (unknown : Bool) (long : ℕ) (head : Head) (content : List ℕ) (at end : ℕ) → IsHead unknown long head → at + length (head_bytes head ++ content) ≤ end → nat_le end at ≡ false
not_yet unknown long head content at end h fits = lt-leb end at (omega (arith, head_long unknown long head h, length-append (head_bytes head) content))

---- BlockGroups ----

module _ (bytes : List ℕ) (track segment : ℕ) (cluster : Cluster) (inside : cluster.to ≤ segment) (fits : segment ≤ length bytes) where
  abbrev in_group_at : ℕ → ℕ → WebmCursor
  in_group_at to at = record { at = at; segment = segment; parent = parent.Group cluster to; track = Some track }

  abbrev in_cluster_at : ℕ → WebmCursor
  in_cluster_at at = record { at = at; segment = segment; parent = parent.Cluster cluster; track = Some track }

  group_reads : (to at : ℕ) (head : Head) (content rest : List ℕ) → drop at bytes ≡ (head_bytes head ++ content) ++ rest → IsHead false (length content) head → at + length (head_bytes head ++ content) ≤ to
      → group_step bytes (in_group_at to at) cluster to ≡ in_group bytes (in_group_at to at) (known_of head content at to)
  unfolding group_step
  group_reads to at head content rest here h room =
      if_false (nat_le to at) _ _ (not_yet false (length content) head content at to h room)
      ∙ ap (λ (r : Result Element Rule). r >>= in_group bytes (in_group_at to at)) (known_there bytes content rest head at to here h room)

  over_one_in_group : (to : ℕ) → to ≤ cluster.to → (item : InGroup) (at : ℕ) (rest : List ℕ) → IsInGroup track item → 0 ≤ at → drop at bytes ≡ group_element item ++ rest → at + length (group_element item) ≤ to
      → webm_packets_from bytes (in_group_at to at) ≡ with_payloads (group_payloads track item) (webm_packets_from bytes (in_group_at to (at + length (group_element item))))
  over_one_in_group to outer (webm.group_block head b) at rest h from here room =
      next_from bytes (in_group_at to at) (omega arith, outer, inside, fits)
      ∙ ap (go_on_by_step bytes (webm_packets_from bytes)) (group_reads to at head (block_bytes b) rest here h.0 room
      ∙ if_true (nat_eq (id_of head) the.block) _ _ (agrees _ _ h.1))
      ∙ block_goes bytes rest track b (in_group_at to at) (known_of head (block_bytes b) at to) refl (content_there bytes (block_bytes b) rest head at here) (content_end head (block_bytes b) at) h.2
  over_one_in_group to outer (webm.other_in_group e) at rest h from here room =
      moves bytes (in_group_at to at) (in_group_at to (at + length (other_bytes e))) (omega arith, outer, inside, fits)
      (group_reads to at e.head e.content rest here h.0 room ∙ if_false (nat_eq (id_of e.head) the.block) _ _ (differs _ _ h.1))

  -- at its end
  group_ends : (to : ℕ) → to ≤ cluster.to → webm_packets_from bytes (in_group_at to to) ≡ webm_packets_from bytes (in_cluster_at to)
  unfolding group_step
  group_ends to outer = moves bytes (in_group_at to to) (in_cluster_at to) (omega arith, outer, inside, fits) (if_true (nat_le to to) _ _ (le-leb to to (omega arith)))

  ---- Clusters ----

  not_ended : (unknown top : Bool) → (unknown ≡ true → top ≡ false) → (unknown && top) ≡ false
  not_ended false top h = refl
  not_ended true top h = h refl

  cluster_reads : (at : ℕ) (head : Head) (content rest : List ℕ) → drop at bytes ≡ (head_bytes head ++ content) ++ rest → IsHead false (length content) head → at + length (head_bytes head ++ content) ≤ cluster.to
      → (cluster.unknown ≡ true → is_top_level (id_of head) ≡ false)
      → cluster_step bytes (in_cluster_at at) cluster
      ≡ (if nat_eq (id_of head) the.simple_block then block_step bytes (in_cluster_at at) (known_of head content at cluster.to)
      else (if nat_eq (id_of head) the.block_group then moved_on (in_cluster_at at) (at + length (head_bytes head)) (parent.Group cluster (at + length (head_bytes head ++ content)))
      else moved_on (in_cluster_at at) (at + length (head_bytes head ++ content)) (parent.Cluster cluster)))
  unfolding cluster_step
  cluster_reads at head content rest here h room low =
      if_false (nat_le cluster.to at) _ _ (not_yet false (length content) head content at cluster.to h room)
      ∙ ap (λ (r : Result Element Rule). r >>= in_cluster bytes (in_cluster_at at) cluster) (element_there false bytes content rest head at cluster.to here h room)
      ∙ if_false (cluster.unknown && is_top_level (id_of head)) _ _ (not_ended cluster.unknown (is_top_level (id_of head)) low)

  pub over_one_in_cluster : (item : InCluster) (at : ℕ) (rest : List ℕ) → IsInCluster cluster.unknown track item → 0 ≤ at → drop at bytes ≡ cluster_element item ++ rest → at + length (cluster_element item) ≤ cluster.to
      → webm_packets_from bytes (in_cluster_at at) ≡ with_payloads (cluster_payloads track item) (webm_packets_from bytes (in_cluster_at (at + length (cluster_element item))))
  over_one_in_cluster (webm.simple_block head b) at rest h from here room =
      next_from bytes (in_cluster_at at) (omega arith, inside, fits)
      ∙ ap (go_on_by_step bytes (webm_packets_from bytes)) (cluster_reads at head (block_bytes b) rest here h.0 room (λ _. ap is_top_level h.1)
      ∙ if_true (nat_eq (id_of head) the.simple_block) _ _ (agrees _ _ h.1))
      ∙ block_goes bytes rest track b (in_cluster_at at) (known_of head (block_bytes b) at cluster.to) refl (content_there bytes (block_bytes b) rest head at here) (content_end head (block_bytes b) at) h.2
  over_one_in_cluster (webm.block_group head items) at rest h from here room =
      let content = group_bytes items in
      let inner = at + length (head_bytes head) in
      let to = at + length (head_bytes head ++ content) in
      let end : to ≡ inner + length content = content_end head content at in
      moves bytes (in_cluster_at at) (in_group_at to inner) (omega arith, inside, fits)
      (cluster_reads at head content rest here h.0 room (λ _. ap is_top_level h.1)
      ∙ if_false (nat_eq (id_of head) the.simple_block) _ _ (ap (λ id. nat_eq id the.simple_block) h.1)
      ∙ if_true (nat_eq (id_of head) the.block_group) _ _ (agrees _ _ h.1))
      ∙ over_all bytes group_element (group_payloads track) (in_group_at to) 0 to (IsInGroup track) (over_one_in_group to room) items inner rest h.2 (omega arith) (content_there bytes content rest head at here) (omega (arith, end))
      ∙ ap (λ k. with_payloads (flat_map (group_payloads track) items) (webm_packets_from bytes (in_group_at to k))) (sym end)
      ∙ ap (with_payloads (flat_map (group_payloads track) items)) (group_ends to room)
  over_one_in_cluster (webm.other_in_cluster e) at rest h from here room =
      moves bytes (in_cluster_at at) (in_cluster_at (at + length (other_bytes e))) (omega arith, inside, fits)
      (cluster_reads at e.head e.content rest here h.0 room h.3
      ∙ if_false (nat_eq (id_of e.head) the.simple_block) _ _ (differs _ _ h.1)
      ∙ if_false (nat_eq (id_of e.head) the.block_group) _ _ (differs _ _ h.2))

  pub over_cluster : (items : List InCluster) (at : ℕ) (rest : List ℕ) → AllByRecursion (IsInCluster cluster.unknown track) items → drop at bytes ≡ cluster_bytes items ++ rest → at + length (cluster_bytes items) ≤ cluster.to
      → webm_packets_from bytes (in_cluster_at at) ≡ with_payloads (flat_map (cluster_payloads track) items) (webm_packets_from bytes (in_cluster_at (at + length (cluster_bytes items))))
  over_cluster items at rest all here room =
      over_all bytes cluster_element (cluster_payloads track) in_cluster_at 0 cluster.to (IsInCluster cluster.unknown track) over_one_in_cluster items at rest all (omega arith) here room
