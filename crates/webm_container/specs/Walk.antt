-- The blocks of a WebM file, found by a walk over its elements, one after another.
use Rattle.std.specs.Prelude.{ℕ, zero, suc, ◌+◌, ◌&&◌, not, if◌then◌else◌, nat_eq, nat_le, List, length, slice_range, Option, Some, None, Result, Ok, Err}
use Rattle.vp9_types.specs.Results.{◌>>=◌}
use Rattle.vp9_types.specs.declared.job.Span.{Span}
use Rattle.vp9_types.specs.declared.rule.Rule.{Rule}
use Rattle.vp9_types.specs.declared.rule.Rule.TheVariants.{WebmElement, WebmTrack}
use Rattle.ivf_container.specs.Packets.{Packets, no_packets, with_payload}
use Rattle.webm_container.specs.Elements.{element_at, known_at}
use Rattle.webm_container.specs.TrackEntries.{new_entry, noted, chosen}
use Rattle.webm_container.specs.ClusterBlocks.{payload_at}
use Rattle.webm_container.specs.declared.cursor.Cluster.{Cluster}
use Rattle.webm_container.specs.declared.cursor.Parent.{Parent}
use Rattle.webm_container.specs.declared.cursor.Parent.TheVariants as parent
use Rattle.webm_container.specs.declared.cursor.WebmCursor.{WebmCursor}
use Rattle.webm_container.specs.declared.elements.Element.{Element}
use Rattle.webm_container.specs.Ids as the
use Rattle.webm_container.specs.Ids.{is_top_level}
use Rattle.webm_container.specs.declared.entries.TrackEntry.{TrackEntry}
use Rattle.webm_container.specs.declared.steps.WebmStep.{WebmStep}
use Rattle.webm_container.specs.declared.steps.WebmStep.TheVariants.{Moved, Block, End}

-- the walk goes on at a place, in a parent
abbrev pub moved_on : WebmCursor → ℕ → Parent → Result WebmStep Rule
moved_on c at within = Ok (Moved (record c { at = at; parent = within }))

-- Before the Segment: the file begins with the EBML element, and what else stands there is skipped. The Segment ends
-- at its size, or at the end of the file.
abbrev pub in_file : WebmCursor → Element → Result WebmStep Rule
in_file c element =
    if nat_eq c.at 0 && not (nat_eq element.id the.ebml) then Err WebmElement
    else (if nat_eq element.id the.segment then Ok (Moved (record { at = element.from; segment = element.to; parent = parent.Segment; track = c.track }))
    else (if element.unknown then Err WebmElement
    else moved_on c element.to parent.File))

unfoldable pub file_step : List ℕ → WebmCursor → Result WebmStep Rule
file_step bytes c = element_at bytes c.at (length bytes) >>= in_file c

-- a track has to be chosen
abbrev pub if_chosen : {A : Type 0} → Option ℕ → Result A Rule → Result A Rule
if_chosen None r = Err WebmTrack
if_chosen (Some track) r = r

-- In the Segment: Tracks and Clusters are gone into, and what else stands there is skipped. At the first Cluster, and
-- at the end, a track has to be chosen.
abbrev pub in_segment : WebmCursor → Element → Result WebmStep Rule
in_segment c element =
    if nat_eq element.id the.cluster then if_chosen c.track (moved_on c element.from (parent.Cluster (record { to = element.to; unknown = element.unknown })))
    else (if element.unknown then Err WebmElement
    else (if nat_eq element.id the.tracks then moved_on c element.from (parent.Tracks element.to)
    else moved_on c element.to parent.Segment))

unfoldable pub segment_step : List ℕ → WebmCursor → Result WebmStep Rule
segment_step bytes c =
    if nat_le c.segment c.at then if_chosen c.track (Ok End)
    else element_at bytes c.at c.segment >>= in_segment c

-- In Tracks: entries are gone into, and what else stands there is skipped.
abbrev pub in_tracks : WebmCursor → ℕ → Element → Result WebmStep Rule
in_tracks c to element =
    if nat_eq element.id the.track_entry then moved_on c element.from (parent.Entry to element.to new_entry)
    else moved_on c element.to (parent.Tracks to)

unfoldable pub tracks_step : List ℕ → WebmCursor → ℕ → Result WebmStep Rule
tracks_step bytes c to =
    if nat_le to c.at then moved_on c c.at parent.Segment
    else known_at bytes c.at to >>= in_tracks c to

-- at the end of an entry, where a track is chosen or none
abbrev pub with_track : WebmCursor → ℕ → Option ℕ → Result WebmStep Rule
with_track c tracks track = Ok (Moved (record c { parent = parent.Tracks tracks; track = track }))

-- In an entry: its elements are noted, and at its end its track may be chosen.
unfoldable pub entry_step : List ℕ → WebmCursor → ℕ → ℕ → TrackEntry → Result WebmStep Rule
entry_step bytes c tracks to entry =
    if nat_le to c.at then chosen c.track entry >>= with_track c tracks
    else known_at bytes c.at to >>= (λ element. moved_on c element.to (parent.Entry tracks to (noted bytes entry element)))

-- behind a block, whose payload is that of a packet if it is of the chosen track
abbrev pub behind_block : WebmCursor → Option Span → Result WebmStep Rule
behind_block c None = Ok (Moved c)
behind_block c (Some span) = Ok (Block span c)

unfoldable pub block_step : List ℕ → WebmCursor → Element → Result WebmStep Rule
block_step bytes c block = payload_at bytes c.track block.from block.to >>= behind_block (record c { at = block.to })

-- In a Cluster: SimpleBlocks are taken, BlockGroups are gone into, and what else stands there is skipped.
abbrev pub in_cluster : List ℕ → WebmCursor → Cluster → Element → Result WebmStep Rule
in_cluster bytes c cluster element =
    if cluster.unknown && is_top_level element.id then moved_on c c.at parent.Segment
    else (if element.unknown then Err WebmElement
    else (if nat_eq element.id the.simple_block then block_step bytes c element
    else (if nat_eq element.id the.block_group then moved_on c element.from (parent.Group cluster element.to)
    else moved_on c element.to c.parent)))

unfoldable pub cluster_step : List ℕ → WebmCursor → Cluster → Result WebmStep Rule
cluster_step bytes c cluster =
    if nat_le cluster.to c.at then moved_on c c.at parent.Segment
    else element_at bytes c.at cluster.to >>= in_cluster bytes c cluster

-- In a BlockGroup: Blocks are taken, and what else stands there is skipped.
abbrev pub in_group : List ℕ → WebmCursor → Element → Result WebmStep Rule
in_group bytes c element =
    if nat_eq element.id the.block then block_step bytes c element else moved_on c element.to c.parent

unfoldable pub group_step : List ℕ → WebmCursor → Cluster → ℕ → Result WebmStep Rule
group_step bytes c cluster to =
    if nat_le to c.at then moved_on c c.at (parent.Cluster cluster)
    else known_at bytes c.at to >>= in_group bytes c

-- a step, by what the cursor stands in
abbrev pub step_within : List ℕ → WebmCursor → Parent → Result WebmStep Rule
step_within bytes c parent.File = file_step bytes c
step_within bytes c parent.Segment = segment_step bytes c
step_within bytes c (parent.Tracks to) = tracks_step bytes c to
step_within bytes c (parent.Entry tracks to entry) = entry_step bytes c tracks to entry
step_within bytes c (parent.Cluster cluster) = cluster_step bytes c cluster
step_within bytes c (parent.Group cluster to) = group_step bytes c cluster to

abbrev pub step_at : List ℕ → WebmCursor → Result WebmStep Rule
step_at bytes c = step_within bytes c c.parent

-- the packets that a step leads to; `further` has those from where it ends
abbrev pub go_on_by_step : List ℕ → (WebmCursor → Packets) → Result WebmStep Rule → Packets
go_on_by_step bytes further (Ok (Moved c)) = further c
go_on_by_step bytes further (Ok (Block span c)) = with_payload (slice_range bytes span.from span.to) (further c)
go_on_by_step bytes further (Ok End) = no_packets None
go_on_by_step bytes further (Err rule) = no_packets (Some rule)

-- the packets from a cursor's place on, where fewer than n steps lead to the end
abbrev pub fewer_steps_from : ℕ → List ℕ → WebmCursor → Packets
fewer_steps_from zero bytes c = no_packets None
fewer_steps_from (suc n) bytes c = go_on_by_step bytes (fewer_steps_from n bytes) (step_at bytes c)

-- The packets from a cursor's place on. Each step goes on in the bytes, or leaves a parent, of which at most two are
-- open.
unfoldable pub webm_packets_from : List ℕ → WebmCursor → Packets
webm_packets_from bytes c = fewer_steps_from (length bytes + 3) bytes c

-- before the first element
abbrev pub at_start : WebmCursor
at_start = record { at = 0; segment = 0; parent = parent.File; track = None }

-- the packets of a file
unfoldable pub webm_packets : List ℕ → Packets
webm_packets bytes = webm_packets_from bytes at_start
