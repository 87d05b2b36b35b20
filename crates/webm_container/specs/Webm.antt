-- What a WebM file is: how its elements are spelled, and which payloads they hold. This is said of files that break no rule.
use Rattle.std.specs.Prelude.{◌≡◌, ◌≢◌, ◌⊎◌, ℕ, ◌+◌, ◌*◌, ◌%◌, ◌^◌, ◌<◌, ◌≤◌, Bool, true, false, if◌then◌else◌, nat_eq, List, [], ◌∷◌, ◌++◌, length, slice_index, Option, Some, None, ⊤}
use Rattle.std.specs.List.{flat_map, AllByRecursion}
use Rattle.byteorder.specs.Endian.{big_number}
use Rattle.ivf_container.specs.Packets.{Packets}
use Rattle.webm_container.specs.Elements.{coded_octets}
use Rattle.webm_container.specs.TrackEntries.{is_vp9}
use Rattle.webm_container.specs.ClusterBlocks.{is_laced}
use Rattle.webm_container.specs.Ids as the
use Rattle.webm_container.specs.Ids.{is_top_level}

---- Elements ----

-- A number is spelled in at most so many bytes. The first says by its leading zero bits how many there are; behind these
-- bits stands a marker, and then the value, in 7 bits a byte.
pub record IsCoded (most : ℕ) (spelled : List ℕ) : Type 0 where
  pub few : length spelled ≤ most
  pub says_length : coded_octets (slice_index spelled 0) ≡ length spelled

-- with the marker, and without it
abbrev pub marked_in : List ℕ → ℕ
marked_in spelled = big_number (length spelled) spelled

abbrev pub value_in : List ℕ → ℕ
value_in spelled = marked_in spelled % 2 ^ (7 * length spelled)

-- what stands before an element's content: its id, and its size
pub record Head : Type 0 where
  pub id : List ℕ
  pub size : List ℕ

abbrev pub head_bytes : Head → List ℕ
head_bytes head = head.id ++ head.size

-- an element's id, with its marker
abbrev pub id_of : Head → ℕ
id_of head = marked_in head.id

-- a size that says how long the content is, or one of all ones, which leaves it unknown
abbrev pub SaysSize : Bool → ℕ → List ℕ → Type 0
SaysSize false long size = (value_in size ≡ long) × (value_in size + 1 ≢ 2 ^ (7 * length size))
SaysSize true long size = value_in size + 1 ≡ 2 ^ (7 * length size)

-- the head of an element whose content has this length
pub record IsHead (unknown : Bool) (long : ℕ) (head : Head) : Type 0 where
  pub id : IsCoded 4 head.id
  pub size : IsCoded 8 head.size
  pub says_size : SaysSize unknown long head.size

-- an element whose content is not gone into
pub record Other : Type 0 where
  pub head : Head
  pub content : List ℕ

abbrev pub other_bytes : Other → List ℕ
other_bytes element = head_bytes element.head ++ element.content

abbrev pub IsOther : Other → Type 0
IsOther element = IsHead false (length element.content) element.head

abbrev pub others_bytes : List Other → List ℕ
others_bytes elements = flat_map other_bytes elements

---- Tracks ----

-- the content of the first element with an id
abbrev pub first_content : ℕ → List Other → Option (List ℕ)
first_content id [] = None
first_content id (element ∷ more) = if nat_eq (id_of element.head) id then Some element.content else first_content id more

-- an entry whose first CodecID says VP9
abbrev pub codec_is_vp9 : Option (List ℕ) → Bool
codec_is_vp9 None = false
codec_is_vp9 (Some content) = is_vp9 content

-- the first TrackNumber has 1 to 8 bytes, and is this one
abbrev pub SaysNumber : Option (List ℕ) → ℕ → Type 0
SaysNumber None number = ⊥
SaysNumber (Some content) number = (1 ≤ length content) × (length content ≤ 8) × (number ≡ big_number (length content) content)

abbrev pub IsNotEncoded : List Other → Type 0
IsNotEncoded entry = AllByRecursion (λ element. id_of element.head ≢ the.content_encodings) entry

-- The track that is chosen behind an entry, where `before` was. The first entry of VP9 is chosen; it has a number, and is
-- not encoded once more.
abbrev pub IsChosen : Option ℕ → List Other → Option ℕ → Type 0
IsChosen (Some track) entry after = after ≡ Some track
IsChosen None entry after =
    ((codec_is_vp9 (first_content the.codec_id entry) ≡ false) × (after ≡ None))
    ⊎ ((number : ℕ) × (codec_is_vp9 (first_content the.codec_id entry) ≡ true) × SaysNumber (first_content the.track_number entry) number × IsNotEncoded entry × (after ≡ Some number))

-- what stands in Tracks
pub data InTracks : Type 0 where
  track_entry : Head → List Other → InTracks
  other_in_tracks : Other → InTracks

abbrev pub tracks_element : InTracks → List ℕ
tracks_element (track_entry head elements) = head_bytes head ++ others_bytes elements
tracks_element (other_in_tracks element) = other_bytes element

abbrev pub tracks_bytes : List InTracks → List ℕ
tracks_bytes elements = flat_map tracks_element elements

-- the content of Tracks, where one track was chosen before, and one is behind
abbrev pub AreTracks : Option ℕ → List InTracks → Option ℕ → Type 0
AreTracks before [] after = after ≡ before
AreTracks before (track_entry head elements ∷ more) after =
    IsHead false (length (others_bytes elements)) head × (id_of head ≡ the.track_entry) × AllByRecursion IsOther elements
    × ((next : Option ℕ) × IsChosen before elements next × AreTracks next more after)
AreTracks before (other_in_tracks element ∷ more) after = IsOther element × (id_of element.head ≢ the.track_entry) × AreTracks before more after

---- Clusters ----

-- a block: its track's number, spelled as a size is, two bytes of time, the flags, and the payload
pub record Block : Type 0 where
  pub track : List ℕ
  pub time : List ℕ
  pub flags : ℕ
  pub payload : List ℕ

abbrev pub block_bytes : Block → List ℕ
block_bytes block = block.track ++ (block.time ++ block.flags ∷ block.payload)

-- a block; one of this track isn't laced, and its payload is shorter than 2 ^ 32 bytes
pub record IsBlock (track : ℕ) (block : Block) : Type 0 where
  pub coded : IsCoded 8 block.track
  pub time : length block.time ≡ 2
  pub plain : value_in block.track ≡ track → is_laced block.flags ≡ false
  pub short : value_in block.track ≡ track → length block.payload < 2 ^ 32

-- the payload of a block of this track, and none of another's
abbrev pub block_payloads : ℕ → Block → List (List ℕ)
block_payloads track block = if nat_eq track (value_in block.track) then block.payload ∷ [] else []

-- what stands in a BlockGroup
pub data InGroup : Type 0 where
  group_block : Head → Block → InGroup
  other_in_group : Other → InGroup

abbrev pub group_element : InGroup → List ℕ
group_element (group_block head b) = head_bytes head ++ block_bytes b
group_element (other_in_group element) = other_bytes element

abbrev pub group_bytes : List InGroup → List ℕ
group_bytes elements = flat_map group_element elements

abbrev pub IsInGroup : ℕ → InGroup → Type 0
IsInGroup track (group_block head b) = IsHead false (length (block_bytes b)) head × (id_of head ≡ the.block) × IsBlock track b
IsInGroup track (other_in_group element) = IsOther element × (id_of element.head ≢ the.block)

abbrev pub group_payloads : ℕ → InGroup → List (List ℕ)
group_payloads track (group_block head b) = block_payloads track b
group_payloads track (other_in_group element) = []

-- what stands in a Cluster
pub data InCluster : Type 0 where
  simple_block : Head → Block → InCluster
  block_group : Head → List InGroup → InCluster
  other_in_cluster : Other → InCluster

abbrev pub cluster_element : InCluster → List ℕ
cluster_element (simple_block head b) = head_bytes head ++ block_bytes b
cluster_element (block_group head elements) = head_bytes head ++ group_bytes elements
cluster_element (other_in_cluster element) = other_bytes element

abbrev pub cluster_bytes : List InCluster → List ℕ
cluster_bytes elements = flat_map cluster_element elements

-- an element of a Cluster; one of a Cluster of unknown size is none before which such a Cluster ends
abbrev pub IsInCluster : Bool → ℕ → InCluster → Type 0
IsInCluster unknown track (simple_block head b) = IsHead false (length (block_bytes b)) head × (id_of head ≡ the.simple_block) × IsBlock track b
IsInCluster unknown track (block_group head elements) =
    IsHead false (length (group_bytes elements)) head × (id_of head ≡ the.block_group) × AllByRecursion (IsInGroup track) elements
IsInCluster unknown track (other_in_cluster element) =
    IsOther element × (id_of element.head ≢ the.simple_block) × (id_of element.head ≢ the.block_group)
    × (unknown ≡ true → is_top_level (id_of element.head) ≡ false)

abbrev pub cluster_payloads : ℕ → InCluster → List (List ℕ)
cluster_payloads track (simple_block head b) = block_payloads track b
cluster_payloads track (block_group head elements) = flat_map (group_payloads track) elements
cluster_payloads track (other_in_cluster element) = []

---- A file ----

-- what stands in a Segment; a Cluster's size is unknown or not
pub data InSegment : Type 0 where
  tracks : Head → List InTracks → InSegment
  cluster : Bool → Head → List InCluster → InSegment
  other_in_segment : Other → InSegment

abbrev pub segment_element : InSegment → List ℕ
segment_element (tracks head elements) = head_bytes head ++ tracks_bytes elements
segment_element (cluster unknown head elements) = head_bytes head ++ cluster_bytes elements
segment_element (other_in_segment element) = other_bytes element

abbrev pub segment_bytes : List InSegment → List ℕ
segment_bytes elements = flat_map segment_element elements

-- a Cluster of unknown size ends here: at the end of the Segment, or before an element that can't stand in one
abbrev pub EndsCluster : List InSegment → Type 0
EndsCluster [] = ⊤
EndsCluster (tracks head elements ∷ more) = ⊤
EndsCluster (cluster unknown head elements ∷ more) = ⊤
EndsCluster (other_in_segment element ∷ more) = is_top_level (id_of element.head) ≡ true

-- the content of a Segment with these payloads, where one track was chosen before; at a Cluster, and at the end, one is
abbrev pub AreInSegment : Option ℕ → List InSegment → List (List ℕ) → Type 0
AreInSegment before [] payloads = ((track : ℕ) × (before ≡ Some track)) × (payloads ≡ [])
AreInSegment before (tracks head elements ∷ more) payloads =
    IsHead false (length (tracks_bytes elements)) head × (id_of head ≡ the.tracks)
    × ((next : Option ℕ) × AreTracks before elements next × AreInSegment next more payloads)
AreInSegment before (cluster unknown head elements ∷ more) payloads =
    IsHead unknown (length (cluster_bytes elements)) head × (id_of head ≡ the.cluster)
    × (unknown ≡ true → EndsCluster more)
    × ((track : ℕ) × (behind : List (List ℕ)) × (before ≡ Some track) × AllByRecursion (IsInCluster unknown track) elements
    × (payloads ≡ flat_map (cluster_payloads track) elements ++ behind) × AreInSegment before more behind)
AreInSegment before (other_in_segment element ∷ more) payloads =
    IsOther element × (id_of element.head ≢ the.tracks) × (id_of element.head ≢ the.cluster) × AreInSegment before more payloads

-- The EBML element, others, the Segment, and what stands behind it; behind one of unknown size nothing can stand.
pub record WebmFile : Type 0 where
  pub ebml : Other
  pub others : List Other
  pub head : Head
  pub unknown : Bool
  pub elements : List InSegment
  pub behind : List ℕ

abbrev pub file_bytes : WebmFile → List ℕ
file_bytes file = other_bytes file.ebml ++ (others_bytes file.others ++ (head_bytes file.head ++ (segment_bytes file.elements ++ file.behind)))

pub record HasPayloads (file : WebmFile) (payloads : List (List ℕ)) : Type 0 where
  pub is_ebml : IsOther file.ebml × (id_of file.ebml.head ≡ the.ebml)
  pub others : AllByRecursion (λ element. IsOther element × (id_of element.head ≢ the.segment)) file.others
  pub is_segment : IsHead file.unknown (length (segment_bytes file.elements)) file.head × (id_of file.head ≡ the.segment)
  pub last : file.unknown ≡ true → file.behind ≡ []
  pub elements : AreInSegment None file.elements payloads

-- the bytes spell a file that breaks no rule, with these packets
abbrev pub IsWebmFile : List ℕ → Packets → Type 0
IsWebmFile bytes packets = (file : WebmFile) × (bytes ≡ file_bytes file) × HasPayloads file packets.payloads × (packets.ending ≡ None)
