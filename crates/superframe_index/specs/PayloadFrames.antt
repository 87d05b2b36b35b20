-- The frames of a payload, by its superframe index (Annex B of the standard).
use Rattle.std.specs.Prelude.{◌≡◌, ◌⊎◌, ℕ, zero, suc, ◌+◌, ◌-◌, ◌*◌, ◌/◌, ◌%◌, ◌<◌, ◌≤◌, not, if◌then◌else◌, nat_eq, nat_lt, List, [], ◌∷◌, ◌++◌, length, take, drop, map, filter, sum, slice_index, slice_range, Option, Some, None, Result, Ok, Err}
use Rattle.std.specs.List.{All, AllByRecursion, concat}
use Rattle.byteorder.specs.Endian.{little_number}
use Rattle.arrayvec.specs.ArrayVec.{ArrayVec}
use Rattle.vp9_types.specs.declared.job.Span.{Span}
use Rattle.vp9_types.specs.declared.rule.Rule.{Rule}
use Rattle.vp9_types.specs.declared.rule.Rule.TheVariants.{SuperframeSizes}
use Rattle.superframe_index.specs.declared.index.Index.{Index}

---- What the frames of a payload are ----

-- superframe_header() is one byte: the marker 110 in 3 bits, the bytes of a size less 1 in 2, the frames less 1 in 3
abbrev pub IsHeader : ℕ → Type 0
IsHeader header = header / 32 ≡ 6

abbrev pub size_bytes : ℕ → ℕ
size_bytes header = header / 8 % 4 + 1

abbrev pub frame_count : ℕ → ℕ
frame_count header = header % 8 + 1

-- superframe_index() is that header, the sizes, each in the header's number of bytes, little endian, and the header again
pub record IsIndex (index : List ℕ) (sizes : List ℕ) : Type 0 where
  pub header : ℕ
  pub written : List (List ℕ)
  pub is_header : IsHeader header
  pub whole : index ≡ header ∷ concat written ++ header ∷ []
  pub count : length written ≡ frame_count header
  pub each : AllByRecursion (λ size. length size ≡ size_bytes header) written
  pub are_sizes : sizes ≡ map (little_number (size_bytes header)) written

-- the payload is a front and an index, which has these sizes
pub record HasIndex (payload front sizes : List ℕ) : Type 0 where
  pub index : List ℕ
  pub whole : payload ≡ front ++ index
  pub is_index : IsIndex index sizes

abbrev pub HasNoIndex : List ℕ → Type 0
HasNoIndex payload = (front sizes : List ℕ) → HasIndex payload front sizes → ⊥

-- those that aren't empty
abbrev pub non_empty : List (List ℕ) → List (List ℕ)
non_empty parts = filter (λ part. not (nat_eq (length part) 0)) parts

-- The front begins with parts of these sizes, and what lies behind them is ignored. The frames are the parts that aren't empty.
pub record AreFrames (front sizes : List ℕ) (frames : List (List ℕ)) : Type 0 where
  pub parts : List (List ℕ)
  pub rest : List ℕ
  pub whole : front ≡ concat parts ++ rest
  pub have_sizes : map length parts ≡ sizes
  pub are_frames : frames ≡ non_empty parts

-- A payload has the frames of its index, or a rule is broken, as the sizes are larger than what lies before the index.
-- With no index it is itself a frame, unless it is empty.
abbrev pub IsSplit : List ℕ → Result (List (List ℕ)) Rule → Type 0
IsSplit payload (Ok frames) =
    ((front : List ℕ) × (sizes : List ℕ) × HasIndex payload front sizes × AreFrames front sizes frames)
    ⊎ (HasNoIndex payload × (frames ≡ non_empty (payload ∷ [])))
IsSplit payload (Err rule) =
    (rule ≡ SuperframeSizes) × ((front : List ℕ) × (sizes : List ℕ) × HasIndex payload front sizes × (length front < sum sizes))

---- The same, computed ----

-- the length of an index with this header
abbrev pub index_length : ℕ → ℕ
index_length header = 2 + size_bytes header * frame_count header

-- the index at the end of a payload whose last byte is this
abbrev pub index_with : List ℕ → ℕ → Option Index
index_with payload header =
    if not (nat_eq (header / 32) 6) then None
    else (if nat_lt (length payload) (index_length header) then None
    else (if not (nat_eq (slice_index payload (length payload - index_length header)) header) then None
    else Some (record { from = length payload - index_length header; size_bytes = size_bytes header; frames = frame_count header })))

unfoldable pub index_of : List ℕ → Option Index
index_of payload = if nat_eq (length payload) 0 then None else index_with payload (slice_index payload (length payload - 1))

-- the first parts of n bytes each, as many as are asked for
abbrev pub pieces : ℕ → ℕ → List ℕ → List (List ℕ)
pieces zero n bytes = []
pieces (suc count) n bytes = take n bytes ∷ pieces count n (drop n bytes)

-- so many sizes of n bytes each
abbrev pub sizes_from : ℕ → ℕ → List ℕ → List ℕ
sizes_from count n bytes = map (little_number n) (pieces count n bytes)

-- the sizes of an index, which stand behind its first byte
unfoldable pub sizes_of : List ℕ → Index → List ℕ
sizes_of payload index = sizes_from index.frames index.size_bytes (drop (index.from + 1) payload)

-- parts of these sizes one after another, from a place on, without the empty ones
abbrev pub spans_from : ℕ → List ℕ → List Span
spans_from at [] = []
spans_from at (size ∷ sizes) =
    if nat_eq size 0 then spans_from at sizes else record { from = at; to = at + size } ∷ spans_from (at + size) sizes

-- the frames of these sizes, with so much room for them
unfoldable pub frames_within : ℕ → List ℕ → Result (List Span) Rule
frames_within room sizes = if nat_lt room (sum sizes) then Err SuperframeSizes else Ok (spans_from 0 sizes)

abbrev pub frames_by : List ℕ → Option Index → Result (List Span) Rule
frames_by payload None = Ok (spans_from 0 (length payload ∷ []))
frames_by payload (Some index) = frames_within index.from (sizes_of payload index)

-- where the frames of a payload lie
unfoldable pub frames_of : List ℕ → Result (List Span) Rule
frames_of payload = frames_by payload (index_of payload)

-- the bytes at these places
abbrev pub at_spans : List ℕ → Result (List Span) Rule → Result (List (List ℕ)) Rule
at_spans payload (Ok spans) = Ok (map (λ span. slice_range payload span.from span.to) spans)
at_spans payload (Err rule) = Err rule

---- What the calls answer ----

-- places one after another, each of them not empty, from one place on and up to another
abbrev pub LieBetween : ℕ → ℕ → List Span → Type 0
LieBetween from to [] = from ≤ to
LieBetween from to (span ∷ spans) = (from ≤ span.from) × (span.from < span.to) × LieBetween span.to to spans

-- a part of a payload that isn't empty
abbrev pub IsPart : List ℕ → Span → Type 0
IsPart payload span = (span.from < span.to) × (span.to ≤ length payload)

-- at most 8 parts of a payload, in order
pub record AreParts (payload : List ℕ) (spans : List Span) : Type 0 where
  pub few : length spans ≤ 8
  pub in_order : LieBetween 0 (length payload) spans
  pub each : All (IsPart payload) spans

-- an index has at most 8 sizes of 1 to 4 bytes each, and ends the payload
pub record IsPlaced (payload : List ℕ) (index : Index) : Type 0 where
  pub least_bytes : 1 ≤ index.size_bytes
  pub most_bytes : index.size_bytes ≤ 4
  pub most_frames : index.frames ≤ 8
  pub ends : index.from + 2 + index.size_bytes * index.frames ≡ length payload

abbrev pub IsFound : List ℕ → Option Index → Type 0
IsFound payload None = Unit {0}
IsFound payload (Some index) = IsPlaced payload index

-- the same places, or the same rule
abbrev pub Gives : Result (List Span) Rule → Result (ArrayVec Span) Rule → Type 0
Gives frames (Ok parts) = frames ≡ Ok parts.items
Gives frames (Err rule) = frames ≡ Err rule

-- the places of the frames, or the rule that is broken
abbrev pub IsSplitAs : List ℕ → Result (ArrayVec Span) Rule → Type 0
IsSplitAs payload (Ok parts) = (frames_of payload ≡ Ok parts.items) × AreParts payload parts.items
IsSplitAs payload (Err rule) = frames_of payload ≡ Err rule
