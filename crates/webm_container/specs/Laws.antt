-- Why the walk stops at a rule, and where.
use Rattle.std.specs.Prelude.{◌≡◌, ◌≢◌, ℕ, zero, suc, ◌+◌, ◌-◌, ◌<◌, ◌≤◌, ◌^◌, true, List, length, slice_index, Option, Some, None, Result, Ok, Err}
use Rattle.vp9_types.specs.declared.rule.Rule.{Rule}
use Rattle.vp9_types.specs.declared.rule.Rule.TheVariants.{WebmElement, WebmTrack, WebmLacing, WebmEncoding}
use Rattle.webm_container.specs.Ids as the
use Rattle.webm_container.specs.Elements.{coded_at, element_at}
use Rattle.webm_container.specs.ClusterBlocks.{is_laced}
use Rattle.webm_container.specs.Walk.{step_at}
use Rattle.webm_container.specs.Code.{inner_end}
use Rattle.webm_container.specs.declared.cursor.Parent.{Parent}
use Rattle.webm_container.specs.declared.cursor.Parent.TheVariants as parent
use Rattle.webm_container.specs.declared.cursor.WebmCursor.{WebmCursor}
use Rattle.webm_container.specs.declared.elements.Coded.{Coded}
use Rattle.webm_container.specs.declared.elements.Element.{Element}
use Rattle.webm_container.specs.declared.entries.TrackEntry.{TrackEntry}
use Rattle.webm_container.specs.declared.entries.TrackNumber.{TrackNumber}
use Rattle.webm_container.specs.declared.entries.TrackNumber.TheVariants.{Malformed, Is}
use Rattle.webm_container.specs.declared.steps.WebmStep.{WebmStep}
use Rattle.webm_container.specs.declared.steps.WebmStep.TheVariants.{Moved, Block, End}

-- a step that goes on, over a block or not
abbrev pub LeadsTo : Result WebmStep Rule → WebmCursor → Type 0
LeadsTo (Ok (Moved d)) next = next ≡ d
LeadsTo (Ok (Block span d)) next = next ≡ d
LeadsTo (Ok End) next = ⊥
LeadsTo (Err rule) next = ⊥

-- the walk comes from a cursor to a later one, in so many steps
abbrev pub Comes : ℕ → List ℕ → WebmCursor → WebmCursor → Type 0
Comes zero bytes c d = c ≡ d
Comes (suc n) bytes c d = (next : WebmCursor) × LeadsTo (step_at bytes c) next × Comes n bytes next d

-- what stands at a cursor's place, in its parent
abbrev pub element_of : List ℕ → WebmCursor → Result Element Rule
element_of bytes c = element_at bytes c.at (inner_end (length bytes) c.segment c.parent)

-- the element may have an unknown size there
abbrev pub MayBeUnknown : Parent → ℕ → Type 0
MayBeUnknown parent.File id = id ≡ the.segment
MayBeUnknown parent.Segment id = id ≡ the.cluster
MayBeUnknown other id = ⊥

-- a block stands there
abbrev pub IsBlockId : Parent → ℕ → Type 0
IsBlockId (parent.Cluster cluster) id = id ≡ the.simple_block
IsBlockId (parent.Group cluster to) id = id ≡ the.block
IsBlockId other id = ⊥

-- the first TrackNumber is missing, or has no bytes or more than 8
abbrev pub HasNoNumber : Option TrackNumber → Type 0
HasNoNumber None = Unit {0}
HasNoNumber (Some Malformed) = Unit {0}
HasNoNumber (Some (Is number)) = ⊥

-- at the end of an entry of VP9, where no track is chosen
pub record EndsEntry (c : WebmCursor) (entry : TrackEntry) : Type 0 where
  pub tracks : ℕ
  pub to : ℕ
  pub within : c.parent ≡ parent.Entry tracks to entry
  pub at_end : to ≤ c.at
  pub first : c.track ≡ None
  pub vp9 : entry.is_vp9 ≡ Some true

-- at a block that begins with a track's number
pub record AtBlock (bytes : List ℕ) (c : WebmCursor) (block : Element) (number : Coded) : Type 0 where
  pub stands : element_of bytes c ≡ Ok block
  pub is_block : IsBlockId c.parent block.id
  pub numbered : coded_at bytes block.from block.to 8 ≡ Ok number

-- the rule that the walk meets at a cursor, by its cause
pub data Breaks (bytes : List ℕ) (c : WebmCursor) : Rule → Type 0 where
  -- no element, or one that reaches past its parent
  no_element : (rule : Rule) → element_of bytes c ≡ Err rule → Breaks bytes c WebmElement
  unknown_size : (e : Element) → element_of bytes c ≡ Ok e → e.unknown ≡ true → (MayBeUnknown c.parent e.id → ⊥) → Breaks bytes c WebmElement
  no_ebml : (e : Element) → c.parent ≡ parent.File → c.at ≡ 0 → element_of bytes c ≡ Ok e → e.id ≢ the.ebml → Breaks bytes c WebmElement
  no_number : (entry : TrackEntry) → EndsEntry c entry → HasNoNumber entry.number → Breaks bytes c WebmElement
  is_encoded : (entry : TrackEntry) (number : ℕ) → EndsEntry c entry → entry.number ≡ Some (Is number) → entry.encoded ≡ true → Breaks bytes c WebmEncoding
  no_block_number : (b : Element) (rule : Rule) → element_of bytes c ≡ Ok b → IsBlockId c.parent b.id → coded_at bytes b.from b.to 8 ≡ Err rule → Breaks bytes c WebmElement
  short_block : (b : Element) (number : Coded) → AtBlock bytes c b number → b.to - number.to < 3 → Breaks bytes c WebmElement
  laced : (b : Element) (number : Coded) → AtBlock bytes c b number → c.track ≡ Some number.value → is_laced (slice_index bytes (number.to + 2)) ≡ true → Breaks bytes c WebmLacing
  long_payload : (b : Element) (number : Coded) → AtBlock bytes c b number → c.track ≡ Some number.value → 2 ^ 32 ≤ b.to - (number.to + 3) → Breaks bytes c WebmElement
  no_track_at_end : c.parent ≡ parent.Segment → c.segment ≤ c.at → c.track ≡ None → Breaks bytes c WebmTrack
  no_track_at_cluster : (e : Element) → c.parent ≡ parent.Segment → element_of bytes c ≡ Ok e → e.id ≡ the.cluster → c.track ≡ None → Breaks bytes c WebmTrack
