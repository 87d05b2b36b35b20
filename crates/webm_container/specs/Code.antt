-- What a cursor keeps, and what its calls answer.
use Rattle.std.specs.Prelude.{◌≡◌, ℕ, ◌+◌, ◌-◌, ◌≤◌, List, length, slice_range, Option, Some, None, Result, Ok, Err}
use Rattle.vp9_types.specs.declared.job.Span.{Span}
use Rattle.vp9_types.specs.declared.rule.Rule.{Rule}
use Rattle.ivf_container.specs.Packets.{Packets, no_packets, with_payload}
use Rattle.webm_container.specs.Walk.{webm_packets_from}
use Rattle.webm_container.specs.declared.cursor.Parent.{Parent}
use Rattle.webm_container.specs.declared.cursor.Parent.TheVariants as parent
use Rattle.webm_container.specs.declared.cursor.WebmCursor.{WebmCursor}

-- where what is open ends: the innermost parent, the one around it, and the Segment; before it the file
abbrev pub inner_end : ℕ → ℕ → Parent → ℕ
inner_end long segment parent.File = long
inner_end long segment parent.Segment = segment
inner_end long segment (parent.Tracks to) = to
inner_end long segment (parent.Entry tracks to entry) = to
inner_end long segment (parent.Cluster cluster) = cluster.to
inner_end long segment (parent.Group cluster to) = to

abbrev pub outer_end : ℕ → ℕ → Parent → ℕ
outer_end long segment parent.File = long
outer_end long segment parent.Segment = segment
outer_end long segment (parent.Tracks to) = to
outer_end long segment (parent.Entry tracks to entry) = tracks
outer_end long segment (parent.Cluster cluster) = cluster.to
outer_end long segment (parent.Group cluster to) = cluster.to

abbrev pub segment_end : ℕ → ℕ → Parent → ℕ
segment_end long segment parent.File = long
segment_end long segment within = segment

-- the places of a cursor lie within so many bytes: no parent ends behind its own
pub record Fits (long : ℕ) (c : WebmCursor) : Type 0 where
  pub here : c.at ≤ inner_end long c.segment c.parent
  pub inner : inner_end long c.segment c.parent ≤ outer_end long c.segment c.parent
  pub outer : outer_end long c.segment c.parent ≤ segment_end long c.segment c.parent
  pub inside : segment_end long c.segment c.parent ≤ long

-- the packets that a cursor has ahead in these bytes, and how they end
unfoldable pub blocks_ahead : List ℕ → WebmCursor → Packets
blocks_ahead bytes c = webm_packets_from bytes c

-- a block with this payload, and the cursor behind it: its head and its element's head have at least 6 bytes
pub record GivesBlock (bytes : List ℕ) (old : WebmCursor) (span : Span) (new : WebmCursor) : Type 0 where
  pub in_order : span.from ≤ span.to
  pub within : span.to ≤ length bytes
  pub behind : old.at + 6 + (span.to - span.from) ≤ new.at
  pub ahead : blocks_ahead bytes old ≡ with_payload (slice_range bytes span.from span.to) (blocks_ahead bytes new)

-- the next block, the end, or the rule that is broken before another block; behind the last two the same is ahead
abbrev pub IsNextBlock : List ℕ → WebmCursor → Result (Option Span) Rule → WebmCursor → Type 0
IsNextBlock bytes old (Ok (Some span)) new = GivesBlock bytes old span new
IsNextBlock bytes old (Ok None) new = (blocks_ahead bytes old ≡ no_packets None) × (blocks_ahead bytes new ≡ no_packets None)
IsNextBlock bytes old (Err rule) new = (blocks_ahead bytes old ≡ no_packets (Some rule)) × (blocks_ahead bytes new ≡ no_packets (Some rule))
