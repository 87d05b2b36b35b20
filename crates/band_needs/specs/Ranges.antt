-- Bands from a first one to a last one.
use Rattle.std.specs.Prelude.{min, max, Option, Some, None}
use Rattle.vp9_types.specs.declared.block.ReferenceFrame.{ReferenceFrame}
use Rattle.vp9_types.specs.declared.block.ReferenceFrame.TheVariants.{Last, Golden, Altref}
use Rattle.band_needs.specs.declared.ranges.BandRange.{BandRange}
use Rattle.band_needs.specs.declared.ranges.BandNeeds.{BandNeeds}

-- the least that has both
abbrev pub both_ranges : BandRange → BandRange → BandRange
both_ranges s t = record { first = min s.first t.first; last = max s.last t.last }

abbrev pub widened : Option BandRange → BandRange → BandRange
widened None t = t
widened (Some s) t = both_ranges s t

abbrev pub no_needs : BandNeeds
no_needs = record { last = None; golden = None; altref = None }

abbrev pub needs_at : BandNeeds → ReferenceFrame → Option BandRange
needs_at n Last = n.last
needs_at n Golden = n.golden
needs_at n Altref = n.altref

abbrev pub with_range : BandNeeds → ReferenceFrame → BandRange → BandNeeds
with_range n Last t = record n { last = Some (widened n.last t) }
with_range n Golden t = record n { golden = Some (widened n.golden t) }
with_range n Altref t = record n { altref = Some (widened n.altref t) }
