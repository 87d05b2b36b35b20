use Rattle.std.proofs.Common.{◌≡◌, take}
use Rattle.std.specs.List.{fold}
use Rattle.band_needs.specs.Ranges.{no_needs}
use Rattle.band_needs.specs.Needs.{with_block}
use Rattle.band_needs.specs.Code.{shapes_of}
use Rattle.band_needs.proofs.blocks.needs.Given as goal

abbrev pub invariant-loop-k : goal.invariant-loop-k
invariant-loop-k l = l.needs ≡ fold (with_block l.shape (shapes_of l.references)) no_needs (take l.k l.blocks)
