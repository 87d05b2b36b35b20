use Rattle.std.proofs.Common.{◌≡◌, length, drop}
use Rattle.listed_symbols.specs.ListedLevels.{placed_from}
use Rattle.listed_symbols.proofs.levels.place_levels.Given as goal

abbrev pub invariant-loop-k : goal.invariant-loop-k
invariant-loop-k l = record {
  long : length l.values ≡ length l.initial.values;
  same : placed_from l.k l.scan (drop l.k l.levels) l.values ≡ placed_from 0 l.scan l.levels l.initial.values;
}
