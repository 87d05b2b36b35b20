use Rattle.std.proofs.Common.{◌≡◌, ◌+◌, All}
use Rattle.mv_prediction.specs.Code.{HasSmallVectors}
use Rattle.mode_tests.proofs.candidates.add_sites.Given as goal

abbrev pub invariant-loop-i : goal.invariant-loop-i
invariant-loop-i l = record {
  room : l.grid.room + l.i ≡ l.initial.grid.room;
  tile : (l.grid.rows ≡ 20) × (l.grid.from ≡ 8) × (l.grid.to ≡ 24);
  small : All HasSmallVectors l.grid.blocks;
}
