use Rattle.std.proofs.Common.{◌≡◌, ◌≤◌, ◌<◌, ◌+◌, ◌-◌, false, length, pos, All}
use Rattle.std.specs.Prelude.{slice_index}
use Rattle.coef_tokens.specs.Code.{tables_of, StandsAt}
use Rattle.token_writer.specs.TokenFits.{level_in}
use Rattle.token_writer.proofs.Turns.{Stands}
use Rattle.token_writer.proofs.places.put_tokens.Given as goal

abbrev pub invariant-loop-place : goal.invariant-loop-place
invariant-loop-place l = record {
  low : All (λ class. class ≤ 5) l.cache;
  within : l.row + 2 < 99;
  rows : l.place < length l.tables.scan.now → StandsAt (tables_of l.tables) l.first l.place l.cache l.row;
  zero : l.check ≡ false → (0 < l.place) × (level_in l.levels (slice_index l.tables.scan.now (l.place - 1)) ≡ pos 0);
  stands : Stands (tables_of l.tables) l.first l.fn.encoder l.place l.check l.cache l.levels l.encoder;
}
