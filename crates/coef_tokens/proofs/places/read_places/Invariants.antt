use Rattle.std.proofs.Common.{◌≡◌, ◌≤◌, ◌<◌, ◌^◌, ◌+◌, length, unsigned_abs, All}
use Rattle.counting_reader.specs.Code.{standing_with}
use Rattle.coef_tokens.specs.Code.{tables_of, StandsAt}
use Rattle.coef_tokens.proofs.Turns.{Stands}
use Rattle.coef_tokens.proofs.places.read_places.Given as goal

abbrev pub invariant-loop-place : goal.invariant-loop-place
invariant-loop-place g l = record {
  low : All (λ class. class ≤ 5) l.cache;
  small : All (λ level. unsigned_abs level < 2 ^ 19) l.levels;
  within : l.row + 2 < 99;
  rows : l.place < length l.tables.scan.now → StandsAt (tables_of l.tables) l.first l.place l.cache l.row;
  fresh : l.place ≡ 0 → l.levels ≡ l.initial.levels;
  stands : Stands (tables_of l.tables) l.first (standing_with l.initial.reader l.initial.decoder) l.place l.check l.cache l.levels (standing_with l.reader l.decoder);
}
