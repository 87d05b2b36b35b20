use Rattle.std.proofs.Common.{◌≡◌, ◌+◌, ◌-◌, ◌++◌, ◌≤◌, length, replicate}
use Rattle.column_plan.proofs.rows.RowPlaces.reach.Given as goal

abbrev pub decreases-loop-next : goal.decreases-loop-next
decreases-loop-next l = l.row + 1 - length l.self.places.items

abbrev pub invariant-loop-next : goal.invariant-loop-next
invariant-loop-next l = record {
  more : l.self.places.items ≡ l.initial.self.places.items ++ replicate (length l.self.places.items - length l.initial.self.places.items) l.next;
  low : length l.initial.self.places.items ≤ length l.self.places.items;
  most : length l.self.places.items - length l.initial.self.places.items ≤ l.row + 1 - length l.initial.self.places.items;
}
