use Rattle.std.proofs.Common.{◌≡◌, ◌≤◌}
use Rattle.planes.specs.Planes.{lower_end, plane_map}
use Rattle.plane_parts.specs.PlaneParts.{HasPart}
use Rattle.plane_parts.proofs.PartLemmas.{rows_before}
use Rattle.plane_parts.proofs.copying.copy_part.Given as goal

abbrev pub invariant-loop-row : goal.invariant-loop-row
invariant-loop-row g l = record {
  least : l.part.first_row ≤ l.row;
  most : l.row ≤ lower_end l.part;
  area : l.to.area ≡ l.initial.to.area;
  so_far : HasPart (rows_before l.part l.row) (plane_map l.from) (plane_map l.initial.to) (plane_map l.to);
}
