use Rattle.std.proofs.Common.{arith}
use Rattle.planes.specs.Planes.{plane_map}
use Rattle.line_filter.proofs.SquareLemmas.{square_first}
use Rattle.line_filter.proofs.squares.lanes_inside.Goals as goal

pub returns : goal.returns
returns g c = square_first _ _ _ (plane_map c.args.plane.now) c.args.row c.args.column 8 8 (omega arith) (omega arith) c.part-width.ensures.samples c.square_from.ensures
