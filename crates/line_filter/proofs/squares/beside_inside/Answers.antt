use Rattle.std.proofs.Common.{◌-◌, arith}
use Rattle.planes.specs.Planes.{plane_map}
use Rattle.line_filter.proofs.SquareLemmas.{square_first, square_right}
use Rattle.line_filter.proofs.squares.beside_inside.Goals as goal

pub returns-clause-left : goal.returns-clause-left
returns-clause-left g c = square_first _ _ _ (plane_map c.args.plane.now) c.args.row (c.args.column - 8) 8 16 (omega arith) (omega arith) c.part-width.ensures.samples c.square_from.ensures

pub returns-clause-right : goal.returns-clause-right
returns-clause-right g c = square_right _ _ _ (plane_map c.args.plane.now) c.args.row c.args.column (omega (arith, c.requires.along.left)) c.part-width.ensures.samples c.square_from-2.ensures
