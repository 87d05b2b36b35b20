use Rattle.std.proofs.Common.{◌-◌, arith}
use Rattle.planes.specs.Planes.{plane_map}
use Rattle.line_filter.proofs.SquareLemmas.{square_first, square_below}
use Rattle.line_filter.proofs.squares.around_inside.Goals as goal

pub returns-clause-above : goal.returns-clause-above
returns-clause-above g c = square_first _ _ _ (plane_map c.args.plane.now) (c.args.row - 8) c.args.column 16 8 (omega arith) (omega arith) c.part-width.ensures.samples c.square_from.ensures

pub returns-clause-below : goal.returns-clause-below
returns-clause-below g c = square_below _ _ _ (plane_map c.args.plane.now) c.args.row c.args.column (omega (arith, c.requires.across.above)) c.part-width.ensures.samples c.square_from-2.ensures
