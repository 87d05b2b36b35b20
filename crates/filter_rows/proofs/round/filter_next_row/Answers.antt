use Rattle.filter_rows.proofs.Places.{room_for, holds_rows}
use Rattle.filter_rows.proofs.Rounds.{put_stands, filtered_in}
use Rattle.vp9_types.specs.declared.shape.Plane.TheVariants.{Y, U, V}
use Rattle.filter_rows.proofs.round.filter_next_row.Goals as goal

pub put_row-requires-clause-room : goal.put_row-requires-clause-room
put_row-requires-clause-room g c = let a = c.args in room_for a.f.now.shape Y a.sr a.planes.now.y.area c.requires.awaits.place.y

pub put_row-requires-2-clause-room : goal.put_row-requires-2-clause-room
put_row-requires-2-clause-room g c = let a = c.args in room_for a.f.now.shape U a.sr a.planes.now.u.area c.requires.awaits.place.u

pub put_row-requires-3-clause-room : goal.put_row-requires-3-clause-room
put_row-requires-3-clause-room g c = let a = c.args in room_for a.f.now.shape V a.sr a.planes.now.v.area c.requires.awaits.place.v

pub filter_next-requires-clause-rows : goal.filter_next-requires-clause-rows
filter_next-requires-clause-rows g c = let a = c.args in
    holds_rows a.f.now.shape a.sr _ (put_stands a.f.now.shape a.sr a.planes.now _ c.requires.awaits.place c.put_row.ensures.area c.put_row-2.ensures.area c.put_row-3.ensures.area)

pub returns : goal.returns
returns g c = let a = c.args in
    filtered_in a.f.now (g.N.Neighbours.blocks a.blocks.now) (g.S.Strips.raw a.strips.now) a.sr a.planes.now _ _ c.requires.awaits
    (put_stands a.f.now.shape a.sr a.planes.now _ c.requires.awaits.place c.put_row.ensures.area c.put_row-2.ensures.area c.put_row-3.ensures.area)
    c.put_row.ensures.rows c.put_row-2.ensures.rows c.put_row-3.ensures.rows c.filter_next.ensures.areas c.filter_next.ensures.range c.filter_next.ensures.next
