use Rattle.std.proofs.Common.{◌≡◌, ◌∙◌, ap, map}
use Rattle.std.proofs.lemmas.List.FromFn.{length-map-range_with_len}
use Rattle.vp9_types.specs.Maps.{row_of}
use Rattle.planes.specs.Planes.{plane_map}
use Rattle.planes.specs.Code.{with_row}
use Rattle.plane_parts.proofs.copying.copy_row.Goals as goal

pub returns-clause-map : goal.returns-clause-map
returns-clause-map g c = let a = c.args in
    let is : map g.P.Sample.value c.copy_from_slice.new.self ≡ row_of (plane_map a.from.now) a.row a.column a.count =
    ap (map g.P.Sample.value) c.copy_from_slice.ensures.after ∙ c.row-samples.ensures.value in
    ap (λ w. plane_map (with_row a.to.now a.row a.column w)) is
    ∙ c.row_mut.ensures.written (row_of (plane_map a.from.now) a.row a.column a.count) (length-map-range_with_len (plane_map a.from.now a.row) a.column a.count)
