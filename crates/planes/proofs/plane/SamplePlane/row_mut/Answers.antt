use Rattle.std.proofs.Common.{◌≡◌, refl, ◌∙◌, ap, sym, rules, length, map}
use Rattle.std.proofs.lemmas.List.{length-map}
use Rattle.std.proofs.lemmas.List.FromFn.{length-map-range_with_len}
use Rattle.vp9_types.specs.Maps.{row_of}
use Rattle.planes.specs.Planes.{plane_map}
use Rattle.planes.proofs.PlaneLemmas.{values_lent, row_values, row_written}
use Rattle.planes.proofs.plane.SamplePlane.row_mut.Goals as goal

pub returns : goal.returns
returns g c = let a = c.args in let s = c.self.inside in let f = g.P.Sample.value in let r = rw (← c.self.view_is) at c.requires in
    let is : map f c.slice_mut.result.now ≡ row_of (plane_map a.self.now) a.row a.column a.count =
    ap (map f) c.slice_mut.ensures.value ∙ rw (c.place_of-at.ensures, ← c.self.view_is) (row_values f s.area s.samples.items a.row a.column a.count r c.self.invariant.1) in (
      (refl, values_lent f s.area s.samples.items a.self.now a.row a.column c.place_of-at.result s.samples.len c.self.view_is (search rules) c.place_of-at.ensures),
      record {
        writes_back = tt;
        long = sym (length-map c.slice_mut.result.now f) ∙ ap length is ∙ length-map-range_with_len (plane_map a.self.now a.row) a.column a.count;
        value = is;
        written = rw (← c.self.view_is) (row_written s.area (map f s.samples.items) a.row a.column a.count r (length-map s.samples.items f ∙ c.self.invariant.1));
      },
    )
