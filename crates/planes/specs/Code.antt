-- Where the code keeps samples, and what it lends to be written.
use Rattle.std.specs.Prelude.{ℕ, ◌+◌, ◌-◌, ◌*◌, List, ◌++◌, take, drop, length, map}
use Rattle.std.specs.Borrow.{Array, Lends, MutBor, Fml, RattleType}
use Rattle.vp9_types.specs.declared.sample.Sample.{Ghosts}
use Rattle.planes.specs.declared.area.Area.{Area}
use Rattle.planes.specs.declared.frame_planes.FramePlanes.{FramePlanes}
use Rattle.planes.specs.declared.picture.Picture.{Picture}
use Rattle.planes.specs.contracts.plane.SamplePlane as sample_plane
use Rattle.planes.specs.contracts.frame_planes.FramePlanes as frame_planes
use Rattle.planes.specs.contracts.picture.Picture as picture
use Rattle.planes.specs.Planes.{PlaneSamples}

-- where the list has the sample of a row and column
abbrev pub place_in : Area → ℕ → ℕ → ℕ
place_in a row column = (row - a.first_row) * a.columns + (column - a.first_column)

-- a list with another written over it: what has no room is left out
abbrev pub written_over : List ℕ → List ℕ → List ℕ
written_over xs w = take (length xs) (w ++ drop (length w) xs)

-- a plane with samples written from a row and column on
abbrev pub with_row : PlaneSamples → ℕ → ℕ → List ℕ → PlaneSamples
with_row p row column w =
    let at = place_in p.area row column in
    record p { samples = written_over p.samples (take at p.samples ++ (w ++ drop (length w) (drop at p.samples))) }

abbrev pub LendsRow : (R : RattleType) (g : Ghosts R.Denot) → MutBor PlaneSamples → ℕ → ℕ → MutBor (List R.Denot) → Fml
LendsRow R g s row column r = Lends (sample_plane.the_row R g) (Array R 0) s r (λ w. with_row s.now row column (map g.value w))

abbrev pub with_planes : {X : Type 0} → Picture X → FramePlanes X → Picture X
with_planes p f = record p { planes = f }

abbrev pub LendsPlanes : (R : RattleType) → Ghosts R.Denot → MutBor (Picture R.Denot) → MutBor (FramePlanes R.Denot) → Fml
LendsPlanes R g s r = Lends (picture.the_row R g) (frame_planes.the_row R g) s r (with_planes s.now)
