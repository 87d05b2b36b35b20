use Rattle.std.proofs.Common.{ap}
use Rattle.vp9_types.specs.Maps.{FrameMap}
use Rattle.vp9_types.specs.declared.shape.Plane.TheVariants.{Y, U, V}
use Rattle.recon_rows.proofs.strips.begin.Goals as goal

pub begin_plane-requires-clause-zero : goal.begin_plane-requires-clause-zero
begin_plane-requires-clause-zero g c = ap (λ (m : FrameMap). m Y) c.requires.zero

pub begin_plane-requires-in-Some-clause-zero : goal.begin_plane-requires-in-Some-clause-zero
begin_plane-requires-in-Some-clause-zero g c = ap (λ (m : FrameMap). m U) c.requires.zero

pub begin_plane-requires-in-Some-2-clause-zero : goal.begin_plane-requires-in-Some-2-clause-zero
begin_plane-requires-in-Some-2-clause-zero g c = ap (λ (m : FrameMap). m V) c.requires.zero

pub returns-in-None-clause-begun : goal.returns-in-None-clause-begun
returns-in-None-clause-begun g c = rw c.in-None.is c.requires.zero
