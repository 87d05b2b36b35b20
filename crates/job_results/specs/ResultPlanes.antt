-- Planes, whatever they keep a sample as.
use Rattle.vp9_types.specs.declared.shape.Depth.{Depth}
use Rattle.picture_table.specs.KeptPictures.{KeepInBytes, KeepInWords}
use Rattle.job_results.specs.declared.any_planes.AnyPlanes.{AnyPlanes}
use Rattle.job_results.specs.declared.any_planes.AnyPlanes.TheVariants.{Bytes, Words}

-- they keep samples as the depth asks
abbrev pub Keeps : Depth → AnyPlanes → Type 0
Keeps depth (Bytes f) = KeepInBytes depth
Keeps depth (Words f) = KeepInWords depth
