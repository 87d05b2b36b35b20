-- What a number stands for.
use Rattle.std.proofs.Common.{◌≡◌, refl}
use Rattle.vp9_types.specs.declared.block.IntraMode.{IntraMode}
use Rattle.vp9_types.specs.declared.block.IntraMode.TheVariants.{Dc, V, H, D45, D135, D117, D153, D207, D63, Tm}
use Rattle.vp9_types.specs.declared.block.Partition.{Partition}
use Rattle.vp9_types.specs.declared.block.Partition.TheVariants.{Whole, Horizontal, Vertical, Split}
use Rattle.vp9_tables.specs.Numbers.{intra_number, partition_number}
use Rattle.mode_syntax.specs.IntraModes.{intra_of}
use Rattle.mode_syntax.specs.Partitions.{partition_of}

pub intra_of_its_number : (mode : IntraMode) → intra_of (intra_number mode) ≡ mode
intra_of_its_number Dc = refl
intra_of_its_number V = refl
intra_of_its_number H = refl
intra_of_its_number D45 = refl
intra_of_its_number D135 = refl
intra_of_its_number D117 = refl
intra_of_its_number D153 = refl
intra_of_its_number D207 = refl
intra_of_its_number D63 = refl
intra_of_its_number Tm = refl

pub partition_of_its_number : (partition : Partition) → partition_of (partition_number partition) ≡ partition
partition_of_its_number Whole = refl
partition_of_its_number Horizontal = refl
partition_of_its_number Vertical = refl
partition_of_its_number Split = refl
