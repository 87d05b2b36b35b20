use Rattle.std.proofs.Common.{◌*◌, ◌≤◌, arith}
use Rattle.vp9_tables.specs.Numbers.{partition_number}
use Rattle.prob_contexts.specs.declared.kind.ProbKind.TheVariants.{Partition}
use Rattle.counting_reader.specs.Counting.{count}
use Rattle.counting_reader.specs.CountedSymbols.{unary_bools}
use Rattle.counting_reader.specs.Code.{Reads}
use Rattle.mode_syntax.proofs.PartitionCounts.{partition_counts}
use Rattle.mode_syntax.proofs.partition.count_partition.Goals as goal

pub returns : goal.returns
returns g c =
    let few : partition_number c.args.partition ≤ 3 = omega (arith, c.partition_number-symbol.ensures.is, c.partition_number-symbol.ensures.most) in
    let counts : Reads (count (unary_bools Partition (3 * c.args.context) 3 (partition_number c.args.partition))) c.args.reader.now tt c.count_unary.new.self =
    rw (c.from.ensures, c.partition_number-symbol.ensures.is) at c.count_unary.ensures in
    rw (partition_counts Partition (3 * c.args.context) (partition_number c.args.partition) few) at counts
