use Rattle.std.proofs.Common.{◌≡◌, ◌++◌, take}
use Rattle.container_writer.specs.Indexes.{size_list}
use Rattle.container_writer.proofs.index.put_sizes.Given as goal

abbrev pub invariant-loop-i : goal.invariant-loop-i
invariant-loop-i l = l.out.items ≡ l.fn.out.items ++ size_list l.width (take l.i l.sizes)
