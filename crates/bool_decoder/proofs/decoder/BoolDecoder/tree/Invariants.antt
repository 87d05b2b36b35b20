use Rattle.std.proofs.Common.{length}
use Rattle.bool_decoder.specs.Branches.{FitsEntry}
use Rattle.bool_decoder.specs.Held.{window_of}
use Rattle.bool_decoder.proofs.Walks.{Walks, to_go}
use Rattle.bool_decoder.proofs.decoder.BoolDecoder.tree.Given as goal

abbrev pub invariant-loop-branch : goal.invariant-loop-branch
invariant-loop-branch l = record {
  walk : Walks l.tree l.probs l.branch (window_of l.decoder) (window_of l.fn.self);
  fits : FitsEntry l.branch;
}

abbrev pub decreases-loop-branch : goal.decreases-loop-branch
decreases-loop-branch l = to_go (length l.tree) l.branch
