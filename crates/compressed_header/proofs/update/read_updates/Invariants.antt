use Rattle.std.proofs.Common.{◌≡◌, ◌≤◌, take, drop}
use Rattle.std.specs.List.{All}
use Rattle.vp9_types.specs.Each.{each, run_each_from}
use Rattle.bool_decoder.specs.Bools.{bool_answer, run_bools}
use Rattle.bool_decoder.specs.Held.{window_of}
use Rattle.compressed_header.specs.Updates.{diff_update_prob}
use Rattle.compressed_header.proofs.update.read_updates.Given as goal

abbrev pub invariant-loop-i : goal.invariant-loop-i
invariant-loop-i l = record {
  kept : All (λ p. 1 ≤ p) l.probs;
  same : run_each_from bool_answer diff_update_prob (take l.i l.probs) (drop l.i l.probs) (window_of l.local)
      ≡ run_bools (each diff_update_prob l.initial.probs) (window_of l.initial.local);
}
