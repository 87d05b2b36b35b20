use Rattle.std.proofs.Common.{◌<◌, ◌≤◌, ◌∙◌, sym, length, arith}
use Rattle.std.proofs.lemmas.List.Elements.{All-set}
use Rattle.vp9_types.proofs.Eaches.{each_put}
use Rattle.bool_decoder.specs.Bools.{bool_answer}
use Rattle.bool_decoder.specs.Held.{window_of}
use Rattle.compressed_header.specs.Updates.{diff_update_prob}
use Rattle.compressed_header.proofs.update.read_updates.Goals as goal

pub loop-i-preserved : goal.loop-i-preserved
loop-i-preserved c =
    let low : c.loop-i.i < length c.loop-i.probs = omega arith in
    record {
      kept = All-set (λ p. 1 ≤ p) c.loop-i.probs c.loop-i.i c.read_update.result c.read_update.ensures.least c.loop-i.invariant.kept;
      same = sym (each_put bool_answer diff_update_prob c.loop-i.probs c.loop-i.i 0 c.read_update.result (window_of c.loop-i.local) (window_of c.read_update.new.decoder) low c.read_update.ensures.read) ∙ c.loop-i.invariant.same;
    }
