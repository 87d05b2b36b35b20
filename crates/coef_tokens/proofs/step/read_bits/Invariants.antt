use Rattle.std.proofs.Common.{◌≡◌, ◌^◌, ◌<◌, drop}
use Rattle.vp9_types.specs.declared.rule.Rule.{Rule}
use Rattle.bool_decoder.specs.Bools.{run_bools}
use Rattle.bool_decoder.specs.Held.{window_of}
use Rattle.coef_tokens.specs.TokenSymbols.{bits_from}
use Rattle.coef_tokens.proofs.step.read_bits.Given as goal

abbrev pub invariant-loop-p : goal.invariant-loop-p
invariant-loop-p l = record {
  small : l.value < 2 ^ l.p-index;
  same : run_bools {E = Rule} (bits_from (drop l.p-index l.probs) l.value) (window_of l.decoder) ≡ run_bools (bits_from l.probs 0) (window_of l.fn.decoder);
}
