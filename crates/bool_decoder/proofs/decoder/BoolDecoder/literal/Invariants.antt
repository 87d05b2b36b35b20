use Rattle.std.proofs.Common.{◌≡◌, ◌-◌, ◌^◌, ◌<◌}
use Rattle.vp9_types.specs.declared.rule.Rule.{Rule}
use Rattle.bool_decoder.specs.Bools.{run_bools, literal, literal_from}
use Rattle.bool_decoder.specs.Held.{window_of}
use Rattle.bool_decoder.proofs.decoder.BoolDecoder.literal.Given as goal

abbrev pub invariant-loop : goal.invariant-loop
invariant-loop l = record {
  small : l.value < 2 ^ l.counter;
  same : run_bools {E = Rule} (literal_from (l.n - l.counter) l.value) (window_of l.decoder) ≡ run_bools (literal l.n) (window_of l.fn.self);
}
