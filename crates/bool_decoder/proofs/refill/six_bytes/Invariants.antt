use Rattle.std.proofs.Common.{◌≡◌, ◌+◌, ◌-◌, ◌*◌, ◌^◌, ◌<◌, drop}
use Rattle.bool_decoder.specs.Ahead.{front_bytes}
use Rattle.bool_decoder.proofs.refill.six_bytes.Given as goal

abbrev pub invariant-loop : goal.invariant-loop
invariant-loop l = record {
  small : l.number < 2 ^ (8 * l.counter);
  whole : l.number * 2 ^ (8 * (6 - l.counter)) + front_bytes (6 - l.counter) l.rest ≡ front_bytes 6 l.bytes;
  behind : l.rest ≡ drop l.counter l.bytes;
}
