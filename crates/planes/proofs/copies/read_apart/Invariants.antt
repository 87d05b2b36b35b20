use Rattle.std.proofs.Common.{◌≡◌, ◌<◌, ◌≤◌, ◌+◌, ◌*◌, ℕ, get_or, map}
use Rattle.planes.proofs.copies.read_apart.Given as goal

abbrev pub invariant-loop-k : goal.invariant-loop-k
invariant-loop-k g l = record {
  place : l.place ≡ l.at + l.k * l.apart;
  read : (k : ℕ) → k < l.k → get_or l.to k 0 ≡ get_or (map g.P.Sample.value l.samples) (l.at + k * l.apart) 0;
  after : (k : ℕ) → l.k ≤ k → get_or l.to k 0 ≡ get_or l.initial.to k 0;
}
