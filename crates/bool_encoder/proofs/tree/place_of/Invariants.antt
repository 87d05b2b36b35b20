use Rattle.std.proofs.Common.{ℕ, ◌≡◌, ◌<◌}
use Rattle.vp9_types.specs.Trees.{entry_at}
use Rattle.bool_encoder.proofs.tree.place_of.Given as goal

abbrev pub invariant-loop-i : goal.invariant-loop-i
invariant-loop-i l = (k : ℕ) → k < l.i → entry_at l.tree k ≡ l.entry → ⊥
