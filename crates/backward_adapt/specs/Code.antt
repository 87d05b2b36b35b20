-- What the code's counters tell.
use Rattle.std.specs.Prelude.{◌≡◌, ℕ, List}
use Rattle.prob_contexts.specs.declared.kind.CountedBool.{CountedBool}
use Rattle.prob_contexts.specs.Code.{counter_of}
use Rattle.prob_contexts.specs.Counted.{IsCounted}

-- how often each bool was counted that counts for a node
abbrev pub Tells : List ℕ → (CountedBool → ℕ) → Type 0
Tells counts times = (b : CountedBool) → IsCounted b → counter_of counts b ≡ times b
