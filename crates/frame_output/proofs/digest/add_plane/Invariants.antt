use Rattle.std.proofs.Common.{ℕ, List, ◌-◌, ◌≤◌, ◌++◌}
use Rattle.md5.specs.Md5.{Holds}
use Rattle.frame_output.specs.Texts.{rows_text}
use Rattle.frame_output.proofs.digest.add_plane.Given as goal

-- the hasher has the rows so far
abbrev pub invariant-loop-y : goal.invariant-loop-y
invariant-loop-y g l =
    (l.y ≤ l.height)
    × ((m : List ℕ) → Holds l.fn.hasher m → Holds l.hasher (m ++ rows_text l.shape.depth l.width (g.S.Samples.map l.samples l.plane) 0 l.y))

abbrev pub decreases-loop-y : goal.decreases-loop-y
decreases-loop-y g l = l.height - l.y
