-- What a run leaves for one that goes on behind it.
use Rattle.std.specs.Prelude.{◌≡◌, ℕ, List, Option, Some, IfSome, slice_get}
use Rattle.vp9_types.specs.declared.job.JobName.TheVariants.{Close, Filter}
use Rattle.job_order.specs.Truths.{Truth}
use Rattle.job_crew.specs.declared.left.FrameResults.{FrameResults}

-- each of these that is there is a right result of the filter of its row
abbrev pub AreRightRows : {X : Type 0} → Truth X → ℕ → List (Option X) → Type 0
AreRightRows {X} t f rows = (r : ℕ) (x : X) → slice_get rows r ≡ Some (Some x) → t.right (Filter f r) x

-- the results of a frame are right
pub record HasRightResults {X : Type 0} (t : Truth X) (results : FrameResults X) : Type 0 where
  pub close : IfSome results.close (λ x. t.right (Close results.frame) x)
  pub rows : AreRightRows t results.frame results.filters.items
