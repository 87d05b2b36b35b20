-- What the tile columns of a frame came to says what the frame comes to.
use Rattle.std.proofs.Common.{◌≡◌, ◌∙◌, ℕ, zero, suc, ◌<◌, Bool, true, false, List, [], length, refl, sym, ap, arith}
use Rattle.std.specs.Prelude.{Contains, IsTrue, Option, Some, None, Result, Ok, Err}
use Rattle.vp9_types.specs.declared.job.Span.{Span}
use Rattle.vp9_types.specs.declared.rule.Rule.{Rule}
use Rattle.vp9_types.specs.declared.shape.Shape.{Shape}
use Rattle.frame_headers.specs.Spans.{tile_spans}
use Rattle.counting_reader.specs.Counting.{Settled}
use Rattle.prob_contexts.specs.Code.{counts_after, joined_counts, no_counts}
use Rattle.prob_contexts.specs.declared.kind.CountedBool.{CountedBool}
use Rattle.prob_contexts.proofs.Joining.{parts_joined}
use Rattle.frame_state.specs.Code.{counts_if}
use Rattle.frame_state.specs.Laws.{IsFrameVerdict, columns_across, counts_of_all, earlier, least_verdict, verdict_of}
use Rattle.frame_state.specs.ColumnPlans.{ColumnRead, plan_of, tile_bytes}
use Rattle.frame_state.specs.FrameReading.{FrameRead, read_all_tiles}
use Rattle.frame_state.specs.Sources.{FrameSources}
use Rattle.frame_state.proofs.PlanReads.{reads_columns}
use Rattle.frame_state.proofs.Verdicts.{least_is}
use Rattle.tile_syntax.specs.Code.{GivesPlan}
use Rattle.tile_syntax.specs.declared.plans.ColumnPlan.{ColumnPlan}
use Rattle.tile_syntax.specs.declared.plans.Unplanned.{Unplanned}
use Rattle.tile_syntax.specs.declared.plans.Unplanned.TheVariants as unplanned
use Rattle.frame_close.specs.Code.{AreColumnResults, GivesColumn, GivesFrame, broken_by, result_at, sum_of, with_column}

-- what a caller of `column` knows of a tile column
pub column_gives : (counting : Bool) (computed : Result (Settled ColumnRead) (ℕ × Rule)) (result : Result (List ℕ) Unplanned) (shape : Shape) (plan : ColumnPlan)
    → GivesPlan counting computed result shape plan → GivesColumn counting computed result
column_gives counting computed (Ok counts) shape plan h = (h.0, h.1, h.3)
column_gives counting computed (Err (unplanned.Broken n rule)) shape plan h = h
column_gives counting computed (Err unplanned.OutOfMemory) shape plan h = tt

---- The rule that is broken ----

-- a column says what its plan says
column_verdict : (counting : Bool) (computed : Result (Settled ColumnRead) (ℕ × Rule)) (result : Result (List ℕ) Unplanned) → (result ≡ Err unplanned.OutOfMemory → ⊥)
    → GivesColumn counting computed result → broken_by result ≡ verdict_of computed
column_verdict counting computed (Ok counts) whole h = ap verdict_of (sym h.1)
column_verdict counting computed (Err (unplanned.Broken n rule)) whole h = ap verdict_of (sym h)
column_verdict counting computed (Err unplanned.OutOfMemory) whole h = absurd (whole refl)

same_verdict : (f g : ℕ → Option (ℕ × Rule)) (n : ℕ) → ((k : ℕ) → k < n → f k ≡ g k) → least_verdict f n ≡ least_verdict g n
same_verdict f g zero same = refl
same_verdict f g (suc n) same = λ i. earlier (same_verdict f g n (λ k low. same k (omega (arith, low))) i) (same n (omega arith) i)

-- no column wants memory
abbrev IsWhole : List (Result (List ℕ) Unplanned) → Type 0
IsWhole columns = Contains columns (Err unplanned.OutOfMemory) → ⊥

pub whole_by : (columns : List (Result (List ℕ) Unplanned)) → (Contains columns (Err unplanned.OutOfMemory) → IsTrue false) → IsWhole columns
whole_by columns found wants =
    let is : false ≡ true = found wants in
    let no : ⊥ = cc in
    absurd no

verdict_is : (counting : Bool) (by : FrameSources) (bytes : List ℕ) (compressed : Span) (spans : List Span) (columns : List (Result (List ℕ) Unplanned)) (v : Option (ℕ × Rule))
    → IsWhole columns → v ≡ least_verdict (λ k. broken_by (result_at columns k)) (length columns)
    → tile_spans bytes by.header compressed ≡ Ok spans → AreColumnResults counting by bytes spans columns → IsFrameVerdict (read_all_tiles by bytes compressed) v
verdict_is counting by bytes compressed spans columns v whole is tested h =
    let plans = λ (k : ℕ). verdict_of (plan_of by (tile_bytes bytes spans) k) in
    let same : v ≡ least_verdict plans (columns_across by.header) =
    is ∙ (same_verdict (λ k. broken_by (result_at columns k)) plans (length columns)
    (λ k low. column_verdict counting (plan_of by (tile_bytes bytes spans) k) (result_at columns k) (λ wants. whole (k, low, wants)) (h.each k low))
    ∙ ap (least_verdict plans) h.many) in
    rw same (least_is by bytes compressed spans tested)

rule_is : (r : Result FrameRead Rule) (n : ℕ) (rule : Rule) → IsFrameVerdict r (Some (n, rule)) → r ≡ Err rule
rule_is (Ok read) n rule h = let no : ⊥ = cc in absurd no
rule_is (Err other) n rule h =
    let same : ◌≡◌ {A = ℕ × Rule} (n, rule) (h.0, other) = cc in
    ap (λ z. Err z.1) (sym same)

none_is : (r : Result FrameRead Rule) → IsFrameVerdict r None → (read : FrameRead) × (r ≡ Ok read)
none_is (Ok read) h = (read, refl)
none_is (Err rule) h = let no : ⊥ = cc in absurd no

pub broken_is : (counting : Bool) (by : FrameSources) (bytes : List ℕ) (compressed : Span) (spans : List Span) (columns : List (Result (List ℕ) Unplanned)) (n : ℕ) (rule : Rule)
    → IsWhole columns → Some (n, rule) ≡ least_verdict (λ k. broken_by (result_at columns k)) (length columns)
    → tile_spans bytes by.header compressed ≡ Ok spans → AreColumnResults counting by bytes spans columns → read_all_tiles by bytes compressed ≡ Err rule
broken_is counting by bytes compressed spans columns n rule whole is tested h =
    rule_is (read_all_tiles by bytes compressed) n rule (verdict_is counting by bytes compressed spans columns (Some (n, rule)) whole is tested h)

---- The counts ----

-- a column that is read has the counts of its plan
column_counts : (counting : Bool) (computed : Result (Settled ColumnRead) (ℕ × Rule)) (result : Result (List ℕ) Unplanned) (plan : Settled ColumnRead)
    → (result ≡ Err unplanned.OutOfMemory → ⊥) → computed ≡ Ok plan → GivesColumn counting computed result → result ≡ Ok (counts_if counting plan.counted)
column_counts counting computed (Ok counts) plan whole is h =
    let same : h.0 ≡ plan = cc in
    ap (λ c. Ok c) (h.2 ∙ ap (λ (p : Settled ColumnRead). counts_if counting p.counted) same)
column_counts counting computed (Err (unplanned.Broken n rule)) plan whole is h = let no : ⊥ = cc in absurd no
column_counts counting computed (Err unplanned.OutOfMemory) plan whole is h = absurd (whole refl)

none_added : joined_counts no_counts no_counts ≡ no_counts
unfolding counts_after
none_added = parts_joined [] []

-- the counts of n parts, where counting is on
abbrev all_if : Bool → (ℕ → List CountedBool) → ℕ → List ℕ
all_if true counted n = counts_of_all counted n
all_if false counted n = no_counts

one_more : (counting : Bool) (counted : ℕ → List CountedBool) (n : ℕ) → joined_counts (all_if counting counted n) (counts_if counting (counted n)) ≡ all_if counting counted (suc n)
one_more true counted n = refl
one_more false counted n = none_added

sum_is : (counting : Bool) (columns : ℕ → Result (List ℕ) Unplanned) (counted : ℕ → List CountedBool) (n : ℕ) → ((k : ℕ) → k < n → columns k ≡ Ok (counts_if counting (counted k)))
    → sum_of columns n ≡ all_if counting counted n
sum_is true columns counted zero read = refl
sum_is false columns counted zero read = refl
sum_is counting columns counted (suc n) read =
    (λ i. with_column (sum_is counting columns counted n (λ k low. read k (omega (arith, low))) i) (read n (omega arith) i)) ∙ one_more counting counted n

frame_counts : (counting : Bool) (bools : List CountedBool) (counted : ℕ → List CountedBool) (n : ℕ) → counts_after no_counts bools ≡ counts_of_all counted n
    → all_if counting counted n ≡ counts_if counting bools
frame_counts true bools counted n same = sym same
frame_counts false bools counted n same = refl

pub read_is : (counting : Bool) (by : FrameSources) (bytes : List ℕ) (compressed : Span) (spans : List Span) (columns : List (Result (List ℕ) Unplanned)) (counts : List ℕ)
    → IsWhole columns → None ≡ least_verdict (λ k. broken_by (result_at columns k)) (length columns) → counts ≡ sum_of (result_at columns) (length columns)
    → tile_spans bytes by.header compressed ≡ Ok spans → AreColumnResults counting by bytes spans columns → GivesFrame counting (read_all_tiles by bytes compressed) (Ok counts)
read_is counting by bytes compressed spans columns counts whole is sum tested h =
    let all = none_is (read_all_tiles by bytes compressed) (verdict_is counting by bytes compressed spans columns None whole is tested h) in
    let plans = reads_columns by bytes compressed spans all.0 tested all.1 in
    let counted = λ (k : ℕ). (plans.0 k).counted in (
      all.0,
      all.1,
      sum ∙ (sum_is counting (result_at columns) counted (length columns)
          (λ k low. column_counts counting (plan_of by (tile_bytes bytes spans) k) (result_at columns k) (plans.0 k) (λ wants. whole (k, low, wants)) (plans.1 k) (h.each k low))
          ∙ (ap (all_if counting counted) h.many ∙ frame_counts counting all.0.counted counted (columns_across by.header) plans.2.counts)),
    )
