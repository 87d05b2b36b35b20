-- A tile column of a frame that has begun, and of a coded frame.
use Rattle.std.proofs.Common.{◌≡◌, ◌∙◌, ℕ, ◌<◌, ◌^◌, List, sym, subst, refl, arith}
use Rattle.std.specs.Prelude.{Bool, true, false, nat_lt, Some, None, Result, Ok, Err, if◌then◌else◌}
use Rattle.vp9_types.specs.declared.job.Span.{Span}
use Rattle.vp9_types.specs.declared.job.JobName.TheVariants.{Column}
use Rattle.vp9_types.specs.declared.rule.Rule.{Rule}
use Rattle.frame_headers.specs.Spans.{tile_spans}
use Rattle.frame_headers.specs.declared.header.Header.{Header}
use Rattle.frame_output.specs.declared.rendering.Format.{Format}
use Rattle.job_results.specs.frame_steps.StepResults.{IsColumn, IsPlanned, sources_by}
use Rattle.job_results.specs.frame_state.ColumnPlans.{tile_bytes}
use Rattle.job_results.specs.frame_steps.declared.beginning.BegunFrame.{BegunFrame}
use Rattle.job_results.specs.frame_steps.declared.columns.PlannedColumn.{PlannedColumn}
use Rattle.job_crew.specs.Runs.{IsDue}
use Rattle.job_results.specs.tile_syntax.declared.plans.Unplanned.{Unplanned}
use Rattle.job_results.specs.numbered_frames.Coded.{CodedFrame, coded}
use Rattle.job_results.specs.seq_decoder.Outputs.{Putting}
use Rattle.job_results.specs.Lent.{IsBegunFrame, IsColumnOf}
use Rattle.job_results.specs.Meaning.{decode_rules, decode_truth, parses}
use Rattle.job_results.specs.JobResults.{IsBegunAs, IsColumnAs, IsHead, IsPlannedAs}
use Rattle.job_results.specs.declared.result.JobResult.{JobResult}
use Rattle.job_results.specs.declared.result.JobResult.TheVariants as result
use Rattle.job_heads.specs.Begun.{IsItsBegun, IsMadeOf}
use Rattle.job_heads.proofs.CodedFrames.{is_from, same_coded}
use Rattle.job_results.specs.numbered_frames.Films.{Film}

-- the coded frame that has begun, by what has begun, its tiles lying there
abbrev coded_of : Putting → BegunFrame → List Span → CodedFrame
coded_of kept b spans = record { kept = kept; bytes = b.bytes.now; header = b.setting.header; compressed = b.compressed; by = sources_by b; spans = spans }

planned_as : (kept : Putting) (b : BegunFrame) (spans : List Span) (k : ℕ) (r : Result PlannedColumn Unplanned) → IsPlanned b (tile_bytes b.bytes.now spans) k r → IsPlannedAs (coded_of kept b spans) k r
planned_as kept b spans k (Ok p) h = h
planned_as kept b spans k (Err e) h = tt

planned_so : (kept : Putting) (b : BegunFrame) (spans : List Span) (k : ℕ) (r : Result PlannedColumn Unplanned) → IsPlannedAs (coded_of kept b spans) k r → IsPlanned b (tile_bytes b.bytes.now spans) k r
planned_so kept b spans k (Ok p) h = h
planned_so kept b spans k (Err e) h = tt

is_it : (c : CodedFrame) (b : BegunFrame) (spans : List Span) → IsMadeOf c b → spans ≡ c.spans → coded_of c.kept b spans ≡ c
is_it c b spans h same = λ i. record { kept = c.kept; bytes = h.0 i; header = h.1 i; compressed = h.2 i; by = h.3 i; spans = same i }

cut_so : (c : CodedFrame) (b : BegunFrame) → IsMadeOf c b → tile_spans b.bytes.now b.setting.header b.compressed ≡ tile_spans c.bytes c.header c.compressed
cut_so c b h = λ i. tile_spans (h.0 i) (h.1 i) (h.2 i)

made_of : (c : CodedFrame) (b : BegunFrame) → IsBegunAs c b → IsMadeOf c b
made_of c b h = (h.bytes, h.header, h.compressed, h.sources)

-- what has begun is the only one
pub is_begun : (format : Format) (film : Film) (f : ℕ) (b : BegunFrame) → IsBegunFrame format film f b → IsItsBegun format film f b
is_begun format film f b h = λ c is. subst (λ (x : CodedFrame). IsMadeOf x b) (same_coded format film f h.0 c h.1 is) (made_of h.0 b h.2)

column_as : (c : CodedFrame) (b : BegunFrame) (k : ℕ) (r : Result PlannedColumn Unplanned) → IsMadeOf c b → tile_spans c.bytes c.header c.compressed ≡ Ok c.spans → IsColumn b k r → IsColumnAs c k r
column_as c b k r h cut column =
    let own = cut_so c b h ∙ cut in
    subst (λ (x : CodedFrame). IsColumnAs x k r) (is_it c b c.spans h refl) (column.counts c.spans own, planned_as c.kept b c.spans k r (column.plan c.spans own))

-- the frame's tile column is what its plan came to
pub column_of : (format : Format) (film : Film) (f : ℕ) (b : BegunFrame) (k : ℕ) (r : Result PlannedColumn Unplanned) → IsBegunFrame format film f b → IsColumn b k r → IsColumnOf format film f k r
column_of format film f b k r h column = (h.0, h.1, column_as h.0 b k r (made_of h.0 b h.2) (is_from format film f h.0 h.1).cut column)

same_spans : (a b : List Span) (r : Result (List Span) Rule) → r ≡ Ok a → r ≡ Ok b → a ≡ b
same_spans a b r one other = let both : Ok a ≡ Ok b = sym one ∙ other in cc

column_in : (c : CodedFrame) (b : BegunFrame) (k : ℕ) (r : Result PlannedColumn Unplanned) → IsMadeOf c b → tile_spans c.bytes c.header c.compressed ≡ Ok c.spans → IsColumnAs c k r
    → (spans : List Span) → tile_spans b.bytes.now b.setting.header b.compressed ≡ Ok spans → IsColumnAs (coded_of c.kept b spans) k r
column_in c b k r h cut column spans is =
    let same = same_spans spans c.spans (tile_spans b.bytes.now b.setting.header b.compressed) is (cut_so c b h ∙ cut) in
    subst (λ (x : CodedFrame). IsColumnAs x k r) (sym (is_it c b spans h same)) column

column_by : (c : CodedFrame) (b : BegunFrame) (k : ℕ) (r : Result PlannedColumn Unplanned) → IsMadeOf c b → tile_spans c.bytes c.header c.compressed ≡ Ok c.spans → IsColumnAs c k r → IsColumn b k r
column_by c b k r h cut column = record {
  counts = λ spans is. (column_in c b k r h cut column spans is).0;
  plan = λ spans is. planned_so c.kept b spans k r (column_in c b k r h cut column spans is).1;
}

-- and the other way
pub column_there : (format : Format) (film : Film) (f : ℕ) (b : BegunFrame) (k : ℕ) (r : Result PlannedColumn Unplanned) → IsItsBegun format film f b → IsColumnOf format film f k r → IsColumn b k r
column_there format film f b k r h column = column_by column.0 b k r (h column.0 column.1) (is_from format film f column.0 column.1).cut column.2

---- Which tile columns are due ----

-- a frame of more tile columns than this number
abbrev pub HasColumn : Format → Film → ℕ → ℕ → Type 0
HasColumn format film f k = (c : CodedFrame) × (coded format film f ≡ Some c) × (k < 2 ^ c.header.params.tiles.columns_log2)

said_by : (few : Bool) (log2 columns : ℕ) → (if few then Some (2 ^ log2) else None) ≡ Some columns → 2 ^ log2 ≡ columns
said_by true log2 columns is = cc
said_by false log2 columns is = absurd cc

parsed : (format : Format) (film : Film) (f k columns : ℕ) (x : JobResult) → IsHead format film f x → parses x ≡ Some columns → k < columns → HasColumn format film f k
parsed format film f k columns (result.Begun b) h is low =
    let many : 2 ^ b.value.setting.header.params.tiles.columns_log2 ≡ columns = said_by (nat_lt b.value.setting.header.params.tiles.columns_log2 9) b.value.setting.header.params.tiles.columns_log2 columns is in
    (h.0, h.1, subst (λ (x : Header). k < 2 ^ x.params.tiles.columns_log2) h.2.header (subst (λ n. k < n) (sym many) low))
parsed format film f k columns (result.Existing slot) h is low =
    let none : 0 ≡ columns = cc in
    let no : k < 0 = subst (λ n. k < n) (sym none) low in
    absurd (omega (arith, no))
parsed format film f k columns (result.Column r) h is low = absurd h
parsed format film f k columns (result.Closed x) h is low = absurd h
parsed format film f k columns (result.Strip planes) h is low = absurd h
parsed format film f k columns (result.Filtered planes) h is low = absurd h
parsed format film f k columns result.Starved h is low = absurd h
parsed format film f k columns result.Written h is low = absurd h
parsed format film f k columns (result.Refused fault) h is low = absurd h
parsed format film f k columns (result.Ended o) h is low = absurd cc

pub due : (format : Format) (film : Film) (f k : ℕ) → IsDue (decode_rules format film) (decode_truth format film) (Column f k) → HasColumn format film f k
due format film f k h = parsed format film f k h.0 h.1.0 h.1.1 h.1.2 h.2

-- a frame that has begun is the one that is due
pub due_below : (format : Format) (film : Film) (f k : ℕ) (b : BegunFrame) → HasColumn format film f k → IsBegunFrame format film f b → k < 2 ^ b.setting.header.params.tiles.columns_log2
due_below format film f k b d h =
    let same = same_coded format film f d.0 h.0 d.1 h.1 in
    let low = subst (λ (x : CodedFrame). k < 2 ^ x.header.params.tiles.columns_log2) same d.2 in
    subst (λ (x : Header). k < 2 ^ x.params.tiles.columns_log2) (sym h.2.header) low
