-- What it says of a frame that a job of its rows is due.
use Rattle.std.proofs.Common.{◌≡◌, ◌∙◌, ◌<◌, ◌^◌, ◌⊎◌, inl, inr, ℕ, refl, sym, ap, subst, arith}
use Rattle.std.specs.Prelude.{IfOk, Option, Some, None, Result, Ok, Err}
use Rattle.vp9_types.specs.Shapes.{mi_rows}
use Rattle.vp9_types.specs.Sizes.{superblocks_along}
use Rattle.vp9_types.specs.declared.job.JobName.TheVariants.{Rows, Filter}
use Rattle.vp9_types.specs.declared.shape.Depth.{Depth}
use Rattle.vp9_types.specs.declared.shape.Depth.TheVariants.{Eight, Ten, Twelve}
use Rattle.picture_table.specs.KeptPictures.{KeepInWords}
use Rattle.frame_headers.specs.HeaderState.{shape_of}
use Rattle.frame_output.specs.declared.rendering.Format.{Format}
use Rattle.job_results.specs.frame_state.FrameReading.{FrameRead}
use Rattle.job_crew.specs.Runs.{IsDue}
use Rattle.job_order.specs.Worlds.{Building}
use Rattle.job_results.specs.numbered_frames.Coded.{CodedFrame, coded, read_of}
use Rattle.job_results.specs.Meaning.{builds, decode_rules, decode_truth, shown_as}
use Rattle.job_results.specs.JobResults.{IsBuiltAs, IsClose, IsClosedAs}
use Rattle.job_results.specs.declared.result.ClosedFrame.{ClosedFrame}
use Rattle.job_results.specs.declared.result.JobResult.{JobResult}
use Rattle.job_results.specs.declared.result.JobResult.TheVariants as result
use Rattle.job_rows.specs.LentRows.{HasRow, HasStrip, OfFrame}
use Rattle.job_results.proofs.CodedFrames.{same_coded}
use Rattle.job_results.specs.numbered_frames.Films.{Film}

-- a right close that builds a frame
record IsBuilding (format : Format) (film : Film) (f : ℕ) (b : Building) : Type 0 where
  close : ClosedFrame
  right : IsClosedAs format film f close
  columns : b.columns ≡ close.columns
  rows : b.rows ≡ close.rows

building : (format : Format) (film : Film) (f : ℕ) (x : JobResult) (b : Building) → IsClose format film f x → builds x ≡ Some b → IsBuilding format film f b
building format film f (result.Closed k) b right is =
    let own : Building = record { columns = k.value.columns; rows = k.value.rows; shown = shown_as k.value.shown } in
    let all : Some own ≡ Some b = is in
    let same : own ≡ b = cc in
    record {
      close = k.value;
      right = right;
      columns = ap (λ (x : Building). x.columns) (sym same);
      rows = ap (λ (x : Building). x.rows) (sym same);
    }
building format film f (result.Ended o) b right is = absurd cc
building format film f (result.Begun x) b right is = absurd right
building format film f (result.Existing slot) b right is = absurd right
building format film f (result.Column r) b right is = absurd right
building format film f (result.Strip planes) b right is = absurd right
building format film f (result.Filtered planes) b right is = absurd right
building format film f result.Starved b right is = absurd right
building format film f result.Written b right is = absurd right
building format film f (result.Refused fault) b right is = absurd right

-- a frame with a row of superblocks is coded, and its tiles are all read
record IsWhole (o : Option CodedFrame) (k : ClosedFrame) : Type 0 where
  frame : CodedFrame
  is : o ≡ Some frame
  read : FrameRead
  reads : read_of frame ≡ Ok read
  columns : k.columns ≡ 2 ^ frame.header.params.tiles.columns_log2
  rows : k.rows ≡ superblocks_along (mi_rows (shape_of frame.header))

whole : (o : Option CodedFrame) (k : ClosedFrame) (row : ℕ) → IsBuiltAs o k → row < k.rows → IsWhole o k
whole None k row built low = absurd (omega (arith, low, built.1))
whole (Some c) k row built low = record { frame = c; is = refl; read = built.2.0; reads = built.2.1; columns = built.0; rows = built.1 }

has_row : (format : Format) (film : Film) (f row : ℕ) (k : ClosedFrame) → IsWhole (coded format film f) k → row < k.rows → HasRow format film f row
has_row format film f row k w low = record { frame = w.frame; is = w.is; read = w.read; reads = w.reads; inside = omega (arith, low, w.rows) }

has_strip : (format : Format) (film : Film) (f k row : ℕ) (close : ClosedFrame) → IsWhole (coded format film f) close → row < close.rows → k < close.columns → HasStrip format film f k row
unfolding has_row
has_strip format film f k row close w low across =
    let below : k < 2 ^ w.frame.header.params.tiles.columns_log2 = omega (arith, across, w.columns) in
    record { has = has_row format film f row close w low; column = below }

pub filter_due : (format : Format) (film : Film) (f row : ℕ) → IsDue (decode_rules format film) (decode_truth format film) (Filter f row) → HasRow format film f row
filter_due format film f row due =
    let b = building format film f due.1.0 due.0 due.1.1 due.1.2 in
    let low : row < b.close.rows = omega (arith, due.2, b.rows) in
    has_row format film f row b.close (whole (coded format film f) b.close row b.right.built low) low

pub rows_due : (format : Format) (film : Film) (f k row : ℕ) → IsDue (decode_rules format film) (decode_truth format film) (Rows f k row) → HasStrip format film f k row
rows_due format film f k row due =
    let b = building format film f due.1.0 due.0 due.1.1 due.1.2 in
    let low : row < b.close.rows = omega (arith, due.3, b.rows) in
    let w = whole (coded format film f) b.close row b.right.built low in
    has_strip format film f k row b.close w low (omega (arith, due.2, b.columns))

-- samples of other depths than 8 are kept in words
pub in_words : (depth own : Depth) → own ≡ depth → (own ≡ Ten) ⊎ (own ≡ Twelve) → KeepInWords depth
in_words depth own same (inl ten) = λ eight. no_ten (sym ten ∙ same ∙ eight)
  where
    no_ten : Ten ≡ Eight → ⊥
    no_ten is = absurd cc
in_words depth own same (inr twelve) = λ eight. no_twelve (sym twelve ∙ same ∙ eight)
  where
    no_twelve : Twelve ≡ Eight → ⊥
    no_twelve is = absurd cc

-- what holds of a value holds of what follows from it
pub if_ok : {T E : Type 0} (r : Result T E) (P Q : T → Type 0) → ((x : T) → P x → Q x) → IfOk r P → IfOk r Q
if_ok (Ok x) P Q so p = so x p
if_ok (Err e) P Q so p = tt

-- of a frame that is coded, as it is of that frame
pub of_frame : (P : CodedFrame → Type 0) (format : Format) (film : Film) (f : ℕ) (c : CodedFrame) → coded format film f ≡ Some c → P c → OfFrame format film f P
of_frame P format film f c is p = λ d also. subst P (same_coded (coded format film f) c d is also) p
