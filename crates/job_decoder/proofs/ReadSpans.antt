-- What a row of a group reads is kept with its frame's close.
use Rattle.std.proofs.Common.{◌≡◌, ◌∙◌, ◌<◌, ◌+◌, ◌^◌, ℕ, zero, suc, List, [], ◌∷◌, length, map, refl, sym, ap, subst, arith}
use Rattle.std.specs.Prelude.{IsSome, Option, Some, None, get_or}
use Rattle.vp9_types.specs.declared.job.BandSpan.{BandSpan}
use Rattle.vp9_types.specs.declared.job.JobName.TheVariants.{Rows}
use Rattle.frame_output.specs.declared.rendering.Format.{Format}
use Rattle.job_crew.specs.Runs.{IsDue}
use Rattle.job_order.specs.Needs.{HasBand}
use Rattle.job_rows.specs.numbered_frames.Coded.{CodedFrame, coded}
use Rattle.job_rows.specs.numbered_frames.Films.{Film}
use Rattle.job_rows.specs.job_results.Groups.{span_in, spans_in}
use Rattle.job_rows.specs.job_results.JobResults.{IsBuiltAs, IsClosedAs}
use Rattle.job_rows.specs.job_results.Meaning.{decode_rules, decode_truth}
use Rattle.job_rows.specs.job_results.RowReads.{kept_spans, reads_from, row_reads}
use Rattle.job_rows.specs.job_results.declared.result.ClosedFrame.{ClosedFrame}
use Rattle.job_rows.proofs.of_job_results.KeptSpans.{three_spans}
use Rattle.job_rows.proofs.DueRows.{rows_due}

-- a row that is due has them in the close of its frame
pub spans_kept : (format : Format) (film : Film) (f column row : ℕ) (k : ClosedFrame) → IsClosedAs format film f k → IsDue (decode_rules format film) (decode_truth format film) (Rows f column row)
    → kept_spans k.reads column row ≡ Some (reads_from (coded format film f) column row)
spans_kept format film f column row k closed due =
    let has = rows_due format film f column row due in
    let built : IsBuiltAs (Some has.has.frame) k = subst (λ (o : Option CodedFrame). IsBuiltAs o k) has.has.is closed.built in
    let across = has.column in
    let inside = has.has.inside in
    closed.reads column row (omega (arith, across, built.0)) (omega (arith, inside, built.1))

pub is_some : {X : Type 0} (o : Option X) (x : X) → o ≡ Some x → IsSome o
is_some o x is = rw is refl

-- the same by the number that the code has of the frame
pub spans_told : (n own frame k r : ℕ) (format : Format) (film : Film) (kept : Option (List (Option BandSpan))) → own ≡ n → kept ≡ Some (reads_from (coded format film (own + frame)) k r)
    → kept ≡ Some (reads_from (coded format film (n + frame)) k r)
spans_told n own frame k r format film kept same is = is ∙ ap (λ m. Some (reads_from (coded format film (m + frame)) k r)) same

inner : {X : Type 0} (a b : X) → Some a ≡ Some b → a ≡ b
inner a b is = cc

---- There are three ----

three : {X : Type 0} (xs : List (Option X)) → length xs ≡ 3 → xs ≡ get_or xs 0 None ∷ get_or xs 1 None ∷ get_or xs 2 None ∷ []
three [] many = absurd (omega (arith, many))
three (x ∷ []) many = absurd (omega (arith, many))
three (x ∷ y ∷ []) many = absurd (omega (arith, many))
three (x ∷ y ∷ z ∷ []) many = refl
three (x ∷ y ∷ z ∷ w ∷ xs) many = absurd (omega (arith, many))

-- what is answered of them is what the rules of the group name
pub all_named : (n own : ℕ) (o : Option CodedFrame) (k r : ℕ) (kept : Option (List (Option BandSpan))) (told : List (Option BandSpan)) (x y z : Option BandSpan) → own ≡ n → kept ≡ Some (reads_from o k r) → kept ≡ Some told
    → x ≡ span_in own (get_or told 0 None) → y ≡ span_in own (get_or told 1 None) → z ≡ span_in own (get_or told 2 None) → (g band : ℕ) → HasBand (spans_in n (reads_from o k r)) g band → HasBand (x ∷ y ∷ z ∷ []) g band
all_named n own None k r kept told x y z same is found first second third g band h = absurd h
all_named n own (Some c) k r kept told x y z same is found first second third g band h =
    let own_spans : row_reads c k r ≡ told = inner (row_reads c k r) told (sym is ∙ found) in
    let many : length told ≡ 3 = sym (ap (λ (s : List (Option BandSpan)). length s) own_spans) ∙ three_spans c k r in
    let all : spans_in n (row_reads c k r) ≡ x ∷ y ∷ z ∷ [] =
    ap (spans_in n) (own_spans ∙ three told many)
    ∙ (λ i. span_in (sym same i) (get_or told 0 None) ∷ span_in (sym same i) (get_or told 1 None) ∷ span_in (sym same i) (get_or told 2 None) ∷ [])
    ∙ (λ i. sym first i ∷ sym second i ∷ sym third i ∷ []) in
    subst (λ (s : List (Option BandSpan)). HasBand s g band) all h
