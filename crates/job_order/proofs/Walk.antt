-- The job of a ticket, found segment by segment.
use Rattle.std.proofs.Common.{◌≡◌, ◌≢◌, ℕ, zero, suc, ◌+◌, ◌-◌, ◌*◌, ◌/◌, ◌%◌, ◌^◌, ◌<◌, ◌≤◌, refl, sym, ◌∙◌, ap, List, [], ◌∷◌, ◌++◌, length, map, flat_map, drop, get_or, slice_get, Option, Some, None, arith, length-append, mul-le-mul_right, mod-lt, append_assoc, take, take-append-drop}
use Rattle.std.specs.List.{range_with_len}
use Rattle.std.proofs.lemmas.Nat.{div-add-mod'}
use Rattle.std.proofs.lemmas.Option.{slice_get-get_or}
use Rattle.std.proofs.lemmas.List.{drop_more, take_more, take-append-le}
use Rattle.vp9_types.specs.declared.job.JobName.{JobName}
use Rattle.vp9_types.specs.declared.job.JobName.TheVariants.{Column, Close, Rows, Filter, Write}
use Rattle.job_order.specs.declared.segment.Segment.{Segment}
use Rattle.job_order.specs.declared.segment.Segment.TheVariants.{Opening, Parse, Build, Last}
use Rattle.job_order.specs.declared.segment.Shown.{Shown}
use Rattle.job_order.specs.JobSegments.{jobs_of, jobs_in, job_at, row_jobs, InOrder}
use Rattle.job_order.specs.declared.order.Mark.{Mark}
use Rattle.job_order.specs.Code.{HasNext, IsMark}
use Rattle.job_order.specs.Worlds.{and_published}
use Rattle.job_order.proofs.Places.{got_left, length_made, length_rows}
use Rattle.job_order.proofs.Orders.{got, length_row}

pub length_parse : (s : Segment) (f columns : ℕ) → s ≡ Parse f columns → columns + 1 ≡ length (jobs_of s)
length_parse s f columns is =
    let all = length-append (map (λ c. Column f c) (range_with_len 0 columns)) (Close f ∷ []) in
    let made = length_made (λ c. Column f c) columns 0 in
    let here : columns + 1 ≡ length (jobs_of (Parse f columns)) = omega (arith, all, made) in
    here ∙ ap (λ x. length (jobs_of x)) (sym is)

pub length_build : (s : Segment) (f columns rows : ℕ) (shown : Option Shown) → s ≡ Build f columns rows shown → rows * (columns + 1) + 2 ≡ length (jobs_of s)
length_build s f columns rows shown is =
    let all = length-append (flat_map (row_jobs f columns) (range_with_len 0 rows)) (Write f ∷ []) in
    let made = length_rows (row_jobs f columns) (columns + 1) (length_row f columns) rows 0 in
    let here : rows * (columns + 1) + 2 ≡ length (jobs_of (Build f columns rows shown)) = omega (arith, all, made) in
    here ∙ ap (λ x. length (jobs_of x)) (sym is)

pub column_at : (f columns place : ℕ) → place < columns → slice_get (jobs_of (Parse f columns)) place ≡ Some (Column f place)
column_at f columns place less = got (Parse f columns) (Column f place) place (refl, less, refl)

pub close_at : (f columns place : ℕ) → columns ≤ place → place < columns + 1 → slice_get (jobs_of (Parse f columns)) place ≡ Some (Close f)
close_at f columns place le less = got (Parse f columns) (Close f) place (refl, omega (arith, le, less))

split : (place wide : ℕ) → place ≢ 0 → place ≡ 1 + ((place - 1) / wide * wide + (place - 1) % wide)
split place wide some = let e = div-add-mod' (place - 1) wide in omega (arith, e, some)

pub rows_at : (f columns rows place : ℕ) → place ≢ 0 → (place - 1) / (columns + 1) < rows → (place - 1) % (columns + 1) ≢ columns
    → slice_get (jobs_of (Build f columns rows None)) place ≡ Some (Rows f ((place - 1) % (columns + 1)) ((place - 1) / (columns + 1)))
rows_at f columns rows place some row column =
    let small : (place - 1) % (columns + 1) < columns + 1 = mod-lt (place - 1) (let z : 0 < columns + 1 = omega arith in z) in
    got (Build f columns rows None) (Rows f ((place - 1) % (columns + 1)) ((place - 1) / (columns + 1))) place (refl, omega (arith, small, column), row, split place (columns + 1) some)

pub filter_at : (f columns rows place : ℕ) → place ≢ 0 → (place - 1) / (columns + 1) < rows → (place - 1) % (columns + 1) ≡ columns
    → slice_get (jobs_of (Build f columns rows None)) place ≡ Some (Filter f ((place - 1) / (columns + 1)))
filter_at f columns rows place some row column =
    let s = split place (columns + 1) some in
    got (Build f columns rows None) (Filter f ((place - 1) / (columns + 1))) place (refl, row, omega (arith, s, column))

pub write_at : (f columns rows place : ℕ) → place ≢ 0 → rows ≤ (place - 1) / (columns + 1) → place < rows * (columns + 1) + 2
    → slice_get (jobs_of (Build f columns rows None)) place ≡ Some (Write f)
write_at f columns rows place some row less =
    let s = split place (columns + 1) some in
    let m = mul-le-mul_right (columns + 1) row in
    got (Build f columns rows None) (Write f) place (refl, omega (arith, s, m, less))

-- the number of the next frame is below that of places of segments
next_of : (segments : List Segment) (place : ℕ) (s : Segment) → InOrder segments → slice_get segments place ≡ Some s → place < 2 ^ 64 → HasNext s
next_of segments place Opening h e fits = tt
next_of segments place (Parse f columns) h e fits = tt
next_of segments place (Build f columns rows shown) h e fits = let at = h.places place (Build f columns rows shown) e in omega (arith, at, fits)
next_of segments place (Last f) h e fits = tt

pub has_next : (segments : List Segment) (place : ℕ) → InOrder segments → place < length segments → place < 2 ^ 64 → HasNext (get_or segments place Opening)
has_next segments place h inside fits = next_of segments place (get_or segments place Opening) h (slice_get-get_or segments place Opening inside) fits

cell : (segments : List Segment) (place : ℕ) → place < length segments → drop place segments ≡ get_or segments place Opening ∷ drop (place + 1) segments
cell segments place inside = drop_more segments place Opening inside

pub found : (segments : List Segment) (place ticket k : ℕ) (job : JobName) → place < length segments → job_at segments ticket ≡ job_at (drop place segments) k
    → slice_get (jobs_of (get_or segments place Opening)) k ≡ Some job → Some job ≡ job_at segments ticket
found segments place ticket k job inside so there =
    sym (so ∙ ap (λ s. job_at s k) (cell segments place inside) ∙ got_left (jobs_of (get_or segments place Opening)) (jobs_in (drop (place + 1) segments)) k job there)

behind : {A : Type 0} (xs ys : List A) (k : ℕ) → length xs ≤ k → slice_get (xs ++ ys) k ≡ slice_get ys (k - length xs)
behind [] ys k le = ap (λ i. slice_get ys i) (omega arith)
behind (x ∷ xs) ys zero le = absurd (omega (arith, le))
behind (x ∷ xs) ys (suc k) le = behind xs ys k (omega (arith, le)) ∙ ap (λ i. slice_get ys i) (omega arith)

pub goes_on : (segments : List Segment) (place ticket k jobs : ℕ) → place < length segments → job_at segments ticket ≡ job_at (drop place segments) k
    → jobs ≡ length (jobs_of (get_or segments place Opening)) → jobs ≤ k → job_at segments ticket ≡ job_at (drop (place + 1) segments) (k - jobs)
goes_on segments place ticket k jobs inside so is le =
    so ∙ ap (λ s. job_at s k) (cell segments place inside)
    ∙ behind (jobs_of (get_or segments place Opening)) (jobs_in (drop (place + 1) segments)) k (omega (arith, is, le))
    ∙ ap (λ n. job_at (drop (place + 1) segments) (k - n)) (sym is)

jobs_append : (xs ys : List Segment) → jobs_in (xs ++ ys) ≡ jobs_in xs ++ jobs_in ys
jobs_append [] ys = refl
jobs_append (x ∷ xs) ys = ap (λ l. jobs_of x ++ l) (jobs_append xs ys) ∙ sym (append_assoc (jobs_of x) (jobs_in xs) (jobs_in ys))

pub from_mark : (segments : List Segment) (mark : Mark) (ticket : ℕ) → IsMark segments mark → mark.ticket ≤ ticket
    → job_at segments ticket ≡ job_at (drop mark.segment segments) (ticket - mark.ticket)
from_mark segments mark ticket is le =
    let parts : jobs_in segments ≡ jobs_in (take mark.segment segments) ++ jobs_in (drop mark.segment segments) =
    ap jobs_in (sym (take-append-drop mark.segment segments)) ∙ jobs_append (take mark.segment segments) (drop mark.segment segments) in
    ap (λ l. slice_get l ticket) parts
    ∙ behind (jobs_in (take mark.segment segments)) (jobs_in (drop mark.segment segments)) ticket (let i = is.1 in omega (arith, i, le))
    ∙ ap (λ n. job_at (drop mark.segment segments) (ticket - n)) (sym is.1)

pub mark_moves : (segments : List Segment) (mark : Mark) (jobs : ℕ) → mark.segment < length segments → IsMark segments mark → jobs ≡ length (jobs_of (get_or segments mark.segment Opening))
    → IsMark segments (record { segment = mark.segment + 1; ticket = mark.ticket + jobs })
mark_moves segments mark jobs inside is e =
    let more : take (mark.segment + 1) segments ≡ take mark.segment segments ++ get_or segments mark.segment Opening ∷ [] = take_more segments mark.segment Opening inside in
    let joined = jobs_append (take mark.segment segments) (get_or segments mark.segment Opening ∷ []) in
    let all : jobs_in (take (mark.segment + 1) segments) ≡ jobs_in (take mark.segment segments) ++ (jobs_of (get_or segments mark.segment Opening) ++ []) = ap jobs_in more ∙ joined in
    let long = ap length all in
    let l = length-append (jobs_in (take mark.segment segments)) (jobs_of (get_or segments mark.segment Opening) ++ []) in
    let n = length-append (jobs_of (get_or segments mark.segment Opening)) [] in
    let i = is.1 in
    (omega (arith, inside), omega (arith, long, l, n, i, e))

pub mark_stays : (segments : List Segment) (o : Option Segment) (mark : Mark) → IsMark segments mark → IsMark (and_published segments o) mark
mark_stays segments None mark is = is
mark_stays segments (Some s) mark is =
    let l = length-append segments (s ∷ []) in
    let i = is.0 in
    (omega (arith, l, i), is.1 ∙ ap (λ x. length (jobs_in x)) (sym (take-append-le mark.segment segments (s ∷ []) i)))

pub goes_from : (segments : List Segment) (mark : Mark) (ticket jobs : ℕ) → mark.segment < length segments → job_at segments ticket ≡ job_at (drop mark.segment segments) (ticket - mark.ticket)
    → jobs ≡ length (jobs_of (get_or segments mark.segment Opening)) → jobs ≤ ticket - mark.ticket
    → job_at segments ticket ≡ job_at (drop (mark.segment + 1) segments) (ticket - (mark.ticket + jobs))
goes_from segments mark ticket jobs inside so is le =
    goes_on segments mark.segment ticket (ticket - mark.ticket) jobs inside so is le ∙ ap (λ n. job_at (drop (mark.segment + 1) segments) n) (omega arith)
