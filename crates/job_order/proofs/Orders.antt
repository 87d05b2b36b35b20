-- Tickets by segments, and places in them.
use Rattle.std.proofs.Common.{◌≡◌, ℕ, zero, suc, ◌+◌, ◌*◌, ◌<◌, ◌≤◌, ⊎_elim, refl, sym, ◌∙◌, ap, subst, List, [], ◌∷◌, ◌++◌, length, map, flat_map, slice_get, Option, Some, arith, length-append}
use Rattle.std.specs.List.{range_with_len}
use Rattle.std.proofs.lemmas.Option.{none-some, same_Some, slice_get_within}
use Rattle.vp9_types.specs.declared.job.JobName.{JobName}
use Rattle.vp9_types.specs.declared.job.JobName.TheVariants.{Head, Column, Close, Rows, Filter, Write, End}
use Rattle.job_order.specs.declared.segment.Segment.{Segment}
use Rattle.job_order.specs.declared.segment.Segment.TheVariants.{Opening, Parse, Build, Last}
use Rattle.job_order.specs.declared.segment.Shown.{Shown}
use Rattle.job_order.specs.JobSegments.{jobs_of, jobs_in, job_at, row_jobs, IsBelow}
use Rattle.job_order.proofs.Places.{got_left, got_right, got_either, IsBehindIn, only, of_range, in_range, length_made, of_rows, in_rows, length_rows}

-- the job has this place in its segment
abbrev pub StandsIn : Segment → JobName → ℕ → Type 0
StandsIn Opening (Head f) k = (f ≡ 0) × (k ≡ 0)
StandsIn (Parse g columns) (Column f c) k = (f ≡ g) × (c < columns) × (k ≡ c)
StandsIn (Parse g columns) (Close f) k = (f ≡ g) × (k ≡ columns)
StandsIn (Build g columns rows shown) (Head f) k = (f ≡ g + 1) × (k ≡ 0)
StandsIn (Build g columns rows shown) (Rows f c r) k = (f ≡ g) × (c < columns) × (r < rows) × (k ≡ 1 + (r * (columns + 1) + c))
StandsIn (Build g columns rows shown) (Filter f r) k = (f ≡ g) × (r < rows) × (k ≡ 1 + (r * (columns + 1) + columns))
StandsIn (Build g columns rows shown) (Write f) k = (f ≡ g) × (k ≡ 1 + rows * (columns + 1))
StandsIn (Last g) (End f) k = (f ≡ g) × (k ≡ 0)
StandsIn _ _ k = ⊥

pub length_row : (f columns r : ℕ) → length (row_jobs f columns r) ≡ columns + 1
length_row f columns r =
    let all = length-append (map (λ c. Rows f c r) (range_with_len 0 columns)) (Filter f r ∷ []) in
    let made = length_made (λ c. Rows f c r) columns 0 in omega (arith, all, made)

stands_parse : (g columns k : ℕ) (job : JobName) → slice_get (jobs_of (Parse g columns)) k ≡ Some job → StandsIn (Parse g columns) job k
stands_parse g columns k job e =
    ⊎_elim
    (λ (h : slice_get (map (λ c. Column g c) (range_with_len 0 columns)) k ≡ Some job).
    let one = of_range (λ c. Column g c) columns 0 k job h in
    let there : StandsIn (Parse g columns) (Column g (0 + k)) k = (refl, omega (arith, one.0), omega arith) in
    subst (λ j. StandsIn (Parse g columns) j k) one.1 there)
    (λ (h : IsBehindIn (map (λ c. Column g c) (range_with_len 0 columns)) (Close g ∷ []) k job).
    let one = only (Close g) job h.place h.there in
    let there : StandsIn (Parse g columns) (Close g) k = (refl, let i = h.is in let l = length_made (λ c. Column g c) columns 0 in omega (arith, i, l, one.0)) in
    subst (λ j. StandsIn (Parse g columns) j k) one.1 there)
    (got_either (map (λ c. Column g c) (range_with_len 0 columns)) (Close g ∷ []) k job e)

stands_row : (g columns rows r k : ℕ) (shown : Option Shown) (job : JobName) → r < rows → slice_get (row_jobs g columns r) k ≡ Some job
    → StandsIn (Build g columns rows shown) job (1 + (r * (columns + 1) + k))
stands_row g columns rows r k shown job less e =
    ⊎_elim
    (λ (h : slice_get (map (λ c. Rows g c r) (range_with_len 0 columns)) k ≡ Some job).
    let one = of_range (λ c. Rows g c r) columns 0 k job h in
    let there : StandsIn (Build g columns rows shown) (Rows g (0 + k) r) (1 + (r * (columns + 1) + k)) = (refl, omega (arith, one.0), less, omega arith) in
    subst (λ j. StandsIn (Build g columns rows shown) j (1 + (r * (columns + 1) + k))) one.1 there)
    (λ (h : IsBehindIn (map (λ c. Rows g c r) (range_with_len 0 columns)) (Filter g r ∷ []) k job).
    let one = only (Filter g r) job h.place h.there in
    let there : StandsIn (Build g columns rows shown) (Filter g r) (1 + (r * (columns + 1) + k)) =
    (refl, less, let i = h.is in let l = length_made (λ c. Rows g c r) columns 0 in omega (arith, i, l, one.0)) in
    subst (λ j. StandsIn (Build g columns rows shown) j (1 + (r * (columns + 1) + k))) one.1 there)
    (got_either (map (λ c. Rows g c r) (range_with_len 0 columns)) (Filter g r ∷ []) k job e)

stands_build : (g columns rows k : ℕ) (shown : Option Shown) (job : JobName) → slice_get (jobs_of (Build g columns rows shown)) k ≡ Some job
    → StandsIn (Build g columns rows shown) job k
stands_build g columns rows zero shown job e =
    let there : StandsIn (Build g columns rows shown) (Head (g + 1)) 0 = (refl, refl) in
    subst (λ j. StandsIn (Build g columns rows shown) j 0) (same_Some (Head (g + 1)) job e) there
stands_build g columns rows (suc k) shown job e =
    let all = flat_map (row_jobs g columns) (range_with_len 0 rows) in
    ⊎_elim
    (λ (h : slice_get (flat_map (row_jobs g columns) (range_with_len 0 rows)) k ≡ Some job).
    let one = of_rows (row_jobs g columns) (columns + 1) (length_row g columns) rows 0 k job h in
    let there : StandsIn (Build g columns rows shown) job (1 + (one.row * (columns + 1) + one.place)) =
    stands_row g columns rows one.row one.place shown job one.inside
    (subst (λ r. slice_get (row_jobs g columns r) one.place ≡ Some job) (let z : 0 + one.row ≡ one.row = omega arith in z) one.there) in
    subst (λ i. StandsIn (Build g columns rows shown) job i) (let i = one.is in let z : 1 + (one.row * (columns + 1) + one.place) ≡ suc k = omega (arith, i) in z) there)
    (λ (h : IsBehindIn (flat_map (row_jobs g columns) (range_with_len 0 rows)) (Write g ∷ []) k job).
    let one = only (Write g) job h.place h.there in
    let there : StandsIn (Build g columns rows shown) (Write g) (suc k) =
    (refl, let i = h.is in let l = length_rows (row_jobs g columns) (columns + 1) (length_row g columns) rows 0 in omega (arith, i, l, one.0)) in
    subst (λ j. StandsIn (Build g columns rows shown) j (suc k)) one.1 there)
    (got_either (flat_map (row_jobs g columns) (range_with_len 0 rows)) (Write g ∷ []) k job e)

-- what stands at a place of a segment stands there
pub stands : (s : Segment) (k : ℕ) (job : JobName) → slice_get (jobs_of s) k ≡ Some job → StandsIn s job k
stands Opening k job e =
    let one = only (Head 0) job k e in
    let there : StandsIn Opening (Head 0) k = (refl, one.0) in
    subst (λ j. StandsIn Opening j k) one.1 there
stands (Parse g columns) k job e = stands_parse g columns k job e
stands (Build g columns rows shown) k job e = stands_build g columns rows k shown job e
stands (Last g) k job e =
    let one = only (End g) job k e in
    let there : StandsIn (Last g) (End g) k = (refl, one.0) in
    subst (λ j. StandsIn (Last g) j k) one.1 there

got_same : (s : Segment) (k n : ℕ) (job other : JobName) → k ≡ n → job ≡ other → slice_get (jobs_of s) n ≡ Some other → slice_get (jobs_of s) k ≡ Some job
got_same s k n job other same is e = subst (λ i. slice_get (jobs_of s) i ≡ Some job) (sym same) (e ∙ ap Some (sym is))

got_column : (g columns c : ℕ) → c < columns → slice_get (jobs_of (Parse g columns)) c ≡ Some (Column g c)
got_column g columns c less =
    got_left (map (λ c. Column g c) (range_with_len 0 columns)) (Close g ∷ []) c (Column g c)
    (in_range (λ c. Column g c) columns 0 c less ∙ ap (λ i. Some (Column g i)) (omega arith))

got_close : (g columns : ℕ) → slice_get (jobs_of (Parse g columns)) columns ≡ Some (Close g)
got_close g columns =
    let l = length_made (λ c. Column g c) columns 0 in
    subst (λ i. slice_get (jobs_of (Parse g columns)) i ≡ Some (Close g)) (let z : length (map (λ c. Column g c) (range_with_len 0 columns)) + 0 ≡ columns = omega (arith, l) in z)
    (got_right (map (λ c. Column g c) (range_with_len 0 columns)) (Close g ∷ []) 0 (Close g) refl)

got_row_column : (g columns r c : ℕ) → c < columns → slice_get (row_jobs g columns r) c ≡ Some (Rows g c r)
got_row_column g columns r c less =
    got_left (map (λ c. Rows g c r) (range_with_len 0 columns)) (Filter g r ∷ []) c (Rows g c r)
    (in_range (λ c. Rows g c r) columns 0 c less ∙ ap (λ i. Some (Rows g i r)) (omega arith))

got_row_filter : (g columns r : ℕ) → slice_get (row_jobs g columns r) columns ≡ Some (Filter g r)
got_row_filter g columns r =
    let l = length_made (λ c. Rows g c r) columns 0 in
    subst (λ i. slice_get (row_jobs g columns r) i ≡ Some (Filter g r)) (let z : length (map (λ c. Rows g c r) (range_with_len 0 columns)) + 0 ≡ columns = omega (arith, l) in z)
    (got_right (map (λ c. Rows g c r) (range_with_len 0 columns)) (Filter g r ∷ []) 0 (Filter g r) refl)

got_in_rows : (g columns rows r k : ℕ) (shown : Option Shown) (job : JobName) → r < rows → slice_get (row_jobs g columns r) k ≡ Some job
    → slice_get (jobs_of (Build g columns rows shown)) (1 + (r * (columns + 1) + k)) ≡ Some job
got_in_rows g columns rows r k shown job less e =
    subst (λ i. slice_get (jobs_of (Build g columns rows shown)) i ≡ Some job) (let z : suc (r * (columns + 1) + k) ≡ 1 + (r * (columns + 1) + k) = omega arith in z)
    (got_left (flat_map (row_jobs g columns) (range_with_len 0 rows)) (Write g ∷ []) (r * (columns + 1) + k) job
    (in_rows (row_jobs g columns) (columns + 1) (length_row g columns) rows 0 r k job less
    (subst (λ i. slice_get (row_jobs g columns i) k ≡ Some job) (let z : r ≡ 0 + r = omega arith in z) e)))

got_write : (g columns rows : ℕ) (shown : Option Shown) → slice_get (jobs_of (Build g columns rows shown)) (1 + rows * (columns + 1)) ≡ Some (Write g)
got_write g columns rows shown =
    let l = length_rows (row_jobs g columns) (columns + 1) (length_row g columns) rows 0 in
    subst (λ i. slice_get (jobs_of (Build g columns rows shown)) i ≡ Some (Write g))
    (let z : suc (length (flat_map (row_jobs g columns) (range_with_len 0 rows)) + 0) ≡ 1 + rows * (columns + 1) = omega (arith, l) in z)
    (got_right (flat_map (row_jobs g columns) (range_with_len 0 rows)) (Write g ∷ []) 0 (Write g) refl)

-- and it is there
pub got : (s : Segment) (job : JobName) (k : ℕ) → StandsIn s job k → slice_get (jobs_of s) k ≡ Some job
got Opening (Head f) k h = got_same Opening k 0 (Head f) (Head 0) h.1 (ap Head h.0) refl
got (Parse g columns) (Column f c) k h = got_same (Parse g columns) k c (Column f c) (Column g c) h.2 (ap (λ i. Column i c) h.0) (got_column g columns c h.1)
got (Parse g columns) (Close f) k h = got_same (Parse g columns) k columns (Close f) (Close g) h.1 (ap Close h.0) (got_close g columns)
got (Build g columns rows shown) (Head f) k h = got_same (Build g columns rows shown) k 0 (Head f) (Head (g + 1)) h.1 (ap Head h.0) refl
got (Build g columns rows shown) (Rows f c r) k h =
    got_same (Build g columns rows shown) k (1 + (r * (columns + 1) + c)) (Rows f c r) (Rows g c r) h.3 (ap (λ i. Rows i c r) h.0)
    (got_in_rows g columns rows r c shown (Rows g c r) h.2 (got_row_column g columns r c h.1))
got (Build g columns rows shown) (Filter f r) k h =
    got_same (Build g columns rows shown) k (1 + (r * (columns + 1) + columns)) (Filter f r) (Filter g r) h.2 (ap (λ i. Filter i r) h.0)
    (got_in_rows g columns rows r columns shown (Filter g r) h.1 (got_row_filter g columns r))
got (Build g columns rows shown) (Write f) k h =
    got_same (Build g columns rows shown) k (1 + rows * (columns + 1)) (Write f) (Write g) h.1 (ap Write h.0) (got_write g columns rows shown)
got (Last g) (End f) k h = got_same (Last g) k 0 (End f) (End g) h.1 (ap End h.0) refl
got _ _ k h = absurd h

-- how many tickets the segments before a place have
abbrev pub start : List Segment → ℕ → ℕ
start [] place = 0
start (s ∷ rest) zero = 0
start (s ∷ rest) (suc place) = length (jobs_of s) + start rest place

-- where a ticket is
pub record IsAt (segments : List Segment) (ticket : ℕ) (job : JobName) : Type 0 where
  pub place : ℕ
  pub segment : Segment
  pub there : slice_get segments place ≡ Some segment
  pub k : ℕ
  pub stands : StandsIn segment job k
  pub is : ticket ≡ start segments place + k

pub find : (segments : List Segment) (ticket : ℕ) (job : JobName) → job_at segments ticket ≡ Some job → IsAt segments ticket job
find [] ticket job e = absurd (none-some job e)
find (s ∷ rest) ticket job e =
    ⊎_elim
    (λ (h : slice_get (jobs_of s) ticket ≡ Some job). record { place = 0; segment = s; there = refl; k = ticket; stands = stands s ticket job h; is = omega arith })
    (λ (h : IsBehindIn (jobs_of s) (jobs_in rest) ticket job).
    let more = find rest h.place job h.there in
    record { place = suc more.place; segment = more.segment; there = more.there; k = more.k; stands = more.stands; is = let i = more.is in let j = h.is in omega (arith, i, j) })
    (got_either (jobs_of s) (jobs_in rest) ticket job e)

pub ticket_of : (segments : List Segment) (place : ℕ) (s : Segment) (job : JobName) (k : ℕ) → slice_get segments place ≡ Some s → StandsIn s job k
    → job_at segments (start segments place + k) ≡ Some job
ticket_of [] place s job k e h = absurd (none-some s e)
ticket_of (x ∷ rest) zero s job k e h =
    subst (λ i. slice_get (jobs_of x ++ jobs_in rest) i ≡ Some job) (let z : k ≡ 0 + k = omega arith in z)
    (got_left (jobs_of x) (jobs_in rest) k job (got x job k (subst (λ y. StandsIn y job k) (sym (same_Some x s e)) h)))
ticket_of (x ∷ rest) (suc place) s job k e h =
    subst (λ i. slice_get (jobs_of x ++ jobs_in rest) i ≡ Some job) (let z : length (jobs_of x) + (start rest place + k) ≡ length (jobs_of x) + start rest place + k = omega arith in z)
    (got_right (jobs_of x) (jobs_in rest) (start rest place + k) job (ticket_of rest place s job k e h))

starts : (segments : List Segment) (place later : ℕ) (s : Segment) → slice_get segments place ≡ Some s → place < later → start segments place + length (jobs_of s) ≤ start segments later
starts [] place later s e less = absurd (none-some s e)
starts (x ∷ rest) zero zero s e less = absurd (omega arith)
starts (x ∷ rest) (suc place) zero s e less = absurd (omega arith)
starts (x ∷ rest) zero (suc later) s e less = let l = ap (λ y. length (jobs_of y)) (same_Some x s e) in omega (arith, l)
starts (x ∷ rest) (suc place) (suc later) s e less = let more = starts rest place later s e (omega arith) in omega (arith, more)

-- a job of an earlier segment has a smaller ticket
pub earlier_segment : (segments : List Segment) (place later : ℕ) (s : Segment) (job : JobName) (k n ticket : ℕ) → slice_get segments place ≡ Some s → StandsIn s job k
    → place < later → ticket ≡ start segments later + n → IsBelow segments ticket job
earlier_segment segments place later s job k n ticket e h less is =
    let inside = slice_get_within (jobs_of s) k job (got s job k h) in
    let before = starts segments place later s e less in
    (start segments place + k, omega (arith, inside, before, is), ticket_of segments place s job k e h)

-- and so has one before it in its own
pub same_segment : (segments : List Segment) (place : ℕ) (s : Segment) (job : JobName) (k n ticket : ℕ) → slice_get segments place ≡ Some s → StandsIn s job k
    → k < n → ticket ≡ start segments place + n → IsBelow segments ticket job
same_segment segments place s job k n ticket e h less is = (start segments place + k, omega (arith, less, is), ticket_of segments place s job k e h)
