-- The frames one after another, by their sizes.
use Rattle.std.proofs.Common.{◌≡◌, ℕ, suc, ◌+◌, ◌-◌, ◌*◌, ◌<◌, ◌≤◌, List, [], ◌∷◌, ◌++◌, length, take, drop, refl, sym, ap, ◌∙◌, arith, length-drop, append_assoc, Bool, true, false}
use Rattle.std.proofs.lemmas.List.{append-nil, length-append, take_rest}
use Rattle.std.proofs.lemmas.List.Sums.{sum_by-cons}
use Rattle.std.specs.Prelude.{Ok, Err, if◌then◌else◌, sum, nat_lt, nat_eq}
use borrow.Author.Tests.{ltb-true, ltb-false, eqb-true}
use Rattle.byteorder.specs.Endian.{little_number}
use Rattle.vp9_types.specs.declared.job.Span.{Span}
use Rattle.vp9_types.specs.declared.rule.Rule.TheVariants.{SuperframeSizes}
use Rattle.superframe_index.specs.declared.index.Index.{Index}
use Rattle.superframe_index.specs.PayloadFrames.{IsPlaced, sizes_of, sizes_from, spans_from, frames_within}

-- a fact on what an `if` gives, by what its test says
pub by_test : {X : Type 0} (P : X → Type 0) (b : Bool) (x y : X) → (b ≡ true → P x) → (b ≡ false → P y) → P (if b then x else y)
by_test P true x y holds fails = holds refl
by_test P false x y holds fails = fails refl

-- the first of the sizes are taken, and end at a place within the room; the others are written in the bytes that are left
pub record HasTaken (room frames width : ℕ) (sizes : List ℕ) (taken at : ℕ) (bytes : List ℕ) (spans : List Span) : Type 0 where
  pub inside : at ≤ room
  pub enough : width * (frames - taken) ≤ length bytes
  pub few : length spans ≤ taken
  pub total : sum sizes ≡ at + sum (sizes_from (frames - taken) width bytes)
  pub whole : spans_from 0 sizes ≡ spans ++ spans_from at (sizes_from (frames - taken) width bytes)

pub one_more : (m n : ℕ) → n < m → m - n ≡ suc (m - (n + 1))
one_more m n h = omega arith

pub next_size : (frames width taken : ℕ) (bytes : List ℕ) → taken < frames
    → sizes_from (frames - taken) width bytes ≡ little_number width (take width bytes) ∷ sizes_from (frames - (taken + 1)) width (drop width bytes)
next_size frames width taken bytes more = ap (λ n. sizes_from n width bytes) (one_more frames taken more)

pub sum_more : (x : ℕ) (xs : List ℕ) → sum (x ∷ xs) ≡ x + sum xs
sum_more x xs = sum_by-cons (λ n. n) x xs

pub enough_more : (frames width taken : ℕ) → taken < frames → width * (frames - taken) ≡ width * (frames - (taken + 1)) + width
enough_more frames width taken more = omega (arith, ap (λ n. width * n) (one_more frames taken more))

pub spans_none : (at : ℕ) (sizes : List ℕ) (size : ℕ) → size ≡ 0 → spans_from at (size ∷ sizes) ≡ spans_from at sizes
spans_none at sizes size none = ap (λ n. spans_from at (n ∷ sizes)) none

pub spans_some : (at : ℕ) (sizes : List ℕ) (size : ℕ) → 0 < size
    → spans_from at (size ∷ sizes) ≡ record { from = at; to = at + size } ∷ spans_from (at + size) sizes
spans_some at sizes size some =
    by_test (λ spans. spans ≡ record { from = at; to = at + size } ∷ spans_from (at + size) sizes) (nat_eq size 0) _ _
    (λ t. let e = eqb-true size 0 t in absurd (omega arith)) (λ t. refl)

module _ {room frames width : ℕ} {sizes : List ℕ} {taken at : ℕ} {bytes : List ℕ} {spans : List Span}
    (h : HasTaken room frames width sizes taken at bytes spans) (size : ℕ) (is_size : size ≡ little_number width (take width bytes)) where
  total_more : taken < frames → sum sizes ≡ at + (size + sum (sizes_from (frames - (taken + 1)) width (drop width bytes)))
  total_more more = omega (
    arith,
    h.total,
    is_size,
    ap sum (next_size frames width taken bytes more),
    sum_more (little_number width (take width bytes)) (sizes_from (frames - (taken + 1)) width (drop width bytes)),
  )

  spans_more : taken < frames → spans_from 0 sizes ≡ spans ++ spans_from at (size ∷ sizes_from (frames - (taken + 1)) width (drop width bytes))
  spans_more more =
      h.whole ∙ ap (λ xs. spans ++ spans_from at xs)
      (next_size frames width taken bytes more ∙ ap (λ n. n ∷ sizes_from (frames - (taken + 1)) width (drop width bytes)) (sym is_size))

  -- an entry of size 0 has no frame
  pub takes_none : taken < frames → size ≡ 0 → HasTaken room frames width sizes (taken + 1) at (drop width bytes) spans
  takes_none more none = record {
    inside = h.inside;
    enough = omega (arith, h.enough, enough_more frames width taken more, length-drop width bytes);
    few = omega (arith, h.few);
    total = omega (arith, total_more more);
    whole = spans_more more ∙ ap (λ xs. spans ++ xs) (spans_none at (sizes_from (frames - (taken + 1)) width (drop width bytes)) size none);
  }

  pub takes_some : taken < frames → 0 < size → at + size ≤ room
      → HasTaken room frames width sizes (taken + 1) (at + size) (drop width bytes) (spans ++ record { from = at; to = at + size } ∷ [])
  takes_some more some fits = record {
    inside = fits;
    enough = omega (arith, h.enough, enough_more frames width taken more, length-drop width bytes);
    few = omega (arith, h.few, length-append spans (record { from = at; to = at + size } ∷ []));
    total = omega (arith, total_more more);
    whole = spans_more more ∙ ap (λ xs. spans ++ xs) (spans_some at (sizes_from (frames - (taken + 1)) width (drop width bytes)) size some)
        ∙ sym (append_assoc spans (record { from = at; to = at + size } ∷ []) (spans_from (at + size) (sizes_from (frames - (taken + 1)) width (drop width bytes))));
  }

  -- a size that doesn't fit in makes the sum too large
  pub breaks : taken < frames → room < at + size → frames_within room sizes ≡ Err SuperframeSizes
  unfolding frames_within
  breaks more long =
      by_test (λ r. r ≡ Err SuperframeSizes) (nat_lt room (sum sizes)) _ _ (λ t. refl)
      (λ t. let e = ltb-false room (sum sizes) t in absurd (omega (arith, total_more more)))

pub takes_all : {room frames width : ℕ} {sizes : List ℕ} {taken at : ℕ} {bytes : List ℕ} {spans : List Span}
    → HasTaken room frames width sizes taken at bytes spans → frames ≤ taken → frames_within room sizes ≡ Ok spans
unfolding frames_within
takes_all {room} {frames} {width} {sizes} {taken} {at} {bytes} {spans} h ended =
    let none : frames - taken ≡ 0 = omega arith in
    let total : sum sizes ≡ at = h.total ∙ ap (λ n. at + sum (sizes_from n width bytes)) none ∙ omega arith in
    let whole : spans_from 0 sizes ≡ spans = h.whole ∙ ap (λ n. spans ++ spans_from at (sizes_from n width bytes)) none ∙ append-nil spans in
    by_test (λ r. r ≡ Ok spans) (nat_lt room (sum sizes)) _ _
    (λ t. let e = ltb-true room (sum sizes) t in absurd (omega (arith, h.inside)))
    (λ t. ap Ok whole)

pub starts : (payload : List ℕ) (index : Index) → IsPlaced payload index
    → HasTaken index.from index.frames index.size_bytes (sizes_of payload index) 0 0 (take (length payload - (index.from + 1)) (drop (index.from + 1) payload)) []
unfolding sizes_of
starts payload index placed =
    let rest : take (length payload - (index.from + 1)) (drop (index.from + 1) payload) ≡ drop (index.from + 1) payload = take_rest payload (index.from + 1) in
    let all : index.frames - 0 ≡ index.frames = omega arith in
    let same : sizes_from (index.frames - 0) index.size_bytes (take (length payload - (index.from + 1)) (drop (index.from + 1) payload))
    ≡ sizes_from index.frames index.size_bytes (drop (index.from + 1) payload) =
    ap (λ n. sizes_from n index.size_bytes (take (length payload - (index.from + 1)) (drop (index.from + 1) payload))) all
    ∙ ap (sizes_from index.frames index.size_bytes) rest in
    record {
      inside = omega arith;
      enough = omega (arith, placed.ends, ap length rest, length-drop (index.from + 1) payload, ap (λ n. index.size_bytes * n) all);
      few = omega arith;
      total = sym (omega arith ∙ ap sum same);
      whole = sym (ap (spans_from 0) same);
    }
