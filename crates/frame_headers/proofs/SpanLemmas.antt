-- Tiles one after another.
use Rattle.std.proofs.Common.{◌≡◌, ℕ, suc, ◌+◌, ◌-◌, ◌<◌, List, [], ◌∷◌, ◌++◌, length, refl, ap, sym, subst, ◌∙◌, arith, true, false}
use Rattle.std.proofs.lemmas.List.{length-append}
use Rattle.std.specs.Prelude.{Result, Ok, Err, IsOk, IfOk, slice_get, Some}
use Rattle.vp9_types.specs.declared.job.Span.{Span}
use Rattle.vp9_types.specs.declared.rule.Rule.{Rule}
use Rattle.frame_headers.specs.declared.header.Header.{Header}
use Rattle.frame_headers.specs.Spans.{tile_at, in_front, span_then, tiles_from, tile_count, tile_spans}

-- spans, and then those of a result
abbrev pub all_in_front : List Span → Result (List Span) Rule → Result (List Span) Rule
all_in_front [] r = r
all_in_front (span ∷ spans) r = in_front span (all_in_front spans r)

-- of n tiles from a place on, all but the last m were found, and these begin at the later place
pub record HasFound (frame : List ℕ) (n from m at : ℕ) : Type 0 where
  pub front : List Span
  pub counts : length front + m ≡ n
  pub leads : tiles_from frame n from ≡ all_in_front front (tiles_from frame m at)

pub none_found : (frame : List ℕ) (n from : ℕ) → HasFound frame n from (n - 0) from
none_found frame n from =
    let same : n ≡ n - 0 = omega arith in
    record { front = []; counts = omega arith; leads = ap (λ m. tiles_from frame m from) same }

-- one more behind the front
front_more : (front : List Span) (span : Span) (r : Result (List Span) Rule) → all_in_front front (in_front span r) ≡ all_in_front (front ++ span ∷ []) r
front_more [] span r = refl
front_more (s ∷ front) span r = ap (in_front s) (front_more front span r)

front_err : (front : List Span) (rule : Rule) → all_in_front front (Err rule) ≡ Err rule
front_err [] rule = refl
front_err (s ∷ front) rule = ap (in_front s) (front_err front rule)

front_ok : (front rest : List Span) → all_in_front front (Ok rest) ≡ Ok (front ++ rest)
front_ok [] rest = refl
front_ok (s ∷ front) rest = ap (in_front s) (front_ok front rest)

pub one_found : (frame : List ℕ) (n from m at : ℕ) (span : Span) → tile_at frame m at ≡ Ok span → HasFound frame n from (suc m) at → HasFound frame n from m span.to
one_found frame n from m at span is h = record {
  front = h.front ++ span ∷ [];
  counts = let c = h.counts in let l = length-append h.front (span ∷ []) in omega (arith, c, l);
  leads = h.leads ∙ ap (λ t. all_in_front h.front (span_then t (λ s. tiles_from frame m s.to))) is ∙ front_more h.front span (tiles_from frame m span.to);
}

pub found_bad : (frame : List ℕ) (n from m at : ℕ) (rule : Rule) → tile_at frame m at ≡ Err rule → HasFound frame n from (suc m) at → tiles_from frame n from ≡ Err rule
found_bad frame n from m at rule is h =
    h.leads ∙ ap (λ t. all_in_front h.front (span_then t (λ s. tiles_from frame m s.to))) is ∙ front_err h.front rule

pub found_all : (frame : List ℕ) (n from at : ℕ) → HasFound frame n from 0 at → (spans : List Span) × (tiles_from frame n from ≡ Ok spans)
found_all frame n from at h = (h.front ++ [], h.leads ∙ front_ok h.front [])

-- the next tile has the place behind the front
at_place : (front : List Span) (span : Span) (r : Result (List Span) Rule) → IfOk (all_in_front front (in_front span r)) (λ spans. slice_get spans (length front) ≡ Some span)
at_place [] span (Ok spans) = refl
at_place [] span (Err rule) = tt
at_place (s ∷ front) span r = behind s front span (all_in_front front (in_front span r)) (at_place front span r)
  where
    behind : (s : Span) (front : List Span) (span : Span) (r : Result (List Span) Rule) → IfOk r (λ spans. slice_get spans (length front) ≡ Some span)
        → IfOk (in_front s r) (λ spans. slice_get spans (suc (length front)) ≡ Some span)
    behind s front span (Ok spans) h = h
    behind s front span (Err rule) h = tt

read_next : (r : Result (List Span) Rule) (t : Result Span Rule) (front : List Span) (span : Span) (more : Span → Result (List Span) Rule)
    → r ≡ all_in_front front (span_then t more) → t ≡ Ok span → IfOk r (λ spans. slice_get spans (length front) ≡ Some span)
read_next r t front span more is found =
    subst (λ q. IfOk q (λ spans. slice_get spans (length front) ≡ Some span))
    (sym (is ∙ ap (λ u. all_in_front front (span_then u more)) found)) (at_place front span (more span))

-- the tile behind the front is the one of that number
pub found_next : (frame : List ℕ) (n from m at k : ℕ) (span : Span) → tile_at frame m at ≡ Ok span → HasFound frame n from (suc m) at → k + suc m ≡ n
    → IfOk (tiles_from frame n from) (λ spans. slice_get spans k ≡ Some span)
found_next frame n from m at k span is h place =
    let c = h.counts in
    let same : length h.front ≡ k = omega (arith, c, place) in
    subst (λ i. IfOk (tiles_from frame n from) (λ spans. slice_get spans i ≡ Some span)) same
    (read_next (tiles_from frame n from) (tile_at frame m at) h.front span (λ s. tiles_from frame m s.to) h.leads is)

-- the count of those that are left, one by one
pub one_fewer : (frame : List ℕ) (n from i at : ℕ) → i < n → HasFound frame n from (n - i) at → HasFound frame n from (suc (n - 1 - i)) at
one_fewer frame n from i at low h =
    let same : n - i ≡ suc (n - 1 - i) = omega arith in
    subst (λ m. HasFound frame n from m at) same h

pub spans_are : (frame : List ℕ) (header : Header) (compressed : Span) (n : ℕ) → n ≡ tile_count header → tile_spans frame header compressed ≡ tiles_from frame n compressed.to
unfolding tile_spans
spans_are frame header compressed n h = ap (λ m. tiles_from frame m compressed.to) (sym h)

ok_is : (r : Result (List Span) Rule) (spans : List Span) → r ≡ Ok spans → IsOk r
ok_is r spans h = subst (λ q. IsOk q) (sym h) refl

pub are_there : (frame : List ℕ) (header : Header) (compressed : Span) (n at : ℕ) → n ≡ tile_count header
    → HasFound frame n compressed.to 0 at → IsOk (tile_spans frame header compressed)
are_there frame header compressed n at is h =
    let all = found_all frame n compressed.to at h in
    ok_is (tile_spans frame header compressed) all.0 (spans_are frame header compressed n is ∙ all.1)

-- tiles that were tested break no rule
pub not_bad : (frame : List ℕ) (header : Header) (compressed : Span) (n m at : ℕ) (rule : Rule) → n ≡ tile_count header → IsOk (tile_spans frame header compressed)
    → tile_at frame m at ≡ Err rule → HasFound frame n compressed.to (suc m) at → ⊥
not_bad frame header compressed n m at rule is tested bad h =
    let ok : IsOk {T = List Span} {E = Rule} (Err rule) = subst (λ r. IsOk r) (spans_are frame header compressed n is ∙ found_bad frame n compressed.to m at rule bad h) tested in
    let clash : false ≡ true = ok in absurd cc

pub next_is : (frame : List ℕ) (header : Header) (compressed : Span) (n m at k : ℕ) (span : Span) → n ≡ tile_count header
    → tile_at frame m at ≡ Ok span → HasFound frame n compressed.to (suc m) at → k + suc m ≡ n
    → IfOk (tile_spans frame header compressed) (λ spans. slice_get spans k ≡ Some span)
next_is frame header compressed n m at k span is found h place =
    subst (λ r. IfOk r (λ spans. slice_get spans k ≡ Some span)) (sym (spans_are frame header compressed n is))
    (found_next frame n compressed.to m at k span found h place)
