-- A payload has the frames that are computed, and no others.
use Rattle.std.proofs.Common.{◌≡◌, inl, inr, ℕ, zero, suc, ◌+◌, ◌-◌, ◌*◌, ◌/◌, ◌<◌, ◌≤◌, List, [], ◌∷◌, ◌++◌, length, map, take, drop, refl, sym, ap, subst, ◌∙◌, arith, length-drop, length-append, append_assoc, Bool, true, false, not}
use Rattle.std.specs.Prelude.{Option, Some, None, Result, Ok, Err, cond, nat_eq, nat_lt, sum, slice_range, slice_index}
use Rattle.std.specs.List.{All, AllByRecursion, concat}
use Rattle.std.proofs.lemmas.List.{append-nil, length-map, take-append-drop, drop-drop, drop_more, drop_all, drop_at, take_at, length-take-le}
use Rattle.std.proofs.lemmas.List.Elements.{All-nil, All-cons}
use Rattle.std.proofs.Math.Seq.{get_or-append_seam}
use borrow.Author.Tests.{ltb-true, ltb-false, eqb-true, eqb-false}
use Rattle.byteorder.specs.Endian.{little_number}
use Rattle.arrayvec.specs.ArrayVec.{ArrayVec}
use Rattle.vp9_types.specs.declared.job.Span.{Span}
use Rattle.vp9_types.specs.declared.rule.Rule.{Rule}
use Rattle.vp9_types.specs.declared.rule.Rule.TheVariants.{SuperframeSizes}
use Rattle.superframe_index.specs.declared.index.Index.{Index}
use Rattle.superframe_index.specs.PayloadFrames.{HasIndex, HasNoIndex, IsSplit, size_bytes, frame_count, non_empty, index_length, index_of, pieces, sizes_from, sizes_of, spans_from, frames_within, frames_by, frames_of, at_spans, LieBetween, IsPart, AreParts, Gives, IsSplitAs}
use Rattle.superframe_index.proofs.Steps.{by_test, sum_more, spans_some}

---- Parts and their sizes ----

-- the parts of these sizes, one after another
cut : List ℕ → List ℕ → List (List ℕ)
cut [] bytes = []
cut (size ∷ sizes) bytes = take size bytes ∷ cut sizes (drop size bytes)

cut_whole : (sizes bytes : List ℕ) → bytes ≡ concat (cut sizes bytes) ++ drop (sum sizes) bytes
unfolding cut
cut_whole [] bytes = refl
cut_whole (size ∷ sizes) bytes =
    sym (take-append-drop size bytes)
    ∙ ap (λ xs. take size bytes ++ xs) (cut_whole sizes (drop size bytes) ∙ ap (λ xs. concat (cut sizes (drop size bytes)) ++ xs) (drop-drop (sum sizes) size bytes ∙ ap (λ n. drop n bytes) (sym (sum_more size sizes))))
    ∙ sym (append_assoc (take size bytes) (concat (cut sizes (drop size bytes))) (drop (sum (size ∷ sizes)) bytes))

cut_sizes : (sizes bytes : List ℕ) → sum sizes ≤ length bytes → map length (cut sizes bytes) ≡ sizes
unfolding cut
cut_sizes [] bytes fits = refl
cut_sizes (size ∷ sizes) bytes fits =
    let first : length (take size bytes) ≡ size = length-take-le size bytes (omega (arith, sum_more size sizes)) in
    let others : map length (cut sizes (drop size bytes)) ≡ sizes =
    cut_sizes sizes (drop size bytes) (omega (arith, sum_more size sizes, length-drop size bytes)) in
    ap (λ n. n ∷ map length (cut sizes (drop size bytes))) first ∙ ap (λ ns. size ∷ ns) others

is_some : (n : ℕ) → 0 < n → nat_eq n 0 ≡ false
is_some n some = by_value (nat_eq n 0) refl where
  by_value : (b : Bool) → nat_eq n 0 ≡ b → b ≡ false
  by_value true e = let none = eqb-true n 0 e in absurd (omega arith)
  by_value false e = refl

-- the bytes at the spans of parts are the parts that aren't empty
at_parts : (payload : List ℕ) (at : ℕ) (parts : List (List ℕ)) (rest : List ℕ) → drop at payload ≡ concat parts ++ rest
    → map (λ span. slice_range payload span.from span.to) (spans_from at (map length parts)) ≡ non_empty parts
at_parts payload at [] rest here = refl
at_parts payload at ([] ∷ parts) rest here = at_parts payload at parts rest here
at_parts payload at ((b ∷ part) ∷ parts) rest here =
    let n = length (b ∷ part) in
    let some : 0 < n = omega arith in
    let first : at + n - at ≡ n = omega arith in
    let split : drop at payload ≡ (b ∷ part) ++ (concat parts ++ rest) = here ∙ append_assoc (b ∷ part) (concat parts) rest in
    let bytes : slice_range payload at (at + n) ≡ b ∷ part =
    ap (λ k. take k (drop at payload)) first ∙ ap (take n) split ∙ take_at (b ∷ part) (concat parts ++ rest) n refl in
    let behind : drop (at + n) payload ≡ concat parts ++ rest =
    sym (drop-drop n at payload) ∙ ap (drop n) split ∙ drop_at (b ∷ part) (concat parts ++ rest) n refl in
    let kept : non_empty ((b ∷ part) ∷ parts) ≡ (b ∷ part) ∷ non_empty parts =
    ap (λ none. cond (not none) ((b ∷ part) ∷ non_empty parts) (non_empty parts)) (is_some n some) in
    ap (map (λ span. slice_range payload span.from span.to)) (spans_some at (map length parts) n some)
    ∙ ap (λ x. x ∷ map (λ span. slice_range payload span.from span.to) (spans_from (at + n) (map length parts))) bytes
    ∙ ap (λ xs. (b ∷ part) ∷ xs) (at_parts payload (at + n) parts rest behind) ∙ sym kept

---- The index ----

length_concat : (parts : List (List ℕ)) (n : ℕ) → AllByRecursion (λ part. length part ≡ n) parts → length (concat parts) ≡ n * length parts
length_concat [] n each = omega arith
length_concat (part ∷ parts) n each =
    omega (arith, length-append part (concat parts), each.0, length_concat parts n each.1)

pieces_whole : (count n : ℕ) (bytes : List ℕ) → bytes ≡ concat (pieces count n bytes) ++ drop (n * count) bytes
pieces_whole zero n bytes = let none : n * 0 ≡ 0 = omega arith in sym (ap (λ k. drop k bytes) none)
pieces_whole (suc count) n bytes =
    let later : n + n * count ≡ n * suc count = omega arith in
    sym (take-append-drop n bytes)
    ∙ ap (λ xs. take n bytes ++ xs) (pieces_whole count n (drop n bytes) ∙ ap (λ xs. concat (pieces count n (drop n bytes)) ++ xs) (drop-drop (n * count) n bytes ∙ ap (λ k. drop k bytes) later))
    ∙ sym (append_assoc (take n bytes) (concat (pieces count n (drop n bytes))) (drop (n * suc count) bytes))

pieces_each : (count n : ℕ) (bytes : List ℕ) → n * count ≤ length bytes → AllByRecursion (λ part. length part ≡ n) (pieces count n bytes)
pieces_each zero n bytes fits = tt
pieces_each (suc count) n bytes fits =
    let later : n + n * count ≡ n * suc count = omega arith in
    (length-take-le n bytes (omega arith), pieces_each count n (drop n bytes) (omega (arith, length-drop n bytes)))

pieces_count : (count n : ℕ) (bytes : List ℕ) → length (pieces count n bytes) ≡ count
pieces_count zero n bytes = refl
pieces_count (suc count) n bytes = ap (λ k. suc k) (pieces_count count n (drop n bytes))

pieces_again : (parts : List (List ℕ)) (n : ℕ) (rest : List ℕ) → AllByRecursion (λ part. length part ≡ n) parts
    → pieces (length parts) n (concat parts ++ rest) ≡ parts
pieces_again [] n rest each = refl
pieces_again (part ∷ parts) n rest each =
    let whole : (part ++ concat parts) ++ rest ≡ part ++ (concat parts ++ rest) = append_assoc part (concat parts) rest in
    let first : take n ((part ++ concat parts) ++ rest) ≡ part = ap (take n) whole ∙ take_at part (concat parts ++ rest) n each.0 in
    let behind : drop n ((part ++ concat parts) ++ rest) ≡ concat parts ++ rest = ap (drop n) whole ∙ drop_at part (concat parts ++ rest) n each.0 in
    ap (λ x. x ∷ pieces (length parts) n (drop n ((part ++ concat parts) ++ rest))) first
    ∙ ap (λ xs. part ∷ pieces (length parts) n xs) behind
    ∙ ap (λ xs. part ∷ xs) (pieces_again parts n rest each.1)

-- what the tests say of an index that passes them
abbrev IsTested : List ℕ → Option Index → Type 0
IsTested payload None = Unit {0}
IsTested payload (Some index) =
    (index.from ≤ length payload) × (index.frames ≤ 8) × HasIndex payload (take index.from payload) (sizes_of payload index)

not_false : (b : Bool) → not b ≡ false → b ≡ true
not_false true e = refl
not_false false e = cc

not_true : (b : Bool) → not b ≡ true → b ≡ false
not_true true e = cc
not_true false e = refl

-- the index, by its place and header
index_at : (payload : List ℕ) (header from : ℕ) → header / 32 ≡ 6 → from + index_length header ≡ length payload
    → slice_index payload from ≡ header → slice_index payload (length payload - 1) ≡ header
    → HasIndex payload (take from payload) (sizes_from (frame_count header) (size_bytes header) (drop (from + 1) payload))
index_at payload header from marked ends first last =
    let n = size_bytes header in
    let count = frame_count header in
    let behind = drop (from + 1) payload in
    let long : length behind ≡ n * count + 1 = omega (arith, ends, length-drop (from + 1) payload) in
    let end : from + 1 + n * count ≡ length payload - 1 = omega (arith, ends) in
    let past : length payload ≤ length payload - 1 + 1 = omega arith in
    let tail : drop (n * count) behind ≡ header ∷ [] =
    drop-drop (n * count) (from + 1) payload ∙ ap (λ k. drop k payload) end
    ∙ drop_more payload (length payload - 1) 0 (omega (arith, ends))
    ∙ ap (λ xs. slice_index payload (length payload - 1) ∷ xs) (drop_all (length payload - 1 + 1) payload past)
    ∙ ap (λ x. x ∷ []) last in
    record {
      index = drop from payload;
      whole = sym (take-append-drop from payload);
      is_index = record {
        header = header;
        written = pieces count n behind;
        is_header = marked;
        whole =
            drop_more payload from 0 (omega (arith, ends)) ∙ ap (λ x. x ∷ behind) first
            ∙ ap (λ xs. header ∷ xs) (pieces_whole count n behind ∙ ap (λ xs. concat (pieces count n behind) ++ xs) tail);
        count = pieces_count count n behind;
        each = pieces_each count n behind (omega (arith, long));
        are_sizes = refl;
      };
    }

is_tested : (payload : List ℕ) → IsTested payload (index_of payload)
unfolding index_of sizes_of
is_tested payload =
    let header = slice_index payload (length payload - 1) in
    let from = length payload - index_length header in
    by_test (IsTested payload) (nat_eq (length payload) 0) _ _ (λ t. tt) (λ a.
    by_test (IsTested payload) (not (nat_eq (header / 32) 6)) _ _ (λ t. tt) (λ b.
    by_test (IsTested payload) (nat_lt (length payload) (index_length header)) _ _ (λ t. tt) (λ d.
    by_test (IsTested payload) (not (nat_eq (slice_index payload from) header)) _ _ (λ t. tt) (λ e.
    let fits : index_length header ≤ length payload = ltb-false _ _ d in
    (omega arith, omega arith, index_at payload header from (eqb-true _ _ (not_false _ b)) (omega (arith, fits)) (eqb-true _ _ (not_false _ e)) refl)))))

-- an index that a payload has is the one that is found, with its sizes
record IsTheIndex (payload front sizes : List ℕ) (index : Index) : Type 0 where
  found : index_of payload ≡ Some index
  from : index.from ≡ length front
  are_sizes : sizes_of payload index ≡ sizes

passes : (payload : List ℕ) (header from : ℕ) → header / 32 ≡ 6 → from + index_length header ≡ length payload
    → slice_index payload from ≡ header → slice_index payload (length payload - 1) ≡ header
    → index_of payload ≡ Some (record { from = from; size_bytes = size_bytes header; frames = frame_count header })
unfolding index_of
passes payload header from marked ends first last =
    let it : Index = record { from = from; size_bytes = size_bytes header; frames = frame_count header } in
    let Is : Option Index → Type 0 = λ o. o ≡ Some (record { from = from; size_bytes = size_bytes header; frames = frame_count header }) in
    let there : length payload - index_length header ≡ from = omega (arith, ends) in
    by_test Is (nat_eq (length payload) 0) _ _ (λ t. let e = eqb-true (length payload) 0 t in absurd (omega (arith, ends))) (λ a.
    rw last
    (by_test Is (not (nat_eq (header / 32) 6)) _ _ (λ t. absurd (eqb-false _ _ (not_true _ t) marked)) (λ b.
    by_test Is (nat_lt (length payload) (index_length header)) _ _ (λ t. let e = ltb-true (length payload) (index_length header) t in absurd (omega (arith, ends))) (λ d.
    rw there
    (by_test Is (not (nat_eq (slice_index payload from) header)) _ _ (λ t. absurd (eqb-false _ _ (not_true _ t) first)) (λ e. refl))))))

the_index : (payload front sizes : List ℕ) → HasIndex payload front sizes → (index : Index) × IsTheIndex payload front sizes index
unfolding sizes_of
the_index payload front sizes h =
    let i = h.is_index in
    let n = size_bytes i.header in
    let from = length front in
    let behind : List ℕ = concat i.written ++ i.header ∷ [] in
    let whole : payload ≡ front ++ (i.header ∷ behind) = h.whole ∙ ap (λ xs. front ++ xs) i.whole in
    let bytes : length (concat i.written) ≡ n * frame_count i.header = length_concat i.written n i.each ∙ ap (λ k. n * k) i.count in
    let long : length payload ≡ length front + suc (length (concat i.written) + 1) =
    ap length whole ∙ length-append front (i.header ∷ behind) ∙ ap (λ k. length front + suc k) (length-append (concat i.written) (i.header ∷ [])) in
    let first : slice_index payload from ≡ i.header = ap (λ xs. slice_index xs from) whole ∙ get_or-append_seam front i.header behind 0 in
    let front_too : List ℕ = front ++ (i.header ∷ concat i.written) in
    let whole_too : payload ≡ front_too ++ i.header ∷ [] = whole ∙ sym (append_assoc front (i.header ∷ concat i.written) (i.header ∷ [])) in
    let end : length payload - 1 ≡ length front_too = omega (arith, long, length-append front (i.header ∷ concat i.written)) in
    let last : slice_index payload (length payload - 1) ≡ i.header =
    ap (slice_index payload) end ∙ ap (λ xs. slice_index xs (length front_too)) whole_too ∙ get_or-append_seam front_too i.header [] 0 in
    let one : from + 1 ≡ length front + 1 = refl in
    let rest : drop (from + 1) payload ≡ behind =
    sym (drop-drop 1 from payload) ∙ ap (λ xs. drop 1 (drop from xs)) whole ∙ ap (drop 1) (drop_at front (i.header ∷ behind) from refl) in (
      record { from = from; size_bytes = n; frames = frame_count i.header },
      record {
        found = passes payload i.header from i.is_header (omega (arith, long, bytes)) first last;
        from = refl;
        are_sizes =
            ap (λ xs. sizes_from (frame_count i.header) n xs) rest ∙ ap (λ k. sizes_from k n behind) (sym i.count)
            ∙ ap (map (little_number n)) (pieces_again i.written n (i.header ∷ []) i.each) ∙ sym i.are_sizes;
      },
    )

---- The frames ----

pub within_index : (payload front sizes : List ℕ) → HasIndex payload front sizes → frames_of payload ≡ frames_within (length front) sizes
unfolding frames_of
within_index payload front sizes h =
    let the = the_index payload front sizes h in
    ap (frames_by payload) the.1.found ∙ ap (λ n. frames_within n (sizes_of payload the.0)) the.1.from ∙ ap (frames_within (length front)) the.1.are_sizes

no_other : (payload : List ℕ) → None ≡ index_of payload → HasNoIndex payload
no_other payload none front sizes h = let found = (the_index payload front sizes h).1.found in cc

without_index : (payload : List ℕ) → HasNoIndex payload → frames_of payload ≡ Ok (spans_from 0 (length payload ∷ []))
unfolding frames_of
without_index payload none = by_index (index_of payload) (is_tested payload) where
  by_index : (o : Option Index) → IsTested payload o → frames_by payload o ≡ Ok (spans_from 0 (length payload ∷ []))
  by_index None t = refl
  by_index (Some index) t = absurd (none _ _ t.2)

fit : (room : ℕ) (sizes : List ℕ) → sum sizes ≤ room → frames_within room sizes ≡ Ok (spans_from 0 sizes)
unfolding frames_within
fit room sizes low =
    by_test (λ r. r ≡ Ok (spans_from 0 sizes)) (nat_lt room (sum sizes)) _ _
    (λ t. let e = ltb-true room (sum sizes) t in absurd (omega arith)) (λ t. refl)

break : (room : ℕ) (sizes : List ℕ) → room < sum sizes → frames_within room sizes ≡ Err SuperframeSizes
unfolding frames_within
break room sizes high =
    by_test (λ r. r ≡ Err SuperframeSizes) (nat_lt room (sum sizes)) _ _
    (λ t. refl) (λ t. let e = ltb-false room (sum sizes) t in absurd (omega arith))

all_bytes : (payload : List ℕ) → map (λ span. slice_range payload span.from span.to) (spans_from 0 (length payload ∷ [])) ≡ non_empty (payload ∷ [])
all_bytes payload = at_parts payload 0 (payload ∷ []) [] (sym (append-nil (payload ++ []) ∙ append-nil payload))

sum_lengths : (parts : List (List ℕ)) → sum (map length parts) ≡ length (concat parts)
sum_lengths [] = refl
sum_lengths (part ∷ parts) = sum_more (length part) (map length parts) ∙ ap (λ n. length part + n) (sum_lengths parts) ∙ sym (length-append part (concat parts))

pub has_frames : (payload : List ℕ) → IsSplit payload (at_spans payload (frames_of payload))
unfolding frames_of frames_within
has_frames payload = by_index (index_of payload) (is_tested payload) refl where
  by_index : (o : Option Index) → IsTested payload o → o ≡ index_of payload → IsSplit payload (at_spans payload (frames_by payload o))
  by_index None t found = inr (no_other payload found, all_bytes payload)
  by_index (Some index) t found =
      let front : List ℕ = take index.from payload in
      let sizes : List ℕ = sizes_of payload index in
      let long : length (take index.from payload) ≡ index.from = length-take-le index.from payload t.0 in
      by_test (λ r. IsSplit payload (at_spans payload r)) (nat_lt index.from (sum sizes)) _ _
      (λ large. let e = ltb-true index.from (sum sizes) large in (refl, (front, sizes, t.2, omega (arith, long))))
      (λ small.
      let e = ltb-false index.from (sum sizes) small in
      let are : map length (cut sizes front) ≡ sizes = cut_sizes sizes front (omega (arith, long)) in
      let rest : List ℕ = drop (sum sizes) front in
      let here : payload ≡ concat (cut sizes front) ++ (rest ++ drop index.from payload) =
      sym (take-append-drop index.from payload) ∙ ap (λ xs. xs ++ drop index.from payload) (cut_whole sizes front)
      ∙ append_assoc (concat (cut sizes front)) rest (drop index.from payload) in
      inl (
        front,
        sizes,
        t.2,
        record {
          parts = cut sizes front;
          rest = rest;
          whole = cut_whole sizes front;
          have_sizes = are;
          are_frames =
              ap (λ ns. map (λ span. slice_range payload span.from span.to) (spans_from 0 ns)) (sym are)
              ∙ at_parts payload 0 (cut sizes front) (rest ++ drop index.from payload) here;
        },
      ))

pub only_frames : (payload : List ℕ) (frames : Result (List (List ℕ)) Rule) → IsSplit payload frames → frames ≡ at_spans payload (frames_of payload)
only_frames payload (Err rule) (is, (front, sizes, h, large)) =
    sym (ap (at_spans payload) (within_index payload front sizes h ∙ break (length front) sizes large) ∙ ap Err (sym is))
only_frames payload (Ok frames) (inr (none, is)) =
    sym (ap (at_spans payload) (without_index payload none) ∙ ap Ok (all_bytes payload ∙ sym is))
only_frames payload (Ok frames) (inl (front, sizes, h, are)) =
    let parts : List (List ℕ) = are.parts in
    let small : sum sizes ≤ length front =
    omega (arith, ap sum are.have_sizes, sum_lengths are.parts, ap length are.whole, length-append (concat are.parts) are.rest) in
    let here : payload ≡ concat are.parts ++ (are.rest ++ h.index) =
    h.whole ∙ ap (λ xs. xs ++ h.index) are.whole ∙ append_assoc (concat are.parts) are.rest h.index in
    let bytes : map (λ span. slice_range payload span.from span.to) (spans_from 0 sizes) ≡ frames =
    ap (λ ns. map (λ span. slice_range payload span.from span.to) (spans_from 0 ns)) (sym are.have_sizes)
    ∙ at_parts payload 0 are.parts (are.rest ++ h.index) here ∙ sym are.are_frames in
    sym (ap (at_spans payload) (within_index payload front sizes h ∙ fit (length front) sizes small) ∙ ap Ok bytes)

---- Where they lie ----

few_spans : (at : ℕ) (sizes : List ℕ) → length (spans_from at sizes) ≤ length sizes
few_spans at [] = omega arith
few_spans at (size ∷ sizes) =
    by_test (λ spans. length spans ≤ length (size ∷ sizes)) (nat_eq size 0) _ _
    (λ t. omega (arith, few_spans at sizes)) (λ t. omega (arith, few_spans (at + size) sizes))

lie_between : (at to : ℕ) (sizes : List ℕ) → at + sum sizes ≤ to → LieBetween at to (spans_from at sizes)
lie_between at to [] fits = omega arith
lie_between at to (size ∷ sizes) fits =
    by_test (LieBetween at to) (nat_eq size 0) _ _
    (λ t. lie_between at to sizes (omega (arith, sum_more size sizes)))
    (λ t. let some = eqb-false size 0 t in
    (omega arith, omega (arith, some), lie_between (at + size) to sizes (omega (arith, sum_more size sizes))))

each_part : (payload : List ℕ) (at : ℕ) (sizes : List ℕ) → at + sum sizes ≤ length payload → All (IsPart payload) (spans_from at sizes)
each_part payload at [] fits = All-nil (IsPart payload)
each_part payload at (size ∷ sizes) fits =
    by_test (All (IsPart payload)) (nat_eq size 0) _ _
    (λ t. each_part payload at sizes (omega (arith, sum_more size sizes)))
    (λ t. let some = eqb-false size 0 t in
    All-cons (IsPart payload) (record { from = at; to = at + size }) (spans_from (at + size) sizes)
    (omega (arith, some), omega (arith, sum_more size sizes))
    (each_part payload (at + size) sizes (omega (arith, sum_more size sizes))))

lie : (payload sizes : List ℕ) → length sizes ≤ 8 → sum sizes ≤ length payload → AreParts payload (spans_from 0 sizes)
lie payload sizes few fits = record {
  few = omega (arith, few_spans 0 sizes);
  in_order = lie_between 0 (length payload) sizes (omega arith);
  each = each_part payload 0 sizes (omega arith);
}

pub are_parts : (payload : List ℕ) (spans : List Span) → frames_of payload ≡ Ok spans → AreParts payload spans
unfolding frames_of frames_within sizes_of
are_parts payload spans is = by_index (index_of payload) (is_tested payload) is where
  same : (some : List Span) → ◌≡◌ {A = Result (List Span) Rule} (Ok some) (Ok spans) → AreParts payload some → AreParts payload spans
  same some e lies = let s : some ≡ spans = cc in subst (AreParts payload) s lies

  by_index : (o : Option Index) → IsTested payload o → frames_by payload o ≡ Ok spans → AreParts payload spans
  by_index None t = λ e. same _ e (lie payload (length payload ∷ []) (omega arith) (omega (arith, sum_more (length payload) [])))
  by_index (Some index) t =
      by_test (λ r. r ≡ Ok spans → AreParts payload spans) (nat_lt index.from (sum (sizes_of payload index))) _ _
      (λ large e. let no : ⊥ = cc in absurd no)
      (λ small e.
      let low = ltb-false index.from (sum (sizes_of payload index)) small in
      same _ e (lie payload (sizes_of payload index)
      (omega (arith, t.1, length-map (pieces index.frames index.size_bytes (drop (index.from + 1) payload)) (little_number index.size_bytes), pieces_count index.frames index.size_bytes (drop (index.from + 1) payload)))
      (omega (arith, t.0, low))))

---- What is answered ----

pub split_as : (payload : List ℕ) (index : Index) (result : Result (ArrayVec Span) Rule) → Some index ≡ index_of payload
    → Gives (frames_within index.from (sizes_of payload index)) result → IsSplitAs payload result
unfolding frames_of
split_as payload index (Err rule) found gives = ap (frames_by payload) (sym found) ∙ gives
split_as payload index (Ok parts) found gives =
    let is : frames_of payload ≡ Ok parts.items = ap (frames_by payload) (sym found) ∙ gives in
    (is, are_parts payload parts.items is)

pub whole_as : (payload : List ℕ) (parts : ArrayVec Span) → None ≡ index_of payload → parts.items ≡ spans_from 0 (length payload ∷ []) → IsSplitAs payload (Ok parts)
unfolding frames_of
whole_as payload parts found gives =
    let is : frames_of payload ≡ Ok parts.items = ap (frames_by payload) (sym found) ∙ ap Ok (sym gives) in
    (is, are_parts payload parts.items is)
