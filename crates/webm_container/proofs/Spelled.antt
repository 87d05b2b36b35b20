-- Spelled numbers and elements, where they stand in the bytes.
use Rattle.std.proofs.Common.{◌≡◌, ◌≢◌, ℕ, ◌+◌, ◌-◌, ◌*◌, ◌<◌, ◌≤◌, ◌^◌, List, ◌++◌, length, get_or, take, drop, refl, sym, ap, ◌∙◌, arith, Bool, true, false, length-append, append_assoc, inl, inr}
use Rattle.std.specs.Prelude.{Result, Ok, nat_eq, nat_lt, nat_le, slice_index, slice_range, if◌then◌else◌}
use Rattle.std.proofs.lemmas.List.{get_or-drop, get_or_append_left, drop-drop, drop_at, take_at}
use Rattle.std.proofs.lemmas.Bool.{le-ltb, lt-leb}
use Rattle.std.proofs.lemmas.Bool.Decides.{eqb_tells}
use Rattle.byteorder.specs.Endian.{big_number}
use Rattle.vp9_types.specs.Results.{◌>>=◌}
use Rattle.vp9_types.specs.declared.rule.Rule.{Rule}
use Rattle.webm_container.specs.Elements.{coded_octets, coded_of, coded_at, sized, element_at, if_known, known_at}
use Rattle.webm_container.specs.Webm.{IsCoded, marked_in, value_in, Head, head_bytes, id_of, SaysSize, IsHead}
use Rattle.webm_container.specs.declared.elements.Coded.{Coded}
use Rattle.webm_container.specs.declared.elements.Element.{Element}

---- Tests ----

pub if_false : {X : Type 0} (b : Bool) (x y : X) → b ≡ false → (if b then x else y) ≡ y
if_false b x y e = ap (λ t. if t then x else y) e

pub if_true : {X : Type 0} (b : Bool) (x y : X) → b ≡ true → (if b then x else y) ≡ x
if_true b x y e = ap (λ t. if t then x else y) e

pub differs : (a b : ℕ) → a ≢ b → nat_eq a b ≡ false
differs a b n = elim (eqb_tells a b) [
  | inl e ↦ absurd (n e.1)
  | inr e ↦ e.0
]

pub agrees : (a b : ℕ) → a ≡ b → nat_eq a b ≡ true
agrees a b n = elim (eqb_tells a b) [
  | inl e ↦ e.0
  | inr e ↦ absurd (e.1 n)
]

---- Bytes ----

-- what stands behind bytes that stand at a place
pub after : (bytes xs rest : List ℕ) (at : ℕ) → drop at bytes ≡ xs ++ rest → drop (at + length xs) bytes ≡ rest
after bytes xs rest at here = sym (drop-drop (length xs) at bytes) ∙ ap (drop (length xs)) here ∙ drop_at xs rest (length xs) refl

pub range : (bytes xs rest : List ℕ) (at : ℕ) → drop at bytes ≡ xs ++ rest → slice_range bytes at (at + length xs) ≡ xs
range bytes xs rest at here =
    let n : at + length xs - at ≡ length xs = omega arith in
    ap (λ k. take k (drop at bytes)) n ∙ ap (take (length xs)) here ∙ take_at xs rest (length xs) refl

pub first_of_them : (bytes xs rest : List ℕ) (at : ℕ) → drop at bytes ≡ xs ++ rest → 0 < length xs → slice_index bytes at ≡ slice_index xs 0
first_of_them bytes xs rest at here some =
    let zero_more : at ≡ at + 0 = omega arith in
    ap (λ k. get_or bytes k 0) zero_more ∙ sym (get_or-drop at bytes 0 0) ∙ ap (λ ys. get_or ys 0 0) here ∙ get_or_append_left xs rest 0 0 some

---- Numbers ----

abbrev ok_coded : Coded → Result Coded Rule
ok_coded coded = Ok coded

pub some_bytes : (most : ℕ) (xs : List ℕ) → IsCoded most xs → 0 < length xs
some_bytes most xs h = omega (arith, h.says_length)

pub coded_there : (bytes xs rest : List ℕ) (at end most : ℕ) → drop at bytes ≡ xs ++ rest → IsCoded most xs → at + length xs ≤ end
    → coded_at bytes at end most ≡ Ok (coded_of (length xs) (marked_in xs) (at + length xs))
unfolding coded_at
coded_there bytes xs rest at end most here h fits =
    let some = some_bytes most xs h in
    let n = coded_octets (slice_index bytes at) in
    let is : n ≡ length xs = ap coded_octets (first_of_them bytes xs rest at here some) ∙ h.says_length in
    if_false (nat_le end at) _ _ (lt-leb end at (omega arith))
    ∙ if_false (nat_lt most n) _ _ (le-ltb most n (omega (arith, is, h.few)))
    ∙ if_false (nat_lt (end - at) n) _ _ (le-ltb (end - at) n (omega (arith, is)))
    ∙ ap (λ k. ok_coded (coded_of k (big_number k (slice_range bytes at (at + k))) (at + k))) is
    ∙ ap (λ ys. ok_coded (coded_of (length xs) (big_number (length xs) ys) (at + length xs))) (range bytes xs rest at here)

---- Elements ----

-- where an element ends whose content ends at `to`, as far as that is known
abbrev pub end_of : Bool → ℕ → ℕ → ℕ
end_of true end to = end
end_of false end to = to

abbrev pub element_of : Bool → ℕ → ℕ → ℕ → ℕ → Element
element_of unknown id from to end = record { id = id; from = from; to = end_of unknown end to; unknown = unknown }

abbrev ok_element : Element → Result Element Rule
ok_element e = Ok e

sized_there : (unknown : Bool) (size : List ℕ) (long id at end : ℕ) → SaysSize unknown long size → at + length size ≤ end → (unknown ≡ false → at + length size + long ≤ end)
    → sized end id (coded_of (length size) (marked_in size) (at + length size)) ≡ Ok (element_of unknown id (at + length size) (at + length size + long) end)
sized_there true size long id at end says fits known = if_true (nat_eq (value_in size + 1) (2 ^ (7 * length size))) _ _ (agrees _ _ says)
sized_there false size long id at end says fits known =
    let from = at + length size in
    let low = known refl in
    if_false (nat_eq (value_in size + 1) (2 ^ (7 * length size))) _ _ (differs _ _ says.1)
    ∙ if_false (nat_lt (end - from) (value_in size)) _ _ (le-ltb (end - from) (value_in size) (omega (arith, says.0)))
    ∙ ap (λ k. ok_element (record { id = id; from = from; to = from + k; unknown = false })) says.0

-- an element that stands at a place of a parent that ends at `end`
pub element_there : (unknown : Bool) (bytes content rest : List ℕ) (head : Head) (at end : ℕ) → drop at bytes ≡ (head_bytes head ++ content) ++ rest → IsHead unknown (length content) head
    → at + length (head_bytes head ++ content) ≤ end
    → element_at bytes at end ≡ Ok (element_of unknown (id_of head) (at + length (head_bytes head)) (at + length (head_bytes head ++ content)) end)
unfolding element_at
element_there unknown bytes content rest head at end here h fits =
    let m = length head.id in
    let n = length head.size in
    let both : length (head_bytes head) ≡ m + n = length-append head.id head.size in
    let all : length (head_bytes head ++ content) ≡ m + n + length content = length-append (head_bytes head) content ∙ ap (λ k. k + length content) both in
    let parts : drop at bytes ≡ head.id ++ (head.size ++ (content ++ rest)) = here ∙ simp append_assoc in
    let at_size : drop (at + m) bytes ≡ head.size ++ (content ++ rest) = after bytes head.id _ at parts in
    let id_fits : at + m ≤ end = omega (arith, all) in
    let size_fits : at + m + n ≤ end = omega (arith, all) in
    let sized_fits : unknown ≡ false → at + m + n + length content ≤ end = λ _. omega (arith, all) in
    let from : at + m + n ≡ at + length (head_bytes head) = omega (arith, both) in
    let to : at + m + n + length content ≡ at + length (head_bytes head ++ content) = omega (arith, all) in
    ap (λ r. r >>= (λ id. coded_at bytes id.to end 8 >>= sized end id.marked)) (coded_there bytes head.id _ at end 4 parts h.id id_fits)
    ∙ ap (λ r. r >>= sized end (id_of head)) (coded_there bytes head.size _ (at + m) end 8 at_size h.size size_fits)
    ∙ sized_there unknown head.size (length content) (id_of head) (at + m) end h.says_size size_fits sized_fits
    ∙ ap (λ k. ok_element (element_of unknown (id_of head) k (at + m + n + length content) end)) from
    ∙ ap (λ k. ok_element (element_of unknown (id_of head) (at + length (head_bytes head)) k end)) to

pub known_there : (bytes content rest : List ℕ) (head : Head) (at end : ℕ) → drop at bytes ≡ (head_bytes head ++ content) ++ rest → IsHead false (length content) head
    → at + length (head_bytes head ++ content) ≤ end
    → known_at bytes at end ≡ Ok (element_of false (id_of head) (at + length (head_bytes head)) (at + length (head_bytes head ++ content)) end)
unfolding known_at
known_there bytes content rest head at end here h fits = ap (λ r. r >>= if_known) (element_there false bytes content rest head at end here h fits)

-- where an element's content stands
pub content_there : (bytes content rest : List ℕ) (head : Head) (at : ℕ) → drop at bytes ≡ (head_bytes head ++ content) ++ rest → drop (at + length (head_bytes head)) bytes ≡ content ++ rest
content_there bytes content rest head at here = after bytes (head_bytes head) (content ++ rest) at (here ∙ append_assoc (head_bytes head) content rest)

-- a head has 2 bytes at least
pub head_long : (unknown : Bool) (long : ℕ) (head : Head) → IsHead unknown long head → 2 ≤ length (head_bytes head)
head_long unknown long head h =
    omega (arith, length-append head.id head.size, some_bytes 4 head.id h.id, some_bytes 8 head.size h.size)
