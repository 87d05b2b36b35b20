-- What is read at a place, as it is spelled there.
use Rattle.std.proofs.Common.{◌≡◌, ◌≢◌, ℕ, ◌+◌, ◌-◌, ◌*◌, ◌<◌, ◌≤◌, ◌^◌, ◌%◌, List, [], ◌∷◌, ◌++◌, length, drop, refl, sym, ap, subst, ◌∙◌, arith, Bool, true, false, length-append, length-drop, append_assoc}
use Rattle.std.specs.Prelude.{Option, Some, None, Result, Ok, Err, not, nat_eq, nat_lt, nat_le, slice_index, slice_range, if◌then◌else◌}
use Rattle.std.proofs.lemmas.List.{take-append-drop, drop-drop, drop_more, length-take-le}
use Rattle.std.proofs.lemmas.Bool.{ltb-false, leb-false, eqb-true, eqb-false}
use Rattle.byteorder.specs.Endian.{big_number}
use Rattle.vp9_types.specs.declared.job.Span.{Span}
use Rattle.vp9_types.specs.declared.rule.Rule.{Rule}
use Rattle.webm_container.specs.Elements.{coded_octets, coded_of, coded_at, sized, element_at, if_known, known_at}
use Rattle.webm_container.specs.ClusterBlocks.{is_of, is_laced, behind_number, payload_at}
use Rattle.webm_container.specs.Webm.{IsCoded, marked_in, value_in, Head, head_bytes, id_of, IsHead, Other, other_bytes, IsOther, Block, block_bytes, IsBlock, block_payloads}
use Rattle.webm_container.specs.declared.elements.Coded.{Coded}
use Rattle.webm_container.specs.declared.elements.Element.{Element}
use Rattle.webm_container.proofs.Tests.{by_test, by_result}
use Rattle.webm_container.proofs.Spelled.{range, first_of_them, some_bytes}

---- Bytes ----

-- from one place to another stand these bytes
pub record Reads (bytes : List ℕ) (at : ℕ) (xs : List ℕ) (to : ℕ) : Type 0 where
  pub here : drop at bytes ≡ xs ++ drop to bytes
  pub long : at + length xs ≡ to

pub reads_none : (bytes : List ℕ) (at to : ℕ) → at ≡ to → Reads bytes at [] to
reads_none bytes at to is = record { here = ap (λ k. drop k bytes) is; long = omega (arith, is) }

pub reads_both : (bytes xs ys : List ℕ) (at m to : ℕ) → Reads bytes at xs m → Reads bytes m ys to → Reads bytes at (xs ++ ys) to
reads_both bytes xs ys at m to a b = record {
  here = a.here ∙ ap (λ zs. xs ++ zs) b.here ∙ sym (append_assoc xs ys (drop to bytes));
  long = omega (arith, a.long, b.long, length-append xs ys);
}

pub reads_range : (bytes : List ℕ) (at to : ℕ) → at ≤ to → to ≤ length bytes → Reads bytes at (slice_range bytes at to) to
reads_range bytes at to order within =
    let there : at + (to - at) ≡ to = omega arith in
    record {
      here = sym (take-append-drop (to - at) (drop at bytes)) ∙ ap (λ ys. slice_range bytes at to ++ ys) (drop-drop (to - at) at bytes ∙ ap (λ k. drop k bytes) there);
      long = omega (arith, length-take-le (to - at) (drop at bytes) (omega (arith, length-drop at bytes)));
    }

reads_one : (bytes : List ℕ) (at : ℕ) → at < length bytes → Reads bytes at (slice_index bytes at ∷ []) (at + 1)
reads_one bytes at within = record { here = drop_more bytes at 0 within; long = omega arith }

---- Numbers ----

pub record CodedThere (bytes : List ℕ) (at end most : ℕ) (c : Coded) : Type 0 where
  pub spelled : List ℕ
  pub coded : IsCoded most spelled
  pub marked : c.marked ≡ marked_in spelled
  pub value : c.value ≡ value_in spelled
  pub ones : c.all_ones ≡ nat_eq (value_in spelled + 1) (2 ^ (7 * length spelled))
  pub reads : Reads bytes at spelled c.to
  pub within : c.to ≤ end

abbrev pub IsCodedThere : List ℕ → ℕ → ℕ → ℕ → Result Coded Rule → Type 0
IsCodedThere bytes at end most (Ok c) = CodedThere bytes at end most c
IsCodedThere bytes at end most (Err rule) = Unit {0}

coded_spelled : (bytes : List ℕ) (at end most n : ℕ) → end ≤ length bytes → n ≡ coded_octets (slice_index bytes at) → n ≤ most → at + n ≤ end
    → CodedThere bytes at end most (coded_of n (big_number n (slice_range bytes at (at + n))) (at + n))
coded_spelled bytes at end most n inside is few fits =
    let xs = slice_range bytes at (at + n) in
    let reads = reads_range bytes at (at + n) (omega arith) (omega arith) in
    let len : n ≡ length xs = omega (arith, reads.long) in
    let some : 0 < length xs = omega (arith, len, is) in
    record {
      spelled = xs;
      coded = record {
        few = omega (arith, len);
        says_length = ap coded_octets (sym (first_of_them bytes xs (drop (at + n) bytes) at reads.here some)) ∙ sym is ∙ len;
      };
      marked = ap (λ k. big_number k xs) len;
      value = ap (λ k. big_number k xs % 2 ^ (7 * k)) len;
      ones = ap (λ k. nat_eq (big_number k xs % 2 ^ (7 * k) + 1) (2 ^ (7 * k))) len;
      reads = reads;
      within = fits;
    }

pub coded_is : (bytes : List ℕ) (at end most : ℕ) → end ≤ length bytes → IsCodedThere bytes at end most (coded_at bytes at end most)
unfolding coded_at
coded_is bytes at end most inside =
    let n = coded_octets (slice_index bytes at) in
    let P = IsCodedThere bytes at end most in
    by_test P (nat_le end at) _ _ (λ _. tt) (λ some.
    by_test P (nat_lt most n) _ _ (λ _. tt) (λ few.
    by_test P (nat_lt (end - at) n) _ _ (λ _. tt) (λ fits.
    let a = leb-false end at some in
    let b = ltb-false (end - at) n fits in
    coded_spelled bytes at end most n inside refl (ltb-false most n few) (omega arith))))

---- Elements ----

pub record ElementThere (bytes : List ℕ) (at end : ℕ) (e : Element) : Type 0 where
  pub head : Head
  pub reads : Reads bytes at (head_bytes head) e.from
  pub id : e.id ≡ id_of head
  pub is_head : (long : ℕ) → (e.unknown ≡ false → e.from + long ≡ e.to) → IsHead e.unknown long head
  pub order : e.from ≤ e.to
  pub within : e.to ≤ end
  pub last : e.unknown ≡ true → e.to ≡ end

abbrev pub IsElementThere : List ℕ → ℕ → ℕ → Result Element Rule → Type 0
IsElementThere bytes at end (Ok e) = ElementThere bytes at end e
IsElementThere bytes at end (Err rule) = Unit {0}

sized_is : (bytes : List ℕ) (at end : ℕ) (id size : Coded) → CodedThere bytes at end 4 id → CodedThere bytes id.to end 8 size → IsElementThere bytes at end (sized end id.marked size)
sized_is bytes at end id size a b =
    let P = IsElementThere bytes at end in
    let head : Head = record { id = a.spelled; size = b.spelled } in
    let both = reads_both bytes a.spelled b.spelled at id.to size.to a.reads b.reads in
    by_test P size.all_ones _ _
    (λ ones. record {
      head = head;
      reads = both;
      id = a.marked;
      is_head = λ long _. record { id = a.coded; size = b.coded; says_size = eqb-true _ _ (sym b.ones ∙ ones) };
      order = b.within;
      within = omega arith;
      last = λ _. refl;
    })
    (λ known.
    by_test P (nat_lt (end - size.to) size.value) _ _ (λ _. tt) (λ fits.
    let room = ltb-false (end - size.to) size.value fits in
    record {
      head = head;
      reads = both;
      id = a.marked;
      is_head = λ long is. record { id = a.coded; size = b.coded; says_size = (omega (arith, is refl, b.value), eqb-false _ _ (sym b.ones ∙ known)) };
      order = omega arith;
      within = omega (arith, b.within);
      last = λ u. cc;
    }))

pub element_is : (bytes : List ℕ) (at end : ℕ) → end ≤ length bytes → IsElementThere bytes at end (element_at bytes at end)
unfolding element_at
element_is bytes at end inside =
    by_result (IsElementThere bytes at end) (coded_at bytes at end 4) _ (λ id is_id.
    by_result (IsElementThere bytes at end) (coded_at bytes id.to end 8) (sized end id.marked) (λ size is_size.
    sized_is bytes at end id size (subst (IsCodedThere bytes at end 4) is_id (coded_is bytes at end 4 inside)) (subst (IsCodedThere bytes id.to end 8) is_size (coded_is bytes id.to end 8 inside)))
    (λ _. tt)) (λ _. tt)

-- one of known size
pub record KnownThere (bytes : List ℕ) (at end : ℕ) (e : Element) : Type 0 where
  pub there : ElementThere bytes at end e
  pub known : e.unknown ≡ false

abbrev pub IsKnownThere : List ℕ → ℕ → ℕ → Result Element Rule → Type 0
IsKnownThere bytes at end (Ok e) = KnownThere bytes at end e
IsKnownThere bytes at end (Err rule) = Unit {0}

pub known_is : (bytes : List ℕ) (at end : ℕ) → end ≤ length bytes → IsKnownThere bytes at end (known_at bytes at end)
unfolding known_at
known_is bytes at end inside =
    by_result (IsKnownThere bytes at end) (element_at bytes at end) if_known (λ e is. by_test (IsKnownThere bytes at end) e.unknown _ _ (λ _. tt)
    (λ known. record { there = subst (IsElementThere bytes at end) is (element_is bytes at end inside); known = known })) (λ _. tt)

-- a head before content that ends where the element does
pub known_head : (bytes : List ℕ) (at end long : ℕ) (e : Element) (h : ElementThere bytes at end e) → e.unknown ≡ false → e.from + long ≡ e.to → IsHead false long h.head
known_head bytes at end long e h known is = subst (λ u. IsHead u long h.head) known (h.is_head long (λ _. is))

-- an element whose content is not gone into
pub record OtherThere (bytes : List ℕ) (at : ℕ) (e : Element) : Type 0 where
  pub other : Other
  pub is : IsOther other
  pub reads : Reads bytes at (other_bytes other) e.to
  pub id : e.id ≡ id_of other.head
  pub content : slice_range bytes e.from e.to ≡ other.content

pub other_there : (bytes : List ℕ) (at end : ℕ) (e : Element) → end ≤ length bytes → ElementThere bytes at end e → e.unknown ≡ false → OtherThere bytes at e
other_there bytes at end e inside h known =
    let content = slice_range bytes e.from e.to in
    let reads = reads_range bytes e.from e.to h.order (omega (arith, h.within)) in
    record {
      other = record { head = h.head; content = content };
      is = known_head bytes at end (length content) e h known reads.long;
      reads = reads_both bytes (head_bytes h.head) content at e.from e.to h.reads reads;
      id = h.id;
      content = refl;
    }

-- elements at one place have one id
pub same_id : (bytes xs ys more rest : List ℕ) (at : ℕ) → drop at bytes ≡ xs ++ more → drop at bytes ≡ ys ++ rest → IsCoded 4 xs → IsCoded 4 ys → marked_in xs ≡ marked_in ys
same_id bytes xs ys more rest at x y is also =
    let len : length xs ≡ length ys =
    sym is.says_length ∙ ap coded_octets (sym (first_of_them bytes xs more at x (some_bytes 4 xs is)) ∙ first_of_them bytes ys rest at y (some_bytes 4 ys also)) ∙ also.says_length in
    ap marked_in (sym (range bytes xs more at x) ∙ ap (λ k. slice_range bytes at (at + k)) len ∙ range bytes ys rest at y)

---- Blocks ----

-- the payload that is given, before others
abbrev pub given : List ℕ → Option Span → List (List ℕ) → List (List ℕ)
given bytes None payloads = payloads
given bytes (Some span) payloads = slice_range bytes span.from span.to ∷ payloads

pub record BlockThere (bytes : List ℕ) (track from to : ℕ) (r : Option Span) : Type 0 where
  pub spelled : Block
  pub is : IsBlock track spelled
  pub reads : Reads bytes from (block_bytes spelled) to
  pub gives : (payloads : List (List ℕ)) → given bytes r payloads ≡ block_payloads track spelled ++ payloads

abbrev pub IsBlockThere : List ℕ → ℕ → ℕ → ℕ → Result (Option Span) Rule → Type 0
IsBlockThere bytes track from to (Ok r) = BlockThere bytes track from to r
IsBlockThere bytes track from to (Err rule) = Unit {0}

record BlockParts (bytes : List ℕ) (track from to : ℕ) (number : Coded) : Type 0 where
  block : Block
  coded : IsCoded 8 block.track
  time : length block.time ≡ 2
  value : number.value ≡ value_in block.track
  flags : block.flags ≡ slice_index bytes (number.to + 2)
  payload : block.payload ≡ slice_range bytes (number.to + 3) to
  long : length block.payload ≡ to - (number.to + 3)
  reads : Reads bytes from (block_bytes block) to

block_parts : (bytes : List ℕ) (track from to : ℕ) (number : Coded) → to ≤ length bytes → CodedThere bytes from to 8 number → 3 ≤ to - number.to → BlockParts bytes track from to number
block_parts bytes track from to number inside h head =
    let at = number.to in
    let time = reads_range bytes at (at + 2) (omega arith) (omega arith) in
    let flags = reads_one bytes (at + 2) (omega arith) in
    let next : at + 2 + 1 ≡ at + 3 = omega arith in
    let payload = reads_range bytes (at + 3) to (omega arith) inside in
    let from_payload = subst (λ k. Reads bytes k (slice_range bytes (at + 3) to) to) (sym next) payload in
    let tail = reads_both bytes (slice_index bytes (at + 2) ∷ []) (slice_range bytes (at + 3) to) (at + 2) (at + 2 + 1) to flags from_payload in
    record {
      block = record { track = h.spelled; time = slice_range bytes at (at + 2); flags = slice_index bytes (at + 2); payload = slice_range bytes (at + 3) to };
      coded = h.coded;
      time = omega (arith, time.long);
      value = h.value;
      flags = refl;
      payload = refl;
      long = omega (arith, payload.long);
      reads = reads_both bytes h.spelled _ from at to h.reads (reads_both bytes (slice_range bytes at (at + 2)) (slice_index bytes (at + 2) ∷ slice_range bytes (at + 3) to) at (at + 2) to time tail);
    }

another : (bytes : List ℕ) (track from to : ℕ) (number : Coded) → BlockParts bytes track from to number → is_of (Some track) number.value ≡ false → BlockThere bytes track from to None
another bytes track from to number p apart =
    let not_ours : nat_eq track (value_in p.block.track) ≡ false = ap (λ v. nat_eq track v) (sym p.value) ∙ apart in
    let differ : value_in p.block.track ≢ track = λ e. eqb-false track (value_in p.block.track) not_ours (sym e) in
    record {
      spelled = p.block;
      is = record { coded = p.coded; time = p.time; plain = λ e. absurd (differ e); short = λ e. absurd (differ e) };
      reads = p.reads;
      gives = λ payloads. sym (ap (λ b. (if b then p.block.payload ∷ [] else []) ++ payloads) not_ours);
    }

ours : (bytes : List ℕ) (track from to : ℕ) (number : Coded) → BlockParts bytes track from to number → is_of (Some track) number.value ≡ true → is_laced (slice_index bytes (number.to + 2)) ≡ false
    → to - (number.to + 3) < 2 ^ 32 → BlockThere bytes track from to (Some (record { from = number.to + 3; to = to }))
ours bytes track from to number p is plain short =
    let is_ours : nat_eq track (value_in p.block.track) ≡ true = ap (λ v. nat_eq track v) (sym p.value) ∙ is in
    record {
      spelled = p.block;
      is = record { coded = p.coded; time = p.time; plain = λ e. ap is_laced p.flags ∙ plain; short = λ e. omega (arith, p.long) };
      reads = p.reads;
      gives = λ payloads. ap (λ x. x ∷ payloads) (sym p.payload) ∙ sym (ap (λ b. (if b then p.block.payload ∷ [] else []) ++ payloads) is_ours);
    }

not_false : (b : Bool) → not b ≡ false → b ≡ true
not_false true e = refl
not_false false e = cc

not_true : (b : Bool) → not b ≡ true → b ≡ false
not_true true e = cc
not_true false e = refl

pub payload_is : (bytes : List ℕ) (track from to : ℕ) → to ≤ length bytes → IsBlockThere bytes track from to (payload_at bytes (Some track) from to)
unfolding payload_at
payload_is bytes track from to inside =
    let P = IsBlockThere bytes track from to in
    by_result P (coded_at bytes from to 8) (behind_number bytes (Some track) to) (λ number is_number.
    let h = subst (IsCodedThere bytes from to 8) is_number (coded_is bytes from to 8 inside) in
    by_test P (nat_lt (to - number.to) 3) _ _ (λ _. tt) (λ head.
    let p = block_parts bytes track from to number inside h (ltb-false (to - number.to) 3 head) in
    by_test P (not (is_of (Some track) number.value)) _ _ (λ apart. another bytes track from to number p (not_true _ apart)) (λ is.
    by_test P (is_laced (slice_index bytes (number.to + 2))) _ _ (λ _. tt) (λ plain.
    by_test P (nat_le (2 ^ 32) (to - (number.to + 3))) _ _ (λ _. tt) (λ short.
    ours bytes track from to number p (not_false _ is) plain (leb-false (2 ^ 32) (to - (number.to + 3)) short))))))
    (λ _. tt)
