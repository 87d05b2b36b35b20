-- A file whose packets end with no rule is spelled as one.
use Rattle.std.proofs.Common.{◌≡◌, ◌≢◌, ℕ, zero, suc, ◌+◌, ◌-◌, ◌<◌, ◌≤◌, List, [], ◌∷◌, ◌++◌, length, drop, refl, sym, ap, subst, ◌∙◌, arith, Bool, true, false, append_assoc}
use Rattle.std.specs.Prelude.{None, Result, ◌&&◌, not, nat_eq}
use Rattle.std.specs.List.{AllByRecursion}
use Rattle.std.proofs.lemmas.Bool.{eqb-true, eqb-false}
use Rattle.std.proofs.lemmas.List.{drop_all}
use Rattle.vp9_types.specs.declared.rule.Rule.{Rule}
use Rattle.ivf_container.specs.Packets.{Packets}
use Rattle.webm_container.specs.Ids as the
use Rattle.webm_container.specs.Elements.{element_at}
use Rattle.webm_container.specs.Walk.{in_file, file_step, go_on_by_step, webm_packets_from, webm_packets}
use Rattle.webm_container.specs.Webm.{Head, head_bytes, id_of, IsHead, Other, other_bytes, others_bytes, IsOther, InSegment, segment_bytes, AreInSegment, IsWebmFile}
use Rattle.webm_container.specs.declared.cursor.Parent.TheVariants as parent
use Rattle.webm_container.specs.declared.cursor.WebmCursor.{WebmCursor}
use Rattle.webm_container.specs.declared.elements.Element.{Element}
use Rattle.webm_container.specs.declared.steps.WebmStep.{WebmStep}
use Rattle.webm_container.proofs.Tests.{by_test, by_result}
use Rattle.webm_container.proofs.Progress.{cursor_at}
use Rattle.webm_container.proofs.Walks.{next_from, left_low}
use Rattle.webm_container.proofs.Spelled.{head_long}
use Rattle.webm_container.proofs.Readings.{ElementThere, IsElementThere, element_is, OtherThere, other_there}
use Rattle.webm_container.proofs.Wholes.{SegmentRest, is_sound}

module _ (bytes : List ℕ) where
  abbrev in_file_at : ℕ → WebmCursor
  in_file_at at = cursor_at at 0 parent.File None

  record FileRest (at : ℕ) (payloads : List (List ℕ)) : Type 0 where
    others : List Other
    head : Head
    unknown : Bool
    items : List InSegment
    behind : List ℕ
    here : drop at bytes ≡ others_bytes others ++ (head_bytes head ++ (segment_bytes items ++ behind))
    each : AllByRecursion (λ element. IsOther element × (id_of element.head ≢ the.segment)) others
    is_head : IsHead unknown (length (segment_bytes items)) head
    id : id_of head ≡ the.segment
    last : unknown ≡ true → behind ≡ []
    are : AreInSegment None items payloads

  over_segment_head : (at : ℕ) (e : Element) (payloads : List (List ℕ)) (h : ElementThere bytes at (length bytes) e) → e.id ≡ the.segment → SegmentRest bytes e.to h.within e.from None payloads → FileRest at payloads
  over_segment_head at e payloads h is w =
      record {
        others = [];
        head = h.head;
        unknown = e.unknown;
        items = w.items;
        behind = drop e.to bytes;
        here = h.reads.here ∙ ap (λ xs. head_bytes h.head ++ xs) w.reads.here;
        each = tt;
        is_head = h.is_head (length (segment_bytes w.items)) (λ _. w.reads.long);
        id = sym h.id ∙ is;
        last = λ u. drop_all e.to bytes (omega (arith, h.last u));
        are = w.are;
      }

  goes_further : (at : ℕ) (e : Element) → ElementThere bytes at (length bytes) e → at + 2 ≤ e.to
  goes_further at e h =
      omega (arith, h.reads.long, h.order, head_long e.unknown (e.to - e.from) h.head (h.is_head (e.to - e.from) (λ _. omega (arith, h.order))))

  over_other : (at : ℕ) (e : Element) (payloads : List (List ℕ)) → OtherThere bytes at e → e.id ≢ the.segment → FileRest e.to payloads → FileRest at payloads
  over_other at e payloads o no_segment w =
      record {
        others = o.other ∷ w.others;
        head = w.head;
        unknown = w.unknown;
        items = w.items;
        behind = w.behind;
        here = o.reads.here ∙ ap (λ xs. other_bytes o.other ++ xs) w.here ∙ sym (append_assoc (other_bytes o.other) (others_bytes w.others) (head_bytes w.head ++ (segment_bytes w.items ++ w.behind)));
        each = ((o.is, λ is. no_segment (o.id ∙ is)), w.each);
        is_head = w.is_head;
        id = w.id;
        last = w.last;
        are = w.are;
      }

  abbrev After : ℕ → Result WebmStep Rule → Type 0
  After at r = (go_on_by_step bytes (webm_packets_from bytes) r).ending ≡ None → FileRest at (go_on_by_step bytes (webm_packets_from bytes) r).payloads

  in_the_segment : (at : ℕ) (e : Element) (h : ElementThere bytes at (length bytes) e) → (webm_packets_from bytes (cursor_at e.from e.to parent.Segment None)).ending ≡ None
      → SegmentRest bytes e.to h.within e.from None (webm_packets_from bytes (cursor_at e.from e.to parent.Segment None)).payloads
  in_the_segment at e h none =
      let c = cursor_at e.from e.to parent.Segment None in
      is_sound bytes e.to h.within (length bytes + 3) c (left_low (length bytes) c) (h.order, h.within) refl none

  -- behind the EBML element
  file_rest : (n at : ℕ) → at ≤ length bytes → length bytes - at < n → (webm_packets_from bytes (in_file_at at)).ending ≡ None → FileRest at (webm_packets_from bytes (in_file_at at)).payloads
  unfolding file_step
  file_rest zero at here below = absurd (omega arith)
  file_rest (suc n) at here below =
      let c = in_file_at at in
      let P = After at in
      subst (λ (p : Packets). p.ending ≡ None → FileRest at p.payloads) (sym (next_from bytes c here))
      (by_result P (element_at bytes at (length bytes)) (in_file c) (λ e is_e.
      let h = subst (IsElementThere bytes at (length bytes)) is_e (element_is bytes at (length bytes) (omega arith)) in
      by_test P (nat_eq at 0 && not (nat_eq e.id the.ebml)) _ _ (λ _ none. cc) (λ _.
      by_test P (nat_eq e.id the.segment) _ _ (λ is none. over_segment_head at e _ h (eqb-true e.id the.segment is) (in_the_segment at e h none)) (λ no_segment.
      by_test P e.unknown _ _ (λ _ none. cc) (λ known none.
      over_other at e _ (other_there bytes at (length bytes) e (omega arith) h known) (eqb-false e.id the.segment no_segment)
      (file_rest n e.to h.within (omega (arith, goes_further at e h)) none))))) (λ rule none. cc))

  ---- The EBML element ----

  not_false : (b : Bool) → not b ≡ false → b ≡ true
  not_false true e = refl
  not_false false e = cc

  over_ebml : (e : Element) (packets : Packets) → OtherThere bytes 0 e → e.id ≡ the.ebml → packets.ending ≡ None → FileRest e.to packets.payloads → IsWebmFile bytes packets
  over_ebml e packets o is none w = (
    record { ebml = o.other; others = w.others; head = w.head; unknown = w.unknown; elements = w.items; behind = w.behind },
    o.reads.here ∙ ap (λ xs. other_bytes o.other ++ xs) w.here,
    record { is_ebml = (o.is, sym o.id ∙ is); others = w.each; is_segment = (w.is_head, w.id); last = w.last; elements = w.are },
    none,
  )

  abbrev AtStart : Result WebmStep Rule → Type 0
  AtStart r = (go_on_by_step bytes (webm_packets_from bytes) r).ending ≡ None → IsWebmFile bytes (go_on_by_step bytes (webm_packets_from bytes) r)

  apart : (id : ℕ) → id ≡ the.ebml → nat_eq id the.segment ≡ true → ⊥
  apart id is also =
      let other : nat_eq id the.segment ≡ false = ap (λ k. nat_eq k the.segment) is in
      cc

  pub is_found : (webm_packets bytes).ending ≡ None → IsWebmFile bytes (webm_packets bytes)
  unfolding webm_packets file_step
  is_found =
      let c = in_file_at 0 in
      let P = AtStart in
      subst (λ (p : Packets). p.ending ≡ None → IsWebmFile bytes p) (sym (next_from bytes c (omega arith)))
      (by_result P (element_at bytes 0 (length bytes)) (in_file c) (λ e is_e.
      let h = subst (IsElementThere bytes 0 (length bytes)) is_e (element_is bytes 0 (length bytes) (omega arith)) in
      by_test P (not (nat_eq e.id the.ebml)) _ _ (λ _ none. cc) (λ begins.
      let ebml = eqb-true e.id the.ebml (not_false _ begins) in
      by_test P (nat_eq e.id the.segment) _ _ (λ is none. absurd (apart e.id ebml is)) (λ _.
      by_test P e.unknown _ _ (λ _ none. cc) (λ known none.
      over_ebml e _ (other_there bytes 0 (length bytes) e (omega arith) h known) ebml none (file_rest (suc (length bytes)) e.to h.within (omega arith) none))))) (λ rule none. cc))
