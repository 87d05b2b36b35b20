-- What several calls of a source gave, and what several calls of a sink took.
use Rattle.std.proofs.Common.{◌≡◌, ℕ, ◌+◌, ◌-◌, ◌<◌, ◌≤◌, List, [], ◌++◌, length, take, drop, Option, Some, Err, sym, ◌∙◌, ap, arith}
use Rattle.std.proofs.lemmas.List.{append_assoc, append-nil, take-append-drop, take_rest, length-drop, length-append, take-append-le}
use Rattle.std.proofs.Math.Seq.{take-add, take-append-add}
use Rattle.edge_io.specs.Filling.{Moves, WhereTold, IsKept}
use Rattle.edge_io.specs.SourceReading.{Gave, GaveAll}
use Rattle.edge_io.specs.Putting.{Takes, TakesFront, Puts}
use Rattle.edge_io.specs.declared.sink.PutFault.{PutFault}
use Rattle.edge_io.specs.declared.sink.PutFault.TheVariants as refused

-- nothing was taken
pub takes_none : (old : Option (List ℕ)) → Takes old old []
takes_none old = λ bytes told. told ∙ ap Some (sym (append-nil bytes))

pub takes_both : (old mid new : Option (List ℕ)) (a b : List ℕ) → Takes old mid a → Takes mid new b → Takes old new (a ++ b)
takes_both old mid new a b first next = λ bytes told. next (bytes ++ a) (first bytes told) ∙ ap Some (append_assoc bytes a b)

-- a front of the piece was taken, and then a front of the rest of it
pub takes_more : (old mid new : Option (List ℕ)) (piece : List ℕ) (at n : ℕ) → Takes old mid (take at piece) → Takes mid new (take n (take (length piece - at) (drop at piece))) → Takes old new (take (at + n) piece)
takes_more old mid new piece at n first next =
    rw (take-add at n piece, sym (take_rest piece at)) (takes_both old mid new (take at piece) (take n (take (length piece - at) (drop at piece))) first next)

front_more : (old mid new : Option (List ℕ)) (piece : List ℕ) (at : ℕ) → at ≤ length piece → Takes old mid (take at piece) → TakesFront mid new (take (length piece - at) (drop at piece)) → TakesFront old new piece
front_more old mid new piece at within first next =
    let low : next.0 ≤ length piece - at = omega (arith, next.1, ap length (sym (take_rest piece at)), length-drop at piece) in
    (at + next.0, omega (arith, low, within), takes_more old mid new piece at next.0 first next.2)

-- a front of the piece was taken, and then the rest was refused
pub refused_front : (old mid new : Option (List ℕ)) (piece : List ℕ) (at : ℕ) (refusal : PutFault) → at ≤ length piece → Takes old mid (take at piece)
    → Puts mid new (take (length piece - at) (drop at piece)) (Err refusal) → TakesFront old new piece
refused_front old mid new piece at refused.Failed within first next = front_more old mid new piece at within first next
refused_front old mid new piece at refused.OutOfMemory within first kept = (at, within, λ bytes told. kept (bytes ++ take at piece) (first bytes told))

-- a part was taken, and of the next one a front
pub front_of : (old mid new : Option (List ℕ)) (whole a b c : List ℕ) → whole ≡ a ++ b ++ c → Takes old mid a → TakesFront mid new b → TakesFront old new whole
front_of old mid new whole a b c is first next =
    let n = next.0 in
    let low = next.1 in
    let front : take (length a + n) whole ≡ a ++ take n b =
    ap (take (length a + n)) (is ∙ append_assoc a b c) ∙ take-append-add a (b ++ c) n ∙ ap (λ l. a ++ l) (take-append-le n b c low) in
    let long : length whole ≡ length a + length b + length c =
    ap length is ∙ length-append (a ++ b) c ∙ ap (λ k. k + length c) (length-append a b) in
    (length a + n, omega (arith, long, low), rw front (takes_both old mid new a (take n b) first next.2))

pub gave_more : (old mid new : Option (List ℕ)) (all buf : List ℕ) (n : ℕ) → Gave old mid all → WhereTold mid (λ bytes. Moves n buf bytes new) → Gave old new (all ++ take n buf)
gave_more old mid new all buf n gave moved =
    λ bytes told. let h = gave bytes told in let m = moved h.0 h.2 in
    (drop n h.0, h.1 ∙ ap (λ front. all ++ front) (sym (take-append-drop n h.0)) ∙ sym (append_assoc all (take n h.0) (drop n h.0)) ∙ ap (λ front. all ++ front ++ drop n h.0) (sym m.1), m.2)

pub gave_all : (old mid new : Option (List ℕ)) (all buf : List ℕ) (n : ℕ) → Gave old mid all → WhereTold mid (λ bytes. Moves n buf bytes new) → n ≡ 0 → 0 < length buf → GaveAll old new all
gave_all old mid new all buf n gave moved none_given room =
    λ bytes told. let h = gave bytes told in let m = moved h.0 h.2 in let ended = m.3 none_given room in
    (sym (h.1 ∙ ap (λ rest. all ++ rest) ended ∙ append-nil all), m.2 ∙ ap (λ k. Some (drop k h.0)) none_given ∙ ap Some ended)

pub gave_kept : (old mid new : Option (List ℕ)) (all : List ℕ) → Gave old mid all → IsKept mid new → Gave old new all
gave_kept old mid new all gave kept = λ bytes told. let h = gave bytes told in (h.0, h.1, kept h.0 h.2)
