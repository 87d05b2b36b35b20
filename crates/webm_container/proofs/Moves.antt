-- Steps over what is spelled at a cursor's place: one element, and a list of them.
use Rattle.std.proofs.Common.{◌≡◌, ℕ, ◌+◌, ◌-◌, ◌<◌, ◌≤◌, ◌^◌, List, [], ◌∷◌, ◌++◌, length, drop, refl, sym, ap, ◌∙◌, arith, Bool, true, false, length-append, append_assoc}
use Rattle.std.specs.Prelude.{Option, Some, None, Result, Ok, not, nat_eq, nat_lt, nat_le, slice_index, slice_range, if◌then◌else◌}
use Rattle.std.specs.List.{flat_map, AllByRecursion}
use Rattle.std.proofs.lemmas.Bool.{le-ltb, lt-leb, eqb-true}
use Rattle.vp9_types.specs.Results.{◌>>=◌}
use Rattle.vp9_types.specs.declared.job.Span.{Span}
use Rattle.vp9_types.specs.declared.rule.Rule.{Rule}
use Rattle.ivf_container.specs.Packets.{Packets, with_payload, with_payloads}
use Rattle.webm_container.specs.Elements.{coded_of}
use Rattle.webm_container.specs.ClusterBlocks.{is_laced, behind_number, payload_at}
use Rattle.webm_container.specs.Walk.{behind_block, block_step, step_at, go_on_by_step, webm_packets_from}
use Rattle.webm_container.proofs.Progress.{LiesWithin}
use Rattle.webm_container.specs.Webm.{marked_in, value_in, Block, block_bytes, IsBlock, block_payloads}
use Rattle.webm_container.specs.declared.cursor.WebmCursor.{WebmCursor}
use Rattle.webm_container.specs.declared.elements.Coded.{Coded}
use Rattle.webm_container.specs.declared.elements.Element.{Element}
use Rattle.webm_container.specs.declared.steps.WebmStep.TheVariants.{Moved}
use Rattle.webm_container.proofs.Spelled.{if_false, if_true, after, range, first_of_them, coded_there}
use Rattle.webm_container.proofs.Walks.{next_from}

-- one step, which gives no block
pub moves : (bytes : List ℕ) (c d : WebmCursor) → LiesWithin (length bytes) c.at c.segment c.parent → step_at bytes c ≡ Ok (Moved d) → webm_packets_from bytes c ≡ webm_packets_from bytes d
moves bytes c d fits is = next_from bytes c fits ∙ ap (go_on_by_step bytes (webm_packets_from bytes)) is

pub with_both : (xs ys : List (List ℕ)) (p : Packets) → with_payloads xs (with_payloads ys p) ≡ with_payloads (xs ++ ys) p
with_both xs ys p = ap (λ z. record { payloads = z; ending = p.ending }) (sym (append_assoc xs ys p.payloads))

-- a list of elements, if the walk goes over each
pub over_all : {Item : Type 0} (bytes : List ℕ) (spell : Item → List ℕ) (pays : Item → List (List ℕ)) (cursor : ℕ → WebmCursor) (low to : ℕ) (fine : Item → Type 0)
    → ((item : Item) (at : ℕ) (rest : List ℕ) → fine item → low ≤ at → drop at bytes ≡ spell item ++ rest → at + length (spell item) ≤ to
    → webm_packets_from bytes (cursor at) ≡ with_payloads (pays item) (webm_packets_from bytes (cursor (at + length (spell item)))))
    → (items : List Item) (at : ℕ) (rest : List ℕ) → AllByRecursion fine items → low ≤ at → drop at bytes ≡ flat_map spell items ++ rest → at + length (flat_map spell items) ≤ to
    → webm_packets_from bytes (cursor at) ≡ with_payloads (flat_map pays items) (webm_packets_from bytes (cursor (at + length (flat_map spell items))))
over_all bytes spell pays cursor low to fine one [] at rest all from here fits =
    let none : at ≡ at + 0 = omega arith in
    ap (λ k. webm_packets_from bytes (cursor k)) none
over_all bytes spell pays cursor low to fine one (item ∷ more) at rest all from here fits =
    let n = length (spell item) in
    let behind = flat_map spell more in
    let long : length (spell item ++ behind) ≡ n + length behind = length-append (spell item) behind in
    let first : drop at bytes ≡ spell item ++ (behind ++ rest) = here ∙ append_assoc (spell item) behind rest in
    let to_there : at + n + length behind ≡ at + length (spell item ++ behind) = omega (arith, long) in
    one item at (behind ++ rest) all.0 from first (omega (arith, long))
    ∙ ap (with_payloads (pays item)) (over_all bytes spell pays cursor low to fine one more (at + n) rest all.1 (omega arith) (after bytes (spell item) (behind ++ rest) at first) (omega (arith, long)))
    ∙ with_both (pays item) (flat_map pays more) (webm_packets_from bytes (cursor (at + n + length behind)))
    ∙ ap (λ k. with_payloads (pays item ++ flat_map pays more) (webm_packets_from bytes (cursor k))) to_there

---- Blocks ----

-- where the parts of a block stand
record BlockStands (bytes : List ℕ) (b : Block) (from to : ℕ) : Type 0 where
  long : to ≡ from + length b.track + 3 + length b.payload
  flags : slice_index bytes (from + length b.track + 2) ≡ b.flags
  payload : slice_range bytes (from + length b.track + 3) to ≡ b.payload

block_stands : (bytes rest : List ℕ) (b : Block) (from to : ℕ) → drop from bytes ≡ block_bytes b ++ rest → to ≡ from + length (block_bytes b) → length b.time ≡ 2 → BlockStands bytes b from to
block_stands bytes rest b from to here end two =
    let n = length b.track in
    let tail = b.flags ∷ b.payload in
    let parts : drop from bytes ≡ b.track ++ (b.time ++ (tail ++ rest)) = here ∙ append_assoc b.track (b.time ++ tail) rest ∙ ap (λ xs. b.track ++ xs) (append_assoc b.time tail rest) in
    let at_time = after bytes b.track _ from parts in
    let at_flags_is : from + n + length b.time ≡ from + n + 2 = omega (arith, two) in
    let at_flags : drop (from + n + 2) bytes ≡ tail ++ rest = ap (λ k. drop k bytes) (sym at_flags_is) ∙ after bytes b.time _ (from + n) at_time in
    let flag_list : drop (from + n + 2) bytes ≡ (b.flags ∷ []) ++ (b.payload ++ rest) = at_flags in
    let one_more : from + n + 2 + length (b.flags ∷ []) ≡ from + n + 3 = omega arith in
    let at_payload : drop (from + n + 3) bytes ≡ b.payload ++ rest = ap (λ k. drop k bytes) (sym one_more) ∙ after bytes (b.flags ∷ []) _ (from + n + 2) flag_list in
    let long : to ≡ from + n + 3 + length b.payload = omega (arith, end, two, length-append b.track (b.time ++ tail), length-append b.time tail) in
    record {
      long = long;
      flags = first_of_them bytes (b.flags ∷ []) (b.payload ++ rest) (from + n + 2) flag_list (omega arith);
      payload = ap (slice_range bytes (from + n + 3)) long ∙ range bytes b.payload rest (from + n + 3) at_payload;
    }

abbrev payload_if : Bool → ℕ → ℕ → Option Span
payload_if x from to = if x then Some (record { from = from; to = to }) else None

abbrev ok_payload : Option Span → Result (Option Span) Rule
ok_payload payload = Ok payload

by_track : (bytes : List ℕ) (track to : ℕ) (number : Coded) (b : Block) (x : Bool) → nat_eq track number.value ≡ x → 3 ≤ to - number.to → (x ≡ true → is_laced (slice_index bytes (number.to + 2)) ≡ false)
    → (x ≡ true → to - (number.to + 3) < 2 ^ 32) → behind_number bytes (Some track) to number ≡ Ok (payload_if x (number.to + 3) to)
by_track bytes track to number b false is head plain short =
    if_false (nat_lt (to - number.to) 3) _ _ (le-ltb (to - number.to) 3 head)
    ∙ if_true (not (nat_eq track number.value)) _ _ (ap not is)
by_track bytes track to number b true is head plain short =
    if_false (nat_lt (to - number.to) 3) _ _ (le-ltb (to - number.to) 3 head)
    ∙ if_false (not (nat_eq track number.value)) _ _ (ap not is)
    ∙ if_false (is_laced (slice_index bytes (number.to + 2))) _ _ (plain refl)
    ∙ if_false (nat_le (2 ^ 32) (to - (number.to + 3))) _ _ (lt-leb (2 ^ 32) (to - (number.to + 3)) (short refl))

ours : (track value : ℕ) → nat_eq track value ≡ true → value ≡ track
ours track value is = sym (eqb-true track value is)

payload_there : (bytes rest : List ℕ) (track : ℕ) (b : Block) (from to : ℕ) → drop from bytes ≡ block_bytes b ++ rest → to ≡ from + length (block_bytes b) → IsBlock track b
    → payload_at bytes (Some track) from to ≡ Ok (payload_if (nat_eq track (value_in b.track)) (from + length b.track + 3) to)
unfolding payload_at
payload_there bytes rest track b from to here end h =
    let n = length b.track in
    let number = coded_of n (marked_in b.track) (from + n) in
    let stands = block_stands bytes rest b from to here end h.time in
    let parts : drop from bytes ≡ b.track ++ ((b.time ++ b.flags ∷ b.payload) ++ rest) = here ∙ append_assoc b.track (b.time ++ b.flags ∷ b.payload) rest in
    ap (λ (r : Result Coded Rule). r >>= behind_number bytes (Some track) to) (coded_there bytes b.track _ from to 8 parts h.coded (omega (arith, stands.long)))
    ∙ by_track bytes track to number b (nat_eq track (value_in b.track)) refl (omega (arith, stands.long))
    (λ is. ap is_laced stands.flags ∙ h.plain (ours track (value_in b.track) is))
    (λ is. omega (arith, stands.long, h.short (ours track (value_in b.track) is)))

told : (bytes payload : List ℕ) (x : Bool) (from to : ℕ) (d : WebmCursor) → slice_range bytes from to ≡ payload
    → go_on_by_step bytes (webm_packets_from bytes) (behind_block d (payload_if x from to)) ≡ with_payloads (if x then payload ∷ [] else []) (webm_packets_from bytes d)
told bytes payload false from to d is = refl
told bytes payload true from to d is = ap (λ p. with_payload p (webm_packets_from bytes d)) is

-- a block, whose payload is given if it is of the chosen track
pub block_goes : (bytes rest : List ℕ) (track : ℕ) (b : Block) (c : WebmCursor) (e : Element) → c.track ≡ Some track → drop e.from bytes ≡ block_bytes b ++ rest → e.to ≡ e.from + length (block_bytes b) → IsBlock track b
    → go_on_by_step bytes (webm_packets_from bytes) (block_step bytes c e) ≡ with_payloads (block_payloads track b) (webm_packets_from bytes (record c { at = e.to }))
unfolding block_step
block_goes bytes rest track b c e chosen here end h =
    ap (λ t. go_on_by_step bytes (webm_packets_from bytes) (payload_at bytes t e.from e.to >>= behind_block (record c { at = e.to }))) chosen
    ∙ ap (λ (r : Result (Option Span) Rule). go_on_by_step bytes (webm_packets_from bytes) (r >>= behind_block (record c { at = e.to }))) (payload_there bytes rest track b e.from e.to here end h)
    ∙ told bytes b.payload (nat_eq track (value_in b.track)) (e.from + length b.track + 3) e.to (record c { at = e.to }) (block_stands bytes rest b e.from e.to here end h.time).payload
