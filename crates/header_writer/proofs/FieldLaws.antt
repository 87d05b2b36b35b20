-- Fields that were put are read.
use Rattle.std.proofs.Common.{◌≡◌, ℕ, List, [], ◌++◌, ap, sym, ◌∙◌, append_assoc}
use Rattle.std.specs.Prelude.{Ok}
use Rattle.std.proofs.lemmas.List.{append-nil}
use Rattle.vp9_types.specs.Bits.{spelled}
use Rattle.vp9_types.specs.Syntax.{done, broken, ask}
use Rattle.vp9_types.specs.Reading.{after, run, bits_at, field_at, read_bits}
use Rattle.vp9_types.proofs.EntryLaws.{bits_at-spelled}
use Rattle.frame_headers.specs.Fields.{Table, past}
use Rattle.header_writer.specs.WrittenFields.{with_field, Puts}

pub fields_read : {A : Type 0} (s : Table A) (old new : List ℕ) (x : A) (more : List ℕ)
    → Puts s old x new → (bits : List ℕ) × (new ≡ old ++ bits) × (read_bits past s (bits ++ more) ≡ Ok (x, more))
unfolding with_field
fields_read {A} (done y) old new x more h =
    ([], sym h.1 ∙ sym (append-nil old), ap (λ (z : A). Ok (z, more)) h.0)
fields_read (broken e) old new x more h = absurd h
fields_read (ask q k) old new x more h =
    let v = h.0 in
    let rest = fields_read (k v) (with_field q v old) new x more h.2 in
    let first : read_bits past (ask q k) ((spelled q.width v ++ rest.0) ++ more) ≡ read_bits past (k v) (rest.0 ++ more) =
    ap (λ bits. after (bits_at past q.width bits) (λ w left. run (field_at past) (k w) left)) (append_assoc (spelled q.width v) rest.0 more)
    ∙ ap (λ r. after r (λ w left. run (field_at past) (k w) left)) (bits_at-spelled past q.width v (rest.0 ++ more) h.1) in
    (spelled q.width v ++ rest.0, rest.1 ∙ append_assoc old (spelled q.width v) rest.0, first ∙ rest.2)
