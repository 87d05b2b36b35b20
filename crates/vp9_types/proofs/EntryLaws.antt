-- What is read of bits is one list of entries.
use Rattle.std.proofs.Common.{◌≡◌, ℕ, ◌^◌, ◌<◌, ◌≤◌, List, [], ◌∷◌, ◌++◌, length, refl, ap, sym, subst, ◌∙◌, arith, take, drop, append_assoc, Bool, true, false}
use Rattle.std.specs.Prelude.{Result, Ok, Err, nat_lt}
use Rattle.std.proofs.lemmas.Bool.{ltb-true, ltb-false}
use Rattle.std.proofs.lemmas.List.{take-append-drop, length-append, length-take-le, length-drop}
use Rattle.std.proofs.Math.Seq.{take-append_seam, drop-append_seam}
use Rattle.vp9_types.specs.Bits.{number_of, spelled, AreBits}
use Rattle.vp9_types.specs.Syntax.{Syntax, done, broken, ask}
use Rattle.vp9_types.specs.Reading.{after, run, Field, bits_at, field_at, read_bits}
use Rattle.vp9_types.specs.Entries.{Entry, entry_bits, joined, Answers, IsReadAs, FailsAfter}
use Rattle.vp9_types.proofs.Spells.{number_of-below, number_of-spelled, spelled-number_of, length-spelled, AreBits-take, AreBits-drop}

-- what n bits answer, if they are there, and if not
pub data Answered {E : Type 0} (past : E) (n : ℕ) (bits : List ℕ) : Type 0 where
  there : n ≤ length bits → bits_at past n bits ≡ Ok (number_of (take n bits), drop n bits) → Answered past n bits
  short : length bits < n → bits_at past n bits ≡ Err past → Answered past n bits

chosen : {E : Type 0} (past : E) (n : ℕ) (bits : List ℕ) (b : Bool) → nat_lt (length bits) n ≡ b → Answered past n bits
unfolding bits_at
chosen past n bits true h = short (ltb-true (length bits) n h) (rw h refl)
chosen past n bits false h = there (ltb-false (length bits) n h) (rw h refl)

pub answered : {E : Type 0} (past : E) (n : ℕ) (bits : List ℕ) → Answered past n bits
answered past n bits = chosen past n bits (nat_lt (length bits) n) refl

-- bits that were spelled answer with their number
pub bits_at-spelled : {E : Type 0} (past : E) (n x : ℕ) (more : List ℕ) → x < 2 ^ n → bits_at past n (spelled n x ++ more) ≡ Ok (x, more)
bits_at-spelled {E} past n x more h =
    let long = length-spelled n x in
    let all = length-append (spelled n x) more in
    let front : take n (spelled n x ++ more) ≡ spelled n x = ap (λ k. take k (spelled n x ++ more)) (sym long) ∙ take-append_seam (spelled n x) more in
    let back : drop n (spelled n x ++ more) ≡ more = ap (λ k. drop k (spelled n x ++ more)) (sym long) ∙ drop-append_seam (spelled n x) more in
    elim (answered past n (spelled n x ++ more)) [
      | there fits is ↦ is ∙ ap (λ (bs : List ℕ). Ok (number_of bs, drop n (spelled n x ++ more))) front
          ∙ ap (λ (y : ℕ). Ok (y, drop n (spelled n x ++ more))) (number_of-spelled n x h)
          ∙ ap (λ (bs : List ℕ). Ok (x, bs)) back
      | short few is ↦ absurd (omega (arith, few, long, all))
    ]

-- what n bits spell, they spell again
pub spelled-take : (n : ℕ) (bits : List ℕ) → n ≤ length bits → AreBits bits → spelled n (number_of (take n bits)) ≡ take n bits
spelled-take n bits h fits =
    ap (λ k. spelled k (number_of (take n bits))) (sym (length-take-le n bits h)) ∙ spelled-number_of (take n bits) (AreBits-take n bits fits)

below-take : (n : ℕ) (bits : List ℕ) → n ≤ length bits → AreBits bits → number_of (take n bits) < 2 ^ n
below-take n bits h fits =
    subst (λ (k : ℕ). number_of (take n bits) < 2 ^ k) (length-take-le n bits h) (number_of-below (take n bits) (AreBits-take n bits fits))

-- the entry that n bits give, and the bits after it
whole-entry : (n : ℕ) (bits more rest : List ℕ) → n ≤ length bits → AreBits bits → drop n bits ≡ more ++ rest → bits ≡ (spelled n (number_of (take n bits)) ++ more) ++ rest
whole-entry n bits more rest h fits e =
    sym (take-append-drop n bits)
    ∙ ap (λ bs. take n bits ++ bs) e
    ∙ ap (λ bs. bs ++ (more ++ rest)) (sym (spelled-take n bits h fits))
    ∙ sym (append_assoc (spelled n (number_of (take n bits))) more rest)

-- What is read is spelled so, each bit of it.
pub reads_entries : {N E A : Type 0} (past : E) (s : Syntax (Field N) E A) (bits : List ℕ) (x : A) (rest : List ℕ)
    → AreBits bits → read_bits past s bits ≡ Ok (x, rest)
    → (es : List (Entry N)) × IsReadAs s es x × (bits ≡ joined es ++ rest)
reads_entries {N} {E} {A} past (done y) bits x rest fits h =
    let p : ◌≡◌ {A = A × List ℕ} (y, bits) (x, rest) = cc in
    ([], ap (λ z. z.0) p, ap (λ z. z.1) p)
reads_entries past (broken e) bits x rest fits h = absurd cc
reads_entries {N} {E} {A} past (ask q k) bits x rest fits h =
    elim (answered past q.width bits) [
      | there long is ↦
          let v = number_of (take q.width bits) in
          let read : read_bits past (k v) (drop q.width bits) ≡ Ok (x, rest) = ap (λ r. after r (λ w more. run (field_at past) (k w) more)) (sym is) ∙ h in
          let found = reads_entries past (k v) (drop q.width bits) x rest (AreBits-drop q.width bits fits) read in
          let e : Entry N = record { field = q; value = v } in
          (e ∷ found.0, ((refl, below-take q.width bits long fits), found.1), whole-entry q.width bits (joined found.0) rest long fits found.2)
      | short few is ↦
          let no : ◌≡◌ {A = Result (A × List ℕ) E} (Err past) (Ok (x, rest)) = ap (λ r. after r (λ w more. run (field_at past) (k w) more)) (sym is) ∙ h in
          absurd cc
    ]

-- A fault is the first test that fails, or a field past the end.
pub fails_after : {N E A : Type 0} (past : E) (s : Syntax (Field N) E A) (bits : List ℕ) (fault : E)
    → AreBits bits → read_bits past s bits ≡ Err fault
    → (es : List (Entry N)) × (rest : List ℕ) × FailsAfter past s es rest fault × (bits ≡ joined es ++ rest)
fails_after past (done y) bits fault fits h = absurd cc
fails_after past (broken e) bits fault fits h = let p : e ≡ fault = cc in ([], bits, p, refl)
fails_after {N} {E} {A} past (ask q k) bits fault fits h =
    elim (answered past q.width bits) [
      | there long is ↦
          let v = number_of (take q.width bits) in
          let read : read_bits past (k v) (drop q.width bits) ≡ Err fault = ap (λ r. after r (λ w more. run (field_at past) (k w) more)) (sym is) ∙ h in
          let found = fails_after past (k v) (drop q.width bits) fault (AreBits-drop q.width bits fits) read in
          let e : Entry N = record { field = q; value = v } in
          (e ∷ found.0, found.1, ((refl, below-take q.width bits long fits), found.2), whole-entry q.width bits (joined found.0) found.1 long fits found.3)
      | short few is ↦
          let same : ◌≡◌ {A = Result (A × List ℕ) E} (Err past) (Err fault) = ap (λ r. after r (λ w more. run (field_at past) (k w) more)) (sym is) ∙ h in
          let p : past ≡ fault = cc in
          ([], bits, (few, p), refl)
    ]

-- an entry that answers a question is read for it
entry_read : {N E : Type 0} (past : E) (q : Field N) (e : Entry N) (more rest : List ℕ) → Answers q e → field_at past q ((entry_bits e ++ more) ++ rest) ≡ Ok (e.value, more ++ rest)
entry_read past q e more rest h =
    ap (λ (f : Field _). bits_at past q.width ((spelled f.width e.value ++ more) ++ rest)) h.0
    ∙ ap (bits_at past q.width) (append_assoc (spelled q.width e.value) more rest)
    ∙ bits_at-spelled past q.width e.value (more ++ rest) h.1

-- What is spelled so is read.
pub entries_read : {N E A : Type 0} (past : E) (s : Syntax (Field N) E A) (es : List (Entry N)) (x : A) (rest : List ℕ)
    → IsReadAs s es x → read_bits past s (joined es ++ rest) ≡ Ok (x, rest)
entries_read {N} {E} past (done y) [] x rest h = ap (λ z. Ok (z, rest)) h
entries_read past (done y) (e ∷ es) x rest h = absurd h
entries_read past (broken f) es x rest h = absurd h
entries_read past (ask q k) [] x rest h = absurd h
entries_read past (ask q k) (e ∷ es) x rest h =
    ap (λ r. after r (λ w more. run (field_at past) (k w) more)) (entry_read past q e (joined es) rest h.0)
    ∙ entries_read past (k e.value) es x rest h.1

pub entries_fail : {N E A : Type 0} (past : E) (s : Syntax (Field N) E A) (es : List (Entry N)) (rest : List ℕ) (fault : E)
    → FailsAfter past s es rest fault → read_bits past s (joined es ++ rest) ≡ Err fault
entries_fail past (done y) es rest fault h = absurd h
entries_fail past (broken f) [] rest fault h = ap (λ z. Err z) h
entries_fail past (broken f) (e ∷ es) rest fault h = absurd h
entries_fail {N} {E} {A} past (ask q k) [] rest fault h =
    elim (answered past q.width rest) [
      | there long is ↦ absurd (omega (arith, long, h.0))
      | short few is ↦ ap (λ r. after r (λ w more. run (field_at past) (k w) more)) is ∙ ap (λ z. Err z) h.1
    ]
entries_fail past (ask q k) (e ∷ es) rest fault h =
    ap (λ r. after r (λ w more. run (field_at past) (k w) more)) (entry_read past q e (joined es) rest h.0)
    ∙ entries_fail past (k e.value) es rest fault h.1

same_entry : {N : Type 0} (q : Field N) (e f : Entry N) → e.field ≡ q → f.field ≡ q → e.value ≡ f.value → e ≡ f
same_entry q e f p r v =
    ap (λ (w : Field _). entry_of w e.value) (p ∙ sym r) ∙ ap (λ n. entry_of f.field n) v
  where
    entry_of : {N : Type 0} → Field N → ℕ → Entry N
    entry_of w n = record { field = w; value = n }

-- No other entries are.
pub one_reading : {N E A : Type 0} (past : E) (s : Syntax (Field N) E A) (es fs : List (Entry N)) (x y : A) (rest last : List ℕ)
    → IsReadAs s es x → IsReadAs s fs y → joined es ++ rest ≡ joined fs ++ last → es ≡ fs
one_reading past (done z) [] [] x y rest last h g b = refl
one_reading past (done z) [] (f ∷ fs) x y rest last h g b = absurd g
one_reading past (done z) (e ∷ es) fs x y rest last h g b = absurd h
one_reading past (broken z) es fs x y rest last h g b = absurd h
one_reading past (ask q k) [] fs x y rest last h g b = absurd h
one_reading past (ask q k) (e ∷ es) [] x y rest last h g b = absurd g
one_reading {N} {E} {A} past (ask q k) (e ∷ es) (f ∷ fs) x y rest last h g b =
    let one : ◌≡◌ {A = Result (ℕ × List ℕ) E} (Ok (e.value, joined es ++ rest)) (Ok (f.value, joined fs ++ last)) =
    sym (entry_read past q e (joined es) rest h.0) ∙ ap (field_at past q) b ∙ entry_read past q f (joined fs) last g.0 in
    let p : ◌≡◌ {A = ℕ × List ℕ} (e.value, joined es ++ rest) (f.value, joined fs ++ last) = cc in
    let v : e.value ≡ f.value = ap (λ z. z.0) p in
    let others = one_reading past (k e.value) es fs x y rest last h.1 (subst (λ n. IsReadAs (k n) fs y) (sym v) g.1) (ap (λ z. z.1) p) in
    ap (λ z. z ∷ es) (same_entry q e f h.0.0 g.0.0 v) ∙ ap (λ zs. f ∷ zs) others

-- What is read leaves no more than there was.
pub rest_within : {N E A : Type 0} (past : E) (s : Syntax (Field N) E A) (bits : List ℕ) (x : A) (rest : List ℕ)
    → read_bits past s bits ≡ Ok (x, rest) → length rest ≤ length bits
rest_within {N} {E} {A} past (done y) bits x rest h =
    let p : ◌≡◌ {A = A × List ℕ} (y, bits) (x, rest) = cc in
    let same = ap length (ap (λ z. z.1) p) in
    omega (arith, same)
rest_within past (broken e) bits x rest h = absurd cc
rest_within {N} {E} {A} past (ask q k) bits x rest h =
    elim (answered past q.width bits) [
      | there long is ↦
          let v = number_of (take q.width bits) in
          let read : read_bits past (k v) (drop q.width bits) ≡ Ok (x, rest) = ap (λ r. after r (λ w more. run (field_at past) (k w) more)) (sym is) ∙ h in
          let less = rest_within past (k v) (drop q.width bits) x rest read in
          let dropped = length-drop q.width bits in
          omega (arith, less, dropped)
      | short few is ↦
          let no : ◌≡◌ {A = Result (A × List ℕ) E} (Err past) (Ok (x, rest)) = ap (λ r. after r (λ w more. run (field_at past) (k w) more)) (sym is) ∙ h in
          absurd cc
    ]
