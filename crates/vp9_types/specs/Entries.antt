-- A header is a list of entries: each is the field that the syntax asks for after the values before it, with a value
-- of its width. The entries' bits, joined, are a front of the frame's bits.
use Rattle.std.specs.Prelude.{◌≡◌, ℕ, ◌<◌, ◌^◌, List, [], ◌∷◌, length}
use Rattle.std.specs.List.{flat_map}
use Rattle.vp9_types.specs.Bits.{spelled}
use Rattle.vp9_types.specs.Syntax.{Syntax, done, broken, ask}
use Rattle.vp9_types.specs.Reading.{Field}

pub record Entry (N : Type 0) : Type 0 where
  pub field : Field N
  pub value : ℕ

abbrev pub entry_bits : {N : Type 0} → Entry N → List ℕ
entry_bits e = spelled e.field.width e.value

abbrev pub joined : {N : Type 0} → List (Entry N) → List ℕ
joined es = flat_map entry_bits es

-- the entry answers the question
abbrev pub Answers : {N : Type 0} → Field N → Entry N → Type 0
Answers q e = (e.field ≡ q) × (e.value < 2 ^ q.width)

-- the entries answer the syntax to its end, which settles on the value
abbrev pub IsReadAs : {N E A : Type 0} → Syntax (Field N) E A → List (Entry N) → A → Type 0
IsReadAs (done x) [] y = x ≡ y
IsReadAs (done x) (e ∷ es) y = ⊥
IsReadAs (broken f) es y = ⊥
IsReadAs (ask q k) [] y = ⊥
IsReadAs (ask q k) (e ∷ es) y = Answers q e × IsReadAs (k e.value) es y

-- the entries answer the syntax up to the first test that fails, or up to a field that is wider than the rest
abbrev pub FailsAfter : {N E A : Type 0} → E → Syntax (Field N) E A → List (Entry N) → List ℕ → E → Type 0
FailsAfter past (done x) es rest fault = ⊥
FailsAfter past (broken f) [] rest fault = f ≡ fault
FailsAfter past (broken f) (e ∷ es) rest fault = ⊥
FailsAfter past (ask q k) [] rest fault = (length rest < q.width) × (past ≡ fault)
FailsAfter past (ask q k) (e ∷ es) rest fault = Answers q e × FailsAfter past (k e.value) es rest fault
