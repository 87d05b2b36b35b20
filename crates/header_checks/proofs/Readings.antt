-- What tables of a header yield, part by part.
use Rattle.std.proofs.Common.{◌≡◌, ℕ, zero, suc, ◌^◌, ◌<◌, Bool, true, false, List, [], ◌∷◌, length, get_or, refl, subst, arith}
use Rattle.std.specs.Prelude.{All, Ok, if◌then◌else◌}
use Rattle.std.proofs.lemmas.List.Elements.{All-nil, All-cons}
use Rattle.vp9_types.specs.Bits.{AreBits}
use Rattle.vp9_types.specs.Each.{each}
use Rattle.vp9_types.specs.Entries.{Entry, IsReadAs}
use Rattle.vp9_types.specs.Reading.{read_bits}
use Rattle.vp9_types.specs.Syntax.{done, broken, ask, ◌>>=◌, check}
use Rattle.vp9_types.specs.declared.rule.Rule.{Rule}
use Rattle.vp9_types.proofs.EntryLaws.{reads_entries}
use Rattle.frame_headers.specs.declared.field.FieldName.{FieldName}
use Rattle.frame_headers.specs.Fields.{Table, past, f, flag_field}

-- whatever numbers of their widths the fields have, what the table settles on has a property
abbrev pub Yields : {A : Type 0} → Table A → (A → Type 0) → Type 0
Yields (done x) P = P x
Yields (broken e) P = Unit {0}
Yields (ask q k) P = (v : ℕ) → v < 2 ^ q.width → Yields (k v) P

read_as : {A : Type 0} (s : Table A) (P : A → Type 0) (es : List (Entry FieldName)) (x : A) → Yields s P → IsReadAs s es x → P x
read_as (done y) P [] x h is = subst P is h
read_as (done y) P (e ∷ es) x h is = absurd is
read_as (broken e) P es x h is = absurd is
read_as (ask q k) P [] x h is = absurd is
read_as (ask q k) P (e ∷ es) x h is = read_as (k e.value) P es x (h e.value is.0.1) is.1

-- so what is read of bits has it
pub read_has : {A : Type 0} (s : Table A) (P : A → Type 0) (bits rest : List ℕ) (x : A) → Yields s P → AreBits bits → read_bits past s bits ≡ Ok (x, rest) → P x
read_has s P bits rest x h are read = let found = reads_entries past s bits x rest are read in read_as s P found.0 x h found.1

pub no_false : {P : Type 0} → true ≡ false → P
no_false h = absurd cc

pub no_true : {P : Type 0} → false ≡ true → P
no_true h = absurd cc

---- One and then another ----

pub yields_bind : {A B : Type 0} (s : Table A) (t : A → Table B) (P : A → Type 0) (Q : B → Type 0) → Yields s P → ((x : A) → P x → Yields (t x) Q) → Yields (s >>= t) Q
yields_bind (done x) t P Q h g = g x h
yields_bind (broken e) t P Q h g = tt
yields_bind (ask q k) t P Q h g = λ v low. yields_bind (k v) t P Q (h v low) g

pub yields_all : {A : Type 0} (s : Table A) → Yields s (λ x. Unit {0})
yields_all (done x) = tt
yields_all (broken e) = tt
yields_all (ask q k) = λ v low. yields_all (k v)

pub yields_map : {A : Type 0} (s : Table A) (P Q : A → Type 0) → Yields s P → ((x : A) → P x → Q x) → Yields s Q
yields_map (done x) P Q h g = g x h
yields_map (broken e) P Q h g = tt
yields_map (ask q k) P Q h g = λ v low. yields_map (k v) P Q (h v low) g

-- whatever the first settles on
pub yields_after : {A B : Type 0} (s : Table A) (t : A → Table B) (Q : B → Type 0) → ((x : A) → Yields (t x) Q) → Yields (s >>= t) Q
yields_after s t Q g = yields_bind s t (λ x. Unit {0}) Q (yields_all s) (λ x u. g x)

pub yields_if : {A : Type 0} (b : Bool) (s t : Table A) (P : A → Type 0) → (b ≡ true → Yields s P) → (b ≡ false → Yields t P) → Yields (if b then s else t) P
yields_if true s t P h g = h refl
yields_if false s t P h g = g refl

-- a flag says which
pub yields_either : {A : Type 0} (name : FieldName) (s t : Table A) (P : A → Type 0) → Yields s P → Yields t P → Yields (flag_field name >>= λ b. if b then s else t) P
yields_either name s t P h g = yields_after (flag_field name) _ P (λ b. yields_if b s t P (λ is. h) (λ is. g))

pub yields_check : (b : Bool) (e : Rule) → Yields (check b e) (λ u. b ≡ true)
yields_check true e = refl
yields_check false e = tt

pub field_yields : (name : FieldName) (width : ℕ) → Yields (f name width) (λ v. v < 2 ^ width)
unfolding f
field_yields name width = λ v low. low

---- Each element of a list ----

pub each_all : {A B : Type 0} (s : A → Table B) (P : B → Type 0) (xs : List A) → ((x : A) → Yields (s x) P) → Yields (each s xs) (All P)
each_all s P [] h = All-nil P
each_all s P (x ∷ xs) h = yields_bind (s x) _ P (All P) (h x) (λ y is. yields_bind (each s xs) _ (All P) (All P) (each_all s P xs h) (λ ys are. All-cons P y ys is are))

-- each suits the element that it is read for
abbrev pub AreFor : {A B : Type 0} → (A → B → Type 0) → List A → List B → Type 0
AreFor {A} {B} R xs ys = (i : ℕ) (d : A) (e : B) → i < length ys → R (get_or xs i d) (get_or ys i e)

one_more : {A B : Type 0} (R : A → B → Type 0) (x : A) (xs : List A) (y : B) (ys : List B) → R x y → AreFor R xs ys → AreFor R (x ∷ xs) (y ∷ ys)
one_more R x xs y ys is are zero d e low = is
one_more R x xs y ys is are (suc i) d e low = are i d e (omega (arith, low))

pub each_yields : {A B : Type 0} (s : A → Table B) (R : A → B → Type 0) (xs : List A) → ((x : A) → Yields (s x) (R x)) → Yields (each s xs) (AreFor R xs)
each_yields s R [] h = λ i d e low. absurd (omega (arith, low))
each_yields s R (x ∷ xs) h =
    yields_bind (s x) _ (R x) (AreFor R (x ∷ xs)) (h x)
    (λ y is. yields_bind (each s xs) _ (AreFor R xs) (AreFor R (x ∷ xs)) (each_yields s R xs h) (λ ys are. one_more R x xs y ys is are))
