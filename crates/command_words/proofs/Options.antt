-- What the parser's getters give of an option.
use Rattle.std.proofs.Common.{◌≡◌, ◌^◌, ◌&&◌, inl, inr, ap, sym, refl, Bool, true, false, ℕ, List, [], ◌∷◌, length, Option, Some, None, Result, Ok, Err, codes, unwrap_or, nat_lt, lt-ltb, ltb-true}
use Rattle.std.specs.List.{list_all}
use Rattle.std.specs.Result.{result_unwrap_or}
use Rattle.std.specs.Char.{digit_value}
use Rattle.std.specs.Option.{option_map_or}
use Rattle.std.specs.Str.{bytes_eq}
use Rattle.std.specs.Str.Parse.{AllDigits, ParsesBool, ParsesUnsigned, digits_value, without_leading_plus}
use Rattle.std.proofs.lemmas.Bool.{cases_Bool}
use Rattle.std.proofs.lemmas.Slice.Eq.{bytes_eq-Decides}
use Rattle.clap.specs.Walk.{byte_or_zero}
use Rattle.clap.specs.Words.{ReadsOne, Text}
use Rattle.clap.proofs.WalkLemmas.{both, byte_read}
use Rattle.command_words.specs.Words.{number_or_zero}

other_text : (t : Text) → (t ≡ codes "true" → ⊥) → bytes_eq t (codes "true") ≡ false
other_text t differs = elim (cases_Bool (bytes_eq t (codes "true"))) [
  | inl same ↦ absurd (differs ((bytes_eq-Decides t (codes "true")).0 same))
  | inr other ↦ other
]

flag_text : {E : Type 0} (G : Text → Result Bool E → Type 0) (t : Text) (r : Option Bool)
    → ((u : Text) (x : Result Bool E) → G u x → ParsesBool u x) → ReadsOne G t r
    → unwrap_or r false ≡ bytes_eq t (codes "true")
flag_text G t (Some true) only read = rw (only t (Ok true) read) refl
flag_text G t (Some false) only read = rw (only t (Ok false) read) refl
flag_text G t None only read = sym (other_text t (only t (Err read.0) read.1).0)

-- a flag's value
pub flag_read : {E : Type 0} (G : Text → Result Bool E → Type 0) (text : Option Text) (r : Option Bool)
    → ((u : Text) (x : Result Bool E) → G u x → ParsesBool u x)
    → (text ≡ None → r ≡ None) → ((t : Text) → text ≡ Some t → ReadsOne G t r)
    → unwrap_or r false ≡ option_map_or (λ t. bytes_eq t (codes "true")) text false
flag_read G None r only none value = ap (λ o. unwrap_or o false) (none refl)
flag_read G (Some t) r only none value = flag_text G t r only (value t refl)

number_text : {E : Type 0} (G : Text → Result ℕ E → Type 0) (t : Text) (r : Option ℕ)
    → ((u : Text) (x : Result ℕ E) → G u x → ParsesUnsigned 8 10 u x) → ReadsOne G t r
    → unwrap_or r 0 ≡ byte_or_zero t
number_text {E} G t (Some n) only read = byte_read {E = E} t (Ok n) (only t (Ok n) read)
number_text {E} G t None only read = byte_read t (Err read.0) (only t (Err read.0) read.1)

-- a number's value
pub number_read : {E : Type 0} (G : Text → Result ℕ E → Type 0) (text : Option Text) (r : Option ℕ)
    → ((u : Text) (x : Result ℕ E) → G u x → ParsesUnsigned 8 10 u x)
    → (text ≡ None → r ≡ None) → ((t : Text) → text ≡ Some t → ReadsOne G t r)
    → unwrap_or r 0 ≡ option_map_or byte_or_zero text 0
number_read G None r only none value = ap (λ o. unwrap_or o 0) (none refl)
number_read G (Some t) r only none value = number_text G t r only (value t refl)

digits_pass : (ds : List ℕ) → AllDigits 10 ds → list_all (λ d. nat_lt (digit_value d) 10) ds ≡ true
digits_pass [] h = refl
digits_pass (d ∷ ds) h = rw (lt-ltb (digit_value d) 10 h.0) (digits_pass ds h.1)

digits_from : (ds : List ℕ) → list_all (λ d. nat_lt (digit_value d) 10) ds ≡ true → AllDigits 10 ds
digits_from [] e = tt
digits_from (d ∷ ds) e =
    let parts = both _ _ e in
    (ltb-true _ _ parts.0, digits_from ds parts.1)

abbrev is_number : List ℕ → Bool
is_number ds = nat_lt 0 (length ds) && list_all (λ d. nat_lt (digit_value d) 10) ds && nat_lt (digits_value 10 ds) (2 ^ 32)

given_number : {E : Type 0} (t : Text) (r : Result ℕ E) → ParsesUnsigned 32 10 t r → result_unwrap_or r 0 ≡ number_or_zero t
given_number t (Ok n) h =
    let ds = without_leading_plus t in
    rw (lt-ltb 0 (length ds) h.0.0.0, digits_pass ds h.0.0.1, lt-ltb (digits_value 10 ds) (2 ^ 32) h.0.1) h.1
given_number t (Err e) h = go (is_number (without_leading_plus t)) refl
  where
    go : (b : Bool) → is_number (without_leading_plus t) ≡ b → 0 ≡ number_or_zero t
    go false n = rw n refl
    go true n =
        let outer = both _ _ n in
        let inner = both _ _ outer.0 in
        absurd (h ((ltb-true _ _ inner.0, digits_from (without_leading_plus t) inner.1), ltb-true _ _ outer.1))

given_text : {E : Type 0} (G : Text → Result ℕ E → Type 0) (t : Text) (r : Option ℕ)
    → ((u : Text) (x : Result ℕ E) → G u x → ParsesUnsigned 32 10 u x) → ReadsOne G t r
    → unwrap_or r 0 ≡ number_or_zero t
given_text {E} G t (Some n) only read = given_number {E = E} t (Ok n) (only t (Ok n) read)
given_text {E} G t None only read = given_number t (Err read.0) (only t (Err read.0) read.1)

-- the value of a word that has to be given
pub given_read : {E : Type 0} (G : Text → Result ℕ E → Type 0) (text : Option Text) (r : Option ℕ)
    → ((u : Text) (x : Result ℕ E) → G u x → ParsesUnsigned 32 10 u x)
    → (text ≡ None → r ≡ None) → ((t : Text) → text ≡ Some t → ReadsOne G t r)
    → unwrap_or r 0 ≡ option_map_or number_or_zero text 0
given_read G None r only none value = ap (λ o. unwrap_or o 0) (none refl)
given_read G (Some t) r only none value = given_text G t r only (value t refl)
