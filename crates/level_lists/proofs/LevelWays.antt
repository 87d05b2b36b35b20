-- A level is put in one way.
use Rattle.std.proofs.Common.{◌≡◌, ◌<◌, ◌≤◌, ℕ, zero, suc, ◌+◌, ◌-◌, ◌*◌, ◌/◌, ◌%◌, ◌^◌, List, [], ◌∷◌, ◌++◌, length, Bool, true, false, refl, sym, subst, ap, ◌∙◌, arith, pos, inl, inr}
use Rattle.std.specs.Prelude.{int_lt, unsigned_abs, nat_lt, if◌then◌else◌}
use Rattle.std.specs.Ordering.{int_eq}
use Rattle.std.proofs.lemmas.Nat.{shr-shr}
use Rattle.std.proofs.lemmas.List.{append_assoc}
use Rattle.std.proofs.lemmas.Bool.{cases_Bool, lt-ltb, le-ltb, ltb-true, ltb-false, ne_eqb}
use Rattle.std.proofs.lemmas.Bool.Decides.{Decides-int_eq}
use Rattle.vp9_types.specs.Syntax.{done, ◌>>=◌}
use Rattle.vp9_types.specs.declared.shape.Depth.{Depth}
use Rattle.vp9_tables.specs.Coefficients.{category_of}
use Rattle.vp9_tables.specs.SymbolTrees.{coef_tail_from}
use Rattle.bool_decoder.specs.Bools.{flag}
use Rattle.bool_encoder.specs.Part.{NumberPart, after_put, after_bools}
use Rattle.bool_encoder.specs.WrittenBools.{Puts}
use Rattle.bool_lists.specs.BoolLists.{HasPut, one_bool}
use Rattle.bool_lists.proofs.Ways.{between, flag_way, has_one, of_leaf, spells_on, spells_none, tree_way}
use Rattle.coef_tokens.specs.TokenSymbols.{bits_from, category_base, class_of, level, coef_magnitude, tail_probs, tail_token, with_sign}
use Rattle.coef_tokens.specs.Steps.{more_coefs, token_step, token, token_from_one}
use Rattle.coef_tokens.specs.declared.step.Step.{Step}
use Rattle.coef_tokens.specs.declared.step.Step.TheVariants.{End, Zero, Level}
use Rattle.counting_reader.specs.CountedSymbols.{has_leaf}
use Rattle.counting_reader.specs.Counting.{in_order, settle, uncounted}
use Rattle.bool_encoder.specs.CountedBools.{PutsValue}
use Rattle.level_lists.specs.LevelLists.{category_bits, spelled_coef, spelled_level, spelled_more, spelled_rest, spelled_token, token_of}
use Rattle.level_lists.proofs.Counted.{flag_put, settle_put, two_put, uncounted_put}

---- A magnitude ----

bits_by : (ps : List ℕ) (y x : ℕ) (old new : NumberPart) → Puts (bits_from ps y) old x new → (x / 2 ^ length ps ≡ y) × (new ≡ after_bools (category_bits ps x) old)
unfolding bits_from category_bits
bits_by [] y x old new h = let is = h.0 in (omega (arith, is), sym h.1)
bits_by (p ∷ ps) y x old new h =
    let v = h.0 in
    let low = h.1.1 in
    let n = length ps in
    let rest = bits_by ps (2 * y + v) x (after_put p v old) new h.2 in
    let whole = rest.0 in
    let bit : x / 2 ^ n % 2 ≡ v = omega (arith, whole, low) in
    let half : x / 2 ^ suc n ≡ x / 2 ^ n / 2 = ap (λ k. x / 2 ^ k) (let e : suc n ≡ n + 1 = omega arith in e) ∙ sym (shr-shr x n 1) in
    (omega (arith, half, whole, low), subst (λ b. new ≡ after_bools (category_bits ps x) (after_put p b old)) (sym bit) rest.1)

-- by the token from 5 on
six : (P : ℕ → Type 0) → P 5 → P 6 → P 7 → P 8 → P 9 → P 10 → (k : ℕ) → 5 ≤ k → k ≤ 10 → P k
six P a b c d e f zero least most = absurd (omega (arith, least))
six P a b c d e f (suc zero) least most = absurd (omega (arith, least))
six P a b c d e f (suc (suc zero)) least most = absurd (omega (arith, least))
six P a b c d e f (suc (suc (suc zero))) least most = absurd (omega (arith, least))
six P a b c d e f (suc (suc (suc (suc zero)))) least most = absurd (omega (arith, least))
six P a b c d e f (suc (suc (suc (suc (suc zero))))) least most = a
six P a b c d e f (suc (suc (suc (suc (suc (suc zero)))))) least most = b
six P a b c d e f (suc (suc (suc (suc (suc (suc (suc zero))))))) least most = c
six P a b c d e f (suc (suc (suc (suc (suc (suc (suc (suc zero)))))))) least most = d
six P a b c d e f (suc (suc (suc (suc (suc (suc (suc (suc (suc zero))))))))) least most = e
six P a b c d e f (suc (suc (suc (suc (suc (suc (suc (suc (suc (suc zero)))))))))) least most = f
six P a b c d e f (suc (suc (suc (suc (suc (suc (suc (suc (suc (suc (suc k))))))))))) least most = absurd (omega (arith, most))

abbrev IsItsToken : Depth → ℕ → ℕ → ℕ → Type 0
IsItsToken depth m x token = x / 2 ^ length (category_of (token - 4) depth) ≡ 0 → m ≡ category_base (token - 4) + x → token_of m ≡ token

in_category : (depth : Depth) (m x token : ℕ) → 5 ≤ token → token ≤ 10 → IsItsToken depth m x token
unfolding token_of
in_category depth m x = six (IsItsToken depth m x)
    (λ low is. rw (le-ltb m 5 (omega (arith, is)), lt-ltb m 7 (omega (arith, low, is))) refl)
    (λ low is. rw (le-ltb m 5 (omega (arith, is)), le-ltb m 7 (omega (arith, is)), lt-ltb m 11 (omega (arith, low, is))) refl)
    (λ low is. rw (le-ltb m 5 (omega (arith, is)), le-ltb m 7 (omega (arith, is)), le-ltb m 11 (omega (arith, is)), lt-ltb m 19 (omega (arith, low, is))) refl)
    (λ low is. rw (le-ltb m 5 (omega (arith, is)), le-ltb m 7 (omega (arith, is)), le-ltb m 11 (omega (arith, is)), le-ltb m 19 (omega (arith, is)), lt-ltb m 35 (omega (arith, low, is))) refl)
    (λ low is. rw (le-ltb m 5 (omega (arith, is)), le-ltb m 7 (omega (arith, is)), le-ltb m 11 (omega (arith, is)), le-ltb m 19 (omega (arith, is)), le-ltb m 35 (omega (arith, is)), lt-ltb m 67 (omega (arith, low, is))) refl)
    (λ low is. rw (le-ltb m 5 (omega (arith, is)), le-ltb m 7 (omega (arith, is)), le-ltb m 11 (omega (arith, is)), le-ltb m 19 (omega (arith, is)), le-ltb m 35 (omega (arith, is)), le-ltb m 67 (omega (arith, is))) refl)

record IsMagnitude (depth : Depth) (token m : ℕ) (old new : NumberPart) : Type 0 where
  some : 1 ≤ m
  is : token_of m ≡ token
  put : HasPut old (spelled_rest depth token m) new

some_in : (depth : Depth) (m x token : ℕ) → 5 ≤ token → token ≤ 10 → m ≡ category_base (token - 4) + x → 1 ≤ m
some_in depth m x = six (λ token. m ≡ category_base (token - 4) + x → 1 ≤ m)
    (λ is. omega (arith, is)) (λ is. omega (arith, is)) (λ is. omega (arith, is)) (λ is. omega (arith, is)) (λ is. omega (arith, is)) (λ is. omega (arith, is))

magnitude_by : (depth : Depth) (token m : ℕ) (old new : NumberPart) → 1 ≤ token → token ≤ 10 → (b : Bool) → nat_lt token 5 ≡ b
    → Puts (if b then done token else (bits_from (category_of (token - 4) depth) 0 >>= λ bits. done (category_base (token - 4) + bits))) old m new
    → IsMagnitude depth token m old new
unfolding token_of spelled_rest HasPut
magnitude_by depth token m old new least most true under h =
    let is : token ≡ m = h.0 in
    let small : token < 5 = ltb-true token 5 under in
    let own : token_of m ≡ m = rw (lt-ltb m 5 (omega (arith, small, is))) refl in
    record { some = omega (arith, least, is); is = own ∙ sym is; put = rw under (sym h.1) }
magnitude_by depth token m old new least most false over h =
    let b = between (bits_from (category_of (token - 4) depth) 0) (λ bits. done (category_base (token - 4) + bits)) old new m h in
    let bits = bits_by (category_of (token - 4) depth) 0 b.x old b.mid b.first in
    let is : category_base (token - 4) + b.x ≡ m = b.second.0 in
    let from : 5 ≤ token = ltb-false token 5 over in
    let far : m - category_base (token - 4) ≡ b.x = omega (arith, is) in
    record {
      some = some_in depth m b.x token from most (sym is);
      is = in_category depth m b.x token from most bits.0 (sym is);
      put = rw (over, far) (sym b.second.1 ∙ bits.1);
    }

magnitude_way : (depth : Depth) (token m : ℕ) (old new : NumberPart) → 1 ≤ token → token ≤ 10 → Puts (coef_magnitude depth token) old m new → IsMagnitude depth token m old new
unfolding coef_magnitude
magnitude_way depth token m old new least most h = magnitude_by depth token m old new least most (nat_lt token 5) refl h

---- A level ----

sign_lt : (s : Bool) (k : ℕ) → int_lt (with_sign s (suc k)) (pos 0) ≡ s
sign_lt true k = refl
sign_lt false k = le-ltb (suc k) 0 (omega arith)

sign_abs : (s : Bool) (k : ℕ) → unsigned_abs (with_sign s (suc k)) ≡ suc k
sign_abs true k = refl
sign_abs false k = refl

sign_some : (s : Bool) (k : ℕ) → int_eq (with_sign s (suc k)) (pos 0) ≡ false
sign_some s k = elim (cases_Bool (int_eq (with_sign s (suc k)) (pos 0))) [
  | inl one ↦ let no : suc k ≡ 0 = sym (sign_abs s k) ∙ ap unsigned_abs ((Decides-int_eq (with_sign s (suc k)) (pos 0)).0 one) in absurd (omega (arith, no))
  | inr none ↦ none
]

record SignTells (s : Bool) (m : ℕ) : Type 0 where
  lt : int_lt (with_sign s m) (pos 0) ≡ s
  absolute : unsigned_abs (with_sign s m) ≡ m
  some : int_eq (with_sign s m) (pos 0) ≡ false

sign_tells : (s : Bool) (m : ℕ) → 1 ≤ m → SignTells s m
sign_tells s zero some = absurd (omega (arith, some))
sign_tells s (suc k) some = record { lt = sign_lt s k; absolute = sign_abs s k; some = sign_some s k }

-- what a level is, of a token that was put before
abbrev IsLevel : Depth → ℕ → Step → NumberPart → NumberPart → Type 0
IsLevel depth token End old new = ⊥
IsLevel depth token Zero old new = ⊥
IsLevel depth token (Level z class) old new =
    (int_eq z (pos 0) ≡ false) × (token_of (unsigned_abs z) ≡ token) × (class ≡ class_of token)
    × HasPut old (spelled_rest depth token (unsigned_abs z) ++ one_bool 128 (int_lt z (pos 0))) new

level_way : (depth : Depth) (token : ℕ) (s : Step) (old new : NumberPart) → 1 ≤ token → token ≤ 10 → Puts (level depth token) old s new → IsLevel depth token s old new
unfolding level
level_way depth token s old new least most h =
    let a = between (coef_magnitude depth token) _ old new s h in
    let b = between (flag 128) _ a.mid new s a.second in
    let m = magnitude_way depth token a.x old a.mid least most a.first in
    let sign = sign_tells b.x a.x m.some in
    let last : HasPut a.mid (one_bool 128 b.x) b.mid = flag_way 128 b.x a.mid b.mid b.first in
    let two : HasPut old (spelled_rest depth token a.x ++ one_bool 128 b.x) b.mid = spells_on old a.mid b.mid _ _ last m.put in
    let made : IsLevel depth token (Level (with_sign b.x a.x) (class_of token)) old b.mid =
    (sign.some, ap token_of sign.absolute ∙ m.is, refl, rw (sign.absolute, sign.lt) two) in
    subst (λ (p : Step × NumberPart). IsLevel depth token p.0 old p.1) (λ i. (b.second.0 i, b.second.1 i)) made

---- A token ----

record IsToken (third token : ℕ) (old new : NumberPart) : Type 0 where
  least : 1 ≤ token
  most : token ≤ 10
  put : HasPut old (spelled_token third token) new

abbrev InTail : ℕ → Type 0
InTail token = (2 ≤ token) × (token ≤ 10)

tail_has : (token : ℕ) → has_leaf (coef_tail_from 0) token ≡ true → InTail token
tail_has token there =
    let all : InTail 2 × InTail 3 × InTail 4 × InTail 5 × InTail 6 × InTail 7 × InTail 8 × InTail 9 × InTail 10 =
    ((omega arith, omega arith), (omega arith, omega arith), (omega arith, omega arith), (omega arith, omega arith), (omega arith, omega arith), (omega arith, omega arith), (omega arith, omega arith), (omega arith, omega arith), (omega arith, omega arith)) in
    of_leaf InTail (coef_tail_from 0) token ((all.0, (all.1, all.2)), ((all.3, all.4), ((all.5, all.6), (all.7, all.8)))) there

from_one_by : (third token : ℕ) (old mid new : NumberPart) (larger : Bool) → HasPut old (one_bool third larger) mid
    → PutsValue (if larger then uncounted (tail_token third) else settle 1) mid token new → IsToken third token old new
unfolding tail_token spelled_token
from_one_by third token old mid new true first h =
    let tail = uncounted_put (tail_token third) token mid new h in
    let tree = tree_way (coef_tail_from 0) (tail_probs third) token mid new refl tail in
    let range = tail_has token (has_one (coef_tail_from 0) (tail_probs third) token mid new tail) in
    record {
      least = omega (arith, range.0);
      most = range.1;
      put = rw (ne_eqb token 1 (λ e. omega (arith, e, range.0))) (spells_on old mid new _ _ tree first);
    }
from_one_by third token old mid new false first h =
    let e = settle_put 1 token mid new h in
    let made : IsToken third 1 old mid = record { least = omega arith; most = omega arith; put = first } in
    subst (λ (p : ℕ × NumberPart). IsToken third p.0 old p.1) (λ i. (e.0 i, e.1 i)) made

from_one_way : (node third token : ℕ) (old new : NumberPart) → PutsValue (token_from_one node third) old token new → IsToken third token old new
unfolding token_from_one
from_one_way node third token old new h =
    let a = two_put _ _ old new token h in
    from_one_by third token old a.mid new a.x (flag_put _ _ third a.x old a.mid a.first) a.second

---- What stands at a place ----

-- behind more_coefs
abbrev IsCoef : Depth → ℕ → ℕ → Step → NumberPart → NumberPart → Type 0
IsCoef depth second third End old new = ⊥
IsCoef depth second third Zero old new = HasPut old (spelled_coef depth second third (pos 0)) new
IsCoef depth second third (Level z class) old new =
    (int_eq z (pos 0) ≡ false) × (class ≡ class_of (token_of (unsigned_abs z))) × HasPut old (spelled_coef depth second third z) new

coded_by : (depth : Depth) (second third token : ℕ) (s : Step) (old mid late new : NumberPart) → HasPut old (one_bool second true) mid → IsToken third token mid late
    → IsLevel depth token s late new → IsCoef depth second third s old new
unfolding spelled_coef spelled_level
coded_by depth second third token End old mid late new first t l = l
coded_by depth second third token Zero old mid late new first t l = absurd l
coded_by depth second third token (Level z class) old mid late new first t l =
    let rest = spelled_rest depth token (unsigned_abs z) in
    let sign = one_bool 128 (int_lt z (pos 0)) in
    let behind = subst (λ bools. HasPut mid bools new) (sym (append_assoc (spelled_token third token) rest sign)) (spells_on mid late new _ _ l.3 t.put) in
    (l.0, l.2 ∙ ap class_of (sym l.1), rw (l.0, l.1) (spells_on old mid new _ _ behind first))

coef_by : (depth : Depth) (node second third : ℕ) (s : Step) (old mid new : NumberPart) (some : Bool) → HasPut old (one_bool second some) mid
    → PutsValue (if some then in_order (token_from_one node third) (λ token. uncounted (level depth token)) else settle Zero) mid s new → IsCoef depth second third s old new
unfolding spelled_coef
coef_by depth node second third s old mid new true first h =
    let a = two_put (token_from_one node third) (λ token. uncounted (level depth token)) mid new s h in
    let t = from_one_way node third a.x mid a.mid a.first in
    coded_by depth second third a.x s old mid a.mid new first t (level_way depth a.x s a.mid new t.least t.most (uncounted_put (level depth a.x) s a.mid new a.second))
coef_by depth node second third s old mid new false first h =
    let e = settle_put Zero s mid new h in
    let made : IsCoef depth second third Zero old mid = first in
    subst (λ (p : Step × NumberPart). IsCoef depth second third p.0 old p.1) (λ i. (e.0 i, e.1 i)) made

coef_way : (depth : Depth) (node second third : ℕ) (s : Step) (old new : NumberPart) → PutsValue (token depth node second third) old s new → IsCoef depth second third s old new
unfolding token
coef_way depth node second third s old new h =
    let a = two_put _ _ old new s h in
    coef_by depth node second third s old a.mid new a.x (flag_put _ _ second a.x old a.mid a.first) a.second

-- with more_coefs
abbrev pub IsStep : Depth → Bool → ℕ → ℕ → ℕ → Step → NumberPart → NumberPart → Type 0
IsStep depth check first second third End old new = HasPut old (spelled_more check first false) new
IsStep depth check first second third Zero old new = HasPut old (spelled_more check first true ++ spelled_coef depth second third (pos 0)) new
IsStep depth check first second third (Level z class) old new =
    (int_eq z (pos 0) ≡ false) × (class ≡ class_of (token_of (unsigned_abs z))) × HasPut old (spelled_more check first true ++ spelled_coef depth second third z) new

more_by : (depth : Depth) (check : Bool) (first second third : ℕ) (s : Step) (old mid new : NumberPart) → HasPut old (spelled_more check first true) mid
    → IsCoef depth second third s mid new → IsStep depth check first second third s old new
more_by depth check first second third End old mid new more c = absurd c
more_by depth check first second third Zero old mid new more c = spells_on old mid new _ _ c more
more_by depth check first second third (Level z class) old mid new more c = (c.0, c.1, spells_on old mid new _ _ c.2 more)

ended_by : (depth : Depth) (check : Bool) (first second third : ℕ) (s : Step) (old mid new : NumberPart) → HasPut old (spelled_more check first false) mid
    → (End ≡ s) × (mid ≡ new) → IsStep depth check first second third s old new
ended_by depth check first second third s old mid new more e =
    let made : IsStep depth check first second third End old mid = more in
    subst (λ (p : Step × NumberPart). IsStep depth check first second third p.0 old p.1) (λ i. (e.0 i, e.1 i)) made

step_by : (depth : Depth) (check : Bool) (node first second third : ℕ) (s : Step) (old mid new : NumberPart) (more : Bool) → HasPut old (spelled_more check first more) mid
    → PutsValue (if more then token depth node second third else settle End) mid s new → IsStep depth check first second third s old new
step_by depth check node first second third s old mid new true said h = more_by depth check first second third s old mid new said (coef_way depth node second third s mid new h)
step_by depth check node first second third s old mid new false said h = ended_by depth check first second third s old mid new said (settle_put End s mid new h)

more_way : (check : Bool) (node first : ℕ) (more : Bool) (old new : NumberPart) → PutsValue (more_coefs check node first) old more new
    → HasPut old (spelled_more check first more) new
unfolding more_coefs spelled_more
more_way true node first more old new h = flag_put _ node first more old new h
more_way false node first more old new h =
    subst (λ m. HasPut old [] m) (settle_put true more old new h).1 (spells_none old)

pub step_way : (depth : Depth) (check : Bool) (node first second third : ℕ) (s : Step) (old new : NumberPart) → PutsValue (token_step depth check node first second third) old s new
    → IsStep depth check first second third s old new
unfolding token_step
step_way depth check node first second third s old new h =
    let a = two_put _ _ old new s h in
    step_by depth check node first second third s old a.mid new a.x (more_way check node first a.x old a.mid a.first) a.second
