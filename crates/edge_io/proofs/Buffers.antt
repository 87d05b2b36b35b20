-- Bytes at hand in front of a source: what asking for a piece and taking of it make of all that is ahead.
use Rattle.std.proofs.Common.{◌≡◌, ◌∙◌, ℕ, ◌+◌, ◌-◌, ◌<◌, ◌≤◌, List, [], ◌∷◌, ◌++◌, length, min, take, drop, Option, Some, None, Ok, ap, arith, refl, sym, subst}
use Rattle.std.specs.Prelude.{slice_range}
use Rattle.std.proofs.lemmas.List.{take-append-drop, take-append-le, drop-append-le, drop-drop, drop-take, drop_all, take_all, append-nil, length-drop, length-take, length-append}
use Rattle.edge_io.specs.Filling.{Fills, Moves, IsKept, WhereTold}
use Rattle.edge_io.specs.Buffered.{all_ahead}
use Rattle.edge_io.specs.declared.source.Failed.{Failed}

none_told : (bytes : List ℕ) → None ≡ Some bytes → ⊥
none_told bytes e = cc

abbrev or_nil : Option (List ℕ) → List ℕ
or_nil None = []
or_nil (Some bytes) = bytes

nothing : (xs : List ℕ) → length xs ≡ 0 → xs ≡ []
nothing [] none = refl
nothing (x ∷ xs) none = absurd (omega (arith, none))

all_taken : (held src buf : List ℕ) (n : ℕ) → n ≤ length held → take n buf ≡ take n held → (n ≡ 0 → 0 < length buf → held ++ src ≡ [])
    → Moves n buf (held ++ src) (Some (drop n held ++ src))
all_taken held src buf n few same ends =
    let long = length-append held src in
    (omega (arith, few, long), same ∙ sym (take-append-le n held src few), ap Some (sym (drop-append-le n held src few)), ends)

-- a slice that was written whole
pub whole_back : (items buf : List ℕ) (n : ℕ) → n ≡ length items → length buf ≡ length items → take n (buf ++ drop (length buf) items) ≡ buf
whole_back items buf n all same =
    ap (λ rest. take n (buf ++ rest)) (drop_all (length buf) items (omega (arith, same))) ∙ ap (take n) (append-nil buf) ∙ take_all n buf (omega (arith, all, same))

front_range : (xs : List ℕ) (n : ℕ) → slice_range xs 0 n ≡ take n xs
front_range xs n = let same : n - 0 ≡ n = omega arith in ap (λ k. take k xs) same

-- what a piece brought stands at hand, and is gone from the source
pub refilled : (held piece : List ℕ) (old new : Option (List ℕ)) (buf : List ℕ) (n : ℕ) → held ≡ [] → piece ≡ buf → Fills {E = Failed} old new buf (Ok n)
    → IsKept (all_ahead held old) (all_ahead (slice_range piece 0 n) new)
refilled held piece None new buf n none is fills bytes told = absurd (none_told bytes told)
refilled held piece (Some src) new buf n none is fills bytes told =
    let m : Moves n buf src new = fills.1 src refl in
    let same : Some bytes ≡ Some src = sym told ∙ ap (λ h. Some (h ++ src)) none in
    ap (λ front. all_ahead front new) (front_range piece n) ∙ ap (λ p. all_ahead (take n p) new) is ∙ ap (all_ahead (take n buf)) m.2 ∙ ap (λ h. Some (h ++ drop n src)) m.1 ∙ ap Some (take-append-drop n src) ∙ sym same

-- nothing came only at the end
pub refill_ends : (held : List ℕ) (old new : Option (List ℕ)) (buf piece : List ℕ) (n : ℕ) → held ≡ [] → 0 < length buf → piece ≡ buf → Fills {E = Failed} old new buf (Ok n)
    → slice_range piece 0 n ≡ [] → WhereTold (all_ahead held old) (λ bytes. bytes ≡ [])
refill_ends held None new buf piece n empty some is fills none bytes told = absurd (none_told bytes told)
refill_ends held (Some src) new buf piece n empty some is fills none bytes told =
    let m : Moves n buf src new = fills.1 src refl in
    let long : length (take n buf) ≡ min n (length buf) = length-take n buf in
    let zero_long : length (take n buf) ≡ 0 = ap (λ p. length (take n p)) (sym is) ∙ ap length (sym (front_range piece n)) ∙ ap length none in
    sym (ap or_nil told) ∙ ap (λ h. h ++ src) empty ∙ m.3 (omega (arith, long, zero_long, fills.0)) some

pub none_held : (xs : List ℕ) (from to : ℕ) → (from < to → ⊥) → slice_range xs from to ≡ []
none_held xs from to none = let zero_long : to - from ≡ 0 = omega (arith, none) in ap (λ k. take k (drop from xs)) zero_long

-- the front of what is at hand is taken
pub rest_taken : (xs : List ℕ) (from to n : ℕ) → n ≤ to - from → slice_range xs (from + n) to ≡ drop n (slice_range xs from to)
rest_taken xs from to n few =
    let m : ℕ = to - (from + n) in
    let both : to - from ≡ n + m = omega (arith, few) in
    ap (take m) (sym (drop-drop n from xs)) ∙ sym (drop-take n m (drop from xs)) ∙ ap (λ k. drop n (take k (drop from xs))) (sym both)

pub some_held : (xs : List ℕ) (from to : ℕ) → from < to → to ≤ length xs → slice_range xs from to ≡ [] → ⊥
some_held xs from to more within none =
    let long : length (slice_range xs from to) ≡ min (to - from) (length (drop from xs)) = length-take (to - from) (drop from xs) in
    let zero_long : length (slice_range xs from to) ≡ 0 = ap length none in
    omega (arith, more, within, long, zero_long, length-drop from xs)

-- what is ahead before and behind a fill, by what was at hand when the bytes were taken
pub filled : (all : Option (List ℕ)) (held left : List ℕ) (rest rest_left : Option (List ℕ)) (buf buf_new : List ℕ) (n : ℕ) → IsKept all (all_ahead held rest)
    → (held ≡ [] → WhereTold all (λ bytes. bytes ≡ [])) → n ≡ min (length buf) (length held) → length buf_new ≡ length buf → take n buf_new ≡ take n held
    → left ≡ drop n held → rest_left ≡ rest → (n ≤ length buf_new) × WhereTold all (λ bytes. Moves n buf_new bytes (all_ahead left rest_left))
filled all held left None rest_left buf buf_new n kept ends is room same goes stays =
    (omega (arith, is, room), λ bytes told. absurd (none_told bytes (kept bytes told)))
filled all held left (Some src) rest_left buf buf_new n kept ends is room same goes stays = (
  omega (arith, is, room),
  λ bytes told.
      let moved = all_taken held src buf_new n (omega (arith, is)) same (λ none some.
      let empty : held ≡ [] = nothing held (omega (arith, is, none, some, room)) in ap or_nil (kept bytes told) ∙ ends empty bytes told) in
      let here = subst (λ b. Moves n buf_new b (Some (drop n held ++ src))) (ap or_nil (kept bytes told)) moved in
      subst (λ o. Moves n buf_new bytes o) (sym ((λ i. all_ahead (goes i) (stays i)))) here,
)
