-- Which way a question about one bool goes on.
use Rattle.std.proofs.Common.{◌≡◌, ◌<◌, ◌≤◌, ◌+◌, ◌*◌, ◌^◌, ℕ, Bool, true, false, sym, ◌∙◌, ap, arith, List, length, drop, get_or}
use Rattle.std.proofs.lemmas.List.{drop_more, drop_all}
use Rattle.std.proofs.Math.Nat.{pow-le-pow_right}
use Rattle.std.specs.Prelude.{nat_eq, if◌then◌else◌, Ok}
use Rattle.coef_tokens.specs.TokenSymbols.{bits_from}
use Rattle.vp9_types.specs.declared.rule.Rule.{Rule}
use Rattle.vp9_types.specs.Syntax.{Syntax, ask}
use Rattle.bool_decoder.specs.Bools.{run_bools}
use Rattle.bool_decoder.specs.Window.{Window, bit_of, after_bit}

goes : {A : Type 0} (zeros ones : Syntax ℕ Rule A) (p q : ℕ) (w next : Window) (b c : Bool) → p ≡ q → b ≡ nat_eq (bit_of p w) 1 → next ≡ after_bit p w
    → b ≡ c → run_bools (ask q (λ v. if nat_eq v 1 then ones else zeros)) w ≡ run_bools (if c then ones else zeros) next
goes zeros ones p q w next b c same is moves so =
    ap (λ q. run_bools (ask q (λ v. if nat_eq v 1 then ones else zeros)) w) (sym same)
    ∙ (ap (λ d. run_bools (if d then ones else zeros) (after_bit p w)) (sym is ∙ so)
    ∙ ap (λ m. run_bools (if c then ones else zeros) m) (sym moves))

pub on_one : {A : Type 0} (zeros ones : Syntax ℕ Rule A) (p q : ℕ) (w next : Window) (b : Bool) → p ≡ q → b ≡ nat_eq (bit_of p w) 1 → next ≡ after_bit p w
    → b ≡ true → run_bools (ask q (λ v. if nat_eq v 1 then ones else zeros)) w ≡ run_bools ones next
on_one zeros ones p q w next b same is moves one = goes zeros ones p q w next b true same is moves one

pub on_zero : {A : Type 0} (zeros ones : Syntax ℕ Rule A) (p q : ℕ) (w next : Window) (b : Bool) → p ≡ q → b ≡ nat_eq (bit_of p w) 1 → next ≡ after_bit p w
    → b ≡ false → run_bools (ask q (λ v. if nat_eq v 1 then ones else zeros)) w ≡ run_bools zeros next
on_zero zeros ones p q w next b same is moves zero = goes zeros ones p q w next b false same is moves zero

pub bits_go : (ps : List ℕ) (i value bit : ℕ) (w next start : Window) → i < length ps → bit ≡ bit_of (get_or ps i 0) w → next ≡ after_bit (get_or ps i 0) w
    → run_bools {E = Rule} (bits_from (drop i ps) value) w ≡ run_bools (bits_from ps 0) start
    → run_bools {E = Rule} (bits_from (drop (i + 1) ps) (2 * value + bit)) next ≡ run_bools (bits_from ps 0) start
unfolding bits_from
bits_go ps i value bit w next start more is moves same = rw (is, moves) (rw (drop_more ps i 0 more) at same)

pub bits_end : (ps : List ℕ) (i value : ℕ) (w start : Window) → i ≡ length ps
    → run_bools {E = Rule} (bits_from (drop i ps) value) w ≡ run_bools (bits_from ps 0) start → run_bools {E = Rule} (bits_from ps 0) start ≡ Ok (value, w)
unfolding bits_from
bits_end ps i value w start all same = sym (rw (drop_all i ps (le all)) at same)
  where
    le : {i n : ℕ} → i ≡ n → n ≤ i
    le e = omega arith

pub bits_fit : (i value n : ℕ) → n ≤ 18 → i ≤ n → value < 2 ^ i → value < 2 ^ 18
bits_fit i value n most low small =
    let two : 0 < 2 = omega arith in
    let far : i ≤ 18 = omega arith in
    let wide = pow-le-pow_right two far in
    omega arith
