-- One bool of what a decoder holds.
use Rattle.std.proofs.Common.{◌≡◌, ℕ, ◌+◌, ◌-◌, ◌*◌, ◌/◌, ◌%◌, ◌^◌, ◌<◌, ◌≤◌, Bool, true, false, List, ◌++◌, refl, ap, sym, ◌∙◌, arith, drop}
use Rattle.std.specs.Prelude.{nat_le, nat_eq}
use Rattle.std.proofs.lemmas.Nat.{pow-add, shr-shr, field_of, shr_below}
use Rattle.std.proofs.lemmas.Bool.{le-leb, lt-leb, leb-true, leb-false}
use Rattle.std.proofs.Math.Nat.{mul_assoc, add-mul-mod_self_right}
use Rattle.vp9_types.specs.Bits.{bits_of, spelled}
use Rattle.bool_decoder.specs.Ahead.{bits_ahead}
use Rattle.bool_decoder.specs.Coder.{front_number, split_of, doublings}
use Rattle.bool_decoder.specs.Window.{Window, trimmed, window_on, doubled_window, bit_of, after_bit, is_one}
use Rattle.bool_decoder.proofs.Moves.{ahead_is, value_is, rest_is}

-- what a decoder stands for, by its numbers
abbrev pub stands_for : ℕ → ℕ → ℕ → List ℕ → Window
stands_for window count range bytes = window_on range ((64 - count) % 8) (trimmed (bits_ahead window count bytes))

-- ---- the value and the bits after it

pub value_held : (window count : ℕ) (bytes : List ℕ) → 8 ≤ count → count ≤ 64 → window < 2 ^ 64
    → front_number 8 (trimmed (bits_ahead window count bytes)) ≡ window / 2 ^ 56
value_held window count bytes some most fits =
    let j = count - 8 in
    let t = window / 2 ^ (64 - count) in
    let sum : count + (64 - count) ≡ 64 = omega arith in
    let long : count ≡ 8 + j = omega arith in
    let whole : 64 - count + j ≡ 56 = omega arith in
    let small : t < 2 ^ count = shr_below window count (64 - count) (rw sum fits) in
    let low : t < 2 ^ (8 + j) = rw (sym long) small in
    ap (λ bs. front_number 8 (trimmed bs)) (ahead_is window count (64 - count) bytes sum ∙ ap (λ k. spelled k t ++ bits_of bytes) long)
    ∙ value_is t j (bits_of bytes) low
    ∙ shr-shr window (64 - count) j
    ∙ ap (λ n. window / 2 ^ n) whole

rest_held : (window count : ℕ) (bytes : List ℕ) → 8 ≤ count → count ≤ 64 → window < 2 ^ 64
    → drop 8 (trimmed (bits_ahead window count bytes)) ≡ trimmed (spelled (count - 8) (window % 2 ^ 56 / 2 ^ (64 - count)) ++ bits_of bytes)
rest_held window count bytes some most fits =
    let j = count - 8 in
    let t = window / 2 ^ (64 - count) in
    let sum : count + (64 - count) ≡ 64 = omega arith in
    let long : count ≡ 8 + j = omega arith in
    let whole : j + (64 - count) ≡ 56 = omega arith in
    let small : t < 2 ^ count = shr_below window count (64 - count) (rw sum fits) in
    let low : t < 2 ^ (8 + j) = rw (sym long) small in
    let field : t % 2 ^ j ≡ window % 2 ^ 56 / 2 ^ (64 - count) =
    sym (field_of window j (64 - count)) ∙ ap (λ k. window % 2 ^ k / 2 ^ (64 - count)) whole in
    ap (λ bs. drop 8 (trimmed bs)) (ahead_is window count (64 - count) bytes sum ∙ ap (λ k. spelled k t ++ bits_of bytes) long)
    ∙ rest_is t j (bits_of bytes) low
    ∙ ap (λ n. trimmed (spelled j n ++ bits_of bytes)) field

-- taking from the value leaves the bits after it
rest_stays : (window s count : ℕ) (bytes : List ℕ) → 8 ≤ count → count ≤ 64 → window < 2 ^ 64 → s * 2 ^ 56 ≤ window
    → drop 8 (trimmed (bits_ahead (window - s * 2 ^ 56) count bytes)) ≡ drop 8 (trimmed (bits_ahead window count bytes))
rest_stays window s count bytes some most fits above =
    let low : (window - s * 2 ^ 56) % 2 ^ 56 ≡ window % 2 ^ 56 = omega arith in
    let less : window - s * 2 ^ 56 < 2 ^ 64 = omega arith in
    rest_held (window - s * 2 ^ 56) count bytes some most less
    ∙ ap (λ n. trimmed (spelled (count - 8) (n / 2 ^ (64 - count)) ++ bits_of bytes)) low
    ∙ sym (rest_held window count bytes some most fits)

pub taken_clean : (window s count : ℕ) → 8 ≤ count → count ≤ 64 → s * 2 ^ 56 ≤ window → window % 2 ^ (64 - count) ≡ 0
    → (window - s * 2 ^ 56) % 2 ^ (64 - count) ≡ 0
taken_clean window s count some most above clean =
    let m = 64 - count in
    let sum : 56 ≡ 56 - m + m = omega arith in
    let wide : 2 ^ 56 ≡ 2 ^ (56 - m) * 2 ^ m = ap (λ k. 2 ^ k) sum ∙ pow-add 2 (56 - m) m in
    let part : s * 2 ^ 56 ≡ s * 2 ^ (56 - m) * 2 ^ m = ap (λ p. s * p) wide ∙ sym (mul_assoc s (2 ^ (56 - m)) (2 ^ m)) in
    let whole : window ≡ window - s * 2 ^ 56 + s * 2 ^ (56 - m) * 2 ^ m = omega arith in
    sym (add-mul-mod_self_right (window - s * 2 ^ 56) (s * 2 ^ (56 - m)) (2 ^ m)) ∙ ap (λ n. n % 2 ^ m) (sym whole) ∙ clean

-- ---- the bool

after_one : (p : ℕ) (w : Window) → split_of w.range p ≤ w.value
    → after_bit p w ≡ doubled_window (w.value - split_of w.range p) (w.range - split_of w.range p) w.rest w.place (doublings (w.range - split_of w.range p))
unfolding after_bit
after_one p w h = let e : is_one p w ≡ true = le-leb (split_of w.range p) w.value h in rw e

after_zero : (p : ℕ) (w : Window) → w.value < split_of w.range p
    → after_bit p w ≡ doubled_window w.value (split_of w.range p) w.rest w.place (doublings (split_of w.range p))
unfolding after_bit
after_zero p w h = let e : is_one p w ≡ false = lt-leb (split_of w.range p) w.value h in rw e

pub moves_one : (window count range p s next_window next_range : ℕ) (bytes : List ℕ) → 8 ≤ count → count ≤ 64 → window < 2 ^ 64
    → s ≡ split_of range p → s * 2 ^ 56 ≤ window → next_window ≡ window - s * 2 ^ 56 → next_range ≡ range - s
    → doubled_window (next_window / 2 ^ 56) next_range (drop 8 (trimmed (bits_ahead next_window count bytes))) ((64 - count) % 8) (doublings next_range)
    ≡ after_bit p (stands_for window count range bytes)
moves_one window count range p s next_window next_range bytes some most fits is above taken left =
    let w = stands_for window count range bytes in
    let held = value_held window count bytes some most fits in
    let reaches : s ≤ w.value = omega arith in
    let value : next_window / 2 ^ 56 ≡ w.value - s = omega arith in
    let rest : drop 8 (trimmed (bits_ahead next_window count bytes)) ≡ w.rest =
    ap (λ n. drop 8 (trimmed (bits_ahead n count bytes))) taken ∙ rest_stays window s count bytes some most fits above in
    ap (λ n. doubled_window n next_range (drop 8 (trimmed (bits_ahead next_window count bytes))) w.place (doublings next_range)) value
    ∙ ap (λ bs. doubled_window (w.value - s) next_range bs w.place (doublings next_range)) rest
    ∙ ap (λ n. doubled_window (w.value - s) n w.rest w.place (doublings n)) left
    ∙ ap (λ n. doubled_window (w.value - n) (range - n) w.rest w.place (doublings (range - n))) is
    ∙ sym (after_one p w (rw is at reaches))

pub moves_zero : (window count range p s next_window next_range : ℕ) (bytes : List ℕ) → 8 ≤ count → count ≤ 64 → window < 2 ^ 64
    → s ≡ split_of range p → window < s * 2 ^ 56 → next_window ≡ window → next_range ≡ s
    → doubled_window (next_window / 2 ^ 56) next_range (drop 8 (trimmed (bits_ahead next_window count bytes))) ((64 - count) % 8) (doublings next_range)
    ≡ after_bit p (stands_for window count range bytes)
moves_zero window count range p s next_window next_range bytes some most fits is below same left =
    let w = stands_for window count range bytes in
    let held = value_held window count bytes some most fits in
    let misses : w.value < s = omega arith in
    let value : next_window / 2 ^ 56 ≡ w.value = omega arith in
    ap (λ n. doubled_window n next_range (drop 8 (trimmed (bits_ahead next_window count bytes))) w.place (doublings next_range)) value
    ∙ ap (λ x. doubled_window w.value next_range (drop 8 (trimmed (bits_ahead x count bytes))) w.place (doublings next_range)) same
    ∙ ap (λ n. doubled_window w.value n w.rest w.place (doublings n)) (left ∙ is)
    ∙ sym (after_zero p w (rw is at misses))

is_one_at : (p : ℕ) (w : Window) → split_of w.range p ≤ w.value → true ≡ nat_eq (bit_of p w) 1
unfolding bit_of
is_one_at p w h = let e : is_one p w ≡ true = le-leb (split_of w.range p) w.value h in rw e refl

is_zero_at : (p : ℕ) (w : Window) → w.value < split_of w.range p → false ≡ nat_eq (bit_of p w) 1
unfolding bit_of
is_zero_at p w h = let e : is_one p w ≡ false = lt-leb (split_of w.range p) w.value h in rw e refl

value_by : (window s p : ℕ) (w : Window) (one : Bool) → nat_le (s * 2 ^ 56) window ≡ one → w.value ≡ window / 2 ^ 56 → s ≡ split_of w.range p
    → one ≡ nat_eq (bit_of p w) 1
value_by window s p w true test held is =
    let above = leb-true (s * 2 ^ 56) window test in
    let reaches : s ≤ w.value = omega arith in
    is_one_at p w (rw is at reaches)
value_by window s p w false test held is =
    let below = leb-false (s * 2 ^ 56) window test in
    let misses : w.value < s = omega arith in
    is_zero_at p w (rw is at misses)

pub value_one : (window count range p s : ℕ) (bytes : List ℕ) → 8 ≤ count → count ≤ 64 → window < 2 ^ 64
    → s ≡ split_of range p → nat_le (s * 2 ^ 56) window ≡ nat_eq (bit_of p (stands_for window count range bytes)) 1
value_one window count range p s bytes some most fits is =
    value_by window s p (stands_for window count range bytes) (nat_le (s * 2 ^ 56) window) refl (value_held window count bytes some most fits) is

-- the border is the split in the window's highest byte
pub border_is : (f s : ℕ) → f ≡ s → s < 256 → f * 2 ^ 56 % 2 ^ 64 ≡ s * 2 ^ 56
border_is f s same low = omega arith
