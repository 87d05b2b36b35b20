-- A decoder's start.
use Rattle.std.proofs.Common.{◌≡◌, ℕ, ◌-◌, ◌*◌, ◌/◌, ◌%◌, ◌^◌, ◌<◌, ◌≤◌, Bool, true, false, List, length, refl, ap, sym, ◌∙◌, arith, drop}
use Rattle.std.specs.Prelude.{nat_eq, if◌then◌else◌, Ok, Err}
use Rattle.std.proofs.lemmas.Bool.{le-leb, lt-leb}
use Rattle.vp9_types.specs.Bits.{bits_of}
use Rattle.vp9_types.specs.declared.rule.Rule.TheVariants.{BoolEmpty, BoolMarker}
use Rattle.bool_decoder.specs.Ahead.{bits_ahead}
use Rattle.bool_decoder.specs.Coder.{split_of, doublings}
use Rattle.bool_decoder.specs.Window.{Window, trimmed, first_window, bit_of, after_bit, doubled_window, started}
use Rattle.bool_decoder.proofs.Steps.{stands_for, value_one, moves_zero}

pub started_empty : (bytes : List ℕ) → nat_eq (length bytes) 0 ≡ true → started bytes ≡ Err BoolEmpty
unfolding started
started_empty bytes none = rw none refl

-- the first six bytes stand for all of them
first_is : (window count : ℕ) (bytes rest : List ℕ) → count ≡ 48 → trimmed (bits_ahead window count rest) ≡ trimmed (bits_ahead 0 0 bytes)
    → first_window (bits_of bytes) ≡ stands_for window count 255 rest
unfolding first_window
first_is window count bytes rest all same =
    let place : (64 - count) % 8 ≡ 0 = omega arith in
    rw (place, same) refl

by_marker : (bytes : List ℕ) (w : Window) (one : Bool) → nat_eq (length bytes) 0 ≡ false → first_window (bits_of bytes) ≡ w
    → nat_eq (bit_of 128 w) 1 ≡ one → started bytes ≡ (if one then Err BoolMarker else Ok (after_bit 128 w))
unfolding started
by_marker bytes w one some is marker = rw (some, is, marker) refl

pub started_marker : (window count s : ℕ) (bytes rest : List ℕ) → nat_eq (length bytes) 0 ≡ false → count ≡ 48 → window < 2 ^ 64
    → trimmed (bits_ahead window count rest) ≡ trimmed (bits_ahead 0 0 bytes) → s ≡ split_of 255 128 → s * 2 ^ 56 ≤ window
    → started bytes ≡ Err BoolMarker
started_marker window count s bytes rest some all fits same is above =
    let w = stands_for window count 255 rest in
    let one : nat_eq (bit_of 128 w) 1 ≡ true =
    sym (value_one window count 255 128 s rest (omega arith) (omega arith) fits is) ∙ le-leb (s * 2 ^ 56) window above in
    by_marker bytes w true some (first_is window count bytes rest all same) one

pub started_ok : (window count s : ℕ) (bytes rest : List ℕ) (result : Window) → nat_eq (length bytes) 0 ≡ false → count ≡ 48 → window < 2 ^ 64
    → trimmed (bits_ahead window count rest) ≡ trimmed (bits_ahead 0 0 bytes) → s ≡ split_of 255 128 → window < s * 2 ^ 56
    → result ≡ doubled_window (window / 2 ^ 56) s (drop 8 (trimmed (bits_ahead window count rest))) ((64 - count) % 8) (doublings s)
    → started bytes ≡ Ok result
started_ok window count s bytes rest result some all fits same is below moves =
    let w = stands_for window count 255 rest in
    let none : nat_eq (bit_of 128 w) 1 ≡ false =
    sym (value_one window count 255 128 s rest (omega arith) (omega arith) fits is) ∙ lt-leb (s * 2 ^ 56) window below in
    by_marker bytes w false some (first_is window count bytes rest all same) none
    ∙ ap (λ x. Ok x) (sym (moves ∙ moves_zero window count 255 128 s window s rest (omega arith) (omega arith) fits is below refl refl))
