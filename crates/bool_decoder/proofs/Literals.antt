-- Literals, bool by bool.
use Rattle.std.proofs.Common.{◌≡◌, ℕ, suc, ◌+◌, ◌-◌, ◌*◌, ◌^◌, ◌<◌, refl, sym, arith}
use Rattle.std.specs.Prelude.{Ok}
use Rattle.std.proofs.lemmas.Nat.{pow-add}
use Rattle.vp9_types.specs.declared.rule.Rule.{Rule}
use Rattle.bool_decoder.specs.Bools.{run_bools, literal, literal_from}
use Rattle.bool_decoder.specs.Window.{Window, bit_of, after_bit}

pub literal_begins : (n : ℕ) (w : Window) → run_bools {E = Rule} (literal_from (n - 0) 0) w ≡ run_bools (literal n) w
unfolding literal
literal_begins n w = let e : n - 0 ≡ n = omega arith in rw e refl

pub literal_goes : (n i value bit : ℕ) (w next start : Window) → i < n → bit ≡ bit_of 128 w → next ≡ after_bit 128 w
    → run_bools {E = Rule} (literal_from (n - i) value) w ≡ run_bools (literal n) start
    → run_bools {E = Rule} (literal_from (n - (i + 1)) (2 * value + bit)) next ≡ run_bools (literal n) start
unfolding literal_from
literal_goes n i value bit w next start more is moves same =
    let e : n - i ≡ suc (n - (i + 1)) = omega arith in
    rw (is, moves) (rw e at same)

pub literal_ends : (n i value : ℕ) (w start : Window) → i ≡ n
    → run_bools {E = Rule} (literal_from (n - i) value) w ≡ run_bools (literal n) start → run_bools {E = Rule} (literal n) start ≡ Ok (value, w)
unfolding literal_from
literal_ends n i value w start all same = let e : n - i ≡ 0 = omega arith in sym (rw e at same)

pub literal_small : (i value bit : ℕ) → value < 2 ^ i → bit < 2 → 2 * value + bit < 2 ^ (i + 1)
literal_small i value bit small low = let e = pow-add 2 i 1 in omega arith
