use Rattle.std.proofs.Common.{arith, ◌≡◌, ◌≤◌, ◌<◌, ℕ, List, ◌+◌, ◌-◌, ◌*◌, ◌/◌, ◌%◌, ◌^◌, get_or, drop, ap, Fits, w8, w64}
use Rattle.std.proofs.lemmas.Nat.{shl_whole}
use Rattle.bool_decoder.specs.Ahead.{bits_ahead, front_bytes}
use Rattle.bool_decoder.specs.Window.{trimmed}
use Rattle.bool_decoder.proofs.Supply.{filled_clean, filled_top_byte, filled_fits, filled_ahead, front_bytes-below}
use Rattle.bool_decoder.proofs.refill.filled.Goals as goal

-- the sum of the window and the six bytes where they belong
abbrev sum_of : ℕ → ℕ → ℕ → ℕ
sum_of window count six = window + six * 2 ^ (16 - count) % 2 ^ 64

small : (bytes : List ℕ) (six : ℕ) → ((i : ℕ) → Fits w8 (get_or bytes i 0)) → six ≡ front_bytes 6 bytes → six < 2 ^ 48
small bytes six fit is = rw is (front_bytes-below 6 bytes fit)

plain : (window count six : ℕ) → count ≤ 16 → six < 2 ^ 48 → sum_of window count six ≡ window + six * 2 ^ (16 - count)
plain window count six room low = ap (λ x. window + x) (shl_whole six 48 (16 - count) 64 low (omega arith))

cleaner : (window count : ℕ) → count ≤ 16 → window % 2 ^ (64 - count) ≡ 0 → window % 2 ^ (48 + (16 - count)) ≡ 0
cleaner window count room clean = let e : 64 - count ≡ 48 + (16 - count) = omega arith in rw e at clean

fits : (window count six : ℕ) → count ≤ 16 → Fits w64 window → window % 2 ^ (64 - count) ≡ 0 → six < 2 ^ 48 → Fits w64 (sum_of window count six)
fits window count six room whole clean low =
    rw (plain window count six room low)
    (let e = filled_fits window (16 - count) six count (omega arith) (omega arith) low (cleaner window count room clean) in omega arith)

stays_clean : (window count six : ℕ) → count ≤ 16 → window % 2 ^ (64 - count) ≡ 0 → six < 2 ^ 48
    → sum_of window count six % 2 ^ (64 - (count + 48)) ≡ 0
stays_clean window count six room clean low =
    let e : 64 - (count + 48) ≡ 16 - count = omega arith in
    rw (plain window count six room low, e) (filled_clean window (16 - count) six (cleaner window count room clean))

top : (window count six : ℕ) → count ≤ 16 → window % 2 ^ (64 - count) ≡ 0 → six < 2 ^ 48 → 8 ≤ count
    → sum_of window count six / 2 ^ 56 ≡ window / 2 ^ 56
top window count six room clean low some =
    rw (plain window count six room low) (filled_top_byte window (16 - count) six 56 low (cleaner window count room clean) (omega arith))

ahead : (window count six : ℕ) (bytes rest : List ℕ) → count ≤ 16 → Fits w64 window → window % 2 ^ (64 - count) ≡ 0
    → ((i : ℕ) → Fits w8 (get_or bytes i 0)) → six ≡ front_bytes 6 bytes → rest ≡ drop 6 bytes
    → trimmed (bits_ahead (sum_of window count six) (count + 48) rest) ≡ trimmed (bits_ahead window count bytes)
ahead window count six bytes rest room whole clean fit is after =
    rw (plain window count six room (small bytes six fit is), is, after)
    (filled_ahead window (16 - count) count bytes (omega arith) (omega arith) (cleaner window count room clean) fit)

pub overflow_add-result : goal.overflow_add-result
overflow_add-result c =
    fits c.args.window c.args.count c.six_bytes-six.result.0 c.requires.room c.ranges.window c.requires.clean
    (small c.args.bytes.now _ c.type_inv.bytes c.six_bytes-six.ensures.number)

pub returns-clause-clean : goal.returns-clause-clean
returns-clause-clean c =
    stays_clean c.args.window c.args.count c.six_bytes-six.result.0 c.requires.room c.requires.clean
    (small c.args.bytes.now _ c.type_inv.bytes c.six_bytes-six.ensures.number)

pub returns-clause-top : goal.returns-clause-top
returns-clause-top c =
    top c.args.window c.args.count c.six_bytes-six.result.0 c.requires.room c.requires.clean
    (small c.args.bytes.now _ c.type_inv.bytes c.six_bytes-six.ensures.number)

pub returns-clause-ahead : goal.returns-clause-ahead
returns-clause-ahead c =
    ahead c.args.window c.args.count c.six_bytes-six.result.0 c.args.bytes.now c.six_bytes-six.result.1.now c.requires.room c.ranges.window
    c.requires.clean c.type_inv.bytes c.six_bytes-six.ensures.number c.six_bytes-six.ensures.rest
