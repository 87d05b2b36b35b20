-- The window stands for the coder.
use Rattle.std.proofs.Common.{◌≡◌, ℕ, ◌+◌, ◌-◌, ◌*◌, ◌%◌, ◌^◌, ◌≤◌, Bool, true, false, List, refl, ap, sym, ◌∙◌, arith, drop}
use Rattle.std.specs.Prelude.{Result, Ok, Err}
use Rattle.std.proofs.Math.Nat.{mul-le-mul_right}
use Rattle.std.proofs.lemmas.List.{drop-drop}
use Rattle.std.proofs.lemmas.Bool.{leb-true}
use Rattle.vp9_types.specs.Syntax.{Syntax, done, broken, ask}
use Rattle.bool_decoder.specs.Coder.{Coder, front_number, split_of, doublings, first_coder, bool_of, after_bool, above_low, doubled_coder, coder_is_one}
use Rattle.bool_decoder.specs.Window.{Window, trimmed, first_window, bit_of, after_bit, doubled_window, window_of_coder, Stands}
use Rattle.bool_decoder.specs.Bools.{run_bools, run_coder}
use Rattle.bool_decoder.proofs.Fronts.{front-add, front-trimmed, drop-trimmed}

abbrev pub window_by : ℕ → ℕ → List ℕ → ℕ → Window
window_by value range rest place = record { value = value; range = range; rest = rest; place = place }

pub same_window : (v x range : ℕ) (r s : List ℕ) (p q : ℕ) → v ≡ x → r ≡ s → p ≡ q → window_by v range r p ≡ window_by x range s q
same_window v x range r s p q value rest place =
    ap (λ n. window_by n range r p) value ∙ ap (λ bits. window_by x range bits p) rest ∙ ap (λ n. window_by x range s n) place

pub first_stands : (bits : List ℕ) → Stands (first_coder bits) (first_window bits)
unfolding first_coder first_window window_of_coder
first_stands bits =
    (omega arith, ap (λ n. window_by n 255 (drop 8 (trimmed bits)) 0) (omega (arith, sym (front-trimmed 8 bits))))

-- the coder doubles, and its window takes the next bits
doubled_stands : (bits : List ℕ) (n low range value k : ℕ) → low ≤ front_number (8 + n) bits → value ≡ front_number (8 + n) bits - low
    → Stands (doubled_coder bits n low range k) (doubled_window value range (drop (8 + n) (trimmed bits)) (n % 8) k)
unfolding window_of_coder
doubled_stands bits n low range value k below is =
    let e : 8 + (n + k) ≡ 8 + n + k = omega arith in
    let grows : front_number (8 + (n + k)) bits ≡ front_number (8 + n) bits * 2 ^ k + front_number k (drop (8 + n) bits) =
    ap (λ a. front_number a bits) e ∙ front-add (8 + n) k bits in
    let next : front_number k (drop (8 + n) (trimmed bits)) ≡ front_number k (drop (8 + n) bits) =
    ap (λ ds. front_number k ds) (drop-trimmed (8 + n) bits) ∙ front-trimmed k (drop (8 + n) bits) in
    let more : low * 2 ^ k ≤ front_number (8 + n) bits * 2 ^ k = mul-le-mul_right (2 ^ k) below in
    let parts : front_number (8 + n) bits ≡ value + low = omega arith in
    let wide : front_number (8 + n) bits * 2 ^ k ≡ (value + low) * 2 ^ k = ap (λ a. a * 2 ^ k) parts in (
      omega arith,
      same_window _ _ (range * 2 ^ k) _ _ _ _ (omega arith) (ap (λ a. drop a (trimmed bits)) e ∙ sym (drop-drop k (8 + n) (trimmed bits))) (omega arith),
    )

pub bool_stands : (c : Coder) (w : Window) (p : ℕ) → Stands c w → bit_of p w ≡ bool_of p c
unfolding bit_of bool_of window_of_coder
bool_stands c w p h = rw (sym h.1) refl

step_of : (c : Coder) (p : ℕ) → c.low ≤ front_number (8 + c.n) c.bits → (one : Bool) → coder_is_one p c ≡ one
    → Stands (after_bool p c) (after_bit p (window_of_coder c))
unfolding window_of_coder after_bool after_bit
step_of c p below true is =
    let split = split_of c.range p in
    let reaches : split ≤ above_low c = leb-true split (above_low c) is in
    rw is (doubled_stands c.bits c.n (c.low + split) (c.range - split) (above_low c - split) (doublings (c.range - split)) (omega arith) (omega arith))
step_of c p below false is =
    let split = split_of c.range p in
    rw is (doubled_stands c.bits c.n c.low split (above_low c) (doublings split) below refl)

pub step_stands : (c : Coder) (w : Window) (p : ℕ) → Stands c w → Stands (after_bool p c) (after_bit p w)
step_stands c w p h = rw (sym h.1) (step_of c p h.0 (coder_is_one p c) refl)

-- what the one reads the other reads
abbrev Alike : {E A : Type 0} → Result (A × Coder) E → Result (A × Window) E → Type 0
Alike (Ok p) read = (last : Window) × Stands p.1 last × (read ≡ Ok (p.0, last))
Alike (Err e) read = read ≡ Err e

read_alike : {E A : Type 0} (s : Syntax ℕ E A) (c : Coder) (w : Window) → Stands c w → Alike (run_coder s c) (run_bools s w)
read_alike (done x) c w h = (w, h, refl)
read_alike (broken e) c w h = refl
read_alike (ask p k) c w h =
    rw (bool_stands c w p h) (read_alike (k (bool_of p c)) (after_bool p c) (after_bit p w) (step_stands c w p h))

pub read_stands : {E A : Type 0} (s : Syntax ℕ E A) (c end : Coder) (w : Window) (x : A) → Stands c w
    → run_coder s c ≡ Ok (x, end) → (last : Window) × Stands end last × (run_bools s w ≡ Ok (x, last))
read_stands s c end w x h read = rw read at (read_alike s c w h)

pub fault_stands : {E A : Type 0} (s : Syntax ℕ E A) (c : Coder) (w : Window) (fault : E) → Stands c w
    → run_coder s c ≡ Err fault → run_bools s w ≡ Err fault
fault_stands s c w fault h read = rw read at (read_alike s c w h)
