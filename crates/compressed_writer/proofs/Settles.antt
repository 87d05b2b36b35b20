-- What a syntax can settle on, by any answers.
use Rattle.std.proofs.Common.{◌≡◌, ℕ, refl}
use Rattle.std.specs.Prelude.{Ok}
use Rattle.vp9_types.specs.Syntax.{done, broken, ask, ◌>>=◌}
use Rattle.bool_decoder.specs.Bools.{run_bools}
use Rattle.bool_decoder.specs.Window.{Window, bit_of, after_bit}
use Rattle.compressed_header.specs.Updates.{UpdateTable}
use Rattle.compressed_header.specs.CompressedHeader.{settled}

abbrev pub Settles : {A : Type 0} → UpdateTable A → A → Type 0
Settles (done x) y = x ≡ y
Settles (broken e) y = ⊥
Settles (ask p k) y = (v : ℕ) × Settles (k v) y

pub settles_bind : {A B : Type 0} (s : UpdateTable A) (f : A → UpdateTable B) (y : B) → Settles (s >>= f) y → (x : A) × Settles s x × Settles (f x) y
settles_bind (done x) f y h = (x, refl, h)
settles_bind (broken e) f y h = absurd h
settles_bind (ask p k) f y h =
    let rest = settles_bind (k h.0) f y h.1 in
    (rest.0, (h.0, rest.1), rest.2)

pub read_settles : {A : Type 0} (s : UpdateTable A) (w : Window) (x : A) → settled (run_bools s w) ≡ Ok x → Settles s x
read_settles (done y) w x h =
    let same : y ≡ x = cc in
    same
read_settles (broken e) w x h =
    let no : ⊥ = cc in
    absurd no
read_settles (ask p k) w x h = (bit_of p w, read_settles (k (bit_of p w)) (after_bit p w) x h)
