-- Writing one syntax and then another.
use Rattle.std.proofs.Common.{◌≡◌, ℕ, refl, sym, subst, ap}
use Rattle.std.specs.Prelude.{Result, Ok, Err}
use Rattle.vp9_types.specs.Syntax.{Syntax, done, broken, ask, ◌>>=◌}
use Rattle.vp9_types.specs.Writing.{Writes, WritesTo, Leads}

no_value : {E A : Type 0} (e : E) (x : A) → ◌≡◌ {A = Result A E} (Err e) (Ok x) → ⊥
no_value e x h = cc

same_fault : {E A : Type 0} (e d : E) → ◌≡◌ {A = Result A E} (Err e) (Err d) → e ≡ d
same_fault e d h = cc

pub writes_bind : {Q E A B M : Type 0} (can : Q → ℕ → Type 0) (put : Q → ℕ → M → M) (s : Syntax Q E A) (f : A → Syntax Q E B)
    (old mid new : M) (x : A) (y : B) → Writes can put s old x mid → Writes can put (f x) mid y new → Writes can put (s >>= f) old y new
writes_bind can put (done z) f old mid new x y h g =
    subst (λ e. Writes can put (f z) e y new) (sym h.1) (subst (λ w. Writes can put (f w) mid y new) (sym h.0) g)
writes_bind can put (broken e) f old mid new x y h g = absurd h
writes_bind can put (ask q k) f old mid new x y h g = (h.0, h.1, writes_bind can put (k h.0) f (put q h.0 old) mid new x y h.2 g)

-- ---- to a value or to a test that fails

pub writes_value : {Q E A M : Type 0} (can : Q → ℕ → Type 0) (put : Q → ℕ → M → M) (s : Syntax Q E A) (old new : M) (x : A)
    → Writes can put s old x new → WritesTo can put s old (Ok x) new
writes_value can put (done z) old new x h = (ap Ok (sym h.0), h.1)
writes_value can put (broken e) old new x h = absurd h
writes_value can put (ask q k) old new x h = (h.0, h.1, writes_value can put (k h.0) (put q h.0 old) new x h.2)

pub writes_on : {Q E A B M : Type 0} (can : Q → ℕ → Type 0) (put : Q → ℕ → M → M) (s : Syntax Q E A) (f : A → Syntax Q E B)
    (old mid new : M) (x : A) (r : Result B E) → Writes can put s old x mid → WritesTo can put (f x) mid r new → WritesTo can put (s >>= f) old r new
writes_on can put (done z) f old mid new x r h g =
    subst (λ e. WritesTo can put (f z) e r new) (sym h.1) (subst (λ w. WritesTo can put (f w) mid r new) (sym h.0) g)
writes_on can put (broken e) f old mid new x r h g = absurd h
writes_on can put (ask q k) f old mid new x r h g = (h.0, h.1, writes_on can put (k h.0) f (put q h.0 old) mid new x r h.2 g)

pub writes_to_fault : {Q E A B M : Type 0} (can : Q → ℕ → Type 0) (put : Q → ℕ → M → M) (s : Syntax Q E A) (f : A → Syntax Q E B)
    (old new : M) (e : E) → WritesTo can put s old (Err e) new → WritesTo can put (s >>= f) old (Err e) new
writes_to_fault can put (done z) f old new e h = absurd (no_value e z h.0)
writes_to_fault can put (broken d) f old new e h = (ap Err (same_fault e d h.0), h.1)
writes_to_fault can put (ask q k) f old new e h = (h.0, h.1, writes_to_fault can put (k h.0) f (put q h.0 old) new e h.2)

-- ---- on the way

pub leads_here : {Q E A M : Type 0} (can : Q → ℕ → Type 0) (put : Q → ℕ → M → M) (s : Syntax Q E A) (old : M) → Leads can put s old s old
leads_here can put s old = λ x new h. h

pub leads_on : {Q E A M : Type 0} (can : Q → ℕ → Type 0) (put : Q → ℕ → M → M) (s : Syntax Q E A) (q : Q) (v : ℕ) (k : ℕ → Syntax Q E A) (old now : M)
    → Leads can put s old (ask q k) now → can q v → Leads can put s old (k v) (put q v now)
leads_on can put s q v k old now h fits = λ x new g. h x new (v, fits, g)

pub leads_end : {Q E A M : Type 0} (can : Q → ℕ → Type 0) (put : Q → ℕ → M → M) (s : Syntax Q E A) (x : A) (old now : M)
    → Leads can put s old (done x) now → Writes can put s old x now
leads_end can put s x old now h = h x now (refl, refl)
