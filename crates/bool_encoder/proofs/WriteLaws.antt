-- Bools that were put are read.
use Rattle.std.proofs.Common.{◌≡◌, ℕ, zero, suc, ◌<◌, ◌≤◌, List, ap, sym, subst, ◌∙◌, arith}
use Rattle.std.specs.Prelude.{Ok}
use Rattle.vp9_types.specs.Bits.{AreBits}
use Rattle.vp9_types.specs.Syntax.{Syntax, done, broken, ask, ◌>>=◌}
use Rattle.vp9_types.specs.Reading.{after, run}
use Rattle.bool_decoder.specs.Coder.{after_bool}
use Rattle.bool_decoder.specs.Bools.{run_coder, coder_answer}
use Rattle.vp9_types.proofs.Binds as binds
use Rattle.bool_encoder.specs.Part.{NumberPart, after_put}
use Rattle.bool_encoder.specs.Laws.{Lies, coder_at}
use Rattle.bool_encoder.specs.WrittenBools.{WritesBools, LeadsBools, can_put}
use Rattle.bool_encoder.proofs.Parts.{ReadsPut, put_zero, put_one, put_wide}

pub writes_bind : {E A B : Type 0} (s : Syntax ℕ E A) (f : A → Syntax ℕ E B) (old mid new : NumberPart) (x : A) (y : B)
    → WritesBools s old x mid → WritesBools (f x) mid y new → WritesBools (s >>= f) old y new
writes_bind s f old mid new x y h g = binds.writes_bind can_put after_put s f old mid new x y h g

put_reads : (p v : ℕ) (e : NumberPart) (bits : List ℕ) → 2 ≤ e.range → p < 256 → v < 2 → AreBits bits → Lies (after_put p v e) bits → ReadsPut p v e bits
put_reads p zero e bits wide low one are h = put_zero p e bits wide low are h
put_reads p (suc zero) e bits wide low one are h = put_one p e bits wide low are h
put_reads p (suc (suc v)) e bits wide low one are h = absurd (omega arith)

-- what is read from bits that lie in the part
pub record ReadsBack {E A : Type 0} (s : Syntax ℕ E A) (old : NumberPart) (x : A) (new : NumberPart) (bits : List ℕ) : Type 0 where
  pub lies : Lies old bits
  pub read : run_coder s (coder_at bits old) ≡ Ok (x, coder_at bits new)

pub written_is_read : {E A : Type 0} (s : Syntax ℕ E A) (old new : NumberPart) (x : A) (bits : List ℕ)
    → 2 ≤ old.range → AreBits bits → WritesBools s old x new → Lies new bits → ReadsBack s old x new bits
written_is_read {E} {A} (done y) old new x bits wide are h lies = record {
  lies = subst (λ e. Lies e bits) (sym h.1) lies;
  read = ap (λ (z : A). Ok (z, coder_at bits old)) h.0 ∙ ap (λ e. Ok (x, coder_at bits e)) h.1;
}
written_is_read (broken e) old new x bits wide are h lies = absurd h
written_is_read {E} {A} (ask p k) old new x bits wide are h lies =
    let v = h.0 in
    let rest = written_is_read (k v) (after_put p v old) new x bits (put_wide p v old wide h.1.0) are h.2 lies in
    let put = put_reads p v old bits wide h.1.0 h.1.1 are rest.lies in
    record {
      lies = put.lies;
      read =
          ap (λ n. after {E = E} (Ok (n, after_bool p (coder_at bits old))) (λ w more. run coder_answer (k w) more)) put.value
          ∙ ap (λ c. run_coder (k v) c) put.next
          ∙ rest.read;
    }

-- ---- on the way

pub leads_here : {E A : Type 0} (s : Syntax ℕ E A) (old : NumberPart) → LeadsBools s old s old
leads_here s old = binds.leads_here can_put after_put s old

pub leads_on : {E A : Type 0} (s : Syntax ℕ E A) (p v : ℕ) (k : ℕ → Syntax ℕ E A) (old now : NumberPart)
    → LeadsBools s old (ask p k) now → p < 256 → v < 2 → LeadsBools s old (k v) (after_put p v now)
leads_on s p v k old now h low one = binds.leads_on can_put after_put s p v k old now h (low, one)

pub leads_end : {E A : Type 0} (s : Syntax ℕ E A) (x : A) (old now : NumberPart) → LeadsBools s old (done x) now → WritesBools s old x now
leads_end s x old now h = binds.leads_end can_put after_put s x old now h
