-- A tile that is read from its bytes, whatever is kept of it.
use Rattle.std.proofs.Common.{◌≡◌, ◌∙◌, ℕ, zero, suc, rules, Bool, refl, sym, ap, List}
use Rattle.std.specs.Prelude.{not, nat_eq, Ok, Err, Result}
use Rattle.vp9_types.specs.Results.{map_ok}
use Rattle.vp9_types.specs.Syntax.{Syntax, done, broken, ask}
use Rattle.vp9_types.specs.declared.rule.Rule.{Rule}
use Rattle.bool_decoder.specs.Bools.{run_bools}
use Rattle.bool_decoder.specs.Window.{Window, started, bit_of, after_bit}
use Rattle.counting_reader.specs.Counting.{Settled, mapped}
use Rattle.counting_reader.specs.Code.{Reads, counts_by, standing_of, Standing, with_counts, counted_if, run_counting}
use Rattle.prob_contexts.specs.declared.kind.CountedBool.{CountedBool}
use Rattle.counting_reader.specs.declared.reader.CountingReader.{CountingReader}
use Rattle.frame_state.specs.Code.{settled_of, read_whole}

-- the same was counted
abbrev pub seen_by : {S T : Type 0} → (S → T) → Settled S → Settled T
seen_by f s = record { value = f s.value; counted = s.counted }

pub values_mapped : {S T : Type 0} (f : S → T) (s : Syntax ℕ Rule (Settled S)) (w : Window) → settled_of (run_bools (mapped f s) w) ≡ map_ok (seen_by f) (settled_of (run_bools s w))
unfolding mapped
values_mapped f (done x) w = refl
values_mapped f (broken e) w = refl
values_mapped f (ask p k) w = values_mapped f (k (bit_of p w)) (after_bit p w)

---- A tile's bytes ----

abbrev pub with_counted : {A : Type 0} → List CountedBool → A → Settled A
with_counted counted x = record { value = x; counted = counted }

pub whole_not_started : {A : Type 0} (s : Syntax ℕ Rule (Settled A)) (bytes : List ℕ) (rule : Rule) → started bytes ≡ Err rule → read_whole s bytes ≡ Err rule
unfolding read_whole
whole_not_started s bytes rule is = rw is refl

counted_value : {A : Type 0} (r : Result (Settled A × Window) Rule) (counts : List ℕ) (counting : Bool) (x : A) (m : Standing) → with_counts r counts counting ≡ Ok (x, m)
    → (counted : List CountedBool) × (settled_of r ≡ Ok (record { value = x; counted = counted })) × (m.counts ≡ counted_if counting counts counted)
counted_value {A} (Ok p) counts counting x m is =
    let same : ◌≡◌ {A = A × Standing} (p.0.value, record { window = p.1; counts = counted_if counting counts p.0.counted; counting = counting }) (x, m) = cc in
    (p.0.counted, ap (λ z. Ok (with_counted p.0.counted z.0)) same, sym (ap (λ z. z.1.counts) same))
counted_value (Err e) counts counting x m is = let no : ⊥ = cc in absurd no

counted_fault : {A : Type 0} (r : Result (Settled A × Window) Rule) (counts : List ℕ) (counting : Bool) (rule : Rule) → with_counts r counts counting ≡ Err rule → settled_of r ≡ Err rule
counted_fault (Ok p) counts counting rule is = let no : ⊥ = cc in absurd no
counted_fault (Err e) counts counting rule is = let same : e ≡ rule = cc in ap (λ z. Err z) same

-- whether a reader counts, by its type's parameter
pub counts_by_is : (n : ℕ) → counts_by n ≡ not (nat_eq n 0)
counts_by_is zero = refl
counts_by_is (suc n) = search rules

pub whole_read : {A : Type 0} {n : ℕ} (s : Syntax ℕ Rule (Settled A)) (bytes counts : List ℕ) (old new : CountingReader n) (x : A) (counting : Bool)
    → counts_by n ≡ counting → started bytes ≡ Ok (standing_of old).window → (standing_of old).counts ≡ counts → Reads s old x new
    → (counted : List CountedBool) × (read_whole s bytes ≡ Ok (with_counted counted x)) × ((standing_of new).counts ≡ counted_if counting counts counted)
unfolding read_whole run_counting
whole_read {n = n} s bytes counts old new x counting is starts before gives =
    let read = counted_value (run_bools s (standing_of old).window) (standing_of old).counts (counts_by n) x (standing_of new) gives in
    (read.0, rw starts read.1, read.2 ∙ (λ i. counted_if (is i) (before i) read.0))

pub whole_broken : {A : Type 0} {n : ℕ} (s : Syntax ℕ Rule (Settled A)) (bytes : List ℕ) (old : CountingReader n) (rule : Rule)
    → started bytes ≡ Ok (standing_of old).window → run_counting s (standing_of old) ≡ Err rule → read_whole s bytes ≡ Err rule
unfolding read_whole run_counting
whole_broken {n = n} s bytes old rule starts gives =
    rw starts (counted_fault (run_bools s (standing_of old).window) (standing_of old).counts (counts_by n) rule gives)
