-- A state that goes through a list, element by element.
use Rattle.std.proofs.Common.{◌≡◌, ◌<◌, ◌≤◌, ◌+◌, ℕ, refl, sym, ◌∙◌, ap, List, [], ◌∷◌, ◌++◌, length, get_or, take, drop}
use Rattle.std.specs.Prelude.{Result, Ok, Err}
use Rattle.std.proofs.lemmas.List.{take_all, take_more, drop_more, take-append-drop}
use Rattle.vp9_types.specs.Syntax.{Syntax}
use Rattle.vp9_types.specs.Reading.{after}
use Rattle.vp9_types.specs.declared.rule.Rule.{Rule}
use Rattle.counting_reader.specs.Counting.{Settled, through}
use Rattle.counting_reader.specs.Code.{Standing, run_counting}
use Rattle.counting_reader.proofs.CountingRuns.{counting_bind, run_settle}

abbrev Read : Type 0 → Type 0
Read S = Result (S × Standing) Rule

after_after : {S : Type 0} (r : Result (S × Standing) Rule) (f g : S → Standing → Result (S × Standing) Rule)
    → after (after r f) g ≡ after r (λ s m. after (f s m) g)
after_after (Ok p) f g = refl
after_after (Err e) f g = refl

after_same : {S : Type 0} (r : Result (S × Standing) Rule) (f g : S → Standing → Result (S × Standing) Rule)
    → ((s : S) (m : Standing) → f s m ≡ g s m) → after r f ≡ after r g
after_same (Ok p) f g same = same p.0 p.1
after_same (Err e) f g same = refl

pub through_append : {A S : Type 0} (f : A → S → Syntax ℕ Rule (Settled S)) (xs ys : List A) (s : S) (m : Standing)
    → run_counting (through f (xs ++ ys) s) m ≡ after (run_counting (through f xs s) m) (λ t n. run_counting (through f ys t) n)
unfolding through
through_append f [] ys s m = sym (ap (λ r. after r (λ t n. run_counting (through f ys t) n)) (run_settle s m))
through_append f (x ∷ xs) ys s m =
    counting_bind (f x s) (through f (xs ++ ys)) m
    ∙ (after_same (run_counting (f x s) m) _ _ (λ t n. through_append f xs ys t n)
    ∙ (sym (after_after (run_counting (f x s) m) (λ t n. run_counting (through f xs t) n) (λ t n. run_counting (through f ys t) n))
    ∙ ap (λ r. after r (λ t n. run_counting (through f ys t) n)) (sym (counting_bind (f x s) (through f xs) m))))

-- so many elements were gone through
abbrev pub Reached : {A S : Type 0} → (A → S → Syntax ℕ Rule (Settled S)) → List A → S → Standing → ℕ → S → Standing → Type 0
Reached f xs start begin k s m = run_counting (through f (take k xs) start) begin ≡ Ok (s, m)

pub begins : {A S : Type 0} (f : A → S → Syntax ℕ Rule (Settled S)) (xs : List A) (s : S) (m : Standing) → Reached f xs s m 0 s m
unfolding through
begins f xs s m = run_settle s m

pub goes_on : {A S : Type 0} (f : A → S → Syntax ℕ Rule (Settled S)) (xs : List A) (start s t : S) (begin m n : Standing) (k : ℕ) (d : A) → k < length xs
    → Reached f xs start begin k s m → run_counting (f (get_or xs k d) s) m ≡ Ok (t, n) → Reached f xs start begin (k + 1) t n
unfolding through
goes_on f xs start s t begin m n k d low reached next =
    rw (take_more xs k d low) (through_append f (take k xs) (get_or xs k d ∷ []) start begin
    ∙ rw reached (counting_bind (f (get_or xs k d) s) (through f []) m ∙ rw next (run_settle t n)))

pub breaks : {A S : Type 0} (f : A → S → Syntax ℕ Rule (Settled S)) (xs : List A) (start s : S) (begin m : Standing) (k : ℕ) (d : A) (rule : Rule) → k < length xs
    → Reached f xs start begin k s m → run_counting (f (get_or xs k d) s) m ≡ Err rule → run_counting (through f xs start) begin ≡ Err rule
unfolding through
breaks f xs start s begin m k d rule low reached next =
    ap (λ ys. run_counting (through f ys start) begin) (sym (take-append-drop k xs))
    ∙ (through_append f (take k xs) (drop k xs) start begin
    ∙ rw (reached, drop_more xs k d low) (counting_bind (f (get_or xs k d) s) (through f (drop (k + 1) xs)) m ∙ rw next refl))

pub ends : {A S : Type 0} (f : A → S → Syntax ℕ Rule (Settled S)) (xs : List A) (start s : S) (begin m : Standing) (k : ℕ) → length xs ≤ k
    → Reached f xs start begin k s m → run_counting (through f xs start) begin ≡ Ok (s, m)
ends f xs start s begin m k all reached = rw (take_all k xs all) at reached
