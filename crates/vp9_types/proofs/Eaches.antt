-- A loop that reads a list in place: what it does at its begin, at each element and at its end.
use Rattle.std.proofs.Common.{◌≡◌, ℕ, suc, ◌+◌, ◌<◌, List, [], ◌∷◌, ◌++◌, length, get_or, take, drop, refl, ap, sym, ◌∙◌, append_assoc, arith}
use Rattle.std.proofs.Math.ListN.{set}
use Rattle.std.proofs.Math.Seq.{drop-cons}
use Rattle.std.proofs.lemmas.List.{take_more_set, drop-set-lt}
use Rattle.std.specs.Prelude.{Result, Ok, Err}
use Rattle.std.proofs.lemmas.List.{append-nil}
use Rattle.vp9_types.specs.Syntax.{Syntax, done, ◌>>=◌}
use Rattle.vp9_types.specs.Reading.{after, run}
use Rattle.vp9_types.specs.Each.{each, run_each_from}
use Rattle.vp9_types.proofs.Runs.{run_bind}

-- reading on from nothing is reading them all
from_none : {E B M : Type 0} (read : Result (List B × M) E) → after read (λ ys rest. Ok ([] ++ ys, rest)) ≡ read
from_none (Ok p) = refl
from_none (Err e) = refl

pub each_begins : {Q E A B M : Type 0} (answer : Q → M → Result (ℕ × M) E) (s : A → Syntax Q E B) (xs : List A) (m : M)
    → run_each_from answer s [] xs m ≡ run answer (each s xs) m
each_begins answer s xs m = from_none (run answer (each s xs) m)

pub each_ends : {Q E A B M : Type 0} (answer : Q → M → Result (ℕ × M) E) (s : A → Syntax Q E B) (front : List B) (m : M)
    → run_each_from answer s front [] m ≡ Ok (front, m)
each_ends answer s front m = ap (λ ys. Ok (ys, m)) (append-nil front)

-- the elements after one that was read, from the list of these alone or with it in front
one_longer : {E B M : Type 0} (front : List B) (y : B) (read : Result (List B × M) E)
    → after (after read (λ ys rest. Ok (y ∷ ys, rest))) (λ ys rest. Ok (front ++ ys, rest)) ≡ after read (λ ys rest. Ok ((front ++ y ∷ []) ++ ys, rest))
one_longer front y (Ok p) = ap (λ zs. Ok (zs, p.1)) (sym (append_assoc front (y ∷ []) p.0))
one_longer front y (Err e) = refl

-- reading the elements from x on is reading x and then the others
rest_read : {Q E A B M : Type 0} (answer : Q → M → Result (ℕ × M) E) (s : A → Syntax Q E B) (y : B) (more : List A) (rest : M)
    → run answer (each s more >>= λ ys. done (y ∷ ys)) rest ≡ after (run answer (each s more) rest) (λ ys last. Ok (y ∷ ys, last))
rest_read answer s y more rest = run_bind answer (each s more) (λ ys. done (y ∷ ys)) rest

pub each_step : {Q E A B M : Type 0} (answer : Q → M → Result (ℕ × M) E) (s : A → Syntax Q E B) (front : List B) (x : A) (more : List A) (m : M) (y : B) (rest : M)
    → run answer (s x) m ≡ Ok (y, rest)
    → run_each_from answer s front (x ∷ more) m ≡ run_each_from answer s (front ++ y ∷ []) more rest
each_step answer s front x more m y rest h =
    ap (λ read. after read (λ ys last. Ok (front ++ ys, last)))
    (run_bind answer (s x) (λ z. each s more >>= λ ys. done (z ∷ ys)) m
    ∙ ap (λ read. after read (λ z last. run answer (each s more >>= λ ys. done (z ∷ ys)) last)) h
    ∙ rest_read answer s y more rest)
    ∙ one_longer front y (run answer (each s more) rest)

pub each_fails : {Q E A B M : Type 0} (answer : Q → M → Result (ℕ × M) E) (s : A → Syntax Q E B) (front : List B) (x : A) (more : List A) (m : M) (e : E)
    → run answer (s x) m ≡ Err e
    → run_each_from answer s front (x ∷ more) m ≡ Err e
each_fails answer s front x more m e h =
    ap (λ read. after read (λ ys last. Ok (front ++ ys, last)))
    (run_bind answer (s x) (λ z. each s more >>= λ ys. done (z ∷ ys)) m
    ∙ ap (λ read. after read (λ z last. run answer (each s more >>= λ ys. done (z ∷ ys)) last)) h)

one_on : (i : ℕ) → i + 1 ≡ suc i
one_on i = omega arith

-- what was read is put into its place
pub each_put : {Q E A M : Type 0} (answer : Q → M → Result (ℕ × M) E) (s : A → Syntax Q E A) (xs : List A) (i : ℕ) (d y : A) (m rest : M)
    → i < length xs → run answer (s (get_or xs i d)) m ≡ Ok (y, rest)
    → run_each_from answer s (take i xs) (drop i xs) m ≡ run_each_from answer s (take (i + 1) (set xs i y)) (drop (i + 1) (set xs i y)) rest
each_put answer s xs i d y m rest low h =
    ap (λ back. run_each_from answer s (take i xs) back m) (drop-cons xs i d low)
    ∙ each_step answer s (take i xs) (get_or xs i d) (drop (suc i) xs) m y rest h
    ∙ ap (λ front. run_each_from answer s front (drop (suc i) xs) rest) (sym (take_more_set xs i y low))
    ∙ ap (λ back. run_each_from answer s (take (i + 1) (set xs i y)) back rest)
    (ap (λ n. drop n xs) (sym (one_on i)) ∙ sym (drop-set-lt (i + 1) xs i y (omega arith)))

pub each_stops : {Q E A B M : Type 0} (answer : Q → M → Result (ℕ × M) E) (s : A → Syntax Q E B) (front : List B) (xs : List A) (i : ℕ) (d : A) (m : M) (e : E)
    → i < length xs → run answer (s (get_or xs i d)) m ≡ Err e
    → run_each_from answer s front (drop i xs) m ≡ Err e
each_stops answer s front xs i d m e low h =
    ap (λ back. run_each_from answer s front back m) (drop-cons xs i d low)
    ∙ each_fails answer s front (get_or xs i d) (drop (suc i) xs) m e h
