-- A loop that puts a list, element by element.
use Rattle.std.proofs.Common.{◌≡◌, ℕ, suc, ◌+◌, ◌<◌, ◌≤◌, List, [], ◌∷◌, ◌++◌, length, get_or, take, drop, refl, ap, sym, subst, append_assoc, arith}
use Rattle.std.proofs.Math.Seq.{drop-cons}
use Rattle.std.proofs.lemmas.List.{append-nil, take_more, take_all, drop_all}
use Rattle.vp9_types.specs.Syntax.{done, ◌>>=◌}
use Rattle.vp9_types.specs.Each.{each}
use Rattle.vp9_types.proofs.Binds.{writes_bind}
use Rattle.bool_encoder.specs.Part.{NumberPart, after_put}
use Rattle.bool_encoder.specs.WrittenBools.{Puts, can_put}
use Rattle.compressed_header.specs.Updates.{UpdateTable}
use Rattle.compressed_writer.specs.Code.{EachLeft}

pub puts_bind : {A B : Type 0} (s : UpdateTable A) (f : A → UpdateTable B) (old mid new : NumberPart) (x : A) (y : B)
    → Puts s old x mid → Puts (f x) mid y new → Puts (s >>= f) old y new
puts_bind s f old mid new x y h g = writes_bind can_put after_put s f old mid new x y h g

pub each_begins : {A B : Type 0} (s : A → UpdateTable B) (xs : List A) (old : NumberPart) → EachLeft s xs old [] xs old
each_begins s xs old = λ ys new h. h

each_step : {A B : Type 0} (s : A → UpdateTable B) (xs : List A) (old : NumberPart) (front : List B) (x : A) (more : List A) (now next : NumberPart) (y : B)
    → EachLeft s xs old front (x ∷ more) now → Puts (s x) now y next → EachLeft s xs old (front ++ y ∷ []) more next
each_step s xs old front x more now next y h g = λ ys new k.
    subst (λ zs. Puts (each s xs) old zs new) (sym (append_assoc front (y ∷ []) ys))
    (h (y ∷ ys) new (puts_bind (s x) (λ z. each s more >>= λ zs. done (z ∷ zs)) now next new y (y ∷ ys) g
    (puts_bind (each s more) (λ zs. done (y ∷ zs)) next new new ys (y ∷ ys) k (refl, refl))))

pub each_ends : {A B : Type 0} (s : A → UpdateTable B) (xs : List A) (old : NumberPart) (front : List B) (now : NumberPart) → EachLeft s xs old front [] now → Puts (each s xs) old front now
each_ends s xs old front now h = subst (λ zs. Puts (each s xs) old zs now) (append-nil front) (h [] now (refl, refl))

one_on : (i : ℕ) → i + 1 ≡ suc i
one_on i = omega arith

-- the element at a place was put
pub each_on : {A B : Type 0} (s : A → UpdateTable B) (xs : List A) (old : NumberPart) (ys : List B) (i : ℕ) (d : A) (e : B) (now next : NumberPart) → i < length xs → i < length ys
    → EachLeft s xs old (take i ys) (drop i xs) now → Puts (s (get_or xs i d)) now (get_or ys i e) next → EachLeft s xs old (take (i + 1) ys) (drop (i + 1) xs) next
each_on s xs old ys i d e now next low there h g =
    let before = subst (λ back. EachLeft s xs old (take i ys) back now) (drop-cons xs i d low) h in
    let one = each_step s xs old (take i ys) (get_or xs i d) (drop (suc i) xs) now next (get_or ys i e) before g in
    let back : drop (suc i) xs ≡ drop (i + 1) xs = ap (λ n. drop n xs) (sym (one_on i)) in
    subst (λ front. EachLeft s xs old front (drop (i + 1) xs) next) (sym (take_more ys i e there))
    (subst (λ rest. EachLeft s xs old (take i ys ++ get_or ys i e ∷ []) rest next) back one)

-- all were put
pub each_all : {A B : Type 0} (s : A → UpdateTable B) (xs : List A) (old : NumberPart) (ys : List B) (i : ℕ) (now : NumberPart) → length xs ≤ i → length ys ≤ i
    → EachLeft s xs old (take i ys) (drop i xs) now → Puts (each s xs) old ys now
each_all s xs old ys i now low there h =
    each_ends s xs old ys now (subst (λ front. EachLeft s xs old front [] now) (take_all i ys there) (subst (λ back. EachLeft s xs old (take i ys) back now) (drop_all i xs low) h))
