-- One counting syntax, and then another, without what they count.
use Rattle.std.proofs.Common.{◌≡◌, ◌<◌, ◌≤◌, ℕ, ◌+◌, List, [], ◌∷◌, length, get_or, drop, Bool, true, false, refl, ap, sym, subst, ◌∙◌}
use Rattle.std.specs.Prelude.{Result, Ok, Err, nat_eq, slice_index, if◌then◌else◌}
use Rattle.std.proofs.lemmas.List.{drop_more, drop_all}
use Rattle.vp9_types.specs.Syntax.{Syntax, done, broken, ask, ◌>>=◌}
use Rattle.vp9_types.specs.Writing.{WritesTo}
use Rattle.vp9_types.specs.Trees.{Tree, leaf, node, tree_symbol}
use Rattle.vp9_types.specs.declared.rule.Rule.{Rule}
use Rattle.prob_contexts.specs.declared.kind.CountedBool.{CountedBool}
use Rattle.prob_contexts.specs.declared.kind.ProbKind.{ProbKind}
use Rattle.counting_reader.specs.Counting.{Settled, settle, count, uncounted, counted_before, in_order, lifted, through}
use Rattle.counting_reader.specs.Code.{run_counting, with_counts, counted_if}
use Rattle.counting_reader.specs.CountedSymbols.{counted_flag, counted_tree}
use Rattle.bool_decoder.specs.Bools.{flag}
use Rattle.bool_encoder.specs.Part.{NumberPart, after_put, behind_marker, Finishes}
use Rattle.bool_encoder.specs.WrittenBools.{Puts, can_put}
use Rattle.vp9_types.proofs.Binds.{writes_bind, writes_value, writes_on, writes_to_fault}
use Rattle.bool_encoder.proofs.Starts.{written_is_read_from}
use Rattle.bool_encoder.specs.CountedBools.{valued, PutsValue, PutsCounting, PutsTo}
use Rattle.bool_encoder.specs.Laws.{IsReadFrom}

pub valued_settle : {A : Type 0} (x : A) → valued (settle x) ≡ done x
unfolding settle valued
valued_settle x = refl

pub valued_flag : (kind : ProbKind) (place p : ℕ) → valued (counted_flag kind place p) ≡ flag p
unfolding counted_flag flag valued
valued_flag kind place p = refl

pub valued_count : (bools : List CountedBool) → valued (count bools) ≡ done tt
unfolding count valued
valued_count bools = refl

same_after : {A : Type 0} (p : ℕ) (k l : ℕ → Syntax ℕ Rule A) → ((v : ℕ) → k v ≡ l v) → ◌≡◌ {A = Syntax ℕ Rule A} (ask p k) (ask p l)
same_after p k l h = λ i. ask p (λ v. h v i)

pub valued_uncounted : {A : Type 0} (s : Syntax ℕ Rule A) → valued (uncounted s) ≡ s
unfolding uncounted valued
valued_uncounted (done x) = refl
valued_uncounted (broken e) = refl
valued_uncounted (ask p k) = same_after p (λ v. valued (uncounted (k v))) k (λ v. valued_uncounted (k v))

valued_behind : {A : Type 0} (bools : List CountedBool) (s : Syntax ℕ Rule (Settled A)) → valued (counted_before bools s) ≡ valued s
unfolding counted_before valued
valued_behind bools (done x) = refl
valued_behind bools (broken e) = refl
valued_behind bools (ask p k) = same_after p (λ v. valued (counted_before bools (k v))) (λ v. valued (k v)) (λ v. valued_behind bools (k v))

pub valued_in_order : {A B : Type 0} (s : Syntax ℕ Rule (Settled A)) (f : A → Syntax ℕ Rule (Settled B)) → valued (in_order s f) ≡ (valued s >>= λ x. valued (f x))
unfolding in_order valued
valued_in_order (done x) f = valued_behind x.counted (f x.value)
valued_in_order (broken e) f = refl
valued_in_order (ask p k) f = same_after p (λ v. valued (in_order (k v) f)) (λ v. valued (k v) >>= λ x. valued (f x)) (λ v. valued_in_order (k v) f)

branch : {A : Type 0} (b : Bool) (bools : List CountedBool) (s t : Syntax ℕ Rule (Settled A)) (u w : Syntax ℕ Rule A) → valued s ≡ u → valued t ≡ w
    → valued (counted_before bools (if b then s else t)) ≡ (if b then u else w)
branch true bools s t u w h g = valued_behind bools s ∙ h
branch false bools s t u w h g = valued_behind bools t ∙ g

abbrev counted_as : ProbKind → ℕ → ℕ → List CountedBool
counted_as kind place v = record { kind = kind; place = place; one = nat_eq v 1 } ∷ []

-- the same bools lead to a tree-coded symbol, counted or not
pub valued_tree : (kind : ProbKind) (first : ℕ) (tree : Tree) (probs : List ℕ) → valued (counted_tree kind first tree probs) ≡ tree_symbol tree probs
unfolding counted_tree tree_symbol counted_flag in_order settle valued
valued_tree kind first (leaf x) probs = refl
valued_tree kind first (node k zeros ones) probs =
    same_after (slice_index probs k)
    (λ v. valued (counted_before (counted_as kind (first + k) v) (if nat_eq v 1 then counted_tree kind first ones probs else counted_tree kind first zeros probs)))
    (λ v. if nat_eq v 1 then tree_symbol ones probs else tree_symbol zeros probs)
    (λ v. branch (nat_eq v 1) (counted_as kind (first + k) v) (counted_tree kind first ones probs) (counted_tree kind first zeros probs)
    (tree_symbol ones probs) (tree_symbol zeros probs) (valued_tree kind first ones probs) (valued_tree kind first zeros probs))

abbrev settled_by : {A : Type 0} → A → List CountedBool → Settled A
settled_by x bools = record { value = x; counted = bools }

-- what is counted is there all the same
pub value_counts : {A : Type 0} (s : Syntax ℕ Rule (Settled A)) (old new : NumberPart) (x : A) → PutsValue s old x new → PutsCounting s old x new
unfolding valued
value_counts (done y) old new x h = (y.counted, (ap (λ v. settled_by v y.counted) h.0, h.1))
value_counts (broken e) old new x h = absurd h
value_counts (ask p k) old new x h =
    let rest = value_counts (k h.0) (after_put p h.0 old) new x h.2 in
    (rest.0, (h.0, h.1, rest.1))

value_by : {A : Type 0} (s : Syntax ℕ Rule (Settled A)) (old new : NumberPart) (x : A) (counted : List CountedBool) → Puts s old (settled_by x counted) new → PutsValue s old x new
unfolding valued
value_by (done y) old new x counted h = (ap (λ z. z.value) h.0, h.1)
value_by (broken e) old new x counted h = absurd h
value_by (ask p k) old new x counted h = (h.0, h.1, value_by (k h.0) (after_put p h.0 old) new x counted h.2)

pub value_by_counting : {A : Type 0} (s : Syntax ℕ Rule (Settled A)) (old new : NumberPart) (x : A) → PutsCounting s old x new → PutsValue s old x new
value_by_counting s old new x h = value_by s old new x h.0 h.1

pub counting_puts : {A B : Type 0} (s : Syntax ℕ Rule (Settled A)) (f : A → Syntax ℕ Rule (Settled B)) (old mid new : NumberPart) (x : A) (y : B)
    → PutsCounting s old x mid → PutsCounting (f x) mid y new → PutsCounting (in_order s f) old y new
counting_puts {B = B} s f old mid new x y h g =
    value_counts (in_order s f) old new y (subst (λ (u : Syntax ℕ Rule B). Puts u old y new) (sym (valued_in_order s f))
    (writes_bind can_put after_put (valued s) (λ x. valued (f x)) old mid new x y (value_by s old mid x h.0 h.1) (value_by (f x) mid new y g.0 g.1)))

pub counting_read : {A : Type 0} (s : Syntax ℕ Rule (Settled A)) (x : A) (new : NumberPart) (bytes : List ℕ) → PutsCounting s behind_marker x new → Finishes new bytes → IsReadFrom s bytes x
unfolding run_counting
counting_read s x new bytes h ends =
    let r = written_is_read_from s (settled_by x h.0) new bytes h.1 ends in
    record {
      start = r.start;
      last = r.last;
      starts = r.starts;
      read = λ counts. (counted_if true counts h.0, ap (λ z. with_counts z counts true) r.read);
    }

---- To a value or to a rule ----

fault_no_value : {A : Type 0} (e : Rule) (x : A) → ◌≡◌ {A = Result A Rule} (Ok x) (Err e) → ⊥
fault_no_value e x h = cc

same_value : {A : Type 0} (x y : A) → ◌≡◌ {A = Result A Rule} (Ok x) (Ok y) → y ≡ x
same_value x y h = cc

value_written : {A : Type 0} (s : Syntax ℕ Rule A) (old new : NumberPart) (x : A) → WritesTo can_put after_put s old (Ok x) new → Puts s old x new
value_written (done y) old new x h = (same_value x y h.0, h.1)
value_written (broken e) old new x h = absurd (fault_no_value e x h.0)
value_written (ask p k) old new x h = (h.0, h.1, value_written (k h.0) (after_put p h.0 old) new x h.2)

pub puts_value : {A : Type 0} (s : Syntax ℕ Rule (Settled A)) (old new : NumberPart) (x : A) → PutsValue s old x new → PutsTo s old (Ok x) new
puts_value s old new x h = writes_value can_put after_put (valued s) old new x h

pub value_put : {A : Type 0} (s : Syntax ℕ Rule (Settled A)) (old new : NumberPart) (x : A) → PutsTo s old (Ok x) new → PutsValue s old x new
value_put s old new x h = value_written (valued s) old new x h

pub puts_settle : {A : Type 0} (x : A) (now : NumberPart) → PutsTo (settle x) now (Ok x) now
puts_settle x now = rw (valued_settle x) (refl, refl)

pub puts_lifted : {A : Type 0} (r : Result A Rule) (now : NumberPart) → PutsTo (lifted r) now r now
unfolding lifted valued
puts_lifted (Ok x) now = puts_settle x now
puts_lifted (Err e) now = (refl, refl)

-- one, and then another
pub puts_on : {A B : Type 0} (s : Syntax ℕ Rule (Settled A)) (f : A → Syntax ℕ Rule (Settled B)) (old mid new : NumberPart) (x : A) (r : Result B Rule)
    → PutsTo s old (Ok x) mid → PutsTo (f x) mid r new → PutsTo (in_order s f) old r new
puts_on {B = B} s f old mid new x r h g =
    subst (λ (u : Syntax ℕ Rule B). WritesTo can_put after_put u old r new) (sym (valued_in_order s f))
    (writes_on can_put after_put (valued s) (λ x. valued (f x)) old mid new x r (value_put s old mid x h) g)

-- a rule that is broken in the first ends both
pub puts_broken : {A B : Type 0} (s : Syntax ℕ Rule (Settled A)) (f : A → Syntax ℕ Rule (Settled B)) (old new : NumberPart) (e : Rule)
    → PutsTo s old (Err e) new → PutsTo (in_order s f) old (Err e) new
puts_broken {B = B} s f old new e h =
    subst (λ (u : Syntax ℕ Rule B). WritesTo can_put after_put u old (Err e) new) (sym (valued_in_order s f))
    (writes_to_fault can_put after_put (valued s) (λ x. valued (f x)) old new e h)

---- A state that goes through a list ----

-- so many elements were gone through, and what is put for the others completes all
abbrev pub LeftOf : {A S : Type 0} → (A → S → Syntax ℕ Rule (Settled S)) → List A → S → NumberPart → ℕ → S → NumberPart → Type 0
LeftOf {S = S} f xs start old k s now =
    (r : Result S Rule) (new : NumberPart) → PutsTo (through f (drop k xs) s) now r new → PutsTo (through f xs start) old r new

pub through_begins : {A S : Type 0} (f : A → S → Syntax ℕ Rule (Settled S)) (xs : List A) (start : S) (old : NumberPart) → LeftOf f xs start old 0 start old
through_begins f xs start old = λ r new h. h

pub through_goes : {A S : Type 0} (f : A → S → Syntax ℕ Rule (Settled S)) (xs : List A) (start s t : S) (old now next : NumberPart) (k : ℕ) (d : A) → k < length xs
    → LeftOf f xs start old k s now → PutsTo (f (get_or xs k d) s) now (Ok t) next → LeftOf f xs start old (k + 1) t next
unfolding through
through_goes f xs start s t old now next k d low left one = λ r new h.
    left r new (rw (drop_more xs k d low) (puts_on (f (get_or xs k d) s) (through f (drop (k + 1) xs)) now next new t r one h))

pub through_breaks : {A S : Type 0} (f : A → S → Syntax ℕ Rule (Settled S)) (xs : List A) (start s : S) (old now next : NumberPart) (k : ℕ) (d : A) (e : Rule) → k < length xs
    → LeftOf f xs start old k s now → PutsTo (f (get_or xs k d) s) now (Err e) next → PutsTo (through f xs start) old (Err e) next
unfolding through
through_breaks f xs start s old now next k d e low left one =
    left (Err e) next (rw (drop_more xs k d low) (puts_broken (f (get_or xs k d) s) (through f (drop (k + 1) xs)) now next e one))

pub through_ends : {A S : Type 0} (f : A → S → Syntax ℕ Rule (Settled S)) (xs : List A) (start s : S) (old now : NumberPart) (k : ℕ) → length xs ≤ k
    → LeftOf f xs start old k s now → PutsTo (through f xs start) old (Ok s) now
unfolding through
through_ends f xs start s old now k all left = left (Ok s) now (rw (drop_all k xs all) (puts_settle s now))
