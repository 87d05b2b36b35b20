-- What a syntax yields, part by part.
use Rattle.std.proofs.Common.{ℕ, List}
use Rattle.vp9_types.specs.Syntax.{Syntax, done, broken, ask}
use Rattle.vp9_types.specs.declared.rule.Rule.{Rule}
use Rattle.prob_contexts.specs.declared.kind.CountedBool.{CountedBool}
use Rattle.counting_reader.specs.Counting.{Settled, counted_before, in_order, Yields}

yields_behind : {A : Type 0} (bools : List CountedBool) (s : Syntax ℕ Rule (Settled A)) (P : A → Type 0) → Yields s P → Yields (counted_before bools s) P
unfolding counted_before
yields_behind bools (done x) P h = h
yields_behind bools (broken e) P h = tt
yields_behind bools (ask p k) P h = λ v. yields_behind bools (k v) P (h v)

pub yields_bind : {A B : Type 0} (s : Syntax ℕ Rule (Settled A)) (f : A → Syntax ℕ Rule (Settled B)) (P : A → Type 0) (Q : B → Type 0)
    → Yields s P → ((x : A) → P x → Yields (f x) Q) → Yields (in_order s f) Q
unfolding in_order
yields_bind (done x) f P Q h g = yields_behind x.counted (f x.value) Q (g x.value h)
yields_bind (broken e) f P Q h g = tt
yields_bind (ask p k) f P Q h g = λ v. yields_bind (k v) f P Q (h v) g

pub yields_all : {A : Type 0} (s : Syntax ℕ Rule (Settled A)) → Yields s (λ x. Unit {0})
yields_all (done x) = tt
yields_all (broken e) = tt
yields_all (ask p k) = λ v. yields_all (k v)

pub yields_map : {A : Type 0} (s : Syntax ℕ Rule (Settled A)) (P Q : A → Type 0) → Yields s P → ((x : A) → P x → Q x) → Yields s Q
yields_map (done x) P Q h g = g x.value h
yields_map (broken e) P Q h g = tt
yields_map (ask p k) P Q h g = λ v. yields_map (k v) P Q (h v) g
