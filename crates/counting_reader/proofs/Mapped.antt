-- What goes through a function as it is settled on.
use Rattle.std.proofs.Common.{◌≡◌, ℕ, ◌∙◌, List, refl, ap}
use Rattle.vp9_types.specs.Syntax.{Syntax, done, broken, ask}
use Rattle.vp9_types.specs.declared.rule.Rule.{Rule}
use Rattle.prob_contexts.specs.declared.kind.CountedBool.{CountedBool}
use Rattle.counting_reader.specs.Counting.{Settled, counted_before, in_order, mapped}

abbrev pub Reads : Type 0 → Type 0
Reads A = Syntax ℕ Rule (Settled A)

pub mapped_behind : {A B : Type 0} (f : A → B) (bools : List CountedBool) (s : Reads A) → counted_before bools (mapped f s) ≡ mapped f (counted_before bools s)
unfolding counted_before mapped
mapped_behind f bools (done s) = refl
mapped_behind f bools (broken e) = refl
mapped_behind f bools (ask p k) = λ i. ask p (λ v. mapped_behind f bools (k v) i)

-- one after another: the first goes through f, and what follows it through g
pub mapped_both : {A B C D : Type 0} (f : A → B) (g : C → D) (s : Reads A) (k : A → Reads C) (l : B → Reads D)
    → ((x : A) → l (f x) ≡ mapped g (k x)) → in_order (mapped f s) l ≡ mapped g (in_order s k)
unfolding in_order mapped
mapped_both f g (done s) k l same = ap (counted_before s.counted) (same s.value) ∙ mapped_behind g s.counted (k s.value)
mapped_both f g (broken e) k l same = refl
mapped_both f g (ask p next) k l same = λ i. ask p (λ v. mapped_both f g (next v) k l same i)

-- the first is the same
pub mapped_after : {A C D : Type 0} (g : C → D) (s : Reads A) (k : A → Reads C) (l : A → Reads D)
    → ((x : A) → l x ≡ mapped g (k x)) → in_order s l ≡ mapped g (in_order s k)
unfolding in_order mapped
mapped_after g (done s) k l same = ap (counted_before s.counted) (same s.value) ∙ mapped_behind g s.counted (k s.value)
mapped_after g (broken e) k l same = refl
mapped_after g (ask p next) k l same = λ i. ask p (λ v. mapped_after g (next v) k l same i)

pub mapped_seq : {S T : Type 0} (view : S → T) (x : Reads S) (y : Reads T) (k : S → Reads S) (l : T → Reads T)
    → y ≡ mapped view x → ((s : S) → l (view s) ≡ mapped view (k s)) → in_order y l ≡ mapped view (in_order x k)
mapped_seq view x y k l is same = ap (λ z. in_order z l) is ∙ mapped_both view view x k l same

pub mapped_by : {A S T : Type 0} (view : S → T) (x y : Reads A) (k : A → Reads S) (l : A → Reads T)
    → y ≡ x → ((a : A) → l a ≡ mapped view (k a)) → in_order y l ≡ mapped view (in_order x k)
mapped_by view x y k l is same = ap (λ z. in_order z l) is ∙ mapped_after view x k l same
