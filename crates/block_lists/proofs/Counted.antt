-- What was put for a syntax that counts.
use Rattle.std.proofs.Common.{◌≡◌, ℕ, List, Bool, true, subst}
use Rattle.vp9_types.specs.Syntax.{Syntax}
use Rattle.vp9_types.specs.Trees.{Tree}
use Rattle.vp9_types.specs.declared.rule.Rule.{Rule}
use Rattle.prob_contexts.specs.declared.kind.CountedBool.{CountedBool}
use Rattle.prob_contexts.specs.declared.kind.ProbKind.{ProbKind}
use Rattle.counting_reader.specs.Counting.{Settled, settle, count, uncounted, in_order}
use Rattle.counting_reader.specs.CountedSymbols.{counted_flag, counted_tree, has_leaf}
use Rattle.bool_encoder.specs.Part.{NumberPart}
use Rattle.bool_encoder.specs.WrittenBools.{Puts}
use Rattle.bool_lists.specs.BoolLists.{HasPut, is_distinct, one_bool, tree_bools}
use Rattle.bool_lists.proofs.Ways.{between, flag_way, has_one, tree_way}
use Rattle.bool_encoder.specs.CountedBools.{valued, PutsValue}
use Rattle.bool_encoder.proofs.CountedPuts.{valued_settle, valued_flag, valued_count, valued_uncounted, valued_in_order, valued_tree}

-- one was put, and then the other
pub record OneThenOther {A B : Type 0} (s : Syntax ℕ Rule (Settled A)) (f : A → Syntax ℕ Rule (Settled B)) (old : NumberPart) (y : B) (new : NumberPart) : Type 0 where
  pub x : A
  pub mid : NumberPart
  pub first : PutsValue s old x mid
  pub second : PutsValue (f x) mid y new

pub two_put : {A B : Type 0} (s : Syntax ℕ Rule (Settled A)) (f : A → Syntax ℕ Rule (Settled B)) (old new : NumberPart) (y : B) → PutsValue (in_order s f) old y new → OneThenOther s f old y new
two_put {B = B} s f old new y h =
    let b = between (valued s) (λ x. valued (f x)) old new y (subst (λ (u : Syntax ℕ Rule B). Puts u old y new) (valued_in_order s f) h) in
    record { x = b.x; mid = b.mid; first = b.first; second = b.second }

pub settle_put : {A : Type 0} (x y : A) (old new : NumberPart) → PutsValue (settle x) old y new → (x ≡ y) × (old ≡ new)
settle_put {A} x y old new h = subst (λ (u : Syntax ℕ Rule A). Puts u old y new) (valued_settle x) h

pub count_put : (bools : List CountedBool) (u : Unit {0}) (old new : NumberPart) → PutsValue (count bools) old u new → old ≡ new
count_put bools u old new h = (subst (λ (u' : Syntax ℕ Rule (Unit {0})). Puts u' old u new) (valued_count bools) h).1

pub uncounted_put : {A : Type 0} (s : Syntax ℕ Rule A) (x : A) (old new : NumberPart) → PutsValue (uncounted s) old x new → Puts s old x new
uncounted_put {A} s x old new h = subst (λ (u : Syntax ℕ Rule A). Puts u old x new) (valued_uncounted s) h

pub flag_put : (kind : ProbKind) (place p : ℕ) (b : Bool) (old new : NumberPart) → PutsValue (counted_flag kind place p) old b new → HasPut old (one_bool p b) new
flag_put kind place p b old new h = flag_way p b old new (subst (λ (u : Syntax ℕ Rule Bool). Puts u old b new) (valued_flag kind place p) h)

pub tree_put : (kind : ProbKind) (first : ℕ) (tree : Tree) (probs : List ℕ) (x : ℕ) (old new : NumberPart) → is_distinct tree ≡ true → PutsValue (counted_tree kind first tree probs) old x new
    → HasPut old (tree_bools tree probs x) new × (has_leaf tree x ≡ true)
tree_put kind first tree probs x old new is h =
    let g = subst (λ (u : Syntax ℕ Rule ℕ). Puts u old x new) (valued_tree kind first tree probs) h in
    (tree_way tree probs x old new is g, has_one tree probs x old new g)
