-- The places of a transform block are put in one way.
use Rattle.std.proofs.Common.{◌≡◌, ◌≤◌, ℕ, zero, suc, ◌+◌, List, [], ◌∷◌, Bool, true, false, refl, sym, subst, ap, ◌∙◌, arith, ℤ, pos}
use Rattle.std.specs.Prelude.{nat_eq, slice_index}
use Rattle.std.specs.List.{AllByRecursion, IsDistinct}
use Rattle.std.proofs.lemmas.Bool.{eq-eqb, eqb-false, ne_eqb}
use Rattle.vp9_tables.proofs.ScanLaws.{order}
use Rattle.prob_contexts.specs.ProbLists.{ContextLists}
use Rattle.bool_encoder.specs.Part.{NumberPart}
use Rattle.bool_lists.specs.BoolLists.{HasPut}
use Rattle.bool_lists.proofs.Ways.{spells_on, spells_none}
use Rattle.coef_tokens.specs.TokenKinds.{block_tables}
use Rattle.coef_tokens.specs.Places.{Read, Tables, Tokens, block_tokens, goes_on, level_at, no_tokens, row_at, step_by, tokens_from, with_level, with_zero}
use Rattle.coef_tokens.specs.Code.{HoldsLevels}
use Rattle.coef_tokens.specs.declared.step.Step.{Step}
use Rattle.coef_tokens.specs.declared.step.Step.TheVariants.{End, Zero, Level}
use Rattle.coef_tokens.specs.declared.tables.TokenKind.{TokenKind}
use Rattle.bool_encoder.specs.CountedBools.{PutsValue}
use Rattle.bool_encoder.proofs.CountedPuts.{value_by_counting}
use Rattle.token_writer.specs.Code.{PutsLevels}
use Rattle.token_writer.specs.TokenFits.{level_in}
use Rattle.level_lists.specs.LevelLists.{spelled_levels_from, spelled_levels, spelled_place}
use Rattle.level_lists.proofs.Counted.{settle_put, two_put}
use Rattle.level_lists.proofs.LevelWays.{IsStep, step_way}

---- What later places keep ----

abbrev IsAbsent : ℕ → List ℕ → Type 0
IsAbsent position positions = AllByRecursion (λ other. nat_eq position other ≡ false) positions

-- no place is lost, and a position that isn't among those to come keeps its level
record Stays (p q : Tokens) (positions : List ℕ) : Type 0 where
  most : p.count ≤ q.count
  same : (position : ℕ) → IsAbsent position positions → level_at q.reads position ≡ level_at p.reads position

unchanged : (p q : Tokens) (positions : List ℕ) → p ≡ q → Stays p q positions
unchanged p q positions is = subst (λ q. Stays p q positions) is (record { most = omega arith; same = λ position absent. refl })

stays_by : (t : Tables) (first position : ℕ) (positions : List ℕ) (p q : Tokens) (s : Step) (old new : NumberPart)
    → ((check : Bool) (next : Tokens) → PutsValue (tokens_from t first positions check next) old q new → Stays next q positions)
    → PutsValue (goes_on p position s (tokens_from t first positions)) old q new → Stays p q (position ∷ positions)
stays_by t first position positions p q End old new later h = unchanged p q (position ∷ positions) (settle_put p q old new h).0
stays_by t first position positions p q Zero old new later h =
    let rest = later false (with_zero p) h in
    let most = rest.most in
    record { most = omega (arith, most); same = λ other absent. rest.same other absent.1 }
stays_by t first position positions p q (Level z class) old new later h =
    let rest = later true (with_level p position z class) h in
    let most = rest.most in
    record { most = omega (arith, most); same = λ other absent. rw absent.0 at (rest.same other absent.1) }

stays : (t : Tables) (first : ℕ) (positions : List ℕ) (check : Bool) (p q : Tokens) (old new : NumberPart) → PutsValue (tokens_from t first positions check p) old q new → Stays p q positions
unfolding tokens_from
stays t first [] check p q old new h = unchanged p q [] (settle_put p q old new h).0
stays t first (position ∷ positions) check p q old new h =
    let a = two_put _ _ old new q h in
    stays_by t first position positions p q a.x a.mid new (λ check next g. stays t first positions check next q a.mid new g) a.second

---- The list ----

-- no token was read at a position to come
abbrev AreEmpty : List Read → List ℕ → Type 0
AreEmpty reads positions = AllByRecursion (λ position. level_at reads position ≡ pos 0) positions

turned : (x y : ℕ) → nat_eq x y ≡ false → nat_eq y x ≡ false
turned x y differ = ne_eqb y x (λ same. eqb-false x y differ (sym same))

empty_by : (read : Read) (reads : List Read) (positions : List ℕ) → IsAbsent read.position positions → AreEmpty reads positions → AreEmpty (read ∷ reads) positions
empty_by read reads [] absent empty = tt
empty_by read reads (position ∷ positions) absent empty =
    (rw (turned read.position position absent.0) empty.0, empty_by read reads positions absent.1 empty.1)

none_read : (positions : List ℕ) → AreEmpty [] positions
none_read [] = tt
none_read (position ∷ positions) = (refl, none_read positions)

-- how the places behind one are put
abbrev Later : Tables → ℕ → List ℤ → List ℕ → Tokens → NumberPart → NumberPart → Type 0
Later t first levels positions q mid new =
    (left : ℕ) (check : Bool) (next : Tokens) → AreEmpty next.reads positions → q.count ≡ next.count + left → PutsValue (tokens_from t first positions check next) mid q new
    → HasPut mid (spelled_levels_from t first levels positions left check next) new

abbrev IsStepAt : Tables → ℕ → Bool → Step → NumberPart → NumberPart → Type 0
IsStepAt t row check s old new = IsStep t.depth check (slice_index t.probs row) (slice_index t.probs (row + 1)) (slice_index t.probs (row + 2)) s old new

from_by : (t : Tables) (first : ℕ) (levels : List ℤ) (position : ℕ) (positions : List ℕ) (left : ℕ) (check : Bool) (p q : Tokens) (s : Step) (old mid new : NumberPart)
    → IsDistinct nat_eq (position ∷ positions) → AreEmpty p.reads (position ∷ positions) → HoldsLevels levels q.reads → q.count ≡ p.count + left
    → IsStepAt t (row_at t first p.count p.reads) check s old mid → PutsValue (goes_on p position s (tokens_from t first positions)) mid q new
    → Later t first levels positions q mid new → HasPut old (spelled_levels_from t first levels (position ∷ positions) left check p) new
unfolding IsDistinct spelled_levels_from spelled_place
from_by t first levels position positions zero check p q End old mid new distinct empty holds count here h later =
    subst (λ m. HasPut old (spelled_levels_from t first levels (position ∷ positions) zero check p) m) (settle_put p q mid new h).1 here
from_by t first levels position positions (suc left) check p q End old mid new distinct empty holds count here h later =
    let same : p.count ≡ q.count = ap (λ (z : Tokens). z.count) (settle_put p q mid new h).0 in
    absurd (omega (arith, same, count))
from_by t first levels position positions zero check p q Zero old mid new distinct empty holds count here h later =
    let most = (stays t first positions false (with_zero p) q mid new h).most in
    absurd (omega (arith, most, count))
from_by t first levels position positions (suc left) check p q Zero old mid new distinct empty holds count here h later =
    let none : level_in levels position ≡ pos 0 =
    holds position ∙ (stays t first positions false (with_zero p) q mid new h).same position distinct.0 ∙ empty.0 in
    let rest = later left false (with_zero p) empty.1 (omega (arith, count)) h in
    rw none (spells_on old mid new _ _ rest here)
from_by t first levels position positions zero check p q (Level z class) old mid new distinct empty holds count here h later =
    let most = (stays t first positions true (with_level p position z class) q mid new h).most in
    absurd (omega (arith, most, count))
from_by t first levels position positions (suc left) check p q (Level z class) old mid new distinct empty holds count here h later =
    let next = with_level p position z class in
    let own : level_at next.reads position ≡ z = rw (eq-eqb position position refl) refl in
    let is : level_in levels position ≡ z = holds position ∙ (stays t first positions true next q mid new h).same position distinct.0 ∙ own in
    let rest = later left true next (empty_by (record { position = position; level = z; class = class }) p.reads positions distinct.0 empty.1) (omega (arith, count)) h in
    rw (is, here.0, sym here.1) (spells_on old mid new _ _ rest here.2)

from_way : (t : Tables) (first : ℕ) (levels : List ℤ) (positions : List ℕ) (left : ℕ) (check : Bool) (p q : Tokens) (old new : NumberPart)
    → IsDistinct nat_eq positions → AreEmpty p.reads positions → HoldsLevels levels q.reads → q.count ≡ p.count + left
    → PutsValue (tokens_from t first positions check p) old q new → HasPut old (spelled_levels_from t first levels positions left check p) new
unfolding IsDistinct tokens_from spelled_levels_from
from_way t first levels [] left check p q old new distinct empty holds count h = subst (λ m. HasPut old [] m) (settle_put p q old new h).1 (spells_none old)
from_way t first levels (position ∷ positions) left check p q old new distinct empty holds count h =
    let row = row_at t first p.count p.reads in
    let a = two_put (step_by t row check) (λ s. goes_on p position s (tokens_from t first positions)) old new q h in
    let here = step_way t.depth check (t.base + row) (slice_index t.probs row) (slice_index t.probs (row + 1)) (slice_index t.probs (row + 2)) a.x old a.mid a.first in
    from_by t first levels position positions left check p q a.x old a.mid new distinct empty holds count here a.second
    (λ left' check' next empty' count' g. from_way t first levels positions left' check' next q a.mid new distinct.1 empty' holds count' g)

pub levels_way : (t : Tables) (first : ℕ) (levels : List ℤ) (count : ℕ) (old new : NumberPart) → IsDistinct nat_eq t.scan → PutsLevels t first old levels count new
    → HasPut old (spelled_levels t first levels count) new
unfolding block_tokens spelled_levels
levels_way t first levels count old new distinct put =
    let q = put.0 in
    let from : PutsValue (tokens_from t first t.scan true no_tokens) old q new = value_by_counting (block_tokens t first) old new q put.1 in
    from_way t first levels t.scan count true no_tokens q old new distinct (none_read t.scan) put.3 (let is = put.2 in omega (arith, is)) from

scan_differs : (contexts : ContextLists) (at : TokenKind) → IsDistinct nat_eq (block_tables contexts at).scan
unfolding block_tables
scan_differs contexts at = (order at.tx at.kind).2

pub kinds_way : (contexts : ContextLists) (at : TokenKind) (first : ℕ) (levels : List ℤ) (count : ℕ) (old new : NumberPart)
    → PutsLevels (block_tables contexts at) first old levels count new → HasPut old (spelled_levels (block_tables contexts at) first levels count) new
kinds_way contexts at first levels count old new put = levels_way (block_tables contexts at) first levels count old new (scan_differs contexts at) put
