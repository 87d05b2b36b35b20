-- The places of a block, turn by turn.
use Rattle.std.proofs.Common.{◌≡◌, ◌≢◌, ◌⊎◌, ◌<◌, ◌≤◌, ◌+◌, ◌-◌, inl, inr, ℕ, Bool, true, false, refl, sym, subst, ◌∙◌, ap, arith, List, [], ◌∷◌, length, get_or, set, drop, ℤ, pos, unsigned_abs, ◌^◌, w32, All}
use mir.Val.{to_z, of_z}
use Rattle.std.specs.Prelude.{slice_index}
use Rattle.std.proofs.lemmas.Bool.{cases_eq, cases_lt, eq-eqb, ne_eqb}
use Rattle.std.proofs.lemmas.List.{get_or-set_same, get_or-set_other, get_or_past, drop_more, drop_all}
use Rattle.vp9_types.specs.Syntax.{Syntax}
use Rattle.vp9_types.specs.declared.rule.Rule.{Rule}
use Rattle.vp9_types.specs.declared.shape.Depth.{Depth}
use Rattle.vp9_types.specs.declared.shape.Depth.TheVariants.{Eight, Ten, Twelve}
use Rattle.vp9_tables.specs.Scans.{area, scan_of}
use Rattle.prob_contexts.specs.ProbLists.{ContextLists}
use Rattle.coef_tokens.specs.TokenKinds.{block_tables}
use Rattle.coef_tokens.specs.declared.tables.TokenKind.{TokenKind}
use Rattle.counting_reader.specs.Counting.{Settled}
use Rattle.bool_encoder.specs.Part.{NumberPart, after_put}
use Rattle.bool_encoder.specs.WrittenBools.{Puts, can_put}
use Rattle.vp9_types.proofs.Binds.{writes_bind}
use Rattle.coef_tokens.proofs.Turns.{kept}
use Rattle.coef_tokens.specs.declared.step.Step.{Step}
use Rattle.coef_tokens.specs.declared.step.Step.TheVariants.{End, Zero, Level}
use Rattle.coef_tokens.specs.Places.{Tables, Tokens, Read, no_tokens, block_tokens, tokens_from, step_by, row_at, with_zero, with_level, goes_on, level_at}
use Rattle.coef_tokens.specs.Code.{HoldsClasses, HoldsLevels, StandsAt}
use Rattle.bool_encoder.specs.CountedBools.{valued, PutsValue}
use Rattle.token_writer.specs.TokenFits.{CanPut, IsCoded, level_in}
use Rattle.token_writer.specs.Code.{PutsLevels, PutsStep, AreThree}
use Rattle.bool_encoder.proofs.CountedPuts.{valued_in_order, valued_settle, value_counts}

coded_small : (depth : Depth) (m : ℕ) → IsCoded depth m → m < 2 ^ 19
coded_small Eight m h = omega arith
coded_small Ten m h = omega arith
coded_small Twelve m h = omega arith

-- a level's bits are those of a word
pub kept_level : (depth : Depth) (z : ℤ) → IsCoded depth (unsigned_abs z) → to_z w32 (of_z w32 z) ≡ z
kept_level depth z h = kept z (coded_small depth (unsigned_abs z) h)

pub coded_at : (depth : Depth) (levels : List ℤ) (position : ℕ) → All (λ level. IsCoded depth (unsigned_abs level)) levels → IsCoded depth (unsigned_abs (level_in levels position))
coded_at depth levels position coded = elim (cases_lt position (length levels)) [
  | inl low ↦ coded position (pos 0) low
  | inr past ↦ rw (get_or_past levels position (pos 0) past) (omega arith)
]

pub none_at : (depth : Depth) (z : ℤ) → IsCoded depth (unsigned_abs z) → of_z w32 z ≡ 0 → z ≡ pos 0
none_at depth z h none = sym (kept_level depth z h) ∙ ap (to_z w32) none

pub back : (n : ℕ) → n + 1 - 1 ≡ n
back n = omega arith

-- behind a zero that isn't the scan's last place a level is coded
pub asks : (t : Tables) (levels : List ℤ) (count : ℕ) (check : Bool) → CanPut t levels count
    → (check ≡ false → (0 < count) × (level_in levels (slice_index t.scan (count - 1)) ≡ pos 0)) → count < length t.scan → check ≡ true
asks t levels count true can zero low = refl
asks t levels count false can zero low = let z = zero refl in absurd (can.last z.0 low z.1)

pub true_is : {A : Type 0} → true ≡ false → A
true_is e = let no : ⊥ = cc in absurd no

-- the levels at the first places of the scan, and 0 elsewhere
abbrev pub HoldsFirst : List ℕ → ℕ → List ℤ → List Read → Type 0
HoldsFirst scan place levels reads =
    (p : ℕ) → (level_in levels p ≡ level_at reads p) ⊎ ((level_at reads p ≡ pos 0) × ((k : ℕ) → k < place → slice_index scan k ≢ p))

-- what is put for the places still to come completes the block
abbrev Left : Tables → ℕ → NumberPart → ℕ → Bool → Tokens → NumberPart → Type 0
Left t first old place check p now =
    (q : Tokens) (new : NumberPart) → PutsValue (tokens_from t first (drop place t.scan) check p) now q new → PutsValue (block_tokens t first) old q new

-- what the loop keeps
abbrev pub Stands : Tables → ℕ → NumberPart → ℕ → Bool → List ℕ → List ℤ → NumberPart → Type 0
Stands t first old place check cache levels now =
    (p : Tokens) × (p.count ≡ place) × HoldsClasses cache p.reads × HoldsFirst t.scan place levels p.reads × Left t first old place check p now

pub begins : (t : Tables) (first : ℕ) (old : NumberPart) (cache : List ℕ) (levels : List ℤ) → HoldsClasses cache [] → Stands t first old 0 true cache levels old
unfolding block_tokens
begins t first old cache levels classes =
    (no_tokens, refl, classes, (λ p. inr (refl, λ k low. absurd (omega arith))), (λ q new h. h))

by_row : (t : Tables) (row : ℕ) (check : Bool) (probs : List ℕ) (now next : NumberPart) (s : Step) → AreThree t row probs → PutsStep t.depth check probs now s next
    → PutsValue (step_by t row check) now s next
by_row t row check probs now next s three put = rw (three.first, three.second, three.third) at (put (t.base + row))

turn : (t : Tables) (first place row : ℕ) (check : Bool) (probs : List ℕ) (p : Tokens) (old now next : NumberPart) (s : Step) → place < length t.scan → p.count ≡ place
    → row ≡ row_at t first place p.reads → AreThree t row probs → PutsStep t.depth check probs now s next → Left t first old place check p now
    → (q : Tokens) (new : NumberPart) → PutsValue (goes_on p (slice_index t.scan place) s (λ check' p'. tokens_from t first (drop (place + 1) t.scan) check' p')) next q new
    → PutsValue (block_tokens t first) old q new
unfolding tokens_from
turn t first place row check probs p old now next s low at is three put left q new rest =
    let here : row ≡ row_at t first p.count p.reads = is ∙ ap (λ c. row_at t first c p.reads) (sym at) in
    let go : Step → Syntax ℕ Rule (Settled Tokens) = λ s. goes_on p (slice_index t.scan place) s (λ check' p'. tokens_from t first (drop (place + 1) t.scan) check' p') in
    let one : PutsValue (step_by t (row_at t first p.count p.reads) check) now s next = rw here at (by_row t row check probs now next s three put) in
    left q new (rw (drop_more t.scan place 0 low) (subst (λ (u : Syntax ℕ Rule Tokens). Puts u now q new) (sym (valued_in_order (step_by t (row_at t first p.count p.reads) check) go))
    (writes_bind can_put after_put (valued (step_by t (row_at t first p.count p.reads) check)) (λ s. valued (go s)) now next new s q one rest)))

-- a place more
first_more : (scan : List ℕ) (place : ℕ) (levels : List ℤ) (reads : List Read) → level_in levels (slice_index scan place) ≡ pos 0
    → HoldsFirst scan place levels reads → HoldsFirst scan (place + 1) levels reads
first_more scan place levels reads none holds = λ p. elim (holds p) [
  | inl same ↦ inl same
  | inr other ↦ elim (cases_eq (slice_index scan place) p) [
    | inl here ↦ inl (ap (level_in levels) (sym here) ∙ none ∙ sym other.0)
    | inr there ↦ inr (
      other.0,
      λ k low. elim (cases_eq k place) [
        | inl last ↦ rw last there
        | inr before ↦ other.1 k (omega arith)
      ],
    )
  ]
]

first_set : (scan : List ℕ) (place class : ℕ) (levels : List ℤ) (reads : List Read) → HoldsFirst scan place levels reads
    → HoldsFirst scan (place + 1) levels (record { position = slice_index scan place; level = level_in levels (slice_index scan place); class = class } ∷ reads)
first_set scan place class levels reads holds = λ p. elim (cases_eq p (slice_index scan place)) [
  | inl same ↦ inl (rw (eq-eqb p (slice_index scan place) same) (ap (level_in levels) same))
  | inr other ↦ rw (ne_eqb p (slice_index scan place) other) (elim (holds p) [
    | inl same ↦ inl same
    | inr none ↦ inr (
      none.0,
      λ k low. elim (cases_eq k place) [
        | inl last ↦ rw last (λ e. other (sym e))
        | inr before ↦ none.1 k (omega arith)
      ],
    )
  ])
]

classes_set : (cache : List ℕ) (reads : List Read) (position class : ℕ) (level : ℤ) → position < length cache → HoldsClasses cache reads
    → HoldsClasses (set cache position class) (record { position = position; level = level; class = class } ∷ reads)
classes_set cache reads position class level low holds = λ p. elim (cases_eq p position) [
  | inl same ↦ rw (eq-eqb p position same, same) (get_or-set_same cache position class 0 low)
  | inr other ↦ rw (ne_eqb p position other) (get_or-set_other cache position p class 0 other ∙ holds p)
]

pub zero_turn : (t : Tables) (first : ℕ) (old : NumberPart) (place row : ℕ) (check : Bool) (probs cache : List ℕ) (levels : List ℤ) (now next : NumberPart)
    → Stands t first old place check cache levels now → place < length t.scan → StandsAt t first place cache row → AreThree t row probs
    → level_in levels (slice_index t.scan place) ≡ pos 0 → PutsStep t.depth check probs now Zero next → Stands t first old (place + 1) false cache levels next
zero_turn t first old place row check probs cache levels now next st low is three none put =
    let p = st.0 in (
      with_zero p,
      ap (λ n. n + 1) st.1,
      st.2,
      first_more t.scan place levels p.reads none st.3,
      turn t first place row check probs p old now next Zero low st.1 (is p.reads st.2) three put st.4,
    )

pub level_turn : (t : Tables) (first : ℕ) (old : NumberPart) (place row : ℕ) (check : Bool) (probs cache : List ℕ) (levels : List ℤ) (class : ℕ) (now next : NumberPart)
    → Stands t first old place check cache levels now → place < length t.scan → StandsAt t first place cache row → AreThree t row probs
    → slice_index t.scan place < length cache → PutsStep t.depth check probs now (Level (level_in levels (slice_index t.scan place)) class) next
    → Stands t first old (place + 1) true (set cache (slice_index t.scan place) class) levels next
level_turn t first old place row check probs cache levels class now next st low is three inside put =
    let p = st.0 in
    let position = slice_index t.scan place in (
      with_level p position (level_in levels position) class,
      ap (λ n. n + 1) st.1,
      classes_set cache p.reads position class (level_in levels position) inside st.2,
      first_set t.scan place class levels p.reads st.3,
      turn t first place row check probs p old now next (Level (level_in levels position) class) low st.1 (is p.reads st.2) three put st.4,
    )

all_held : (t : Tables) (levels : List ℤ) (count : ℕ) (reads : List Read) → CanPut t levels count → HoldsFirst t.scan count levels reads → HoldsLevels levels reads
all_held t levels count reads can holds = λ p. elim (holds p) [
  | inl same ↦ same
  | inr none ↦ can.others p none.1 ∙ sym none.0
]

pub ends_at_last : (t : Tables) (first : ℕ) (old : NumberPart) (count : ℕ) (check : Bool) (cache : List ℕ) (levels : List ℤ) (now : NumberPart)
    → CanPut t levels count → Stands t first old count check cache levels now → count ≡ length t.scan → PutsLevels t first old levels count now
unfolding tokens_from
ends_at_last t first old count check cache levels now can st all =
    let p = st.0 in
    let far : length t.scan ≤ count = omega arith in
    let whole : PutsValue (block_tokens t first) old p now = st.4 p now (rw (drop_all count t.scan far, valued_settle p) (refl, refl)) in
    (p, value_counts (block_tokens t first) old now p whole, st.1, all_held t levels count p.reads can st.3)

pub ends_here : (t : Tables) (first : ℕ) (old : NumberPart) (count row : ℕ) (probs cache : List ℕ) (levels : List ℤ) (now next : NumberPart)
    → CanPut t levels count → Stands t first old count true cache levels now → count < length t.scan → StandsAt t first count cache row → AreThree t row probs
    → PutsStep t.depth true probs now End next → PutsLevels t first old levels count next
ends_here t first old count row probs cache levels now next can st low is three put =
    let p = st.0 in
    let whole : PutsValue (block_tokens t first) old p next =
    turn t first count row true probs p old now next End low st.1 (is p.reads st.2) three put st.4 p next (rw (valued_settle p) (refl, refl)) in
    (p, value_counts (block_tokens t first) old next p whole, st.1, all_held t levels count p.reads can st.3)

-- where no place so far has a position, its level is 0
abbrev pub AreOthers : List ℕ → ℕ → List ℤ → Type 0
AreOthers scan place levels = (position : ℕ) → ((k : ℕ) → k < place → slice_index scan k ≢ position) → level_in levels position ≡ pos 0

pub others_set : (scan : List ℕ) (place : ℕ) (level : ℤ) (levels : List ℤ) → AreOthers scan place levels
    → AreOthers scan (place + 1) (set levels (slice_index scan place) level)
others_set scan place level levels others = λ position none.
    get_or-set_other levels (slice_index scan place) position level (pos 0) (λ e. none place (omega arith) (sym e))
    ∙ others position (λ k low. none k (omega arith))

coded_below : (depth : Depth) (m : ℕ) → m < 16451 → IsCoded depth m
coded_below Eight m h = omega arith
coded_below Ten m h = omega arith
coded_below Twelve m h = omega arith

pub can_by : (t : Tables) (contexts : ContextLists) (at : TokenKind) (levels : List ℤ) (count : ℕ) → t ≡ block_tables contexts at
    → length (scan_of at.tx at.kind) ≡ area at.tx → count ≤ area at.tx
    → All (λ level. unsigned_abs level < 16451) levels → AreOthers (scan_of at.tx at.kind) count levels
    → (0 < count → count < area at.tx → level_in levels (slice_index (scan_of at.tx at.kind) (count - 1)) ≢ pos 0) → CanPut t levels count
unfolding block_tables
can_by t contexts at levels count are size most small others last = rw are record {
  most = rw size most;
  coded = λ k d low. coded_below at.depth (unsigned_abs (get_or levels k d)) (small k d low);
  others = others;
  last = λ some more. last some (rw size at more);
}
