-- The places of a block, turn by turn.
use Rattle.std.proofs.Common.{◌≡◌, ◌<◌, ◌≤◌, ◌+◌, ◌-◌, ◌*◌, ◌/◌, ◌^◌, inl, inr, ℕ, Bool, true, false, refl, sym, ◌∙◌, ap, arith, List, [], ◌∷◌, length, get_or, set, take, drop, All, unsigned_abs, ℤ, pos, rules, w32}
use mir.Val.{to_z, of_z}
use Rattle.std.specs.Prelude.{slice_index, replicate, Ok}
use Rattle.std.proofs.lemmas.Bool.{cases_eq, cases_lt, eq-eqb, ne_eqb}
use Rattle.std.proofs.lemmas.List.{get_or-set_same, get_or-set_other, get_or_default, get_or-replicate, get_or_past, length-replicate, drop_more, drop_all, get_or-drop, take_rest}
use Rattle.counting_reader.specs.Code.{Standing, run_counting}
use Rattle.counting_reader.proofs.CountingRuns.{counting_bind, run_settle}
use Rattle.coef_tokens.specs.declared.step.Step.{Step}
use Rattle.coef_tokens.specs.declared.step.Step.TheVariants.{End, Zero, Level}
use Rattle.coef_tokens.specs.Places.{Tables, Tokens, Read, no_tokens, block_tokens, tokens_from, step_by, row_at, token_context, with_zero, with_level, goes_on}
use Rattle.coef_tokens.specs.Steps.{token_step}
use Rattle.coef_tokens.specs.Code.{HoldsClasses, HoldsLevels, StandsAt}

pub later_place : (t : Tables) (first c : ℕ) (reads : List Read) (cache : List ℕ) → 1 ≤ c → HoldsClasses cache reads
    → (1 + get_or cache (get_or t.neighbours (2 * c) 0) 0 + get_or cache (get_or t.neighbours (2 * c + 1) 0) 0) / 2 ≡ token_context t first c reads
unfolding token_context
later_place t first c reads cache later holds =
    rw (ne_eqb c 0 (λ e. absurd (omega arith)), holds (get_or t.neighbours (2 * c) 0), holds (get_or t.neighbours (2 * c + 1) 0)) refl

pub later_row : (t : Tables) (first c : ℕ) (reads : List Read) (context : ℕ) → 1 ≤ slice_index t.bands c → context ≡ token_context t first c reads
    → 3 * (6 * slice_index t.bands c + context - 3) ≡ row_at t first c reads
unfolding row_at
later_row t first c reads context later e = rw (ne_eqb (slice_index t.bands c) 0 (λ e. absurd (omega arith)), e) refl

pub first_row : (t : Tables) (first : ℕ) (cache : List ℕ) → slice_index t.bands 0 ≡ 0 → StandsAt t first 0 cache (3 * first)
unfolding row_at token_context
first_row t first cache start = λ reads holds. rw start refl

-- what the loop keeps: reading from here gives what the whole block gives
abbrev pub Stands : Tables → ℕ → Standing → ℕ → Bool → List ℕ → List ℤ → Standing → Type 0
Stands t first start place check cache levels m =
    (p : Tokens) × (p.count ≡ place) × HoldsClasses cache p.reads × HoldsLevels levels p.reads
    × (run_counting (tokens_from t first (drop place t.scan) check p) m ≡ run_counting (block_tokens t first) start)

-- what the code read, with the row that the code found
abbrev pub Steps : Tables → ℕ → Bool → Standing → Step → Standing → Type 0
Steps t row check m s next = run_counting (step_by t row check) m ≡ Ok (s, next)

prob_in : (probs : List ℕ) (row k : ℕ) → slice_index (take (length probs - row) (drop row probs)) k ≡ slice_index probs (row + k)
prob_in probs row k = ap (λ (ps : List ℕ). slice_index ps k) (take_rest probs row) ∙ get_or-drop row probs k 0

-- by the probabilities from a row on
pub steps_from : (t : Tables) (row : ℕ) (check : Bool) (m next : Standing) (s : Step)
    → run_counting (token_step t.depth check (t.base + row) (slice_index (take (length t.probs - row) (drop row t.probs)) 0)
    (slice_index (take (length t.probs - row) (drop row t.probs)) 1) (slice_index (take (length t.probs - row) (drop row t.probs)) 2)) m ≡ Ok (s, next)
    → Steps t row check m s next
steps_from t row check m next s read =
    let first : slice_index (take (length t.probs - row) (drop row t.probs)) 0 ≡ slice_index t.probs row =
    prob_in t.probs row 0 ∙ ap (λ (k : ℕ). slice_index t.probs k) (omega arith) in
    rw (first, prob_in t.probs row 1, prob_in t.probs row 2) at read

abbrev pub Ends : Tables → ℕ → Standing → ℕ → List ℤ → Standing → Type 0
Ends t first start count levels m =
    (p : Tokens) × (run_counting (block_tokens t first) start ≡ Ok (p, m)) × (count ≡ p.count) × HoldsLevels levels p.reads

pub begins : (t : Tables) (first : ℕ) (start : Standing) (cache : List ℕ) (levels : List ℤ) → HoldsClasses cache [] → HoldsLevels levels []
    → Stands t first start 0 true cache levels start
unfolding block_tokens
begins t first start cache levels classes zeros = (no_tokens, refl, classes, zeros, refl)

turn : (t : Tables) (first c row : ℕ) (check : Bool) (p : Tokens) (m next : Standing) (s : Step) → c < length t.scan → p.count ≡ c
    → row ≡ row_at t first c p.reads → Steps t row check m s next
    → run_counting (tokens_from t first (drop c t.scan) check p) m
    ≡ run_counting (goes_on p (slice_index t.scan c) s (λ check' p'. tokens_from t first (drop (c + 1) t.scan) check' p')) next
unfolding tokens_from
turn t first c row check p m next s low at is steps =
    let here : row ≡ row_at t first p.count p.reads = is ∙ ap (λ c. row_at t first c p.reads) (sym at) in
    rw (drop_more t.scan c 0 low)
    (counting_bind (step_by t (row_at t first p.count p.reads) check) (λ s. goes_on p (slice_index t.scan c) s (λ check' p'. tokens_from t first (drop (c + 1) t.scan) check' p')) m
    ∙ rw (rw here at steps) refl)

pub ends_here : (t : Tables) (first : ℕ) (start : Standing) (c row : ℕ) (check : Bool) (cache : List ℕ) (levels : List ℤ) (m next : Standing)
    → Stands t first start c check cache levels m → c < length t.scan → StandsAt t first c cache row
    → Steps t row check m End next → Ends t first start c levels next
ends_here t first start c row check cache levels m next st low rows steps =
    let p = st.0 in
    (p, sym st.4 ∙ (turn t first c row check p m next End low st.1 (rows p.reads st.2) steps ∙ run_settle p next), sym st.1, st.3)

pub ends_at_last : (t : Tables) (first : ℕ) (start : Standing) (c : ℕ) (check : Bool) (cache : List ℕ) (levels : List ℤ) (m : Standing)
    → Stands t first start c check cache levels m → c ≡ length t.scan → Ends t first start (length t.scan) levels m
unfolding tokens_from
ends_at_last t first start c check cache levels m st all =
    let p = st.0 in
    let far : length t.scan ≤ c = omega arith in
    (p, sym st.4 ∙ rw (drop_all c t.scan far) (run_settle p m), sym all ∙ sym st.1, st.3)

pub zero_turn : (t : Tables) (first : ℕ) (start : Standing) (c row : ℕ) (check : Bool) (cache : List ℕ) (levels : List ℤ) (m next : Standing)
    → Stands t first start c check cache levels m → c < length t.scan → StandsAt t first c cache row
    → Steps t row check m Zero next → Stands t first start (c + 1) false cache levels next
zero_turn t first start c row check cache levels m next st low rows steps =
    let p = st.0 in
    (with_zero p, ap (λ n. n + 1) st.1, st.2, st.3, sym (turn t first c row check p m next Zero low st.1 (rows p.reads st.2) steps) ∙ st.4)

classes_set : (cache : List ℕ) (reads : List Read) (position class : ℕ) (level : ℤ) → position < length cache → HoldsClasses cache reads
    → HoldsClasses (set cache position class) (record { position = position; level = level; class = class } ∷ reads)
classes_set cache reads position class level low holds = λ p. elim (cases_eq p position) [
  | inl same ↦ rw (eq-eqb p position same, same) (get_or-set_same cache position class 0 low)
  | inr other ↦ rw (ne_eqb p position other) (get_or-set_other cache position p class 0 other ∙ holds p)
]

levels_set : (levels : List ℤ) (reads : List Read) (position class : ℕ) (level : ℤ) → position < length levels → HoldsLevels levels reads
    → HoldsLevels (set levels position level) (record { position = position; level = level; class = class } ∷ reads)
levels_set levels reads position class level low holds = λ p. elim (cases_eq p position) [
  | inl same ↦ rw (eq-eqb p position same, same) (get_or-set_same levels position level (pos 0) low)
  | inr other ↦ rw (ne_eqb p position other) (get_or-set_other levels position p level (pos 0) other ∙ holds p)
]

pub level_turn : (t : Tables) (first : ℕ) (start : Standing) (c row : ℕ) (check : Bool) (cache : List ℕ) (levels : List ℤ) (m next : Standing) (level : ℤ) (class : ℕ)
    → Stands t first start c check cache levels m → c < length t.scan → StandsAt t first c cache row
    → Steps t row check m (Level level class) next → slice_index t.scan c < length cache → slice_index t.scan c < length levels
    → Stands t first start (c + 1) true (set cache (slice_index t.scan c) class) (set levels (slice_index t.scan c) level) next
level_turn t first start c row check cache levels m next level class st low rows steps inside within =
    let p = st.0 in (
      with_level p (slice_index t.scan c) level class,
      ap (λ n. n + 1) st.1,
      classes_set cache p.reads (slice_index t.scan c) class level inside st.2,
      levels_set levels p.reads (slice_index t.scan c) class level within st.3,
      sym (turn t first c row check p m next (Level level class) low st.1 (rows p.reads st.2) steps) ∙ st.4,
    )

-- where all are 0, all are small
pub no_classes : (cache : List ℕ) → HoldsClasses cache [] → All (λ class. class ≤ 5) cache
no_classes cache zeros = λ k d low. rw (get_or_default cache k d 0 low ∙ zeros k) (omega arith)

pub no_levels : (levels : List ℤ) → HoldsLevels levels [] → All (λ level. unsigned_abs level < 2 ^ 19) levels
no_levels levels zeros = λ k d low. rw (get_or_default levels k d (pos 0) low ∙ zeros k) (omega arith)

pub kept : (z : ℤ) → unsigned_abs z < 2 ^ 19 → to_z w32 (of_z w32 z) ≡ z
kept z small = search rules

pub part : (a : ℕ) → a + 99 - a ≡ 99
part a = omega arith

pub zeros_at : (n : ℕ) → HoldsClasses (replicate n 0) []
zeros_at n p = elim (cases_lt p n) [
  | inl low ↦ rw get_or-replicate refl
  | inr past ↦ let zero : ℕ = 0 in get_or_past (replicate n zero) p 0 (omega (arith, length-replicate n zero))
]

pub clear_at : (n : ℕ) → HoldsLevels (replicate n (pos 0)) []
clear_at n p = elim (cases_lt p n) [
  | inl low ↦ rw get_or-replicate refl
  | inr past ↦ let zero : ℤ = pos 0 in get_or_past (replicate n zero) p (pos 0) (omega (arith, length-replicate n zero))
]

pub no_turn : (n : ℕ) → n + 1 ≡ 0 → ⊥
no_turn n e = omega arith
