-- Predictions have the modes that were said.
use Rattle.std.proofs.Common.{◌≡◌, ℕ, ◌∷◌, [], List, Bool, true, false, refl, sym, ◌∙◌, ap, arith, length}
use Rattle.std.specs.Prelude.{Result, Ok, Err, IfOk}
use Rattle.vp9_types.specs.Results.{◌>>=◌}
use Rattle.vp9_types.specs.declared.block.BlockSize.{BlockSize}
use Rattle.vp9_types.specs.declared.block.BlockSize.TheVariants.{B4x4, B4x8, B8x4, B8x8, B8x16, B16x8, B16x16, B16x32, B32x16, B32x32, B32x64, B64x32, B64x64}
use Rattle.vp9_types.specs.declared.block.InterMode.{InterMode}
use Rattle.vp9_types.specs.declared.rule.Rule.{Rule}
use Rattle.frame_headers.specs.declared.header.FrameFilter.{FrameFilter}
use Rattle.block_geometry.specs.BlockSizes.{is_below_8x8}
use Rattle.block_plan.specs.declared.block.InterPrediction.{InterPrediction}
use Rattle.block_plan.specs.declared.block.Mv.{Mv}
use Rattle.block_plan.specs.declared.block.ReferenceFrames.{ReferenceFrames}
use Rattle.inter_modes.specs.BlockVectors.{Sources, nothing_before, before_of, best_mv}
use Rattle.inter_modes.specs.ModeInfo.{of_each}
use Rattle.inter_modes.specs.declared.quarters.Quarter.{Quarter}
use Rattle.inter_modes.specs.declared.quarters.QuartersBefore.{QuartersBefore}
use Rattle.vector_writer.specs.VectorFits.{CanSayInter, quarter_saying}
use Rattle.vector_writer.specs.SaidVectors.{mode_of_part, symbols_at, quarter_vectors_said, quarter_said, four_said, columns_said, rows_said, quarters_said, block_vectors_said, whole_said, of_quarters_said, HasSaid}
use Rattle.vector_writer.specs.declared.symbols.InterSymbols.{InterSymbols}
use Rattle.vector_writer.specs.declared.symbols.QuarterSymbols.{QuarterSymbols}

if_then : {A B E : Type 0} (r : Result A E) (f : A → Result B E) (Q : A → Type 0) (P : B → Type 0) → IfOk r Q → ((x : A) → Q x → IfOk (f x) P) → IfOk (r >>= f) P
if_then (Ok x) f Q P h g = g x h
if_then (Err e) f Q P h g = tt

if_any : {A B E : Type 0} (r : Result A E) (f : A → Result B E) (P : B → Type 0) → ((x : A) → IfOk (f x) P) → IfOk (r >>= f) P
if_any (Ok x) f P g = g x
if_any (Err e) f P g = tt

abbrev HasMode : InterMode → Quarter → Type 0
HasMode mode q = q.mode ≡ mode

quarter_mode : (s : Sources) (said : QuarterSymbols) (refs : ReferenceFrames) (k : ℕ) (before : QuartersBefore) → IfOk (quarter_said s said refs k before) (HasMode said.mode)
unfolding quarter_said
quarter_mode s said refs k before = if_any (quarter_vectors_said s said refs k before) _ (HasMode said.mode) (λ vectors. refl)

abbrev HaveModes : InterMode → InterMode → InterMode → InterMode → List Quarter → Type 0
HaveModes a b c d qs = of_each (λ q. q.mode) qs ≡ a ∷ b ∷ c ∷ d ∷ []

abbrev said_mode : InterSymbols → ℕ → InterMode
said_mode symbols k = mode_of_part symbols.modes k

four_modes : (s : Sources) (symbols : InterSymbols) (best : List Mv)
    → IfOk (four_said s symbols best) (HaveModes (said_mode symbols 0) (said_mode symbols 1) (said_mode symbols 2) (said_mode symbols 3))
unfolding four_said
four_modes s symbols best =
    let at = λ (k : ℕ). quarter_mode s (symbols_at symbols k) symbols.references k in
    if_then _ _ (HasMode (said_mode symbols 0)) _ (at 0 (before_of best nothing_before nothing_before nothing_before))
    (λ q hq. if_then _ _ (HasMode (said_mode symbols 1)) _ (at 1 (before_of best q.vectors nothing_before nothing_before))
    (λ r hr. if_then _ _ (HasMode (said_mode symbols 2)) _ (at 2 (before_of best q.vectors r.vectors nothing_before))
    (λ t ht. if_then _ _ (HasMode (said_mode symbols 3)) _ (at 3 (before_of best q.vectors r.vectors t.vectors))
    (λ u hu. rw (hq, hr, ht, hu) refl))))

columns_modes : (s : Sources) (symbols : InterSymbols) (best : List Mv)
    → IfOk (columns_said s symbols best) (HaveModes (said_mode symbols 0) (said_mode symbols 1) (said_mode symbols 0) (said_mode symbols 1))
unfolding columns_said
columns_modes s symbols best =
    let at = λ (k : ℕ). quarter_mode s (symbols_at symbols k) symbols.references k in
    if_then _ _ (HasMode (said_mode symbols 0)) _ (at 0 (before_of best nothing_before nothing_before nothing_before))
    (λ q hq. if_then _ _ (HasMode (said_mode symbols 1)) _ (at 1 (before_of best q.vectors nothing_before nothing_before))
    (λ r hr. rw (hq, hr) refl))

rows_modes : (s : Sources) (symbols : InterSymbols) (best : List Mv)
    → IfOk (rows_said s symbols best) (HaveModes (said_mode symbols 0) (said_mode symbols 0) (said_mode symbols 2) (said_mode symbols 2))
unfolding rows_said
rows_modes s symbols best =
    let at = λ (k : ℕ). quarter_mode s (symbols_at symbols k) symbols.references k in
    if_then _ _ (HasMode (said_mode symbols 0)) _ (at 0 (before_of best nothing_before nothing_before nothing_before))
    (λ q hq. if_then _ _ (HasMode (said_mode symbols 2)) _ (at 2 (before_of best q.vectors q.vectors nothing_before))
    (λ r hr. rw (hq, hr) refl))

no : false ≡ true → ⊥
no e = cc

abbrev saying_mode : InterSymbols → BlockSize → ℕ → InterMode
saying_mode symbols size k = said_mode symbols (quarter_saying size k)

quarters_modes : (s : Sources) (symbols : InterSymbols) (size : BlockSize) → is_below_8x8 size ≡ true
    → IfOk (quarters_said s symbols size) (HaveModes (saying_mode symbols size 0) (saying_mode symbols size 1) (saying_mode symbols size 2) (saying_mode symbols size 3))
unfolding quarters_said
quarters_modes s symbols B4x4 below = four_modes s symbols (best_mv s symbols.references)
quarters_modes s symbols B4x8 below = columns_modes s symbols (best_mv s symbols.references)
quarters_modes s symbols B8x4 below = rows_modes s symbols (best_mv s symbols.references)
quarters_modes s symbols B8x8 below = absurd (no below)
quarters_modes s symbols B8x16 below = absurd (no below)
quarters_modes s symbols B16x8 below = absurd (no below)
quarters_modes s symbols B16x16 below = absurd (no below)
quarters_modes s symbols B16x32 below = absurd (no below)
quarters_modes s symbols B32x16 below = absurd (no below)
quarters_modes s symbols B32x32 below = absurd (no below)
quarters_modes s symbols B32x64 below = absurd (no below)
quarters_modes s symbols B64x32 below = absurd (no below)
quarters_modes s symbols B64x64 below = absurd (no below)

-- four modes that are said by these quarters
abbrev AreSaid : InterSymbols → BlockSize → Type 0
AreSaid symbols size =
    symbols.modes ≡ saying_mode symbols size 0 ∷ saying_mode symbols size 1 ∷ saying_mode symbols size 2 ∷ saying_mode symbols size 3 ∷ []

all_four : (ms : List InterMode) → length ms ≡ 4 → ms ≡ mode_of_part ms 0 ∷ mode_of_part ms 1 ∷ mode_of_part ms 2 ∷ mode_of_part ms 3 ∷ []
all_four [] long = absurd (omega (arith, long))
all_four (a ∷ []) long = absurd (omega (arith, long))
all_four (a ∷ b ∷ []) long = absurd (omega (arith, long))
all_four (a ∷ b ∷ c ∷ []) long = absurd (omega (arith, long))
all_four (a ∷ b ∷ c ∷ d ∷ []) long = refl
all_four (a ∷ b ∷ c ∷ d ∷ e ∷ ms) long = absurd (omega (arith, long))

four_same : (a b c d x y z w : InterMode) → a ≡ x → b ≡ y → c ≡ z → d ≡ w → ◌≡◌ {A = List InterMode} (a ∷ b ∷ c ∷ d ∷ []) (x ∷ y ∷ z ∷ w ∷ [])
four_same a b c d x y z w ha hb hc hd = rw (ha, hb, hc, hd) refl

are_said : (s : Sources) (skips : Bool) (filter : FrameFilter) (symbols : InterSymbols) → CanSayInter s skips filter symbols → length symbols.modes ≡ 4
    → AreSaid symbols s.search.at.size
are_said s skips filter symbols can long =
    all_four symbols.modes long
    ∙ four_same _ _ _ _ _ _ _ _ (can.same 0 (omega arith)) (can.same 1 (omega arith)) (can.same 2 (omega arith)) (can.same 3 (omega arith))

pub from_8x8 : (size : BlockSize) (k : ℕ) → is_below_8x8 size ≡ false → quarter_saying size k ≡ 0
from_8x8 B4x4 k from = absurd (no (sym from))
from_8x8 B4x8 k from = absurd (no (sym from))
from_8x8 B8x4 k from = absurd (no (sym from))
from_8x8 B8x8 k from = refl
from_8x8 B8x16 k from = refl
from_8x8 B16x8 k from = refl
from_8x8 B16x16 k from = refl
from_8x8 B16x32 k from = refl
from_8x8 B32x16 k from = refl
from_8x8 B32x32 k from = refl
from_8x8 B32x64 k from = refl
from_8x8 B64x32 k from = refl
from_8x8 B64x64 k from = refl

of_quarters : (s : Sources) (symbols : InterSymbols) → is_below_8x8 s.search.at.size ≡ true → AreSaid symbols s.search.at.size → IfOk (of_quarters_said s symbols) (HasSaid symbols)
unfolding of_quarters_said
of_quarters s symbols below said =
    if_then (quarters_said s symbols s.search.at.size) _ _ (HasSaid symbols) (quarters_modes s symbols s.search.at.size below)
    (λ qs have. record { modes = have ∙ sym said; references = refl; filter = refl })

of_whole : (s : Sources) (symbols : InterSymbols) → is_below_8x8 s.search.at.size ≡ false → AreSaid symbols s.search.at.size → IfOk (whole_said s symbols) (HasSaid symbols)
unfolding whole_said
of_whole s symbols from said =
    let first = λ (k : ℕ). ap (λ q. said_mode symbols q) (sym (from_8x8 s.search.at.size k from)) in
    if_any (block_vectors_said s (symbols_at symbols 0) symbols.references) _ (HasSaid symbols)
    (λ vectors. record { modes = four_same _ _ _ _ _ _ _ _ (first 0) (first 1) (first 2) (first 3) ∙ sym said; references = refl; filter = refl })

pub quarters_answered : {E : Type 0} (s : Sources) (skips : Bool) (filter : FrameFilter) (symbols : InterSymbols) (result : Result (Result InterPrediction Rule) E)
    → CanSayInter s skips filter symbols → length symbols.modes ≡ 4 → is_below_8x8 s.search.at.size ≡ true → IfOk result (λ r. r ≡ of_quarters_said s symbols)
    → IfOk result (λ r. IfOk r (HasSaid symbols))
quarters_answered s skips filter symbols (Ok r) can long below is = rw is (of_quarters s symbols below (are_said s skips filter symbols can long))
quarters_answered s skips filter symbols (Err e) can long below is = tt

pub whole_answered : {E : Type 0} (s : Sources) (skips : Bool) (filter : FrameFilter) (symbols : InterSymbols) (result : Result (Result InterPrediction Rule) E)
    → CanSayInter s skips filter symbols → length symbols.modes ≡ 4 → is_below_8x8 s.search.at.size ≡ false → IfOk result (λ r. r ≡ whole_said s symbols)
    → IfOk result (λ r. IfOk r (HasSaid symbols))
whole_answered s skips filter symbols (Ok r) can long from is = rw is (of_whole s symbols from (are_said s skips filter symbols can long))
whole_answered s skips filter symbols (Err e) can long from is = tt
