-- What inter blocks read can be put.
use Rattle.std.proofs.Common.{◌≡◌, ℕ, ◌∷◌, [], Bool, List, length, refl, sym, arith}
use Rattle.std.specs.Prelude.{◌&&◌, Option, Some, None, IfSome, Result, Ok, Err}
use Rattle.vp9_types.specs.Syntax.{Syntax}
use Rattle.vp9_types.specs.Results.{◌>>=◌}
use Rattle.vp9_types.specs.declared.block.InterMode.{InterMode}
use Rattle.vp9_types.specs.declared.block.InterMode.TheVariants.{Nearest, Near, Zero, New}
use Rattle.vp9_types.specs.declared.block.ReferenceFrame.{ReferenceFrame}
use Rattle.vp9_types.specs.declared.rule.Rule.{Rule}
use Rattle.block_plan.specs.BlockMvs.{no_vector, vector_at}
use Rattle.block_plan.specs.declared.block.Mv.{Mv}
use Rattle.block_plan.specs.declared.block.ReferenceFrames.{ReferenceFrames}
use Rattle.counting_reader.specs.Counting.{Settled, Yields}
use Rattle.counting_reader.proofs.Yields.{yields_bind, yields_all, yields_map}
use Rattle.mv_prediction.specs.Vectors.{is_short_vector}
use Rattle.mv_prediction.specs.declared.sub_blocks.NearVectors.{NearVectors}
use Rattle.mv_syntax.specs.Differences.{read_mv, new_vector}
use Rattle.inter_modes.specs.BlockVectors.{Sources, carried, ◌>>?◌, inter_mode, vector_of_mode, near_of_block, near_of_quarter, block_vector, with_second, block_vectors, best_mv, second_best, of_list, quarter_vector, quarter_vectors, quarter}
use Rattle.inter_modes.specs.declared.quarters.QuartersBefore.{QuartersBefore}
use Rattle.vector_writer.specs.VectorFits.{CanBeNew, CanDiffer, CanSayVectors}
use Rattle.vector_writer.specs.SaidVectors.{vector_said, second_said, block_vector_said, block_vectors_said, quarter_vector_said, quarter_vectors_said, quarter_said}
use Rattle.vector_writer.specs.declared.symbols.QuarterSymbols.{QuarterSymbols}
use Rattle.vector_writer.proofs.Readings.{Any, yields_settle, difference_yields}

abbrev pub Reads : Type 0 → Type 0
Reads A = Syntax ℕ Rule (Settled (Result A Rule))

-- what is settled on is what something says that can be said
abbrev pub Said : {S A : Type 0} → (S → Type 0) → (S → Result A Rule) → Result A Rule → Type 0
Said {S = S} can said r = (a : S) × can a × (r ≡ said a)

pub yields_then : {S A B : Type 0} (s : Reads A) (f : A → Reads B) (can : S → Type 0) (said : S → Result A Rule) (P : Result B Rule → Type 0)
    → Yields s (Said can said) → ((a : S) (x : A) → can a → said a ≡ Ok x → Yields (f x) P)
    → ((a : S) (rule : Rule) → can a → said a ≡ Err rule → P (Err rule)) → Yields (s >>? f) P
yields_then {S = S} {A = A} s f can said P h good bad = yields_bind s (carried f) (Said can said) P h by_result
  where
    by_result : (r : Result A Rule) → Said can said r → Yields (carried f r) P
    by_result (Ok x) g = good g.0 x g.1 (sym g.2)
    by_result (Err rule) g = yields_settle (Err rule) P (bad g.0 rule g.1 (sym g.2))

pub no_difference : (precise : Bool) → CanDiffer precise no_vector
no_difference precise = record {
  row = record { most = omega arith; even = λ not. refl };
  column = record { most = omega arith; even = λ not. refl };
}

pub vector_yields : (s : Sources) (mode : InterMode) (best : Mv) (near : NearVectors) → Yields (vector_of_mode s mode best near) (Said (CanBeNew s.allowed mode best) (vector_said mode best near))
unfolding vector_of_mode vector_said new_vector
vector_yields s Nearest best near = yields_settle (Ok near.nearest) _ (no_vector, (λ same. no_difference _), refl)
vector_yields s Near best near = yields_settle (Ok near.near) _ (no_vector, (λ same. no_difference _), refl)
vector_yields s Zero best near = yields_settle (Ok no_vector) _ (no_vector, (λ same. no_difference _), refl)
vector_yields s New best near =
    yields_bind (read_mv s.lists (s.allowed && is_short_vector best)) _ (CanDiffer (s.allowed && is_short_vector best)) _ (difference_yields s.lists (s.allowed && is_short_vector best))
    (λ difference can. yields_settle _ (Said (CanBeNew s.allowed New best) (vector_said New best near)) (difference, (λ same. can), refl))

---- Both vectors ----

-- the first vector, and the second where there is one
abbrev both_said : (Mv → Result Mv Rule) → Option ReferenceFrame → (ReferenceFrame → Mv → Result Mv Rule) → Mv → Mv → Result (List Mv) Rule
both_said first second other d e = first d >>= λ v. second_said v second (λ reference. other reference e)

abbrev CanBoth : (Mv → Type 0) → Option ReferenceFrame → (ReferenceFrame → Mv → Type 0) → (Mv × Mv) → Type 0
CanBoth can second other ds = can ds.0 × IfSome second (λ reference. other reference ds.1)

pub both_yield : (s : Reads Mv) (vector : ReferenceFrame → Reads Mv) (second : Option ReferenceFrame)
    (can : Mv → Type 0) (other : ReferenceFrame → Mv → Type 0) (first : Mv → Result Mv Rule) (said : ReferenceFrame → Mv → Result Mv Rule)
    → ((reference : ReferenceFrame) → other reference no_vector)
    → Yields s (Said can first) → ((reference : ReferenceFrame) → Yields (vector reference) (Said (other reference) (said reference)))
    → Yields (s >>? λ v. with_second v second vector) (Said (CanBoth can second other) (λ ds. both_said first second said ds.0 ds.1))
unfolding with_second second_said
both_yield s vector None can other first said none h g =
    yields_then s _ can first _ h
    (λ d v fits is. yields_settle _ _ ((d, no_vector), (fits, tt), rw is refl))
    (λ d rule fits is. ((d, no_vector), (fits, tt), rw is refl))
both_yield s vector (Some reference) can other first said none h g =
    yields_then s _ can first _ h
    (λ d v fits is. yields_then (vector reference) _ (other reference) (said reference) _ (g reference)
    (λ e w also same. yields_settle _ _ ((d, e), (fits, also), rw is (rw same refl)))
    (λ e rule also same. ((d, e), (fits, also), rw is (rw same refl))))
    (λ d rule fits is. ((d, no_vector), (fits, none reference), rw is refl))

abbrev both_of : InterMode → Mv → Mv → QuarterSymbols
both_of mode d e = record { mode = mode; differences = d ∷ e ∷ [] }

second_can : (s : Sources) (mode : InterMode) (e : Mv) (second : Option ReferenceFrame)
    → IfSome second (λ reference. CanBeNew s.allowed mode (near_of_block s reference).nearest e) → IfSome second (λ _. CanBeNew s.allowed mode (second_best s second) e)
second_can s mode e None h = h
second_can s mode e (Some reference) h = h

---- Blocks of 8x8 or more ----

abbrev pub OfMode : Bool → List Mv → ReferenceFrames → InterMode → QuarterSymbols → Type 0
OfMode allowed best refs mode said = (said.mode ≡ mode) × CanSayVectors allowed best refs said × (length said.differences ≡ 2)

-- a quarter's vectors, of which there are two
abbrev pub CanQuarter : Bool → List Mv → ReferenceFrames → QuarterSymbols → Type 0
CanQuarter allowed best refs said = CanSayVectors allowed best refs said × (length said.differences ≡ 2)

pub block_vectors_yield : (s : Sources) (mode : InterMode) (refs : ReferenceFrames)
    → Yields (block_vectors s mode refs) (Said (OfMode s.allowed (best_mv s refs) refs mode) (λ said. block_vectors_said s said refs))
unfolding block_vectors block_vector block_vectors_said block_vector_said
block_vectors_yield s mode refs =
    let best = λ (reference : ReferenceFrame). (near_of_block s reference).nearest in
    yields_map _ (Said (CanBoth (CanBeNew s.allowed mode (best refs.first)) refs.second (λ reference. CanBeNew s.allowed mode (best reference)))
    (λ ds. both_said (vector_said mode (best refs.first) (near_of_block s refs.first)) refs.second (λ reference. vector_said mode (best reference) (near_of_block s reference)) ds.0 ds.1))
    (Said (OfMode s.allowed (best_mv s refs) refs mode) (λ said. block_vectors_said s said refs))
    (both_yield _ _ refs.second (CanBeNew s.allowed mode (best refs.first)) (λ reference. CanBeNew s.allowed mode (best reference))
    (vector_said mode (best refs.first) (near_of_block s refs.first)) (λ reference. vector_said mode (best reference) (near_of_block s reference))
    (λ reference same. no_difference _) (vector_yields s mode (best refs.first) (near_of_block s refs.first))
    (λ reference. vector_yields s mode (best reference) (near_of_block s reference)))
    (λ r g. (both_of mode g.0.0 g.0.1, (refl, record { first = g.1.0; second = second_can s mode g.0.1 refs.second g.1.1 }, refl), g.2))

---- Quarters ----

quarter_vectors_yield : (s : Sources) (mode : InterMode) (refs : ReferenceFrames) (k : ℕ) (before : QuartersBefore)
    → Yields (quarter_vectors s mode refs k before) (Said (OfMode s.allowed before.best refs mode) (λ said. quarter_vectors_said s said refs k before))
unfolding quarter_vectors quarter_vector quarter_vectors_said quarter_vector_said
quarter_vectors_yield s mode refs k before =
    let best = vector_at before.best in
    let near = λ (reference : ReferenceFrame) (list : ℕ). near_of_quarter s reference k (of_list list before.rows) in
    yields_map _ (Said (CanBoth (CanBeNew s.allowed mode (best 0)) refs.second (λ reference. CanBeNew s.allowed mode (best 1)))
    (λ ds. both_said (vector_said mode (best 0) (near refs.first 0)) refs.second (λ reference. vector_said mode (best 1) (near reference 1)) ds.0 ds.1))
    (Said (OfMode s.allowed before.best refs mode) (λ said. quarter_vectors_said s said refs k before))
    (both_yield _ _ refs.second (CanBeNew s.allowed mode (best 0)) (λ reference. CanBeNew s.allowed mode (best 1))
    (vector_said mode (best 0) (near refs.first 0)) (λ reference. vector_said mode (best 1) (near reference 1))
    (λ reference same. no_difference _) (vector_yields s mode (best 0) (near refs.first 0))
    (λ reference. vector_yields s mode (best 1) (near reference 1)))
    (λ r g. (both_of mode g.0.0 g.0.1, (refl, record { first = g.1.0; second = g.1.1 }, refl), g.2))

pub quarter_yield : (s : Sources) (probs : List ℕ) (context : ℕ) (refs : ReferenceFrames) (k : ℕ) (before : QuartersBefore)
    → Yields (quarter s probs context refs k before) (Said (CanQuarter s.allowed before.best refs) (λ said. quarter_said s said refs k before))
unfolding quarter quarter_said
quarter_yield s probs context refs k before =
    yields_bind (inter_mode probs context) _ Any _ (yields_all (inter_mode probs context))
    (λ mode any. yields_then (quarter_vectors s mode refs k before) _ (OfMode s.allowed before.best refs mode) (λ said. quarter_vectors_said s said refs k before) _
    (quarter_vectors_yield s mode refs k before)
    (λ said vectors fits is. yields_settle _ _ (said, (fits.1, fits.2), rw is (rw fits.0 refl)))
    (λ said rule fits is. (said, (fits.1, fits.2), rw is refl)))
