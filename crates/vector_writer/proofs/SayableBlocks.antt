-- Whole blocks that are read can be put.
use Rattle.std.proofs.Common.{◌≡◌, ℕ, inl, inr, zero, suc, ◌<◌, ◌∷◌, [], Bool, true, false, List, length, refl, sym, ◌∙◌, arith}
use Rattle.std.specs.Prelude.{◌≢◌, Option, Some, None, IfSome, nat_eq, if◌then◌else◌}
use Rattle.std.proofs.lemmas.Bool.{cases_Bool}
use Rattle.vp9_types.specs.declared.block.BlockSize.{BlockSize}
use Rattle.vp9_types.specs.declared.block.BlockSize.TheVariants.{B4x4, B4x8, B8x4, B8x8, B8x16, B16x8, B16x16, B16x32, B32x16, B32x32, B32x64, B64x32, B64x64}
use Rattle.vp9_types.specs.declared.block.InterMode.{InterMode}
use Rattle.vp9_types.specs.declared.block.InterMode.TheVariants.{Zero}
use Rattle.vp9_types.specs.declared.block.InterpFilter.{InterpFilter}
use Rattle.vp9_types.specs.declared.block.InterpFilter.TheVariants.{Regular, Smooth, Sharp, Bilinear}
use Rattle.prob_contexts.specs.ProbLists.{InterLists}
use Rattle.frame_headers.specs.declared.header.FrameFilter.{FrameFilter}
use Rattle.frame_headers.specs.declared.header.FrameFilter.TheVariants.{Fixed, Switchable}
use Rattle.block_geometry.specs.BlockSizes.{is_below_8x8}
use Rattle.block_plan.specs.BlockMvs.{no_vector}
use Rattle.block_plan.specs.declared.block.Mv.{Mv}
use Rattle.block_plan.specs.declared.block.ReferenceFrames.{ReferenceFrames}
use Rattle.counting_reader.specs.Counting.{Yields}
use Rattle.counting_reader.proofs.Yields.{yields_bind, yields_all, yields_map}
use Rattle.mv_prediction.specs.Candidates.{mode_context}
use Rattle.inter_modes.proofs.QuartersBySize.{quarters_of_size}
use Rattle.inter_modes.specs.Code.{four_quarters, quarters_by_size, quarter_columns, quarter_rows}
use Rattle.inter_modes.specs.BlockVectors.{Sources, row_vectors, inter_mode, block_vectors, best_mv, nothing_before, before_of, quarters}
use Rattle.inter_modes.specs.ModeInfo.{filter_of_symbol, interp_filter, block_mode, whole_block, block_of_quarters, inter_prediction}
use Rattle.vector_writer.specs.VectorFits.{CanFilter, CanSayVectors, CanSayInter, quarter_saying}
use Rattle.vector_writer.specs.SaidVectors.{mode_of_part, symbols_at, quarter_said, four_said, columns_said, rows_said, quarters_said, block_vectors_said, whole_said, of_quarters_said, inter_said}
use Rattle.vector_writer.specs.Laws.{IsSaid}
use Rattle.vector_writer.specs.declared.symbols.InterSymbols.{InterSymbols}
use Rattle.vector_writer.specs.declared.symbols.QuarterSymbols.{QuarterSymbols}
use Rattle.vector_writer.proofs.Modes.{from_8x8}
use Rattle.vector_writer.proofs.Readings.{Any, yields_settle}
use Rattle.vector_writer.proofs.Sayables.{Said, OfMode, CanQuarter, yields_then, no_difference, block_vectors_yield, quarter_yield}

pub record Four : Type 0 where
  pub a : QuarterSymbols
  pub b : QuarterSymbols
  pub c : QuarterSymbols
  pub d : QuarterSymbols

abbrev pub symbols_of : ReferenceFrames → InterpFilter → Four → InterSymbols
symbols_of refs filter f = record {
  references = refs;
  filter = filter;
  modes = f.a.mode ∷ f.b.mode ∷ f.c.mode ∷ f.d.mode ∷ [];
  differences = f.a.differences ∷ f.b.differences ∷ f.c.differences ∷ f.d.differences ∷ [];
}

abbrev idle : QuarterSymbols
idle = record { mode = Zero; differences = no_vector ∷ no_vector ∷ [] }

for_some : {A : Type 0} (o : Option A) (P : A → Type 0) → ((x : A) → P x) → IfSome o P
for_some None P h = tt
for_some (Some x) P h = h x

idle_can : (allowed : Bool) (best : List Mv) (refs : ReferenceFrames) → CanQuarter allowed best refs idle
idle_can allowed best refs = (record { first = λ same. no_difference _; second = for_some refs.second _ (λ reference same. no_difference _) }, refl)

below_four : (P : ℕ → Type 0) → P 0 → P 1 → P 2 → P 3 → (k : ℕ) → k < 4 → P k
below_four P x y z w zero low = x
below_four P x y z w (suc zero) low = y
below_four P x y z w (suc (suc zero)) low = z
below_four P x y z w (suc (suc (suc zero))) low = w
below_four P x y z w (suc (suc (suc (suc k)))) low = absurd (omega arith)

-- four quarters can be said in a block of a size
pub record FourCan (s : Sources) (refs : ReferenceFrames) (filter : InterpFilter) (size : BlockSize) (f : Four) : Type 0 where
  pub same : (k : ℕ) → k < 4 → mode_of_part (symbols_of refs filter f).modes k ≡ mode_of_part (symbols_of refs filter f).modes (quarter_saying size k)
  pub vectors : (k : ℕ) → k < 4 → CanSayVectors s.allowed (best_mv s refs) refs (symbols_at (symbols_of refs filter f) (quarter_saying size k))
  pub pairs : (k : ℕ) → k < 4 → length (row_vectors (symbols_of refs filter f).differences k) ≡ 2

---- Quarters ----

abbrev Say : Sources → ReferenceFrames → QuarterSymbols → Type 0
Say s refs said = CanQuarter s.allowed (best_mv s refs) refs said

four_can : (s : Sources) (refs : ReferenceFrames) (filter : InterpFilter) (a b c d : QuarterSymbols) → Say s refs a → Say s refs b → Say s refs c → Say s refs d
    → FourCan s refs filter B4x4 (record { a = a; b = b; c = c; d = d })
four_can s refs filter a b c d ca cb cd ce = record {
  same = λ k low. refl;
  vectors = below_four (λ k. CanSayVectors s.allowed (best_mv s refs) refs (symbols_at (symbols_of refs filter (record { a = a; b = b; c = c; d = d })) k)) ca.0 cb.0 cd.0 ce.0;
  pairs = below_four (λ k. length (row_vectors (a.differences ∷ b.differences ∷ c.differences ∷ d.differences ∷ []) k) ≡ 2) ca.1 cb.1 cd.1 ce.1;
}

columns_can : (s : Sources) (refs : ReferenceFrames) (filter : InterpFilter) (a b : QuarterSymbols) → Say s refs a → Say s refs b
    → FourCan s refs filter B4x8 (record { a = a; b = b; c = a; d = b })
columns_can s refs filter a b ca cb = record {
  same = below_four (λ k. mode_of_part (a.mode ∷ b.mode ∷ a.mode ∷ b.mode ∷ []) k ≡ mode_of_part (a.mode ∷ b.mode ∷ a.mode ∷ b.mode ∷ []) (quarter_saying B4x8 k)) refl refl refl refl;
  vectors = below_four (λ k. CanSayVectors s.allowed (best_mv s refs) refs (symbols_at (symbols_of refs filter (record { a = a; b = b; c = a; d = b })) (quarter_saying B4x8 k))) ca.0 cb.0 ca.0 cb.0;
  pairs = below_four (λ k. length (row_vectors (a.differences ∷ b.differences ∷ a.differences ∷ b.differences ∷ []) k) ≡ 2) ca.1 cb.1 ca.1 cb.1;
}

rows_can : (s : Sources) (refs : ReferenceFrames) (filter : InterpFilter) (a c : QuarterSymbols) → Say s refs a → Say s refs c
    → FourCan s refs filter B8x4 (record { a = a; b = a; c = c; d = c })
rows_can s refs filter a c ca cd = record {
  same = below_four (λ k. mode_of_part (a.mode ∷ a.mode ∷ c.mode ∷ c.mode ∷ []) k ≡ mode_of_part (a.mode ∷ a.mode ∷ c.mode ∷ c.mode ∷ []) (quarter_saying B8x4 k)) refl refl refl refl;
  vectors = below_four (λ k. CanSayVectors s.allowed (best_mv s refs) refs (symbols_at (symbols_of refs filter (record { a = a; b = a; c = c; d = c })) (quarter_saying B8x4 k))) ca.0 ca.0 cd.0 cd.0;
  pairs = below_four (λ k. length (row_vectors (a.differences ∷ a.differences ∷ c.differences ∷ c.differences ∷ []) k) ≡ 2) ca.1 ca.1 cd.1 cd.1;
}

four_yield : (s : Sources) (probs : List ℕ) (context : ℕ) (refs : ReferenceFrames) (filter : InterpFilter)
    → Yields (four_quarters s probs context refs (best_mv s refs)) (Said (FourCan s refs filter B4x4) (λ f. four_said s (symbols_of refs filter f) (best_mv s refs)))
unfolding four_quarters four_said
four_yield s probs context refs filter =
    let best = best_mv s refs in
    let say = CanQuarter s.allowed best refs in
    let none = idle_can s.allowed best refs in
    let can = four_can s refs filter in
    yields_then _ _ say (λ a. quarter_said s a refs 0 (before_of best nothing_before nothing_before nothing_before)) _ (quarter_yield s probs context refs 0 (before_of best nothing_before nothing_before nothing_before))
    (λ a q ca ea. yields_then _ _ say (λ b. quarter_said s b refs 1 (before_of best q.vectors nothing_before nothing_before)) _ (quarter_yield s probs context refs 1 (before_of best q.vectors nothing_before nothing_before))
    (λ b r cb eb. yields_then _ _ say (λ c. quarter_said s c refs 2 (before_of best q.vectors r.vectors nothing_before)) _ (quarter_yield s probs context refs 2 (before_of best q.vectors r.vectors nothing_before))
    (λ c t cd ed. yields_then _ _ say (λ d. quarter_said s d refs 3 (before_of best q.vectors r.vectors t.vectors)) _ (quarter_yield s probs context refs 3 (before_of best q.vectors r.vectors t.vectors))
    (λ d u ce ee. yields_settle _ _ (record { a = a; b = b; c = c; d = d }, can a b c d ca cb cd ce, rw ea (rw eb (rw ed (rw ee refl)))))
    (λ d rule ce ee. (record { a = a; b = b; c = c; d = d }, can a b c d ca cb cd ce, rw ea (rw eb (rw ed (rw ee refl))))))
    (λ c rule cd ed. (record { a = a; b = b; c = c; d = idle }, can a b c idle ca cb cd none, rw ea (rw eb (rw ed refl)))))
    (λ b rule cb eb. (record { a = a; b = b; c = idle; d = idle }, can a b idle idle ca cb none none, rw ea (rw eb refl))))
    (λ a rule ca ea. (record { a = a; b = idle; c = idle; d = idle }, can a idle idle idle ca none none none, rw ea refl))

columns_yield : (s : Sources) (probs : List ℕ) (context : ℕ) (refs : ReferenceFrames) (filter : InterpFilter)
    → Yields (quarter_columns s probs context refs (best_mv s refs)) (Said (FourCan s refs filter B4x8) (λ f. columns_said s (symbols_of refs filter f) (best_mv s refs)))
unfolding quarter_columns columns_said
columns_yield s probs context refs filter =
    let best = best_mv s refs in
    let say = CanQuarter s.allowed best refs in
    let none = idle_can s.allowed best refs in
    let can = columns_can s refs filter in
    yields_then _ _ say (λ a. quarter_said s a refs 0 (before_of best nothing_before nothing_before nothing_before)) _ (quarter_yield s probs context refs 0 (before_of best nothing_before nothing_before nothing_before))
    (λ a q ca ea. yields_then _ _ say (λ b. quarter_said s b refs 1 (before_of best q.vectors nothing_before nothing_before)) _ (quarter_yield s probs context refs 1 (before_of best q.vectors nothing_before nothing_before))
    (λ b r cb eb. yields_settle _ _ (record { a = a; b = b; c = a; d = b }, can a b ca cb, rw ea (rw eb refl)))
    (λ b rule cb eb. (record { a = a; b = b; c = a; d = b }, can a b ca cb, rw ea (rw eb refl))))
    (λ a rule ca ea. (record { a = a; b = idle; c = a; d = idle }, can a idle ca none, rw ea refl))

rows_yield : (s : Sources) (probs : List ℕ) (context : ℕ) (refs : ReferenceFrames) (filter : InterpFilter)
    → Yields (quarter_rows s probs context refs (best_mv s refs)) (Said (FourCan s refs filter B8x4) (λ f. rows_said s (symbols_of refs filter f) (best_mv s refs)))
unfolding quarter_rows rows_said
rows_yield s probs context refs filter =
    let best = best_mv s refs in
    let say = CanQuarter s.allowed best refs in
    let none = idle_can s.allowed best refs in
    let can = rows_can s refs filter in
    yields_then _ _ say (λ a. quarter_said s a refs 0 (before_of best nothing_before nothing_before nothing_before)) _ (quarter_yield s probs context refs 0 (before_of best nothing_before nothing_before nothing_before))
    (λ a q ca ea. yields_then _ _ say (λ c. quarter_said s c refs 2 (before_of best q.vectors q.vectors nothing_before)) _ (quarter_yield s probs context refs 2 (before_of best q.vectors q.vectors nothing_before))
    (λ c r cd ed. yields_settle _ _ (record { a = a; b = a; c = c; d = c }, can a c ca cd, rw ea (rw ed refl)))
    (λ c rule cd ed. (record { a = a; b = a; c = c; d = c }, can a c ca cd, rw ea (rw ed refl))))
    (λ a rule ca ea. (record { a = a; b = a; c = idle; d = idle }, can a idle ca none, rw ea refl))

no : false ≡ true → ⊥
no e = cc

by_size_yield : (s : Sources) (probs : List ℕ) (context : ℕ) (refs : ReferenceFrames) (filter : InterpFilter) (size : BlockSize) → is_below_8x8 size ≡ true
    → Yields (quarters_by_size s probs context refs size) (Said (FourCan s refs filter size) (λ f. quarters_said s (symbols_of refs filter f) size))
unfolding quarters_by_size quarters_said
by_size_yield s probs context refs filter B4x4 below = four_yield s probs context refs filter
by_size_yield s probs context refs filter B4x8 below = columns_yield s probs context refs filter
by_size_yield s probs context refs filter B8x4 below = rows_yield s probs context refs filter
by_size_yield s probs context refs filter B8x8 below = absurd (no below)
by_size_yield s probs context refs filter B8x16 below = absurd (no below)
by_size_yield s probs context refs filter B16x8 below = absurd (no below)
by_size_yield s probs context refs filter B16x16 below = absurd (no below)
by_size_yield s probs context refs filter B16x32 below = absurd (no below)
by_size_yield s probs context refs filter B32x16 below = absurd (no below)
by_size_yield s probs context refs filter B32x32 below = absurd (no below)
by_size_yield s probs context refs filter B32x64 below = absurd (no below)
by_size_yield s probs context refs filter B64x32 below = absurd (no below)
by_size_yield s probs context refs filter B64x64 below = absurd (no below)

pub quarters_yield : (s : Sources) (probs : List ℕ) (context : ℕ) (refs : ReferenceFrames) (filter : InterpFilter) (size : BlockSize) → is_below_8x8 size ≡ true
    → Yields (quarters s probs context refs size) (Said (FourCan s refs filter size) (λ f. quarters_said s (symbols_of refs filter f) size))
quarters_yield s probs context refs filter size below =
    rw (quarters_of_size s probs context refs size below) (by_size_yield s probs context refs filter size below)

---- Filters and modes ----

of_three : (a b : Bool) → (if a then Regular else (if b then Smooth else Sharp)) ≢ Bilinear
of_three true b same = cc
of_three false true same = cc
of_three false false same = cc

pub filter_yields : (frame : FrameFilter) (probs : List ℕ) (context : ℕ) → Yields (interp_filter frame probs context) (CanFilter frame)
unfolding interp_filter
filter_yields (Fixed f) probs context = yields_settle f (CanFilter (Fixed f)) refl
filter_yields Switchable probs context = yields_bind _ _ Any (CanFilter Switchable) (yields_all _) (λ n any. yields_settle (filter_of_symbol n) (CanFilter Switchable) (of_three (nat_eq n 0) (nat_eq n 1)))

abbrev pub CanSkip : Bool → InterMode → Type 0
CanSkip skips mode = skips ≡ true → mode ≡ Zero

pub mode_yields : (skips : Bool) (probs : List ℕ) (context : ℕ) → Yields (block_mode skips probs context) (CanSkip skips)
unfolding block_mode
mode_yields true probs context = yields_settle Zero (CanSkip true) (λ same. refl)
mode_yields false probs context = yields_map (inter_mode probs context) Any (CanSkip false) (yields_all (inter_mode probs context)) (λ mode any same. absurd (no same))

---- Blocks ----

of_quarters_yield : (s : Sources) (lists : InterLists) (skips : Bool) (frame : FrameFilter) (context : ℕ) (refs : ReferenceFrames) → is_below_8x8 s.search.at.size ≡ true
    → Yields (block_of_quarters s lists frame context refs) (IsSaid s skips frame refs)
unfolding block_of_quarters of_quarters_said inter_said
of_quarters_yield s lists skips frame context refs below =
    let size = s.search.at.size in
    yields_bind (interp_filter frame lists.filters context) _ (CanFilter frame) (IsSaid s skips frame refs) (filter_yields frame lists.filters context)
    (λ filter fits. yields_then _ _ (FourCan s refs filter size) (λ f. quarters_said s (symbols_of refs filter f) size) (IsSaid s skips frame refs)
    (quarters_yield s lists.modes (mode_context s.earlier s.search) refs filter size below)
    (λ f qs can is. yields_settle _ (IsSaid s skips frame refs) (record {
      symbols = symbols_of refs filter f;
      references = refl;
      modes = refl;
      rows = refl;
      pairs = can.pairs;
      can = record { named = fits; same = can.same; skipped = λ from. absurd (no (sym from ∙ below)); vectors = can.vectors };
      said = rw below (rw is refl);
    }))
    (λ f rule can is. record {
      symbols = symbols_of refs filter f;
      references = refl;
      modes = refl;
      rows = refl;
      pairs = can.pairs;
      can = record { named = fits; same = can.same; skipped = λ from. absurd (no (sym from ∙ below)); vectors = can.vectors };
      said = rw below (rw is refl);
    }))

abbrev four_times : QuarterSymbols → Four
four_times said = record { a = said; b = said; c = said; d = said }

whole_can : (s : Sources) (skips : Bool) (frame : FrameFilter) (refs : ReferenceFrames) (filter : InterpFilter) (said : QuarterSymbols) → is_below_8x8 s.search.at.size ≡ false
    → CanFilter frame filter → CanSkip skips said.mode → CanSayVectors s.allowed (best_mv s refs) refs said → CanSayInter s skips frame (symbols_of refs filter (four_times said))
whole_can s skips frame refs filter said from fits skip can = record {
  named = fits;
  same = λ k low. rw (from_8x8 s.search.at.size k from) (below_four (λ k. mode_of_part (said.mode ∷ said.mode ∷ said.mode ∷ said.mode ∷ []) k ≡ said.mode) refl refl refl refl k low);
  skipped = λ same. skip;
  vectors = λ k low. rw (from_8x8 s.search.at.size k from) can;
}

whole_yield : (s : Sources) (lists : InterLists) (skips : Bool) (frame : FrameFilter) (context : ℕ) (refs : ReferenceFrames) → is_below_8x8 s.search.at.size ≡ false
    → Yields (whole_block s lists skips frame context refs) (IsSaid s skips frame refs)
unfolding whole_block whole_said inter_said
whole_yield s lists skips frame context refs from =
    yields_bind (block_mode skips lists.modes (mode_context s.earlier s.search)) _ (CanSkip skips) (IsSaid s skips frame refs) (mode_yields skips lists.modes (mode_context s.earlier s.search))
    (λ mode skip. yields_bind (interp_filter frame lists.filters context) _ (CanFilter frame) (IsSaid s skips frame refs) (filter_yields frame lists.filters context)
    (λ filter fits. yields_then (block_vectors s mode refs) _ (OfMode s.allowed (best_mv s refs) refs mode) (λ said. block_vectors_said s said refs) (IsSaid s skips frame refs)
    (block_vectors_yield s mode refs)
    (λ said vectors can is. yields_settle _ (IsSaid s skips frame refs) (record {
      symbols = symbols_of refs filter (four_times said);
      references = refl;
      modes = refl;
      rows = refl;
      pairs = below_four (λ k. length (row_vectors (said.differences ∷ said.differences ∷ said.differences ∷ said.differences ∷ []) k) ≡ 2) can.2 can.2 can.2 can.2;
      can = whole_can s skips frame refs filter said from fits (λ skipped. can.0 ∙ skip skipped) can.1;
      said = rw from (rw is (rw can.0 refl));
    }))
    (λ said rule can is. record {
      symbols = symbols_of refs filter (four_times said);
      references = refl;
      modes = refl;
      rows = refl;
      pairs = below_four (λ k. length (row_vectors (said.differences ∷ said.differences ∷ said.differences ∷ said.differences ∷ []) k) ≡ 2) can.2 can.2 can.2 can.2;
      can = whole_can s skips frame refs filter said from fits (λ skipped. can.0 ∙ skip skipped) can.1;
      said = rw from (rw is refl);
    })))

pub inter_yields : (s : Sources) (lists : InterLists) (skips : Bool) (frame : FrameFilter) (context : ℕ) (refs : ReferenceFrames)
    → Yields (inter_prediction s lists skips frame context refs) (IsSaid s skips frame refs)
unfolding inter_prediction
inter_yields s lists skips frame context refs = elim (cases_Bool (is_below_8x8 s.search.at.size)) [
  | inl below ↦ rw below (of_quarters_yield s lists skips frame context refs below)
  | inr from ↦ rw from (whole_yield s lists skips frame context refs from)
]
