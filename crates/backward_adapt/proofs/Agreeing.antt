-- Adaptation by the counters of bools is adaptation by how often they were counted.
use Rattle.std.proofs.Common.{◌≡◌, ◌<◌, ◌≤◌, ◌+◌, ◌*◌, ◌^◌, ℕ, true, false, refl, sym, ◌∙◌, ap, arith, List, length, map, get_or, take}
use Rattle.std.specs.Prelude.{Option, Some, None, count_by}
use Rattle.std.specs.List.{range_with_len}
use Rattle.std.proofs.lemmas.List.{ext_get_or, take_all}
use Rattle.std.proofs.lemmas.List.FromFn.{length-map-range_with_len, get_or-map-range_with_len}
use Rattle.std.proofs.lemmas.List.Sums.{count_by-le-length}
use Rattle.prob_contexts.specs.declared.kind.CountedBool.{CountedBool}
use Rattle.prob_contexts.specs.declared.kind.ProbKind.{ProbKind}
use Rattle.prob_contexts.specs.declared.kind.ProbKind.TheVariants as kind
use Rattle.prob_contexts.specs.Code.{no_counts, counts_after, counter_of}
use Rattle.prob_contexts.specs.Counted.{IsCounted, is_same, times_counted}
use Rattle.prob_contexts.specs.Kinds.{kind_size}
use Rattle.prob_contexts.specs.ProbLists.{ContextLists, CoefLists}
use Rattle.prob_contexts.proofs.Counting.{counter_is}
use Rattle.backward_adapt.specs.declared.merge.Rate.{Rate}
use Rattle.backward_adapt.specs.declared.kind.AdaptKind.{AdaptKind}
use Rattle.backward_adapt.specs.Adaptation.{rate_of, left_by, adapted_prob, adapted_from, adapted_list, adapted_coefs, adapted_tx, adapted_inter, adapted_vectors, adapted_contexts, adaptation}
use Rattle.backward_adapt.specs.Code.{Tells}
use Rattle.backward_adapt.specs.Laws.{HasCoefSizes, HasSizes}
use Rattle.backward_adapt.proofs.Steps.{adapted_by, first_merged}

pub few_counted : (bools : List CountedBool) (b : CountedBool) → length bools < 2 ^ 64 → times_counted bools b ≡ count_by (is_same b) bools
unfolding times_counted
few_counted bools b few = let most = count_by-le-length (is_same b) bools in omega (arith, few, most)

-- they say the same of each node that there is
abbrev Agree : (CountedBool → ℕ) → (CountedBool → ℕ) → Type 0
Agree f g = (b : CountedBool) → IsCounted b → f b ≡ g b

same_prob : (rate : Option Rate) (f g : CountedBool → ℕ) (kind : ProbKind) (place saved forward : ℕ) → Agree f g → place < kind_size kind
    → adapted_prob rate f kind place saved forward ≡ adapted_prob rate g kind place saved forward
same_prob (Some rate) f g kind place saved forward agree low = rw (agree (left_by kind place false) low, agree (left_by kind place true) low) refl
same_prob None f g kind place saved forward agree low = refl

same_by : (rate : Option Rate) (f g : CountedBool → ℕ) (kind : ProbKind) (from : ℕ) (saved forward : List ℕ) → Agree f g → from + length saved ≤ kind_size kind
    → adapted_by rate f kind from saved forward ≡ adapted_by rate g kind from saved forward
same_by rate f g kind from saved forward agree within =
    let one : ℕ → ℕ = λ k. adapted_prob rate f kind (from + k) (get_or saved k 0) (get_or forward k 0) in
    let other : ℕ → ℕ = λ k. adapted_prob rate g kind (from + k) (get_or saved k 0) (get_or forward k 0) in
    ext_get_or 0 (map one (range_with_len 0 (length saved))) (map other (range_with_len 0 (length saved)))
    (length-map-range_with_len one 0 (length saved) ∙ sym (length-map-range_with_len other 0 (length saved)))
    (λ k low.
    let low_in : k < length saved = omega (arith, low, length-map-range_with_len one 0 (length saved)) in
    let inside : from + k < kind_size kind = omega (arith, low_in, within) in
    get_or-map-range_with_len one 0 (length saved) k k 0 low_in (omega arith)
    ∙ (same_prob rate f g kind (from + k) (get_or saved k 0) (get_or forward k 0) agree inside
    ∙ sym (get_or-map-range_with_len other 0 (length saved) k k 0 low_in (omega arith))))

-- a loop that has merged all probabilities
pub all_merged : (rate : Option Rate) (r : Rate) (counts : List ℕ) (times : CountedBool → ℕ) (kind : ProbKind) (from i : ℕ) (saved probs forward : List ℕ)
    → rate ≡ Some r → length probs ≡ length saved → length probs ≤ i → i ≤ length saved → take i probs ≡ first_merged r (counter_of counts) kind from saved i
    → Tells counts times → from + length saved ≤ kind_size kind → probs ≡ adapted_by rate times kind from saved forward
all_merged rate r counts times kind from i saved probs forward is size last within_all done tells within =
    let whole : i ≡ length saved = omega (arith, size, last, within_all) in
    sym (take_all i probs last) ∙ (done ∙ (ap (λ n. first_merged r (counter_of counts) kind from saved n) whole
    ∙ (sym (ap (λ o. adapted_by o (counter_of counts) kind from saved forward) is) ∙ same_by rate (counter_of counts) times kind from saved forward tells within)))

same_from : (frame : AdaptKind) (f g : CountedBool → ℕ) (kind : ProbKind) (from : ℕ) (saved forward : List ℕ) → Agree f g → from + length saved ≤ kind_size kind
    → adapted_from frame f kind from saved forward ≡ adapted_from frame g kind from saved forward
unfolding adapted_from
same_from frame f g kind from saved forward agree within = same_by (rate_of frame kind) f g kind from saved forward agree within

same_list : (frame : AdaptKind) (f g : CountedBool → ℕ) (kind : ProbKind) (saved forward : List ℕ) → Agree f g → length saved ≡ kind_size kind
    → adapted_list frame f kind saved forward ≡ adapted_list frame g kind saved forward
same_list frame f g kind saved forward agree is = same_from frame f g kind 0 saved forward agree (omega (arith, is))

same_coefs : (frame : AdaptKind) (f g : CountedBool → ℕ) (s n : CoefLists) → Agree f g
    → length s.of_4x4 ≡ 396 → length s.of_8x8 ≡ 396 → length s.of_16x16 ≡ 396 → length s.of_32x32 ≡ 396 → adapted_coefs frame f s n ≡ adapted_coefs frame g s n
unfolding adapted_coefs
same_coefs frame f g s n agree size_4x4 size_8x8 size_16x16 size_32x32 =
    rw (
      same_from frame f g kind.Coef 0 s.of_4x4 n.of_4x4 agree (omega (arith, size_4x4)),
      same_from frame f g kind.Coef 396 s.of_8x8 n.of_8x8 agree (omega (arith, size_8x8)),
      same_from frame f g kind.Coef (2 * 396) s.of_16x16 n.of_16x16 agree (omega (arith, size_16x16)),
      same_from frame f g kind.Coef (3 * 396) s.of_32x32 n.of_32x32 agree (omega (arith, size_32x32)),
    ) refl

same_tx : (frame : AdaptKind) (f g : CountedBool → ℕ) (s n : ContextLists) → Agree f g → HasSizes s → adapted_tx frame f s.tx n.tx ≡ adapted_tx frame g s.tx n.tx
unfolding adapted_tx
same_tx frame f g s n agree sizes =
    rw (
      same_list frame f g kind.Tx8x8 s.tx.of_8x8 n.tx.of_8x8 agree sizes.tx8x8,
      same_list frame f g kind.Tx16x16 s.tx.of_16x16 n.tx.of_16x16 agree sizes.tx16x16,
      same_list frame f g kind.Tx32x32 s.tx.of_32x32 n.tx.of_32x32 agree sizes.tx32x32,
    ) refl

same_inter : (frame : AdaptKind) (f g : CountedBool → ℕ) (s n : ContextLists) → Agree f g → HasSizes s
    → adapted_inter frame f s.inter n.inter ≡ adapted_inter frame g s.inter n.inter
unfolding adapted_inter
same_inter frame f g s n agree sizes =
    rw (
      same_list frame f g kind.InterMode s.inter.modes n.inter.modes agree sizes.inter_mode,
      same_list frame f g kind.Filter s.inter.filters n.inter.filters agree sizes.filter,
      same_list frame f g kind.IsInter s.inter.is_inter n.inter.is_inter agree sizes.is_inter,
      same_list frame f g kind.CompoundFlag s.inter.compound_flag n.inter.compound_flag agree sizes.compound_flag,
      same_list frame f g kind.SingleReference s.inter.single_references n.inter.single_references agree sizes.single_reference,
      same_list frame f g kind.CompoundReference s.inter.compound_references n.inter.compound_references agree sizes.compound_reference,
      same_list frame f g kind.YMode s.inter.y_modes n.inter.y_modes agree sizes.y_mode,
    ) refl

same_vectors : (frame : AdaptKind) (f g : CountedBool → ℕ) (s n : ContextLists) → Agree f g → HasSizes s
    → adapted_vectors frame f s.vectors n.vectors ≡ adapted_vectors frame g s.vectors n.vectors
unfolding adapted_vectors
same_vectors frame f g s n agree sizes =
    rw (
      same_list frame f g kind.VectorJoint s.vectors.joints n.vectors.joints agree sizes.vector_joint,
      same_list frame f g kind.VectorSign s.vectors.signs n.vectors.signs agree sizes.vector_sign,
      same_list frame f g kind.VectorClass s.vectors.classes n.vectors.classes agree sizes.vector_class,
      same_list frame f g kind.VectorClass0 s.vectors.class0 n.vectors.class0 agree sizes.vector_class0,
      same_list frame f g kind.VectorBit s.vectors.bits n.vectors.bits agree sizes.vector_bit,
      same_list frame f g kind.VectorClass0Fraction s.vectors.class0_fractions n.vectors.class0_fractions agree sizes.vector_class0_fraction,
      same_list frame f g kind.VectorFraction s.vectors.fractions n.vectors.fractions agree sizes.vector_fraction,
      same_list frame f g kind.VectorClass0High s.vectors.class0_high n.vectors.class0_high agree sizes.vector_class0_high,
      same_list frame f g kind.VectorHigh s.vectors.high n.vectors.high agree sizes.vector_high,
    ) refl

same_contexts : (frame : AdaptKind) (f g : CountedBool → ℕ) (s n : ContextLists) → Agree f g → HasCoefSizes s → HasSizes s
    → adapted_contexts frame f s n ≡ adapted_contexts frame g s n
unfolding adapted_contexts
same_contexts frame f g s n agree coef sizes =
    rw (
      same_tx frame f g s n agree sizes,
      same_coefs frame f g s.coef n.coef agree coef.of_4x4 coef.of_8x8 coef.of_16x16 coef.of_32x32,
      same_list frame f g kind.Skip s.skip n.skip agree sizes.skip,
      same_inter frame f g s n agree sizes,
      same_list frame f g kind.Partition s.partitions n.partitions agree sizes.partition,
      same_vectors frame f g s n agree sizes,
      same_list frame f g kind.UvMode s.uv_modes n.uv_modes agree sizes.uv_mode,
    ) refl

pub by_counters : (frame : AdaptKind) (bools : List CountedBool) (saved forward : ContextLists) → HasCoefSizes saved → HasSizes saved
    → adapted_contexts frame (counter_of (counts_after no_counts bools)) saved forward ≡ adaptation frame bools saved forward
by_counters frame bools saved forward coef sizes =
    same_contexts frame (counter_of (counts_after no_counts bools)) (times_counted bools) saved forward (λ b low. counter_is bools b low) coef sizes
