-- Adaptation (8.4.2 to 8.4.4 of the standard): the contexts that a frame leaves, from those saved before it, those that it was
-- decoded with, and how often each bool was counted in it.
use Rattle.std.specs.Prelude.{ℕ, ◌+◌, ◌*◌, Bool, true, false, List, Option, Some, None, length, map, slice_index, if◌then◌else◌}
use Rattle.std.specs.List.{range_with_len}
use Rattle.prob_contexts.specs.declared.kind.CountedBool.{CountedBool}
use Rattle.prob_contexts.specs.declared.kind.ProbKind.{ProbKind}
use Rattle.prob_contexts.specs.declared.kind.ProbKind.TheVariants as kind
use Rattle.prob_contexts.specs.Counted.{times_counted}
use Rattle.prob_contexts.specs.ProbLists.{ContextLists, CoefLists, TxLists, InterLists, VectorLists}
use Rattle.backward_adapt.specs.declared.merge.Rate.{Rate}
use Rattle.backward_adapt.specs.declared.merge.Rate.TheVariants.{Coefs, CoefsAfterKey, Others}
use Rattle.backward_adapt.specs.declared.kind.AdaptKind.{AdaptKind}
use Rattle.backward_adapt.specs.declared.kind.AdaptKind.TheVariants.{Intra, Inter}
use Rattle.backward_adapt.specs.Merge.{merge_prob}

-- which kinds of probabilities a frame adapts, and at what rate: coefficients on every frame, and faster on an inter frame
-- after a key frame (8.4.3); all others on inter frames, but the bits of high precision only where vectors have it (8.4.4)
unfoldable pub rate_of : AdaptKind → ProbKind → Option Rate
rate_of Intra kind.Coef = Some Coefs
rate_of Intra _ = None
rate_of (Inter frame) kind.Coef = Some (if frame.after_key then CoefsAfterKey else Coefs)
rate_of (Inter frame) kind.VectorClass0High = if frame.high_precision then Some Others else None
rate_of (Inter frame) kind.VectorHigh = if frame.high_precision then Some Others else None
rate_of (Inter frame) _ = Some Others

-- the bool that leaves the node at a place of its kind
abbrev pub left_by : ProbKind → ℕ → Bool → CountedBool
left_by kind place one = record { kind = kind; place = place; one = one }

-- the probability at a place: one that is adapted at a rate is the saved one, merged with how often its node was left by a 0 and
-- by a 1 (merge_probs), and any other stays as in the frame
abbrev pub adapted_prob : Option Rate → (CountedBool → ℕ) → ProbKind → ℕ → ℕ → ℕ → ℕ
adapted_prob (Some rate) times kind place saved forward = merge_prob rate saved (times (left_by kind place false)) (times (left_by kind place true))
adapted_prob None times kind place saved forward = forward

-- probabilities of a kind, from a place of it on, each by itself
unfoldable pub adapted_from : AdaptKind → (CountedBool → ℕ) → ProbKind → ℕ → List ℕ → List ℕ → List ℕ
adapted_from frame times kind from saved forward =
    map (λ k. adapted_prob (rate_of frame kind) times kind (from + k) (slice_index saved k) (slice_index forward k)) (range_with_len 0 (length saved))

-- all probabilities of a kind
abbrev pub adapted_list : AdaptKind → (CountedBool → ℕ) → ProbKind → List ℕ → List ℕ → List ℕ
adapted_list frame times kind saved forward = adapted_from frame times kind 0 saved forward

-- Coefficients are one kind. The places of the sizes follow one another, 396 for each: luma and chroma, intra and inter blocks, the
-- 33 contexts of 6 bands (the first band has 3, each other 6), 3 nodes.
unfoldable pub adapted_coefs : AdaptKind → (CountedBool → ℕ) → CoefLists → CoefLists → CoefLists
adapted_coefs frame times saved forward = record {
  of_4x4 = adapted_from frame times kind.Coef 0 saved.of_4x4 forward.of_4x4;
  of_8x8 = adapted_from frame times kind.Coef 396 saved.of_8x8 forward.of_8x8;
  of_16x16 = adapted_from frame times kind.Coef (2 * 396) saved.of_16x16 forward.of_16x16;
  of_32x32 = adapted_from frame times kind.Coef (3 * 396) saved.of_32x32 forward.of_32x32;
}

unfoldable pub adapted_tx : AdaptKind → (CountedBool → ℕ) → TxLists → TxLists → TxLists
adapted_tx frame times saved forward = record {
  of_8x8 = adapted_list frame times kind.Tx8x8 saved.of_8x8 forward.of_8x8;
  of_16x16 = adapted_list frame times kind.Tx16x16 saved.of_16x16 forward.of_16x16;
  of_32x32 = adapted_list frame times kind.Tx32x32 saved.of_32x32 forward.of_32x32;
}

unfoldable pub adapted_inter : AdaptKind → (CountedBool → ℕ) → InterLists → InterLists → InterLists
adapted_inter frame times saved forward = record {
  modes = adapted_list frame times kind.InterMode saved.modes forward.modes;
  filters = adapted_list frame times kind.Filter saved.filters forward.filters;
  is_inter = adapted_list frame times kind.IsInter saved.is_inter forward.is_inter;
  compound_flag = adapted_list frame times kind.CompoundFlag saved.compound_flag forward.compound_flag;
  single_references = adapted_list frame times kind.SingleReference saved.single_references forward.single_references;
  compound_references = adapted_list frame times kind.CompoundReference saved.compound_references forward.compound_references;
  y_modes = adapted_list frame times kind.YMode saved.y_modes forward.y_modes;
}

unfoldable pub adapted_vectors : AdaptKind → (CountedBool → ℕ) → VectorLists → VectorLists → VectorLists
adapted_vectors frame times saved forward = record {
  joints = adapted_list frame times kind.VectorJoint saved.joints forward.joints;
  signs = adapted_list frame times kind.VectorSign saved.signs forward.signs;
  classes = adapted_list frame times kind.VectorClass saved.classes forward.classes;
  class0 = adapted_list frame times kind.VectorClass0 saved.class0 forward.class0;
  bits = adapted_list frame times kind.VectorBit saved.bits forward.bits;
  class0_fractions = adapted_list frame times kind.VectorClass0Fraction saved.class0_fractions forward.class0_fractions;
  fractions = adapted_list frame times kind.VectorFraction saved.fractions forward.fractions;
  class0_high = adapted_list frame times kind.VectorClass0High saved.class0_high forward.class0_high;
  high = adapted_list frame times kind.VectorHigh saved.high forward.high;
}

-- all of them, by how often each bool was counted
unfoldable pub adapted_contexts : AdaptKind → (CountedBool → ℕ) → ContextLists → ContextLists → ContextLists
adapted_contexts frame times saved forward = record {
  tx = adapted_tx frame times saved.tx forward.tx;
  coef = adapted_coefs frame times saved.coef forward.coef;
  skip = adapted_list frame times kind.Skip saved.skip forward.skip;
  inter = adapted_inter frame times saved.inter forward.inter;
  partitions = adapted_list frame times kind.Partition saved.partitions forward.partitions;
  vectors = adapted_vectors frame times saved.vectors forward.vectors;
  uv_modes = adapted_list frame times kind.UvMode saved.uv_modes forward.uv_modes;
}

-- adaptation: the contexts that a frame leaves in which these bools were counted
abbrev pub adaptation : AdaptKind → List CountedBool → ContextLists → ContextLists → ContextLists
adaptation frame bools saved forward = adapted_contexts frame (times_counted bools) saved forward
