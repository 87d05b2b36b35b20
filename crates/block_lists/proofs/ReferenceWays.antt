-- References are put in one way.
use Rattle.std.proofs.Common.{◌≡◌, ℕ, ◌+◌, ◌*◌, List, [], ◌++◌, Bool, true, false, refl, sym, subst, ap, ◌∙◌}
use Rattle.std.specs.Prelude.{Option, Some, None, slice_index, if◌then◌else◌}
use Rattle.std.specs.Option.{is_some}
use Rattle.vp9_types.specs.declared.block.ReferenceFrame.{ReferenceFrame}
use Rattle.vp9_types.specs.declared.block.ReferenceFrame.TheVariants.{Last, Golden, Altref}
use Rattle.vp9_types.specs.declared.block.ReferenceMode.{ReferenceMode}
use Rattle.vp9_types.specs.declared.block.ReferenceMode.TheVariants.{Single, Compound, Selected}
use Rattle.vp9_tables.specs.declared.kinds.ReferenceBool.TheVariants.{IsCompound, CompoundVariable, SingleFirst, SingleSecond}
use Rattle.bool_encoder.specs.Part.{NumberPart}
use Rattle.bool_lists.specs.BoolLists.{HasPut, one_bool}
use Rattle.bool_lists.proofs.Ways.{spells_on, spells_none}
use Rattle.frame_headers.specs.declared.segments.FeatureReference.{FeatureReference}
use Rattle.prob_contexts.specs.ProbLists.{InterLists}
use Rattle.block_plan.specs.declared.block.BlockInfo.{BlockInfo}
use Rattle.block_plan.specs.declared.block.ReferenceFrames.{ReferenceFrames}
use Rattle.bool_encoder.specs.CountedBools.{PutsValue}
use Rattle.mv_prediction.specs.Candidates.{bias_of}
use Rattle.mv_prediction.specs.declared.search.SignBiases.{SignBiases}
use Rattle.inter_contexts.specs.Contexts.{reference_context}
use Rattle.inter_contexts.specs.BlockReferences.{coded_references, compound_references, fixed_of, golden_or_altref, uses_compound, of_feature, ref_frames, single, single_reference, variable_by, with_fixed}
use Rattle.counting_reader.specs.Counting.{settle}
use Rattle.block_lists.specs.ReferenceLists.{is_variable_second, or_last, spelled_coded_references, spelled_compound, spelled_compound_flag, spelled_references, spelled_single, variable_reference}
use Rattle.block_lists.proofs.Counted.{two_put, settle_put, flag_put}

compound_flag_way : (mode : ReferenceMode) (probs : List ℕ) (context : ℕ) (compound : Bool) (old new : NumberPart) → PutsValue (uses_compound mode probs context) old compound new
    → HasPut old (spelled_compound_flag mode probs context compound) new
unfolding uses_compound spelled_compound_flag
compound_flag_way Single probs context compound old new h = subst (λ m. HasPut old [] m) (settle_put false compound old new h).1 (spells_none old)
compound_flag_way Compound probs context compound old new h = subst (λ m. HasPut old [] m) (settle_put true compound old new h).1 (spells_none old)
compound_flag_way Selected probs context compound old new h = flag_put _ _ _ compound old new h

second_is : (fixed : ReferenceFrame) (one : Bool) → is_variable_second fixed (variable_by fixed one) ≡ one
second_is Last true = refl
second_is Last false = refl
second_is Golden true = refl
second_is Golden false = refl
second_is Altref true = refl
second_is Altref false = refl

-- the fixed one first, or the other
abbrev ordered : Bool → ReferenceFrame → ReferenceFrame → ReferenceFrames
ordered b fixed other = if b then record { first = other; second = Some fixed } else record { first = fixed; second = Some other }

ordered_other : (b : Bool) (fixed other : ReferenceFrame) → (if b then (ordered b fixed other).first else or_last (ordered b fixed other).second) ≡ other
ordered_other true fixed other = refl
ordered_other false fixed other = refl

ordered_two : (b : Bool) (fixed other : ReferenceFrame) → is_some (ordered b fixed other).second ≡ true
ordered_two true fixed other = refl
ordered_two false fixed other = refl

-- references of two, and of one
abbrev Coded : InterLists → SignBiases → Option BlockInfo → Option BlockInfo → ReferenceFrames → List (ℕ × ℕ)
Coded lists biases above left refs =
    if is_some refs.second then spelled_compound lists.compound_references biases (reference_context CompoundVariable (fixed_of biases) above left) refs
    else spelled_single lists.single_references (reference_context SingleFirst (fixed_of biases) above left) (reference_context SingleSecond (fixed_of biases) above left) refs.first

record IsPut (bools : List (ℕ × ℕ)) (compound : Bool) (refs : ReferenceFrames) (old new : NumberPart) : Type 0 where
  is : is_some refs.second ≡ compound
  put : HasPut old bools new

compound_way : (probs : List ℕ) (biases : SignBiases) (context : ℕ) (refs : ReferenceFrames) (old new : NumberPart) → PutsValue (compound_references probs biases context) old refs new
    → IsPut (spelled_compound probs biases context refs) true refs old new
unfolding compound_references spelled_compound
compound_way probs biases context refs old new h =
    let a = two_put _ _ old new refs h in
    let fixed = fixed_of biases in
    let other = variable_by fixed a.x in
    let e = settle_put {A = ReferenceFrames} (with_fixed biases fixed other) refs a.mid new a.second in
    let is : is_variable_second fixed (variable_reference biases refs) ≡ a.x =
    ap (λ (r : ReferenceFrames). is_variable_second fixed (variable_reference biases r)) (sym e.0) ∙ ap (λ o. is_variable_second fixed o) (ordered_other (bias_of biases fixed) fixed other) ∙ second_is fixed a.x in
    record {
      is = ap (λ (r : ReferenceFrames). is_some r.second) (sym e.0) ∙ ordered_two (bias_of biases fixed) fixed other;
      put = subst (λ m. HasPut old (one_bool (slice_index probs context) (is_variable_second fixed (variable_reference biases refs))) m) e.1 (rw is (flag_put _ _ _ a.x old a.mid a.first));
    }

single_way : (probs : List ℕ) (first second : ℕ) (refs : ReferenceFrames) (old new : NumberPart) → PutsValue (single_reference probs first second) old refs new
    → IsPut (spelled_single probs first second refs.first) false refs old new
unfolding single_reference spelled_single golden_or_altref
single_way probs first second refs old new h =
    let a = two_put _ _ old new refs h in
    by_other a.x a.mid (flag_put _ _ _ a.x old a.mid a.first) a.second
  where
    last_put : (altref : Bool) (mid next : NumberPart) → HasPut old (one_bool (slice_index probs (2 * first)) true) mid → HasPut mid (one_bool (slice_index probs (2 * second + 1)) altref) next
        → IsPut (spelled_single probs first second (if altref then Altref else Golden)) false (single (if altref then Altref else Golden)) old next
    last_put true mid next one two = record { is = refl; put = spells_on old mid next _ _ two one }
    last_put false mid next one two = record { is = refl; put = spells_on old mid next _ _ two one }

    by_other : (other : Bool) (mid : NumberPart) → HasPut old (one_bool (slice_index probs (2 * first)) other) mid
        → PutsValue (if other then golden_or_altref probs second else settle (single Last)) mid refs new → IsPut (spelled_single probs first second refs.first) false refs old new
    by_other true mid one g =
        let b = two_put _ _ mid new refs g in
        let e = settle_put {A = ReferenceFrames} (single (if b.x then Altref else Golden)) refs b.mid new b.second in
        subst (λ (p : ReferenceFrames × NumberPart). IsPut (spelled_single probs first second p.0.first) false p.0 old p.1) (λ i. (e.0 i, e.1 i))
        (last_put b.x mid b.mid one (flag_put _ _ _ b.x mid b.mid b.first))
    by_other false mid one g =
        let e = settle_put {A = ReferenceFrames} (single Last) refs mid new g in
        subst (λ (p : ReferenceFrames × NumberPart). IsPut (spelled_single probs first second p.0.first) false p.0 old p.1) (λ i. (e.0 i, e.1 i)) (record { is = refl; put = one })

coded_way : (mode : ReferenceMode) (lists : InterLists) (biases : SignBiases) (above left : Option BlockInfo) (refs : ReferenceFrames) (old new : NumberPart)
    → PutsValue (coded_references mode lists biases above left) old refs new → HasPut old (spelled_coded_references mode lists biases above left refs) new
unfolding coded_references spelled_coded_references
coded_way mode lists biases above left refs old new h =
    let a = two_put _ _ old new refs h in
    by_flag a.x a.mid (compound_flag_way mode _ _ a.x old a.mid a.first) a.second
  where
    flags : Bool → List (ℕ × ℕ)
    flags b = spelled_compound_flag mode lists.compound_flag (reference_context IsCompound (fixed_of biases) above left) b

    by_flag : (compound : Bool) (mid : NumberPart) → HasPut old (flags compound) mid
        → PutsValue (if compound then compound_references lists.compound_references biases (reference_context CompoundVariable (fixed_of biases) above left)
        else single_reference lists.single_references (reference_context SingleFirst (fixed_of biases) above left) (reference_context SingleSecond (fixed_of biases) above left)) mid refs new
        → HasPut old (flags (is_some refs.second) ++ Coded lists biases above left refs) new
    by_flag true mid one g = let c = compound_way _ biases _ refs mid new g in rw c.is (spells_on old mid new _ _ c.put one)
    by_flag false mid one g = let c = single_way _ _ _ refs mid new g in rw c.is (spells_on old mid new _ _ c.put one)

pub references_way : (feature : Option FeatureReference) (mode : ReferenceMode) (lists : InterLists) (biases : SignBiases) (above left : Option BlockInfo) (refs : ReferenceFrames) (old new : NumberPart)
    → PutsValue (ref_frames feature mode lists biases above left) old refs new → HasPut old (spelled_references feature mode lists biases above left refs) new
unfolding ref_frames spelled_references
references_way (Some reference) mode lists biases above left refs old new h = subst (λ m. HasPut old [] m) (settle_put {A = ReferenceFrames} (single (of_feature reference)) refs old new h).1 (spells_none old)
references_way None mode lists biases above left refs old new h = coded_way mode lists biases above left refs old new h
