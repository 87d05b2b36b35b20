-- Updates that a compressed header can code (6.3 of the standard). All probabilities are 1 to 255, and a coded difference makes
-- each of them of each other. So those that the header has updates for may be any, but for vectors, whose updates are odd; and
-- all others stay.
use Rattle.std.specs.Prelude.{◌≡◌, ◌≢◌, ℕ, ◌<◌, ◌%◌, true, false, Bool, List, length, slice_index}
use Rattle.vp9_types.specs.declared.block.Modes.{Modes}
use Rattle.vp9_types.specs.declared.block.ReferenceMode.{ReferenceMode}
use Rattle.vp9_types.specs.declared.block.ReferenceMode.TheVariants.{Single}
use Rattle.vp9_types.specs.declared.block.TxMode.{TxMode}
use Rattle.vp9_types.specs.declared.block.TxMode.TheVariants.{Only4x4, Selected}
use Rattle.vp9_types.specs.declared.block.TxSize.TheVariants.{T8x8, T16x16, T32x32}
use Rattle.frame_headers.specs.declared.header.FrameKind.{FrameKind}
use Rattle.frame_headers.specs.declared.header.FrameKind.TheVariants.{Key, IntraOnly, Inter}
use Rattle.frame_headers.specs.declared.header.Header.{Header}
use Rattle.frame_headers.specs.declared.header.InterFields.{InterFields}
use Rattle.frame_headers.specs.Quantizer.{is_lossless}
use Rattle.prob_contexts.specs.ProbLists.{TxLists, CoefLists, InterLists, VectorLists, ContextLists}
use Rattle.compressed_header.specs.HeaderModes.{is_compound_allowed}
use Rattle.compressed_header.specs.ReferenceProbs.{is_switchable, is_single, is_compound, is_chosen}
use Rattle.compressed_header.specs.TransformProbs.{allows}

-- a lossless frame has 4x4 transforms alone (6.3.1)
abbrev pub IsTxMode : Bool → TxMode → Type 0
IsTxMode lossless mode = lossless ≡ true → mode ≡ Only4x4

-- those of transform sizes are coded where blocks say which size they have (6.3)
abbrev pub AreTxUpdates : TxMode → TxLists → TxLists → Type 0
AreTxUpdates mode old new = mode ≢ Selected → new ≡ old

-- coefficients are coded up to the greatest size of the mode, which is 4x4 at least (6.3.7)
pub record AreCoefUpdates (mode : TxMode) (old new : CoefLists) : Type 0 where
  pub of_8x8 : allows mode T8x8 ≡ false → new.of_8x8 ≡ old.of_8x8
  pub of_16x16 : allows mode T16x16 ≡ false → new.of_16x16 ≡ old.of_16x16
  pub of_32x32 : allows mode T32x32 ≡ false → new.of_32x32 ≡ old.of_32x32

-- compound references need references on both sides in time (6.3.12)
abbrev pub IsReferenceMode : Bool → ReferenceMode → Type 0
IsReferenceMode allowed mode = allowed ≡ false → mode ≡ Single

-- the flag is coded where blocks choose, single references unless all are compound, compound ones unless all are single
-- (6.3.13)
pub record AreReferenceUpdates (mode : ReferenceMode) (old new : InterLists) : Type 0 where
  pub flag : is_chosen mode ≡ false → new.compound_flag ≡ old.compound_flag
  pub single : is_compound mode ≡ true → new.single_references ≡ old.single_references
  pub compound : is_single mode ≡ true → new.compound_references ≡ old.compound_references

-- filters are coded where blocks choose theirs (6.3.10)
pub record AreInterUpdates (fields : InterFields) (mode : ReferenceMode) (old new : InterLists) : Type 0 where
  pub allowed : IsReferenceMode (is_compound_allowed fields.references) mode
  pub filters : is_switchable fields.filter ≡ false → new.filters ≡ old.filters
  pub references : AreReferenceUpdates mode old new

-- a probability of vectors stays, or is one more than the double of a number of 7 bits (6.3.17)
abbrev pub IsOddUpdate : ℕ → ℕ → Type 0
IsOddUpdate old new = new ≢ old → new % 2 ≡ 1

abbrev pub AreOddUpdates : List ℕ → List ℕ → Type 0
AreOddUpdates old new = (i : ℕ) → i < length new → IsOddUpdate (slice_index old i) (slice_index new i)

pub record HasOddUpdates (old new : VectorLists) : Type 0 where
  pub joints : AreOddUpdates old.joints new.joints
  pub signs : AreOddUpdates old.signs new.signs
  pub classes : AreOddUpdates old.classes new.classes
  pub class0 : AreOddUpdates old.class0 new.class0
  pub bits : AreOddUpdates old.bits new.bits
  pub class0_fractions : AreOddUpdates old.class0_fractions new.class0_fractions
  pub fractions : AreOddUpdates old.fractions new.fractions
  pub class0_high : AreOddUpdates old.class0_high new.class0_high
  pub high : AreOddUpdates old.high new.high

-- the last bit is coded where the frame's vectors have it (6.3.16)
pub record AreVectorUpdates (precise : Bool) (old new : VectorLists) : Type 0 where
  pub odd : HasOddUpdates old new
  pub class0_high : precise ≡ false → new.class0_high ≡ old.class0_high
  pub high : precise ≡ false → new.high ≡ old.high

-- intra frames code nothing of references, partitions and vectors, and have single references
abbrev pub IsIntraUpdate : ReferenceMode → ContextLists → ContextLists → Type 0
IsIntraUpdate mode old new = (mode ≡ Single) × (new.inter ≡ old.inter) × (new.partitions ≡ old.partitions) × (new.vectors ≡ old.vectors)

abbrev pub IsKindUpdate : FrameKind → ReferenceMode → ContextLists → ContextLists → Type 0
IsKindUpdate Key mode old new = IsIntraUpdate mode old new
IsKindUpdate IntraOnly mode old new = IsIntraUpdate mode old new
IsKindUpdate (Inter fields) mode old new =
    AreInterUpdates fields mode old.inter new.inter × AreVectorUpdates fields.high_precision old.vectors new.vectors

-- The compressed header of the frame can make the new probabilities of the old ones, and say the modes.
pub record CanForward (header : Header) (old new : ContextLists) (modes : Modes) : Type 0 where
  pub tx_mode : IsTxMode (is_lossless header.params.quantizer) modes.tx_mode
  pub tx : AreTxUpdates modes.tx_mode old.tx new.tx
  pub coef : AreCoefUpdates modes.tx_mode old.coef new.coef
  pub kind : IsKindUpdate header.kind modes.reference_mode old new
  pub uv_modes : new.uv_modes ≡ old.uv_modes
