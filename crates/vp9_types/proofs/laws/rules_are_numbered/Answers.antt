use Rattle.std.proofs.Common.{◌≡◌, ℕ, ◌<◌, ◌-◌, ◌+◌, ◌∙◌, true, List, [], ◌∷◌, get_or, refl, arith}
use Rattle.std.specs.Prelude.{nat_eq}
use Rattle.std.proofs.lemmas.Bool.{agree_below_at, eqb-true}
use Rattle.vp9_types.specs.Rules.{rule_number}
use Rattle.vp9_types.specs.declared.rule.Rule.{Rule}
use Rattle.vp9_types.specs.declared.rule.Rule.TheVariants.{IvfSignature, IvfHeader, IvfCodec, IvfTruncated, SuperframeSizes, HeaderTruncated, FrameMarker, ReservedBit, SyncCode, ColourConfig, ShowMissing, RefMissing, RefFormat, RefScale, HeaderSizeZero, HeaderSizeLong, BoolEmpty, BoolMarker, TileSize, BlockScale, MvRange, CoefRange, TransformRange, WebmElement, WebmTrack, WebmLacing, WebmEncoding, OutputShape}
use Rattle.vp9_types.proofs.laws.rules_are_numbered.Goals as goal

abbrev all_rules : List Rule
all_rules = IvfSignature ∷ IvfHeader ∷ IvfCodec ∷ IvfTruncated ∷ SuperframeSizes ∷ HeaderTruncated ∷ FrameMarker ∷ ReservedBit ∷ SyncCode ∷ ColourConfig ∷ ShowMissing ∷ RefMissing ∷ RefFormat ∷ RefScale ∷ HeaderSizeZero ∷ HeaderSizeLong ∷ BoolEmpty ∷ BoolMarker ∷ TileSize ∷ BlockScale ∷ MvRange ∷ CoefRange ∷ TransformRange ∷ WebmElement ∷ WebmTrack ∷ WebmLacing ∷ WebmEncoding ∷ OutputShape ∷ []

abbrev rule_after : ℕ → Rule
rule_after k = get_or all_rules k IvfSignature

-- the rule at place k of the list has number k + 1
numbered : (k : ℕ) → k < 23 → rule_number (rule_after k) ≡ k + 1
numbered k h = eqb-true (rule_number (rule_after k)) (k + 1) (agree_below_at (λ n. nat_eq (rule_number (rule_after n)) (n + 1)) (λ _. true) 23 k refl h)

pub returns-clause-each : goal.returns-clause-each
returns-clause-each c = λ n low high.
    (rule_after (n - 1), numbered (n - 1) (omega arith) ∙ omega arith)

numbered_later : (k : ℕ) → k < 5 → rule_number (rule_after (k + 23)) ≡ k + 25
numbered_later k h = eqb-true (rule_number (rule_after (k + 23))) (k + 25) (agree_below_at (λ n. nat_eq (rule_number (rule_after (n + 23))) (n + 25)) (λ _. true) 5 k refl h)

pub returns-clause-later : goal.returns-clause-later
returns-clause-later c = λ n low high.
    (rule_after (n - 25 + 23), numbered_later (n - 25) (omega arith) ∙ omega arith)
