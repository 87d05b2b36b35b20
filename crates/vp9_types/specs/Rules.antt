-- The 28 rules, their numbers and names. No rule has number 24.
use Rattle.std.specs.Prelude.{ℕ, List, ◌++◌, codes}
use Rattle.std.specs.Fmt.{decimal}
use Rattle.vp9_types.specs.declared.rule.Rule.{Rule}
use Rattle.vp9_types.specs.declared.rule.Rule.TheVariants.{IvfSignature, IvfHeader, IvfCodec, IvfTruncated, SuperframeSizes, HeaderTruncated, FrameMarker, ReservedBit, SyncCode, ColourConfig, ShowMissing, RefMissing, RefFormat, RefScale, HeaderSizeZero, HeaderSizeLong, BoolEmpty, BoolMarker, TileSize, BlockScale, MvRange, CoefRange, TransformRange, WebmElement, WebmTrack, WebmLacing, WebmEncoding, OutputShape}

abbrev pub rule_number : Rule → ℕ
rule_number IvfSignature = 1
rule_number IvfHeader = 2
rule_number IvfCodec = 3
rule_number IvfTruncated = 4
rule_number SuperframeSizes = 5
rule_number HeaderTruncated = 6
rule_number FrameMarker = 7
rule_number ReservedBit = 8
rule_number SyncCode = 9
rule_number ColourConfig = 10
rule_number ShowMissing = 11
rule_number RefMissing = 12
rule_number RefFormat = 13
rule_number RefScale = 14
rule_number HeaderSizeZero = 15
rule_number HeaderSizeLong = 16
rule_number BoolEmpty = 17
rule_number BoolMarker = 18
rule_number TileSize = 19
rule_number BlockScale = 20
rule_number MvRange = 21
rule_number CoefRange = 22
rule_number TransformRange = 23
rule_number WebmElement = 25
rule_number WebmTrack = 26
rule_number WebmLacing = 27
rule_number WebmEncoding = 28
rule_number OutputShape = 29

abbrev pub rule_name : Rule → List ℕ
rule_name IvfSignature = codes "IvfSignature"
rule_name IvfHeader = codes "IvfHeader"
rule_name IvfCodec = codes "IvfCodec"
rule_name IvfTruncated = codes "IvfTruncated"
rule_name SuperframeSizes = codes "SuperframeSizes"
rule_name HeaderTruncated = codes "HeaderTruncated"
rule_name FrameMarker = codes "FrameMarker"
rule_name ReservedBit = codes "ReservedBit"
rule_name SyncCode = codes "SyncCode"
rule_name ColourConfig = codes "ColourConfig"
rule_name ShowMissing = codes "ShowMissing"
rule_name RefMissing = codes "RefMissing"
rule_name RefFormat = codes "RefFormat"
rule_name RefScale = codes "RefScale"
rule_name HeaderSizeZero = codes "HeaderSizeZero"
rule_name HeaderSizeLong = codes "HeaderSizeLong"
rule_name BoolEmpty = codes "BoolEmpty"
rule_name BoolMarker = codes "BoolMarker"
rule_name TileSize = codes "TileSize"
rule_name BlockScale = codes "BlockScale"
rule_name MvRange = codes "MvRange"
rule_name CoefRange = codes "CoefRange"
rule_name TransformRange = codes "TransformRange"
rule_name WebmElement = codes "WebmElement"
rule_name WebmTrack = codes "WebmTrack"
rule_name WebmLacing = codes "WebmLacing"
rule_name WebmEncoding = codes "WebmEncoding"
rule_name OutputShape = codes "OutputShape"

-- as in `rule 2 IvfHeader`
abbrev pub rule_text : Rule → List ℕ
rule_text rule = codes "rule " ++ decimal (rule_number rule) ++ codes " " ++ rule_name rule
