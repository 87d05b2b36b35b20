-- The text of a shown frame in each format.
use Rattle.std.specs.Prelude.{ℕ, Bool, true, false, List, [], ◌++◌, ◌&&◌, codes, decimal, if◌then◌else◌}
use Rattle.hex.specs.Hex.{encode_lower}
use Rattle.md5.specs.Md5.{md5}
use Rattle.vp9_types.specs.declared.shape.Depth.{Depth}
use Rattle.vp9_types.specs.declared.shape.Depth.TheVariants.{Eight, Ten, Twelve}
use Rattle.vp9_types.specs.declared.shape.Shape.{Shape}
use Rattle.vp9_types.specs.Maps.{FrameMap}
use Rattle.frame_output.specs.Texts.{frame_text}
use Rattle.frame_output.specs.declared.rendering.Format.{Format}
use Rattle.frame_output.specs.declared.rendering.Format.TheVariants.{Raw, Md5, Y4m}

-- the line of a frame with this digest, as in `d41d8cd98f00b204e9800998ecf8427e 352x288`
unfoldable pub digest_line : List ℕ → Shape → List ℕ
digest_line digest shape = encode_lower digest ++ codes " " ++ decimal shape.w ++ codes "x" ++ decimal shape.h ++ codes "\n"

-- how chroma is subsampled, in x and in y
abbrev pub sampling_name : Bool → Bool → List ℕ
sampling_name true true = codes "420"
sampling_name true false = codes "422"
sampling_name false true = codes "440"
sampling_name false false = codes "444"

-- what is said besides: the depth where it isn't 8, and at 8 where chroma lies if it is halved both ways
abbrev pub variant_name : Depth → Bool → Bool → List ℕ
variant_name Eight ss_x ss_y = if ss_x && ss_y then codes "jpeg" else []
variant_name Ten ss_x ss_y = codes "p10"
variant_name Twelve ss_x ss_y = codes "p12"

-- the first line of a file of frames of this shape, as in `YUV4MPEG2 W352 H288 F30:1 Ip C420jpeg`
unfoldable pub header_line : ℕ × ℕ → Shape → List ℕ
header_line rate shape =
    codes "YUV4MPEG2 W" ++ decimal shape.w ++ codes " H" ++ decimal shape.h
    ++ codes " F" ++ decimal rate.0 ++ codes ":" ++ decimal rate.1
    ++ codes " Ip C" ++ sampling_name shape.ss_x shape.ss_y ++ variant_name shape.depth shape.ss_x shape.ss_y ++ codes "\n"

-- what precedes a frame in such a file
unfoldable pub frame_head : ℕ × ℕ → Bool → Shape → List ℕ
frame_head rate first shape = (if first then header_line rate shape else []) ++ codes "FRAME\n"

-- the text of a frame, at this rate, and as the first one or a later one
abbrev pub output_text : Format → ℕ × ℕ → Bool → Shape → FrameMap → List ℕ
output_text Raw rate first shape frame = frame_text shape frame
output_text Md5 rate first shape frame = digest_line (md5 (frame_text shape frame)) shape
output_text Y4m rate first shape frame = frame_head rate first shape ++ frame_text shape frame
