-- The line of a frame in a listing.
use Rattle.std.specs.Prelude.{ℕ, ◌^◌, ◌/◌, ◌%◌, Bool, true, false, List, [], ◌∷◌, ◌++◌, codes}
use Rattle.std.specs.Fmt.{decimal, radix_digits}
use Rattle.vp9_types.specs.Shapes.{depth_bits}
use Rattle.frame_headers.specs.declared.header.FrameKind.{FrameKind}
use Rattle.frame_headers.specs.declared.header.FrameKind.TheVariants.{Key, IntraOnly, Inter}
use Rattle.frame_headers.specs.declared.header.FrameParams.{FrameParams}
use Rattle.frame_headers.specs.declared.header.Header.{Header}

abbrev pub kind_name : FrameKind → List ℕ
kind_name Key = codes "key"
kind_name IntraOnly = codes "intra"
kind_name (Inter fields) = codes "inter"

-- a flag as a digit
abbrev pub flag_digit : Bool → ℕ
flag_digit true = 1
flag_digit false = 0

-- as `frame 0: key 352x288`
unfoldable pub size_text : ℕ → Header → List ℕ
size_text frame header =
    codes "frame " ++ decimal frame ++ codes ": " ++ kind_name header.kind ++ codes " " ++ decimal header.size.width ++ codes "x" ++ decimal header.size.height

-- as ` profile 0 depth 8`
unfoldable pub depth_text : Header → List ℕ
depth_text header = codes " profile " ++ decimal header.profile ++ codes " depth " ++ decimal (depth_bits header.color.depth)

-- two hexadecimal digits of a byte
abbrev pub two_hex : ℕ → List ℕ
two_hex n = radix_digits 16 false (n / 16) ++ radix_digits 16 false (n % 16)

abbrev pub line_feed : List ℕ
line_feed = 10 ∷ []

-- as ` ss 11 show 1 refresh ff`
unfoldable pub use_text : Header → List ℕ
use_text header =
    codes " ss " ++ decimal (flag_digit header.color.ss_x) ++ decimal (flag_digit header.color.ss_y) ++ codes " show " ++ decimal (flag_digit header.show_frame)
    ++ codes " refresh " ++ two_hex header.refresh

-- as ` q 32 level 7 tiles 2x1`
unfoldable pub params_text : FrameParams → List ℕ
params_text params =
    codes " q " ++ decimal params.quantizer.base ++ codes " level " ++ decimal params.loop_filter.level
    ++ codes " tiles " ++ decimal (2 ^ params.tiles.columns_log2) ++ codes "x" ++ decimal (2 ^ params.tiles.rows_log2)

-- as ` size 16`, to the end of the line
unfoldable pub bytes_text : ℕ → List ℕ
bytes_text bytes = codes " size " ++ decimal bytes ++ line_feed

unfoldable pub coded_line : ℕ → Header → ℕ → List ℕ
coded_line frame header bytes = size_text frame header ++ depth_text header ++ use_text header ++ params_text header.params ++ bytes_text bytes

-- as `frame 1: show 0 size 1`
unfoldable pub shown_line : ℕ → ℕ → ℕ → List ℕ
shown_line frame slot bytes = codes "frame " ++ decimal frame ++ codes ": show " ++ decimal slot ++ codes " size " ++ decimal bytes ++ line_feed
