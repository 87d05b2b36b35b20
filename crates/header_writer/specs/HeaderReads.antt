-- What is read of a header's bytes.
use Rattle.std.specs.Prelude.{◌≡◌, ℕ, ◌+◌, ◌<◌, nat_lt, List, ◌++◌, length, Result, Ok, Err, if◌then◌else◌}
use Rattle.vp9_types.specs.Bits.{bits_of, spelled}
use Rattle.vp9_types.specs.Reading.{read_bits}
use Rattle.vp9_types.specs.declared.rule.Rule.{Rule}
use Rattle.vp9_types.specs.declared.rule.Rule.TheVariants.{HeaderSizeLong}
use Rattle.frame_headers.specs.declared.header.FrameHead.{FrameHead}
use Rattle.frame_headers.specs.declared.header.FrameHead.TheVariants as head
use Rattle.frame_headers.specs.declared.header.Uncompressed.{Uncompressed}
use Rattle.frame_headers.specs.declared.header.Uncompressed.TheVariants as uncompressed
use Rattle.frame_headers.specs.declared.persist.Persist.{Persist}
use Rattle.frame_headers.specs.Fields.{past}
use Rattle.frame_headers.specs.Header.{uncompressed_header, head_of}

-- a header that ends at a place of a frame, with so many bytes behind it: the compressed header is the first of them
abbrev pub head_before : Uncompressed → ℕ → ℕ → Result FrameHead Rule
head_before (uncompressed.ShowExisting slot) at more = Ok (head.ShowExisting slot)
head_before (uncompressed.Coded header) at more =
    if nat_lt more header.params.compressed_size then Err HeaderSizeLong
    else Ok (head.Coded header (record { from = at; to = at + header.params.compressed_size }))

-- The bytes are read as the header, whatever stands behind them, and what is left of them are fewer than eight 0 bits. So
-- a frame that begins with them has this header.
pub record HoldsHeader (before : Persist) (x : Uncompressed) (bytes : List ℕ) : Type 0 where
  pub read : (more : List ℕ) → (k : ℕ) × (k < 8) × (read_bits past (uncompressed_header before) (bits_of (bytes ++ more)) ≡ Ok (x, spelled k 0 ++ bits_of more))
  pub head : (more : List ℕ) → head_of before (bytes ++ more) ≡ head_before x (length bytes) (length more)
