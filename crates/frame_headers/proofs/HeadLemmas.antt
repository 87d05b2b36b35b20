-- From the bits of a header to its place in the frame.
use Rattle.std.proofs.Common.{◌≡◌, ℕ, ◌+◌, ◌-◌, ◌/◌, ◌<◌, ◌≤◌, List, length, ap, arith, refl}
use Rattle.std.specs.Prelude.{Ok, Err}
use Rattle.std.proofs.lemmas.Bool.{lt-ltb, le-ltb}
use Rattle.vp9_types.specs.declared.rule.Rule.{Rule}
use Rattle.vp9_types.specs.declared.rule.Rule.TheVariants.{HeaderSizeLong}
use Rattle.vp9_types.specs.Bits.{bits_of}
use Rattle.vp9_types.specs.Reading.{read_bits}
use Rattle.vp9_types.proofs.EntryLaws.{rest_within}
use Rattle.frame_headers.specs.declared.header.FrameHead.TheVariants as head
use Rattle.frame_headers.specs.declared.header.Header.{Header}
use Rattle.frame_headers.specs.declared.header.Uncompressed.{Uncompressed}
use Rattle.frame_headers.specs.declared.header.Uncompressed.TheVariants as uncompressed
use Rattle.frame_headers.specs.declared.persist.Persist.{Persist}
use Rattle.frame_headers.specs.Fields.{past}
use Rattle.frame_headers.specs.Header.{uncompressed_header, placed, placed_if_read, head_of}
use Rattle.frame_headers.proofs.BitLemmas.{length-bits_of}

pub head_read : (before : Persist) (frame : List ℕ) (x : Uncompressed) (rest : List ℕ)
    → read_bits past (uncompressed_header before) (bits_of frame) ≡ Ok (x, rest) → head_of before frame ≡ placed (length frame) x rest
unfolding head_of
head_read before frame x rest h = ap (placed_if_read (length frame)) h

pub head_failed : (before : Persist) (frame : List ℕ) (fault : Rule)
    → read_bits past (uncompressed_header before) (bits_of frame) ≡ Err fault → head_of before frame ≡ Err fault
unfolding head_of
head_failed before frame fault h = ap (placed_if_read (length frame)) h

pub left_within : (before : Persist) (frame : List ℕ) (x : Uncompressed) (rest : List ℕ)
    → read_bits past (uncompressed_header before) (bits_of frame) ≡ Ok (x, rest) → length rest / 8 ≤ length frame
left_within before frame x rest h =
    let less = rest_within past (uncompressed_header before) (bits_of frame) x rest h in
    let long = length-bits_of frame in
    omega (arith, less, long)

pub placed_shown : (bytes slot : ℕ) (rest : List ℕ) → placed bytes (uncompressed.ShowExisting slot) rest ≡ Ok (head.ShowExisting slot)
unfolding placed
placed_shown bytes slot rest = refl

pub placed_long : (bytes : ℕ) (header : Header) (rest : List ℕ) → length rest / 8 < header.params.compressed_size
    → placed bytes (uncompressed.Coded header) rest ≡ Err (HeaderSizeLong)
unfolding placed
placed_long bytes header rest h = rw (lt-ltb (length rest / 8) header.params.compressed_size h) refl

pub placed_coded : (bytes : ℕ) (header : Header) (rest : List ℕ) → header.params.compressed_size ≤ length rest / 8
    → placed bytes (uncompressed.Coded header) rest
    ≡ Ok (head.Coded header (record { from = bytes - length rest / 8; to = bytes - length rest / 8 + header.params.compressed_size }))
unfolding placed
placed_coded bytes header rest h = rw (le-ltb (length rest / 8) header.params.compressed_size h) refl
