-- What is written of a compressed header as bytes (6.3, 9.2 of the standard).
use Rattle.std.specs.Prelude.{ℕ, List}
use Rattle.vp9_types.specs.declared.block.Modes.{Modes}
use Rattle.bool_encoder.specs.WrittenBools.{Puts}
use Rattle.bool_encoder.specs.Part.{NumberPart, Finishes, behind_marker}
use Rattle.bool_lists.specs.BoolLists.{HasPut}
use Rattle.frame_headers.specs.declared.header.Header.{Header}
use Rattle.prob_contexts.specs.ProbLists.{ContextLists}
use Rattle.compressed_header.specs.CompressedHeader.{compressed_header}
use Rattle.compressed_writer.specs.Spelling.{spelled_compressed}

-- the bytes of its bools, which lead its syntax, from the marker on, from the contexts before to those after and the modes
pub record IsWrittenHeader (header : Header) (before after : ContextLists) (modes : Modes) (bytes : List ℕ) : Type 0 where
  pub part : NumberPart
  pub put : Puts (compressed_header header before) behind_marker (after, modes) part
  pub spelled : HasPut behind_marker (spelled_compressed header before after modes) part
  pub ends : Finishes part bytes
