-- A header that was put is read.
use Rattle.std.proofs.Common.{◌≡◌, ◌≤◌, ◌∙◌, ℕ, List, length, ap, arith}
use Rattle.std.specs.Prelude.{Ok}
use Rattle.vp9_types.specs.declared.block.Modes.{Modes}
use Rattle.frame_headers.specs.declared.header.Header.{Header}
use Rattle.bool_encoder.specs.Part.{NumberPart, Finishes, behind_marker}
use Rattle.bool_encoder.specs.WrittenBools.{Puts}
use Rattle.bool_encoder.proofs.Starts.{written_is_read_from}
use Rattle.prob_contexts.specs.ProbLists.{ContextLists}
use Rattle.compressed_header.specs.CompressedHeader.{compressed_header, forward, read_from, settled}

pub forwarded : (header : Header) (before after : ContextLists) (modes : Modes) (new : NumberPart) (bytes : List ℕ)
    → Puts (compressed_header header before) behind_marker (after, modes) new → Finishes new bytes → forward header before bytes ≡ Ok (after, modes)
unfolding forward
forwarded header before after modes new bytes h f =
    let s = compressed_header header before in
    let back = written_is_read_from s (after, modes) new bytes h f in
    ap (λ w. read_from s w) back.starts ∙ ap settled back.read

pub some_bytes : (new : NumberPart) (bytes : List ℕ) → Finishes new bytes → 1 ≤ length bytes
some_bytes new bytes f =
    let size = f.size in
    omega (arith, size)
