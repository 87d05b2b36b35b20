-- A header that was put is read from its bytes.
use Rattle.std.proofs.Common.{◌≡◌, ℕ, ◌+◌, ◌-◌, ◌/◌, List, [], ◌++◌, length, refl, ap, ◌∙◌, subst, arith, append_assoc}
use Rattle.std.specs.Prelude.{Ok}
use Rattle.std.proofs.lemmas.List.{length-append}
use Rattle.vp9_types.specs.Bits.{bits_of, spelled}
use Rattle.vp9_types.specs.Reading.{read_bits}
use Rattle.vp9_types.proofs.Spells.{length-spelled}
use Rattle.frame_headers.specs.declared.header.Uncompressed.{Uncompressed}
use Rattle.frame_headers.specs.declared.header.Uncompressed.TheVariants as uncompressed
use Rattle.frame_headers.specs.declared.persist.Persist.{Persist}
use Rattle.frame_headers.specs.Fields.{past}
use Rattle.frame_headers.specs.Header.{uncompressed_header, placed}
use Rattle.frame_headers.proofs.BitLemmas.{length-bits_of}
use Rattle.frame_headers.proofs.HeadLemmas.{head_read}
use Rattle.header_writer.specs.Code.{HasPut}
use Rattle.header_writer.specs.WrittenFields.{Puts, IsPadded}
use Rattle.header_writer.specs.declared.choices.Choices.{Choices}
use Rattle.header_writer.specs.Spelling.{IsSpelled, spelled_header}
use Rattle.header_writer.specs.HeaderReads.{HoldsHeader, head_before}
use Rattle.header_writer.proofs.FieldLaws.{fields_read}
use Rattle.header_writer.proofs.BitsPut.{bits_append}

header_read : (before : Persist) (x : Uncompressed) (new bytes more : List ℕ) → Puts (uncompressed_header before) [] x new → (padded : IsPadded new bytes)
    → read_bits past (uncompressed_header before) (bits_of (bytes ++ more)) ≡ Ok (x, spelled padded.0 0 ++ bits_of more)
header_read before x new bytes more h padded =
    let s = uncompressed_header before in
    let found = fields_read s [] new x (spelled padded.0 0 ++ bits_of more) h in
    let whole : bits_of (bytes ++ more) ≡ found.0 ++ (spelled padded.0 0 ++ bits_of more) =
    bits_append bytes more ∙ ap (λ bits. bits ++ bits_of more) (padded.2 ∙ ap (λ bits. bits ++ spelled padded.0 0) found.1)
    ∙ append_assoc found.0 (spelled padded.0 0) (bits_of more) in
    ap (λ bits. read_bits past s bits) whole ∙ found.2

-- the compressed header starts where the bytes end
placed_behind : (x : Uncompressed) (at more frame : ℕ) (rest : List ℕ) → length rest / 8 ≡ more → frame ≡ at + more → placed frame x rest ≡ head_before x at more
unfolding placed
placed_behind (uncompressed.ShowExisting slot) at more frame rest left long = refl
placed_behind (uncompressed.Coded header) at more frame rest left long =
    let back : at + more - more ≡ at = omega arith in
    rw (left, long, back) refl

pub holds_header : (before : Persist) (x : Uncompressed) (new bytes : List ℕ) → Puts (uncompressed_header before) [] x new → IsPadded new bytes → HoldsHeader before x bytes
holds_header before x new bytes h padded = record {
  read = λ more. (padded.0, padded.1, header_read before x new bytes more h padded);
  head = λ more.
      let rest = spelled padded.0 0 ++ bits_of more in
      let few = padded.1 in
      let zeros = length-spelled padded.0 0 in
      let others = length-bits_of more in
      let all = length-append (spelled padded.0 0) (bits_of more) in
      let left : length rest / 8 ≡ length more = omega (arith, few, zeros, others, all) in
      head_read before (bytes ++ more) x rest (header_read before x new bytes more h padded)
      ∙ placed_behind x (length bytes) (length more) (length (bytes ++ more)) rest left (length-append bytes more);
}

pub is_spelled : (before : Persist) (choices : Choices) (x : Uncompressed) (new bytes : List ℕ) → HasPut [] (spelled_header before choices x) new → IsPadded new bytes → IsSpelled before choices x bytes
unfolding HasPut IsSpelled
is_spelled before choices x new bytes h padded = subst (λ bits. IsPadded bits bytes) h padded
