use Rattle.std.proofs.Common.{ap, sym, ◌∙◌}
use Rattle.vp9_types.specs.Bits.{bits_of}
use Rattle.vp9_types.specs.Reading.{read_bits}
use Rattle.vp9_types.proofs.EntryLaws.{reads_entries, entries_read, one_reading, fails_after}
use Rattle.frame_headers.specs.Fields.{past}
use Rattle.frame_headers.specs.Header.{uncompressed_header}
use Rattle.frame_headers.proofs.BitLemmas.{are_bits}
use Rattle.frame_headers.proofs.laws.header_is_its_entries.Goals as goal

pub returns : goal.returns
returns c = record {
  spelled = λ before frame x rest h.
      let found = reads_entries past (uncompressed_header before) (bits_of frame) x rest (are_bits frame) h in
      (found.0, record { read = found.1; rest = rest; front = found.2 });
  read = λ before frame es x h.
      (h.rest, ap (read_bits past (uncompressed_header before)) h.front ∙ entries_read past (uncompressed_header before) es x h.rest h.read);
  once = λ before frame es fs x y h g.
      one_reading past (uncompressed_header before) es fs x y h.rest g.rest h.read g.read (sym h.front ∙ g.front);
  fault = λ before frame rule h. fails_after past (uncompressed_header before) (bits_of frame) rule (are_bits frame) h;
}
