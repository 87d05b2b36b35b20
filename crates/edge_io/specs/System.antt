-- What the adapters of the system's readers and writers count.
use Rattle.std.specs.Prelude.{ℕ, Bool}
use Rattle.edge_io.specs.declared.system.StdSource.{StdSource}
use Rattle.edge_io.specs.declared.system.StdSink.{StdSink}
use Rattle.edge_io.specs.Memory.{fault_of}

abbrev pub reader_of : {R : Type 0} → StdSource R → R
reader_of source = source.reader

-- how many bytes a reader has given
abbrev pub reader_given : {R : Type 0} → StdSource R → ℕ
reader_given source = source.given

-- whether it has failed, and how often: once at most
abbrev pub reader_failed : {R : Type 0} → StdSource R → Bool
reader_failed source = source.failed

abbrev pub reader_faults : {R : Type 0} → StdSource R → ℕ
reader_faults source = fault_of source.failed

abbrev pub writer_of : {W : Type 0} → StdSink W → W
writer_of sink = sink.writer

abbrev pub writer_failed : {W : Type 0} → StdSink W → Bool
writer_failed sink = sink.failed

abbrev pub writer_faults : {W : Type 0} → StdSink W → ℕ
writer_faults sink = fault_of sink.failed
