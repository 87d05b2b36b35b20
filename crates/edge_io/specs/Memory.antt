-- What sources and sinks in memory hold.
use Rattle.std.specs.Prelude.{◌≡◌, ℕ, Bool, true, false, List, drop}
use Rattle.edge_io.specs.declared.calls.Calls.{Calls}
use Rattle.edge_io.specs.declared.memory.MemSource.{MemSource}
use Rattle.edge_io.specs.declared.memory.MemSink.{MemSink}

-- no call was made, and these are to fail
pub record IsFresh (calls : Calls) (fails : List ℕ) : Type 0 where
  pub fails_are : calls.fails.items ≡ fails
  pub none_made : calls.made ≡ 0
  pub none_failed : calls.failed ≡ 0

-- a call that fails is one fault more
abbrev pub fault_of : Bool → ℕ
fault_of true = 1
fault_of false = 0

-- the bytes that a source has left, and how many it has given
abbrev pub source_left : MemSource → List ℕ
source_left source = drop source.at source.bytes.items

abbrev pub source_given : MemSource → ℕ
source_given source = source.at

-- the numbers of its calls that are to fail, from 1
abbrev pub source_fails : MemSource → List ℕ
source_fails source = source.calls.fails.items

-- how many calls were made, and how many of them failed. The first count stands still at its type's end.
abbrev pub source_calls : MemSource → ℕ
source_calls source = source.calls.made

abbrev pub source_faults : MemSource → ℕ
source_faults source = source.calls.failed

-- the same of a sink, and what it has taken
abbrev pub sink_bytes : MemSink → List ℕ
sink_bytes sink = sink.bytes.items

abbrev pub sink_fails : MemSink → List ℕ
sink_fails sink = sink.calls.fails.items

abbrev pub sink_calls : MemSink → ℕ
sink_calls sink = sink.calls.made

abbrev pub sink_faults : MemSink → ℕ
sink_faults sink = sink.calls.failed
