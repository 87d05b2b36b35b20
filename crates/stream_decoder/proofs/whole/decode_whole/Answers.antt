use Rattle.std.proofs.Common.{◌≡◌, ◌≤◌, ℕ, List, length, rules, subst}
use Rattle.std.specs.Prelude.{Err, Result, Vec}
use Rattle.std.specs.declared.alloc.Global.{Global}
use Rattle.edge_io.specs.SourceReading.{CountsReadFaults, ReadsAll}
use Rattle.edge_io.specs.declared.read.ReadError.{ReadError}
use Rattle.edge_io.specs.declared.read.ReadError.TheVariants as refused
use Rattle.job_decoder.specs.seq_decoder.Outcomes.{Decodes}
use Rattle.job_decoder.specs.seq_decoder.Outputs.{output_of}
use Rattle.stream_decoder.proofs.Wholes.{IsBegun, decodes_read, fails_read, left_in, wants_memory}
use Rattle.stream_decoder.proofs.whole.decode_whole.Goals as goal

pub returns-in-Err-Failed-clause-decodes : goal.returns-in-Err-Failed-clause-decodes
returns-in-Err-Failed-clause-decodes g c =
    let rest = g.S.Source.rest in
    let count = g.S.Source.faults in
    let w = c.new-whole.result in
    let p = c.read_all-read.new.source in
    let looked = c.args.looked in
    let failed : c.read_all-read.result ≡ Err refused.Failed = search rules in
    let reads = subst (λ (r : Result (Vec ℕ Global) ReadError). ReadsAll (left_in rest w) (left_in rest p) r) failed c.read_all-read.ensures.bytes in
    let counts = subst (λ (r : Result (Vec ℕ Global) ReadError). CountsReadFaults (count w.source) (count p.source) r) failed c.read_all-read.ensures.faults in
    let begun : IsBegun w looked.front looked.source = record { front_is = c.new-whole.ensures.front; left_is = c.new-whole.ensures.left; source_is = c.new-whole.ensures.source } in
    let long : 4 ≤ length looked.front = search rules in
    fails_read c.args.format rest count w p looked.front looked.source c.into_source-source.result (g.K.Sink.taken c.args.sink) (g.K.Sink.faults c.args.sink) begun c.into_source-source.ensures long c.requires.webm
    counts reads

pub returns-in-Err-OutOfMemory-clause-decodes : goal.returns-in-Err-OutOfMemory-clause-decodes
returns-in-Err-OutOfMemory-clause-decodes g c =
    let count = g.S.Source.faults in
    let w = c.new-whole.result in
    let p = c.read_all-read.new.source in
    let looked = c.args.looked in
    let starved : c.read_all-read.result ≡ Err refused.OutOfMemory = search rules in
    let counts = subst (λ (r : Result (Vec ℕ Global) ReadError). CountsReadFaults (count w.source) (count p.source) r) starved c.read_all-read.ensures.faults in
    let begun : IsBegun w looked.front looked.source = record { front_is = c.new-whole.ensures.front; left_is = c.new-whole.ensures.left; source_is = c.new-whole.ensures.source } in
    wants_memory c.args.format g.S.Source.rest count w p looked.front looked.source c.into_source-source.result (g.K.Sink.taken c.args.sink) (g.K.Sink.faults c.args.sink) begun c.into_source-source.ensures counts

pub returns-clause-decodes : goal.returns-clause-decodes
returns-clause-decodes g c =
    let rest = g.S.Source.rest in
    let count = g.S.Source.faults in
    let taken = g.K.Sink.taken in
    let faults = g.K.Sink.faults in
    let w = c.new-whole.result in
    let p = c.read_all-read.new.source in
    let looked = c.args.looked in
    let ran = c.decode_by_jobs-outcome.result in
    let begun : IsBegun w looked.front looked.source = record { front_is = c.new-whole.ensures.front; left_is = c.new-whole.ensures.left; source_is = c.new-whole.ensures.source } in
    let done = subst (λ (bytes : List ℕ). Decodes (output_of c.args.format bytes) (taken c.args.sink) (taken ran.sink) (faults c.args.sink) (faults ran.sink) ran.outcome) c.as_slice.ensures.value
    c.decode_by_jobs-outcome.ensures.decodes in
    decodes_read c.args.format rest count w p looked.front looked.source c.into_source-source.result (taken c.args.sink) (taken ran.sink) (faults c.args.sink) (faults ran.sink) ran.outcome c.in-Ok.bytes.items begun
    c.into_source-source.ensures c.in-Ok.ensures.bytes c.in-Ok.ensures.faults done
