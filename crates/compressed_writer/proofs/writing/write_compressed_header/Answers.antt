use Rattle.std.proofs.lemmas.Result.{IfOk-weaker}
use Rattle.prob_contexts.specs.ProbLists.{lists_of}
use Rattle.compressed_writer.proofs.Forwards.{forwarded, some_bytes}
use Rattle.compressed_writer.proofs.writing.write_compressed_header.Goals as goal

pub returns-clause-read : goal.returns-clause-read
returns-clause-read c =
    IfOk-weaker c.finish.result _ _
    (λ bytes f.
    forwarded c.args.header.now (lists_of c.args.before.now) (lists_of c.args.after.now) c.args.modes c.put_compressed.new.encoder bytes.items
    (rw c.new-encoder.ensures at c.in_ok-put_compressed.ensures.puts) f)
    c.finish.ensures

pub returns-clause-some : goal.returns-clause-some
returns-clause-some c = IfOk-weaker c.finish.result _ _ (λ bytes f. some_bytes c.put_compressed.new.encoder bytes.items f) c.finish.ensures
