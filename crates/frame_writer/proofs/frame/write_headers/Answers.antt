use Rattle.std.proofs.Common.{◌≤◌, ◌^◌, length, subst, arith}
use Rattle.prob_contexts.specs.ProbLists.{lists_of}
use Rattle.bool_lists.proofs.Ways.{bytes_are}
use Rattle.compressed_writer.specs.Spelling.{spelled_compressed}
use Rattle.frame_writer.proofs.frame.write_headers.Goals as goal

pub returns-then-len : goal.returns-then-len
returns-then-len c =
    let frame = c.args.frame.now in
    let bytes = c.in_ok-compressed.compressed.items in
    let w = c.in_ok-compressed.ensures.written in
    let size = bytes_are (spelled_compressed frame.header (lists_of c.args.before.now) (lists_of frame.contexts) frame.modes) w.part bytes w.spelled w.ends in
    let over = c.if-len.true in
    let is = c.len.ensures in
    let long : 2 ^ 16 ≤ length bytes = omega (arith, over, is) in
    subst (λ n. 2 ^ 16 ≤ n) size long
