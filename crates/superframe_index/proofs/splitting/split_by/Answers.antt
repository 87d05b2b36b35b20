use Rattle.std.proofs.Common.{◌≡◌, ◌+◌, ◌≤◌, take, ap, ◌∙◌, arith}
use Rattle.byteorder.specs.Endian.{little_number}
use Rattle.superframe_index.proofs.Steps.{enough_more, starts, takes_none, takes_some, takes_all, breaks}
use Rattle.superframe_index.proofs.splitting.split_by.Goals as goal
use Rattle.superframe_index.proofs.splitting.split_by.Goals.{then-size-gt0, else-size-gt0}

pub split_at-requires : goal.split_at-requires
split_at-requires c = omega (arith, enough_more c.args.index.frames c.args.index.size_bytes c.loop-done.done c.loop-done-test.true, c.loop-done.invariant.enough)

pub loop-done-init : goal.loop-done-init
loop-done-init c = rw c.new-parts.ensures (starts c.args.payload.now c.args.index c.requires)

pub loop-done-preserved : goal.loop-done-preserved
loop-done-preserved c =
    let size : c.read_uint-size.result ≡ little_number c.args.index.size_bytes (take c.args.index.size_bytes c.loop-done.sizes.now) =
    c.read_uint-size.ensures ∙ ap (little_number c.args.index.size_bytes) c.split_at.ensures.front in
    let fits : c.loop-done.at + c.read_uint-size.result ≤ c.args.index.from = omega (arith, c.loop-done.invariant.inside, c.if-index-at.false) in
    rw c.split_at.ensures.back (elim c.if-size-gt0.branch [
      | then-size-gt0 w ↦ rw (w.at-is, w.parts-is, w.push.ensures.items)
          (takes_some c.loop-done.invariant c.read_uint-size.result size c.loop-done-test.true w.if-size-gt0.true fits)
      | else-size-gt0 w ↦ rw (w.at-is, w.parts-is)
          (takes_none c.loop-done.invariant c.read_uint-size.result size c.loop-done-test.true (omega (arith, w.if-size-gt0.false)))
    ])

pub returns-then-index-at : goal.returns-then-index-at
returns-then-index-at c =
    let size : c.read_uint-size.result ≡ little_number c.args.index.size_bytes (take c.args.index.size_bytes c.loop-done.sizes.now) =
    c.read_uint-size.ensures ∙ ap (little_number c.args.index.size_bytes) c.split_at.ensures.front in
    breaks c.loop-done.invariant c.read_uint-size.result size c.loop-done-test.true (omega (arith, c.if-index-at.true))

pub returns : goal.returns
returns c = takes_all c.loop-done.invariant c.loop-done-test.false
