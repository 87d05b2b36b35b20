use Rattle.std.proofs.Common.{◌≤◌, ◌<◌, ◌/◌, ◌∙◌, ap, sym, length, arith}
use Rattle.std.proofs.lemmas.Result.{err_from_is_err_and}
use Rattle.vp9_types.specs.Reading.{read_bits}
use Rattle.frame_headers.specs.Fields.{past}
use Rattle.frame_headers.specs.Header.{uncompressed_header, placed}
use Rattle.frame_headers.proofs.HeadLemmas.{head_read, head_failed, left_within, placed_shown, placed_long, placed_coded}
use Rattle.frame_headers.proofs.reading.read.Goals as goal

pub returns-in_err-uncompressed-clause-exact : goal.returns-in_err-uncompressed-clause-exact
returns-in_err-uncompressed-clause-exact c =
    let p = err_from_is_err_and c.from_residual.result c.from_residual.ensures.1 in
    rw (p.1, p.2) (sym (head_failed c.args.before.now c.args.frame.now c.in_err-uncompressed.field-0.0
    (ap (read_bits past (uncompressed_header c.args.before.now)) (sym c.new-bits.ensures) ∙ c.in_err-uncompressed.ensures.reads)))

pub returns-then-left-size-clause-exact : goal.returns-then-left-size-clause-exact
returns-then-left-size-clause-exact c =
    let read = ap (read_bits past (uncompressed_header c.args.before.now)) (sym c.new-bits.ensures) ∙ c.in_ok-uncompressed.ensures.reads in
    let short : length c.read_uncompressed.new.bits / 8 < c.in-Coded.header.params.compressed_size = omega (arith, c.bytes_left-left.ensures, c.from-size.ensures, c.if-left-size.true) in
    sym (head_read c.args.before.now c.args.frame.now c.in_ok-uncompressed.uncompressed c.read_uncompressed.new.bits read
    ∙ ap (λ u. placed (length c.args.frame.now) u c.read_uncompressed.new.bits) c.in-Coded.is
    ∙ placed_long (length c.args.frame.now) c.in-Coded.header c.read_uncompressed.new.bits short)

pub overflow_sub-from : goal.overflow_sub-from
overflow_sub-from c =
    let read = ap (read_bits past (uncompressed_header c.args.before.now)) (sym c.new-bits.ensures) ∙ c.in_ok-uncompressed.ensures.reads in
    rw c.bytes_left-left.ensures (left_within c.args.before.now c.args.frame.now c.in_ok-uncompressed.uncompressed c.read_uncompressed.new.bits read)

pub returns-in-ShowExisting-clause-exact : goal.returns-in-ShowExisting-clause-exact
returns-in-ShowExisting-clause-exact c =
    let read = ap (read_bits past (uncompressed_header c.args.before.now)) (sym c.new-bits.ensures) ∙ c.in_ok-uncompressed.ensures.reads in
    sym (head_read c.args.before.now c.args.frame.now c.in_ok-uncompressed.uncompressed c.read_uncompressed.new.bits read
    ∙ ap (λ u. placed (length c.args.frame.now) u c.read_uncompressed.new.bits) c.in-ShowExisting.is
    ∙ placed_shown (length c.args.frame.now) c.in-ShowExisting.slot c.read_uncompressed.new.bits)

pub returns-else-left-size-clause-exact : goal.returns-else-left-size-clause-exact
returns-else-left-size-clause-exact c =
    let read = ap (read_bits past (uncompressed_header c.args.before.now)) (sym c.new-bits.ensures) ∙ c.in_ok-uncompressed.ensures.reads in
    let fits : c.in-Coded.header.params.compressed_size ≤ length c.read_uncompressed.new.bits / 8 = omega (arith, c.bytes_left-left.ensures, c.from-size.ensures, c.if-left-size.false) in
    let is = head_read c.args.before.now c.args.frame.now c.in_ok-uncompressed.uncompressed c.read_uncompressed.new.bits read
    ∙ ap (λ u. placed (length c.args.frame.now) u c.read_uncompressed.new.bits) c.in-Coded.is
    ∙ placed_coded (length c.args.frame.now) c.in-Coded.header c.read_uncompressed.new.bits fits in
    rw (c.bytes_left-left.ensures, c.from-size.ensures) (sym is)

pub returns-else-left-size-clause-placed : goal.returns-else-left-size-clause-placed
returns-else-left-size-clause-placed c =
    let read = ap (read_bits past (uncompressed_header c.args.before.now)) (sym c.new-bits.ensures) ∙ c.in_ok-uncompressed.ensures.reads in
    let within = left_within c.args.before.now c.args.frame.now c.in_ok-uncompressed.uncompressed c.read_uncompressed.new.bits read in
    (omega arith, omega (arith, within, c.bytes_left-left.ensures, c.if-left-size.false))
