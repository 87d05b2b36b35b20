use Rattle.std.proofs.Common.{sym, replicate}
use Rattle.vp9_types.specs.Maps.{rows_of}
use Rattle.planes.proofs.RowLemmas.{no_rows}
use Rattle.line_filter.proofs.SquareLemmas.{stored, all_stored}
use Rattle.line_filter.proofs.kept.flat_bytes.Goals as goal

pub returns : goal.returns
returns c = λ f so.
    let m = rows_of 8 (replicate 64 0) in
    let s0 = stored m m _ 0 _ f (sym (no_rows m 0 0 8 f)) c.put_bytes.ensures.map so.r0 in
    let s1 = stored m _ _ 1 _ f s0 c.put_bytes-2.ensures.map so.r1 in
    let s2 = stored m _ _ 2 _ f s1 c.put_bytes-3.ensures.map so.r2 in
    let s3 = stored m _ _ 3 _ f s2 c.put_bytes-4.ensures.map so.r3 in
    let s4 = stored m _ _ 4 _ f s3 c.put_bytes-5.ensures.map so.r4 in
    let s5 = stored m _ _ 5 _ f s4 c.put_bytes-6.ensures.map so.r5 in
    let s6 = stored m _ _ 6 _ f s5 c.put_bytes-7.ensures.map so.r6 in
    all_stored _ m f (stored m _ _ 7 _ f s6 c.put_bytes-8.ensures.map so.r7)
