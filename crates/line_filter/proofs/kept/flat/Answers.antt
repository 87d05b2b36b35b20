use Rattle.std.proofs.Common.{sym, replicate}
use Rattle.vp9_types.specs.Maps.{rows_of}
use Rattle.planes.proofs.RowLemmas.{no_rows}
use Rattle.line_filter.proofs.SquareLemmas.{stored, all_stored}
use Rattle.line_filter.proofs.kept.flat.Goals as goal

pub returns : goal.returns
returns c = λ f so.
    let m = rows_of 8 (replicate 64 0) in
    let s0 = stored m m _ 0 _ f (sym (no_rows m 0 0 8 f)) c.put_row.ensures.map (λ j low. rw c.stored.ensures (so.r0 j low)) in
    let s1 = stored m _ _ 1 _ f s0 c.put_row-2.ensures.map (λ j low. rw c.stored-2.ensures (so.r1 j low)) in
    let s2 = stored m _ _ 2 _ f s1 c.put_row-3.ensures.map (λ j low. rw c.stored-3.ensures (so.r2 j low)) in
    let s3 = stored m _ _ 3 _ f s2 c.put_row-4.ensures.map (λ j low. rw c.stored-4.ensures (so.r3 j low)) in
    let s4 = stored m _ _ 4 _ f s3 c.put_row-5.ensures.map (λ j low. rw c.stored-5.ensures (so.r4 j low)) in
    let s5 = stored m _ _ 5 _ f s4 c.put_row-6.ensures.map (λ j low. rw c.stored-6.ensures (so.r5 j low)) in
    let s6 = stored m _ _ 6 _ f s5 c.put_row-7.ensures.map (λ j low. rw c.stored-7.ensures (so.r6 j low)) in
    all_stored _ m f (stored m _ _ 7 _ f s6 c.put_row-8.ensures.map (λ j low. rw c.stored-8.ensures (so.r7 j low)))
