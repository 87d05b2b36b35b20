use Rattle.std.proofs.Common.{ℕ, ◌*◌, ◌^◌, ◌<◌, ◌∙◌, sym, refl, arith}
use Rattle.std.specs.Prelude.{nat_le}
use Rattle.std.proofs.lemmas.Bool.{lt-leb}
use Rattle.frame_headers.specs.Tiles.{min_log2}
use Rattle.frame_headers.proofs.TileLemmas.{least_later, shift_whole}
use Rattle.header_checks.proofs.tiles.least_log2.Goals as goal

pub loop-n-init : goal.loop-n-init
unfolding min_log2
loop-n-init c = refl

pub loop-n-preserved : goal.loop-n-preserved
loop-n-preserved c =
    let test : ℕ → _ = λ k. nat_le c.args.columns (64 * 2 ^ k) in
    let low : c.loop-n.n < 8 = c.loop-n-test.true in
    let whole = shift_whole c.loop-n.n low in
    let wider : 64 * 2 ^ c.loop-n.n < c.args.columns = omega (arith, whole, c.if-columns-n.false) in
    sym (least_later test 8 c.loop-n.n low (lt-leb c.args.columns (64 * 2 ^ c.loop-n.n) wider)) ∙ c.loop-n.invariant
