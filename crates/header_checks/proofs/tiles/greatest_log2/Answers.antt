use Rattle.std.proofs.Common.{ℕ, ◌+◌, ◌/◌, ◌^◌, ◌∙◌, sym, refl}
use Rattle.std.specs.Prelude.{nat_lt}
use Rattle.std.proofs.lemmas.Bool.{le-ltb}
use Rattle.frame_headers.specs.Tiles.{max_log2}
use Rattle.frame_headers.proofs.TileLemmas.{least_later}
use Rattle.header_checks.proofs.tiles.greatest_log2.Goals as goal

pub loop-n-init : goal.loop-n-init
unfolding max_log2
loop-n-init c = refl

pub loop-n-preserved : goal.loop-n-preserved
loop-n-preserved c =
    let test : ℕ → _ = λ k. nat_lt (c.args.columns / 2 ^ (k + 1)) 4 in
    sym (least_later test 8 c.loop-n.n c.loop-n-test.true (le-ltb (c.args.columns / 2 ^ (c.loop-n.n + 1)) 4 c.if-columns-n-lt4.false)) ∙ c.loop-n.invariant
