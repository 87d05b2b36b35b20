use Rattle.std.proofs.Common.{◌≤◌, arith}
use Rattle.inter_predict.proofs.Blocks.{rounded_small}
use Rattle.inter_predict.proofs.scaled.filtered_eight.Goals as goal

pub narrow-requires : goal.narrow-requires
narrow-requires g c = let f = c.args.filter.now in
    let small : c.rounded.result ≤ f.most = rw c.rounded.ensures (rounded_small f.most _) in
    omega (arith, small, g.met.P.FilterSample.are_kept f.most c.requires.filter.most)
