use Rattle.std.proofs.Common.{ℕ, List, map}
use Rattle.std.proofs.lemmas.List.{map-id}
use Rattle.vp9_types.specs.Maps.{rows_of}
use Rattle.planes.specs.Planes.{plane_map}
use Rattle.planes.proofs.PlaneLemmas.{with_block_small, rows_small}
use Rattle.bench.proofs.inter.blocks.fill.Goals as goal

pub returns-clause-small : goal.returns-clause-small
returns-clause-small c = let a = c.args in let drawn : List ℕ = map (λ (n : ℕ). n) c.draw.new.samples in
    rw c.put_block.ensures.map (with_block_small 255 (plane_map a.plane.now) 0 0 _ _ (rows_of 512 drawn)
    c.requires.small (rows_small 255 512 drawn (λ (k : ℕ). rw (map-id c.draw.new.samples) (c.draw.ensures k))))
