use Rattle.std.proofs.Common.{◌≡◌, ◌<◌, ◌∙◌, ℕ, ap, arith, length, get_or, map}
use Rattle.std.specs.Prelude.{pos, slice_index_or}
use Rattle.std.proofs.lemmas.List.{length-map}
use Rattle.intra_predict.specs.Residue.{with_residue}
use Rattle.planes.specs.Planes.{plane_map}
use Rattle.block_rebuild.proofs.Sums.{line_added}
use Rattle.block_rebuild.proofs.residue.add_short.Goals as goal

pub returns-clause-map : goal.returns-clause-map
returns-clause-map g c = let a = c.args in let value = g.P.Sample.value in
    let written = c.copy_short-2.new.to in
    let each : (k : ℕ) → k < g.row.N → get_or (map value written) k 0 ≡ with_residue a.most (get_or (map value c.row_mut-line.result.now) k 0) (slice_index_or a.residue.now k (pos 0)) =
    λ k low. let here : k < length a.residue.now = omega (arith, low, c.requires.long) in
    c.copy_short-2.ensures k low
    ∙ (c.add_line.ensures k here
    ∙ ap (λ (s : ℕ). with_residue a.most s (slice_index_or a.residue.now k (pos 0))) (c.copy_short.ensures k low)) in
    c.row_mut-line.ensures.written (map value written) (length-map written value ∙ (c.copy_short-2.auto.to ∙ c.row_mut-line.ensures.long))
    ∙ line_added (plane_map a.samples.now) a.row a.column g.row.N a.most a.residue.now (map value c.row_mut-line.result.now) (map value written)
    c.row_mut-line.ensures.value each
