use Rattle.std.proofs.Common.{◌≡◌, ◌∙◌, sym, arith}
use Rattle.std.specs.Simd.Lanes.{chunk}
use Rattle.std.proofs.lemmas.List.{take_all}
use Rattle.std.proofs.lemmas.Simd.{put_chunk_whole}
use Rattle.intra_predict.proofs.lines.copy_lanes.Goals as goal

pub returns : goal.returns
returns g c = let a = c.args in
    let all : chunk 0 g.row.N a.from.now ≡ a.from.now = take_all g.row.N a.from.now (omega arith) in
    rw all (put_chunk_whole a.to.now a.from.now (c.requires.room ∙ sym c.requires.enough))
