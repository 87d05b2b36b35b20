use Rattle.std.proofs.Common.{arith, ◌∙◌, sym, ℕ}
use Rattle.std.proofs.lemmas.List.{length-replicate}
use Rattle.coef_tokens.proofs.Turns.{zeros_at}
use Rattle.coef_tokens.proofs.block.read_by.Goals as goal

pub read_places-requires : goal.read_places-requires
read_places-requires g c =
    let zero : ℕ = 0 in
    let n = g.row.PLACES in
    let size = length-replicate n zero in
    (omega arith, (c.requires.first, (size ∙ c.requires.places, (c.requires.long ∙ sym size, (zeros_at n, c.requires.clear)))))
