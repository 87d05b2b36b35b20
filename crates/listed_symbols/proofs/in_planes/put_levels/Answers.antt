use Rattle.std.proofs.Common.{refl}
use Rattle.coef_tokens.specs.TokenKinds.{block_tables}
use Rattle.listed_symbols.proofs.Placed.{levels_can}
use Rattle.listed_symbols.proofs.in_planes.put_levels.Goals as goal

pub returns-clause-can : goal.returns-clause-can
unfolding block_tables
returns-clause-can c = λ contexts.
    let table = rw c.token_kind-kind.ensures at c.scan.ensures.table in
    let long = rw (table, c.token_kind-kind.ensures) at c.scan.ensures.count in
    let within = rw (table, c.token_kind-kind.ensures) at c.scan.ensures.within in
    levels_can _ _ _ _ _ refl long within c.requires.can refl
