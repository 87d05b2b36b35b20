use Rattle.std.proofs.Common.{refl}
use Rattle.coef_tokens.specs.TokenKinds.{block_tables}
use Rattle.residue_syntax.specs.BlocksInPlanes.{token_kind}
use Rattle.drawn_symbols.proofs.in_plane.draw_levels_at.Goals as goal

pub returns-clause-can : goal.returns-clause-can
unfolding block_tables
returns-clause-can c = λ contexts.
    c.draw_levels.ensures.can (block_tables contexts (token_kind c.args.b.now c.args.at.row c.args.at.column))
    (rw (c.scan.ensures.table, c.token_kind-kind.ensures) refl)
