use Rattle.std.proofs.Common.{ap}
use Rattle.prob_contexts.specs.ProbLists.{lists_of}
use Rattle.coef_tokens.specs.TokenKinds.{block_tables}
use Rattle.coef_tokens.specs.declared.tables.TokenKind.{TokenKind}
use Rattle.residue_syntax.specs.BlocksInPlanes.{token_kind}
use Rattle.residue_syntax.specs.Residues.{first_context}
use Rattle.level_lists.proofs.PlaceWays.{kinds_way}
use Rattle.residue_writer.specs.ResidueLists.{spelled_at}
use Rattle.residue_writer.proofs.ResiduePuts.{residue_put}
use Rattle.residue_writer.proofs.transform_blocks.put_residue.Goals as goal

pub residue_said-requires-clause-coded : goal.residue_said-requires-clause-coded
unfolding block_tables
residue_said-requires-clause-coded c = c.requires.can.coded

pub returns-clause-puts : goal.returns-clause-puts
returns-clause-puts c =
    let a = c.args in
    residue_put (lists_of a.contexts.now) a.b.now a.at.row a.at.column a.coded.now.count a.coded.now.levels.now a.sides.now _ _ c.requires.long
    (rw (c.new-tables.ensures.are, c.token_kind-kind.ensures, c.first_context-first.ensures.value) at c.in_ok-put_tokens.ensures)

pub returns-clause-tells : goal.returns-clause-tells
returns-clause-tells c = c.residue_said.ensures c.args.at.row c.args.at.column (ap (λ (k : TokenKind). k.kind) c.token_kind-kind.ensures)

pub returns-clause-spells : goal.returns-clause-spells
unfolding spelled_at
returns-clause-spells c =
    let a = c.args in
    kinds_way (lists_of a.contexts.now) (token_kind a.b.now a.at.row a.at.column) (first_context a.b.now.block a.at.row a.at.column a.sides.now) a.coded.now.levels.now a.coded.now.count _ _
    (rw (c.new-tables.ensures.are, c.token_kind-kind.ensures, c.first_context-first.ensures.value) at c.in_ok-put_tokens.ensures)
