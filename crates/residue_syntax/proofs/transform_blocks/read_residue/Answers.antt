use Rattle.std.proofs.Common.{◌∙◌, ap, sym, arith, Bool}
use Rattle.std.proofs.lemmas.Result.{err_from_is_err_and}
use Rattle.prob_contexts.specs.ProbLists.{lists_of}
use Rattle.coef_tokens.specs.declared.tables.TokenKind.{TokenKind}
use Rattle.vp9_types.specs.declared.block.TxSize.{TxSize}
use Rattle.vp9_tables.specs.Scans.{area}
use Rattle.residue_syntax.specs.Residues.{with_sides}
use Rattle.residue_syntax.proofs.ResidueReads.{residue_read, residue_broken}
use Rattle.residue_syntax.proofs.transform_blocks.read_residue.Goals as goal

pub tokens-count-requires : goal.tokens-count-requires
tokens-count-requires g c =
    let tx = c.new-tables.ensures.tx ∙ ap (λ (k : TokenKind). k.tx) c.token_kind-kind.ensures in
    let long = c.clear.ensures.long ∙ c.requires.long ∙ ap (λ (t : TxSize). area t) (sym tx) in
    (omega arith, (c.first_context-first.ensures.most, (long, c.clear.ensures.clear)))

pub returns-in_err-some-clause-gives : goal.returns-in_err-some-clause-gives
returns-in_err-some-clause-gives g c =
    let a = c.args in
    let r = c.tokens-count.ensures.read in
    let p = err_from_is_err_and c.from_residual.result c.from_residual.ensures.1 in
    let kinds = ap (λ (k : TokenKind). k.kind) c.token_kind-kind.ensures in
    let read = rw (c.new-tables.ensures.are, c.token_kind-kind.ensures, c.first_context-first.ensures.value) at r.1 in
    rw (p.1, p.2) (residue_broken (lists_of a.contexts.now) a.b.now a.at.row a.at.column a.sides.now _ _ r.0 _ read
    (rw r.2 at (c.in_err-some.ensures.gives a.at.row a.at.column r.0.reads kinds r.3)))

pub returns-clause-gives : goal.returns-clause-gives
returns-clause-gives g c =
    let a = c.args in
    let r = c.tokens-count.ensures.read in
    let kinds = ap (λ (k : TokenKind). k.kind) c.token_kind-kind.ensures in
    let read = rw (c.new-tables.ensures.are, c.token_kind-kind.ensures, c.first_context-first.ensures.value) at r.1 in
    let made = rw r.2 at (c.in_ok-some.ensures.gives a.at.row a.at.column r.0.reads kinds r.3) in
    residue_read (lists_of a.contexts.now) a.b.now a.at.row a.at.column a.sides.now _ _ _ r.0 _ read made.0
    (ap (λ (v : Bool). with_sides a.b.now.block a.at.row a.at.column v a.sides.now) (sym made.1) ∙ sym c.mark.ensures.value)
