use Rattle.std.proofs.Common.{◌∙◌, ◌++◌, ◌∷◌, [], List, ap, subst, sym}
use Rattle.std.specs.Prelude.{All}
use Rattle.column_plan.specs.Code.{LiesIn}
use Rattle.column_plan.specs.declared.chunks.Piece.{Piece}
use Rattle.column_plan.proofs.Pieces.{pushed_lie, same_lie}
use Rattle.column_plan.proofs.residues.PlanResidues.push.Goals as goal

pub invariant_of-self-in_err-piece : goal.invariant_of-self-in_err-piece
invariant_of-self-in_err-piece c =
    let old = c.self.inside in
    let chunks = c.put.new.chunks.items in
    subst (λ (pieces : List Piece). All (LiesIn chunks) pieces) (sym c.reserve.ensures.items) (same_lie old.chunks.items chunks old.pieces.items c.put.ensures.go_on c.self.invariant)

pub invariant_of-self-2 : goal.invariant_of-self-2
invariant_of-self-2 c =
    let old = c.self.inside in
    let chunks = c.put.new.chunks.items in
    let piece = c.in_ok-piece.piece in
    subst (λ (pieces : List Piece). All (LiesIn chunks) pieces) (sym (c.push_reserved.ensures.items ∙ ap (λ (pieces : List Piece). pieces ++ piece ∷ []) c.reserve.ensures.items))
    (pushed_lie old.chunks.items chunks old.pieces.items piece c.put.ensures.go_on c.self.invariant c.in_ok-piece.ensures.lies)
