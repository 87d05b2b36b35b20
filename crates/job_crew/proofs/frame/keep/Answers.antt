use Rattle.std.proofs.Common.{◌≡◌, ◌∙◌, true, false, sym, subst, refl}
use Rattle.job_crew.specs.Code.{is_named}
use Rattle.job_crew.proofs.Kept.{is_kept, is_let_go}
use Rattle.job_crew.proofs.frame.keep.Goals as goal
use Rattle.job_crew.proofs.frame.keep.Goals.{then-is_live+in_ok-try_clone-2+in_ok-push-2, else-is_live}

pub loop-at-preserved : goal.loop-at-preserved
loop-at-preserved g c = elim c.if-is_live.branch [
  | then-is_live+in_ok-try_clone-2+in_ok-push-2 w ↦
      rw w.cells-is
      (is_kept _ c.args.live.now c.args.before.now c.loop-at.cells.items _ c.loop-at.at _ _ _ c.loop-at-test.true c.index-before-at.is (rw w.in_ok-try_clone-2.ensures refl)
      (subst (λ n. is_named c.args.live.now n ≡ true) c.number_of.ensures (sym c.is_live.ensures ∙ w.if-is_live.true)) w.in_ok-push-2.ensures.items c.loop-at.invariant)
  | else-is_live w ↦
      rw w.cells-is
      (is_let_go _ c.args.live.now c.args.before.now c.loop-at.cells.items c.loop-at.at _ _ c.loop-at-test.true c.index-before-at.is
      (subst (λ n. is_named c.args.live.now n ≡ false) c.number_of.ensures (sym c.is_live.ensures ∙ w.if-is_live.false)) c.loop-at.invariant)
]
