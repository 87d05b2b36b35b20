use Rattle.std.proofs.Common.{◌≡◌, ◌∙◌, ◌∷◌, Some, None, ap, sym, arith}
use Rattle.std.specs.Option.{option_map}
use Rattle.std.specs.Arc.{arc_value}
use Rattle.job_crew.specs.Code.{numbered}
use Rattle.job_crew.proofs.Numbered.{is_behind, is_here, is_further, is_nowhere}
use Rattle.job_crew.proofs.frame.Frame.rows_of.Goals as goal

pub loop-at-init : goal.loop-at-init
loop-at-init g c =
    is_behind c.args.self.now.own c.args.self.now.before.items (λ a. (arc_value a).frame) c.args.frame (λ e. c.if-frame.false (c.frame.ensures ∙ (ap (λ v. v.frame) c.deref.ensures ∙ e)))

pub returns-then-frame-2 : goal.returns-then-frame-2
returns-then-frame-2 g c =
    let is = sym c.frame-in-loop-at.ensures ∙ c.if-frame-2.true in
    let here : numbered (c.args.self.now.own ∷ c.args.self.now.before.items) (λ a. (arc_value a).frame) c.args.frame ≡ Some c.index-cells.result.now =
    c.loop-at.invariant
    ∙ is_here c.args.self.now.before.items c.loop-at.at c.index-cells.result.now (λ a. (arc_value a).frame) c.args.frame (omega (arith, c.loop-at-test.true, c.len-at-end.ensures))
    c.index-cells.ensures (rw (sym c.deref-in-loop-at.ensures) is) in
    ap Some c.deref-then-frame-2.ensures ∙ sym (ap (option_map arc_value) here)

pub loop-at-preserved : goal.loop-at-preserved
loop-at-preserved g c =
    c.loop-at.invariant
    ∙ is_further c.args.self.now.before.items c.loop-at.at c.index-cells.result.now (λ a. (arc_value a).frame) c.args.frame (omega (arith, c.loop-at-test.true, c.len-at-end.ensures))
    c.index-cells.ensures (λ e. c.if-frame-2.false (c.frame-in-loop-at.ensures ∙ (ap (λ v. v.frame) c.deref-in-loop-at.ensures ∙ e)))

pub returns : goal.returns
returns g c =
    let nowhere : numbered (c.args.self.now.own ∷ c.args.self.now.before.items) (λ a. (arc_value a).frame) c.args.frame ≡ None =
    c.loop-at.invariant
    ∙ is_nowhere c.args.self.now.before.items c.loop-at.at (λ a. (arc_value a).frame) c.args.frame (omega (arith, c.loop-at-test.false, c.len-at-end.ensures)) in
    sym (ap (option_map arc_value) nowhere)
