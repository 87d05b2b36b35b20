use Rattle.std.proofs.Common.{◌*◌, ◌^◌, arith, refl, sym, ◌∙◌, ap, ◌-◌}
use Rattle.std.proofs.lemmas.Bool.{le-leb, lt-leb}
use Rattle.bool_decoder.specs.Held.{window_of}
use Rattle.bool_decoder.proofs.Steps.{taken_clean, moves_one, moves_zero, value_one, border_is}
use Rattle.bool_decoder.proofs.decoder.BoolDecoder.branch.Goals as goal

pub doubled-requires-clause-clean : goal.doubled-requires-clause-clean
doubled-requires-clause-clean c =
    let d = c.supplied-ready.result in
    let border = border_is c.from-border.result c.split_of-split.result c.from-border.ensures (omega arith) in
    rw border (taken_clean d.window c.split_of-split.result d.count (omega arith) (omega arith) (rw border at c.if-border-ready.true) d.clean)

pub returns-then-border-ready-clause-value : goal.returns-then-border-ready-clause-value
unfolding window_of
returns-then-border-ready-clause-value c =
    let d = c.supplied-ready.result in
    let s = c.split_of-split.result in
    let border = border_is c.from-border.result s c.from-border.ensures (omega arith) in
    rw (sym c.supplied-ready.ensures.same)
    (sym (le-leb (s * 2 ^ 56) d.window (rw border at c.if-border-ready.true))
    ∙ value_one d.window d.count d.range c.args.p s d.rest.now (omega arith) (omega arith) (omega arith) c.split_of-split.ensures.is)

pub returns-then-border-ready-clause-moves : goal.returns-then-border-ready-clause-moves
unfolding window_of
returns-then-border-ready-clause-moves c =
    let d = c.supplied-ready.result in
    let s = c.split_of-split.result in
    let border = border_is c.from-border.result s c.from-border.ensures (omega arith) in
    rw (sym c.supplied-ready.ensures.same)
    (c.doubled.ensures ∙ moves_one d.window d.count d.range c.args.p s _ _ d.rest.now (omega arith) (omega arith) (omega arith)
    c.split_of-split.ensures.is (rw border at c.if-border-ready.true) (ap (λ n. d.window - n) border) refl)

pub returns-clause-value : goal.returns-clause-value
unfolding window_of
returns-clause-value c =
    let d = c.supplied-ready.result in
    let s = c.split_of-split.result in
    let border = border_is c.from-border.result s c.from-border.ensures (omega arith) in
    rw (sym c.supplied-ready.ensures.same)
    (sym (lt-leb (s * 2 ^ 56) d.window (rw border at c.if-border-ready.false))
    ∙ value_one d.window d.count d.range c.args.p s d.rest.now (omega arith) (omega arith) (omega arith) c.split_of-split.ensures.is)

pub returns-clause-moves : goal.returns-clause-moves
unfolding window_of
returns-clause-moves c =
    let d = c.supplied-ready.result in
    let s = c.split_of-split.result in
    let border = border_is c.from-border.result s c.from-border.ensures (omega arith) in
    rw (sym c.supplied-ready.ensures.same)
    (c.doubled-2.ensures ∙ moves_zero d.window d.count d.range c.args.p s _ _ d.rest.now (omega arith) (omega arith) (omega arith)
    c.split_of-split.ensures.is (rw border at c.if-border-ready.false) refl refl)
