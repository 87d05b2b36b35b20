use Rattle.std.proofs.Common.{arith}
use Rattle.job_order.proofs.Readiness.{inside, named_row, published_by, no_row}
use Rattle.job_order.proofs.ready.publisher.Goals as goal

pub returns-then-frame-segments : goal.returns-then-frame-segments
returns-then-frame-segments c = λ row. (
  λ e. absurd (let no : ⊥ = cc in no),
  λ p. absurd (let l = inside c.args.segments.now c.requires c.args.frame row c.args.band p in let t = c.if-frame-segments.true in omega (arith, l, t)),
)

pub returns-then-place-segments : goal.returns-then-place-segments
returns-then-place-segments c = λ row. (
  λ e. absurd (let no : ⊥ = cc in no),
  λ p. absurd (let l = inside c.args.segments.now c.requires c.args.frame row c.args.band p in let t = c.if-place-segments.true in omega (arith, l, t)),
)

pub returns-in-Build : goal.returns-in-Build
returns-in-Build c = λ row. (
  λ e. published_by c.args.segments.now c.requires c.args.frame c.in-Build.frame c.in-Build.columns c.in-Build.rows c.args.band row c.in-Build.shown c.row_of_band.result
      c.if-place-segments.false c.in-Build.is c.row_of_band.ensures.next c.row_of_band.ensures.last c.row_of_band.ensures.none e,
  λ p. named_row c.args.segments.now c.requires c.args.frame c.in-Build.frame c.in-Build.columns c.in-Build.rows c.args.band row c.in-Build.shown c.row_of_band.result
      c.if-place-segments.false c.in-Build.is c.row_of_band.ensures.next c.row_of_band.ensures.last p,
)

pub returns-in_default : goal.returns-in_default
returns-in_default c = λ row. (
  λ e. absurd (let no : ⊥ = cc in no),
  λ p. absurd (no_row c.args.segments.now c.requires c.args.frame c.args.band row c.in_default.not-Build p),
)
