use Rattle.std.proofs.Common.{refl}
use Rattle.vp9_types.specs.declared.block.ReferenceFrame.TheVariants.{Last, Golden, Altref}
use Rattle.job_rows.proofs.NamedFrames.{depth_of_named, one_named}
use Rattle.job_rows.proofs.strips.all_rows.Goals as goal

pub reference_rows-requires : goal.reference_rows-requires
reference_rows-requires g c κs = (
  (refl, (refl, tt)),
  (
    one_named g.B.DecodeRun.format g.B.DecodeRun.film c.args.frame c.args.fields.now Last c.requires.named,
    (depth_of_named g.P.PlaneSample.keeps g.B.DecodeRun.format g.B.DecodeRun.film c.args.frame c.args.fields.now Last c.requires.named c.requires.keeps, c.requires.inside.last),
  ),
)

pub reference_rows-requires-2 : goal.reference_rows-requires-2
reference_rows-requires-2 g c κs = (
  (refl, (refl, tt)),
  (
    one_named g.B.DecodeRun.format g.B.DecodeRun.film c.args.frame c.args.fields.now Golden c.requires.named,
    (depth_of_named g.P.PlaneSample.keeps g.B.DecodeRun.format g.B.DecodeRun.film c.args.frame c.args.fields.now Golden c.requires.named c.requires.keeps, c.requires.inside.golden),
  ),
)

pub reference_rows-requires-3 : goal.reference_rows-requires-3
reference_rows-requires-3 g c κs = (
  (refl, (refl, tt)),
  (
    one_named g.B.DecodeRun.format g.B.DecodeRun.film c.args.frame c.args.fields.now Altref c.requires.named,
    (depth_of_named g.P.PlaneSample.keeps g.B.DecodeRun.format g.B.DecodeRun.film c.args.frame c.args.fields.now Altref c.requires.named c.requires.keeps, c.requires.inside.altref),
  ),
)
