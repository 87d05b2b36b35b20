use Rattle.std.proofs.Common.{◌∙◌, arith, refl, length, sym}
use Rattle.std.specs.Prelude.{Err}
use Rattle.webm_container.specs.declared.steps.WebmStep.TheVariants.{Moved, Block, End}
use Rattle.webm_container.proofs.Walks.{is_taken, is_taken_to, goes_further, comes_to_block, behind_fits, lies_within}
use Rattle.webm_container.proofs.cursor.next_block.Goals as goal

pub steps-init : goal.steps-init
steps-init c = record { fits = c.requires; ahead = refl; onward = omega arith }

pub step_at-requires : goal.step_at-requires
step_at-requires c = c.steps.invariant.fits

pub steps-smaller : goal.steps-smaller
steps-smaller c =
    let taken = is_taken_to c.args.bytes.now c.steps.place c.step_at.result c.in-Ok-Moved.field-0 (Moved c.in-Ok-Moved.next) c.steps.invariant.fits c.step_at.ensures c.in-Ok-Moved.is c.in-Ok-Moved.field-0-is in
    taken.0.nearer

pub steps-preserved : goal.steps-preserved
steps-preserved c =
    let taken = is_taken_to c.args.bytes.now c.steps.place c.step_at.result c.in-Ok-Moved.field-0 (Moved c.in-Ok-Moved.next) c.steps.invariant.fits c.step_at.ensures c.in-Ok-Moved.is c.in-Ok-Moved.field-0-is in
    goes_further c.args.bytes.now c.args.cursor.now c.steps.place c.in-Ok-Moved.next c.steps.invariant taken

pub returns-in-Ok-Block : goal.returns-in-Ok-Block
returns-in-Ok-Block c =
    let w = c.in-Ok-Block in
    let taken = is_taken_to c.args.bytes.now c.steps.place c.step_at.result w.field-0 (Block w.span w.next) c.steps.invariant.fits c.step_at.ensures w.is w.field-0-is in
    let way = c.steps.invariant.onward in
    record {
      next = comes_to_block c.args.bytes.now c.args.cursor.now c.steps.place w.next w.span c.steps.invariant taken;
      fits = behind_fits (length c.args.bytes.now) c.steps.place w.next w.span taken.0;
      onward = omega (arith, way, taken.0.goes.onward);
      within = taken.0.goes.within;
    }

pub returns-in-Ok-End : goal.returns-in-Ok-End
returns-in-Ok-End c =
    let taken = is_taken_to c.args.bytes.now c.steps.place c.step_at.result c.in-Ok-End.field-0 End c.steps.invariant.fits c.step_at.ensures c.in-Ok-End.is c.in-Ok-End.field-0-is in
    record {
      next = (c.steps.invariant.ahead ∙ taken, taken);
      fits = c.steps.invariant.fits;
      onward = c.steps.invariant.onward;
      within = lies_within (length c.args.bytes.now) c.steps.place c.steps.invariant.fits;
    }

pub returns-in-Err : goal.returns-in-Err
returns-in-Err c =
    let taken = is_taken c.args.bytes.now c.steps.place (Err c.in-Err.rule) c.steps.invariant.fits (sym c.in-Err.is ∙ c.step_at.ensures) in
    record {
      next = (c.steps.invariant.ahead ∙ taken, taken);
      fits = c.steps.invariant.fits;
      onward = c.steps.invariant.onward;
      within = lies_within (length c.args.bytes.now) c.steps.place c.steps.invariant.fits;
    }
