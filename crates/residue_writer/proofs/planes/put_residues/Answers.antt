use Rattle.std.proofs.Common.{◌<◌, ◌≤◌, ◌*◌, ◌∙◌, refl, arith, length}
use Rattle.std.specs.Prelude.{Ok, Err}
use Rattle.block_geometry.specs.TransformBlocks.{grid_blocks}
use Rattle.block_geometry.proofs.Rasters.{length_grid}
use Rattle.block_plan.proofs.Held.{one_long}
use Rattle.prob_contexts.specs.ProbLists.{lists_of}
use Rattle.residue_syntax.proofs.PlaneReads.{beside_at}
use Rattle.residue_writer.proofs.PlanePuts.{passes_none, passes_on, breaks_here, ends_all, put_at, told_at}
use Rattle.residue_writer.proofs.Spellings.{spelled_here, spells_begin, spells_go, spells_end}
use Rattle.residue_writer.proofs.planes.put_residues.Goals as goal

pub loop-k-init : goal.loop-k-init
loop-k-init c = record {
  lengths = record { above = refl; left = refl };
  passes = passes_none (lists_of c.args.contexts.now) c.args.b.now c.args.levels.now (grid_blocks c.args.grid.now) c.args.sides.now c.args.encoder.now;
  spells = spells_begin (lists_of c.args.contexts.now) c.args.b.now c.args.levels.now (grid_blocks c.args.grid.now) c.args.sides.now c.args.encoder.now;
}

pub put_residue-requires-clause-beside : goal.put_residue-requires-clause-beside
put_residue-requires-clause-beside c =
    let low : c.loop-k.k < c.args.grid.now.rows * c.args.grid.now.columns = omega (arith, c.loop-k-test.true, c.count-k-end.ensures.count) in
    beside_at _ _ _ c.args.grid.now c.loop-k.k _ c.requires.beside c.loop-k.invariant.lengths low c.place.ensures.place

pub put_residue-requires-clause-can : goal.put_residue-requires-clause-can
put_residue-requires-clause-can c =
    let low : c.loop-k.k < length (grid_blocks c.args.grid.now) = rw (length_grid c.args.grid.now) (omega (arith, c.loop-k-test.true, c.count-k-end.ensures.count)) in
    rw (c.area_of-area.ensures.value, one_long) (rw c.place.ensures.place at (c.requires.can c.loop-k.k low))

pub returns-in-Err-clause-puts : goal.returns-in-Err-clause-puts
returns-in-Err-clause-puts c =
    let low : c.loop-k.k < length (grid_blocks c.args.grid.now) = rw (length_grid c.args.grid.now) (omega (arith, c.loop-k-test.true, c.count-k-end.ensures.count)) in
    let put = put_at (lists_of c.args.contexts.now) c.args.b.now c.args.levels.now _ _ c.loop-k.k _ _ _ _ c.area_of-area.ensures.value c.place.ensures.place c.in_ok-some.ensures.puts in
    let told = told_at c.args.b.now c.args.levels.now _ _ c.loop-k.k _ (Err c.in-Err.rule) c.area_of-area.ensures.value c.place.ensures.place (rw c.in-Err.is at c.in_ok-some.ensures.tells) in
    (breaks_here (lists_of c.args.contexts.now) c.args.b.now c.args.levels.now (grid_blocks c.args.grid.now) c.args.sides.now _ _ _ _ c.loop-k.k c.loop-k.any c.in-Err.rule low c.loop-k.invariant.passes put told).0

pub returns-in-Err-clause-tells : goal.returns-in-Err-clause-tells
returns-in-Err-clause-tells c =
    let low : c.loop-k.k < length (grid_blocks c.args.grid.now) = rw (length_grid c.args.grid.now) (omega (arith, c.loop-k-test.true, c.count-k-end.ensures.count)) in
    let put = put_at (lists_of c.args.contexts.now) c.args.b.now c.args.levels.now _ _ c.loop-k.k _ _ _ _ c.area_of-area.ensures.value c.place.ensures.place c.in_ok-some.ensures.puts in
    let told = told_at c.args.b.now c.args.levels.now _ _ c.loop-k.k _ (Err c.in-Err.rule) c.area_of-area.ensures.value c.place.ensures.place (rw c.in-Err.is at c.in_ok-some.ensures.tells) in
    (breaks_here (lists_of c.args.contexts.now) c.args.b.now c.args.levels.now (grid_blocks c.args.grid.now) c.args.sides.now _ _ _ _ c.loop-k.k c.loop-k.any c.in-Err.rule low c.loop-k.invariant.passes put told).1

pub loop-k-preserved : goal.loop-k-preserved
loop-k-preserved c =
    let low : c.loop-k.k < length (grid_blocks c.args.grid.now) = rw (length_grid c.args.grid.now) (omega (arith, c.loop-k-test.true, c.count-k-end.ensures.count)) in
    let put = put_at (lists_of c.args.contexts.now) c.args.b.now c.args.levels.now _ _ c.loop-k.k _ _ _ _ c.area_of-area.ensures.value c.place.ensures.place c.in_ok-some.ensures.puts in
    let told = told_at c.args.b.now c.args.levels.now _ _ c.loop-k.k _ (Ok c.in-Ok.some) c.area_of-area.ensures.value c.place.ensures.place (rw c.in-Ok.is at c.in_ok-some.ensures.tells) in record {
      lengths = record { above = c.in_ok-some.ensures.lengths.above ∙ c.loop-k.invariant.lengths.above; left = c.in_ok-some.ensures.lengths.left ∙ c.loop-k.invariant.lengths.left };
      passes = passes_on (lists_of c.args.contexts.now) c.args.b.now c.args.levels.now (grid_blocks c.args.grid.now) c.args.sides.now _ _ _ _ _ c.loop-k.k c.loop-k.any c.in-Ok.some low c.loop-k.invariant.passes put told (rw c.place.ensures.place c.in_ok-some.ensures.sides);
      spells = spells_go (lists_of c.args.contexts.now) c.args.b.now c.args.levels.now (grid_blocks c.args.grid.now) c.args.sides.now _ _ _ _ _ c.loop-k.k low c.loop-k.invariant.spells
          (spelled_here (lists_of c.args.contexts.now) c.args.b.now c.args.levels.now _ _ c.loop-k.k _ _ _ _ c.area_of-area.ensures.value c.place.ensures.place c.in_ok-some.ensures.spells)
          (rw c.place.ensures.place c.in_ok-some.ensures.sides);
    }

pub returns-clause-puts : goal.returns-clause-puts
returns-clause-puts c =
    let all : length (grid_blocks c.args.grid.now) ≤ c.loop-k.k = rw (length_grid c.args.grid.now) (omega (arith, c.loop-k-test.false, c.count-k-end.ensures.count)) in
    (ends_all (lists_of c.args.contexts.now) c.args.b.now c.args.levels.now (grid_blocks c.args.grid.now) c.args.sides.now _ _ _ c.loop-k.k c.loop-k.any all c.loop-k.invariant.passes).0

pub returns-clause-tells : goal.returns-clause-tells
returns-clause-tells c =
    let all : length (grid_blocks c.args.grid.now) ≤ c.loop-k.k = rw (length_grid c.args.grid.now) (omega (arith, c.loop-k-test.false, c.count-k-end.ensures.count)) in
    (ends_all (lists_of c.args.contexts.now) c.args.b.now c.args.levels.now (grid_blocks c.args.grid.now) c.args.sides.now _ _ _ c.loop-k.k c.loop-k.any all c.loop-k.invariant.passes).1

pub returns-clause-spells : goal.returns-clause-spells
returns-clause-spells c =
    let all : length (grid_blocks c.args.grid.now) ≤ c.loop-k.k = rw (length_grid c.args.grid.now) (omega (arith, c.loop-k-test.false, c.count-k-end.ensures.count)) in
    spells_end (lists_of c.args.contexts.now) c.args.b.now c.args.levels.now (grid_blocks c.args.grid.now) c.args.sides.now _ _ _ c.loop-k.k all c.loop-k.invariant.spells
