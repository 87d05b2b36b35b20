use Rattle.std.proofs.Common.{◌≡◌, ◌<◌, ◌≤◌, ◌*◌, ◌∙◌, refl, arith, rules, length}
use Rattle.std.proofs.lemmas.Result.{err_from_is_err_and}
use Rattle.block_geometry.specs.TransformBlocks.{grid_blocks, place_at}
use Rattle.block_geometry.proofs.Rasters.{length_grid}
use Rattle.block_plan.specs.Code.{residues_held}
use Rattle.block_plan.proofs.Held.{one_long}
use Rattle.counting_reader.proofs.Throughs.{begins, breaks, ends}
use Rattle.prob_contexts.specs.ProbLists.{lists_of}
use Rattle.vp9_tables.specs.Scans.{area}
use Rattle.residue_syntax.proofs.PlaneReads.{beside_at, all_fit, room_for, part_long, more_read, more_coded, more_small, next_broken}
use Rattle.residue_syntax.proofs.planes.read_residues.Goals as goal

pub loop-k-init : goal.loop-k-init
unfolding residues_held
loop-k-init g c = record {
  lengths = record { above = refl; left = refl };
  any = refl;
  small = λ k d low. absurd (omega arith);
  reached = begins _ (grid_blocks c.args.grid.now) _ _;
}

pub read_residue-requires : goal.read_residue-requires
read_residue-requires g c =
    let n = area c.args.b.now.block.tx in
    let low : c.loop-k.k < c.args.grid.now.rows * c.args.grid.now.columns = omega (arith, c.loop-k-test.true, c.count-k-end.ensures.count, c.loop-k.auto.k-end) in
    let whole : length c.loop-k.residues.values ≡ 4096 = search rules in
    let fits = all_fit c.args.b.now.block.tx c.args.grid.now.step c.args.grid.now.rows c.args.grid.now.columns c.requires.step c.requires.small.rows c.requires.small.columns in
    let room = room_for c.loop-k.k (c.args.grid.now.rows * c.args.grid.now.columns) n 4096 low fits in (
      omega arith,
      (
        c.place.ensures.low,
        (
          c.place.ensures.near,
          (
            beside_at _ _ _ c.args.grid.now c.loop-k.k _ c.requires.beside c.loop-k.invariant.lengths low c.place.ensures.place,
            rw c.area_of-area.ensures.value (part_long c.loop-k.residues.values (c.loop-k.k * n) n (rw whole room)),
          ),
        ),
      ),
    )

pub returns-in_err-some-clause-gives : goal.returns-in_err-some-clause-gives
returns-in_err-some-clause-gives g c =
    let low : c.loop-k.k < c.args.grid.now.rows * c.args.grid.now.columns = omega (arith, c.loop-k-test.true, c.count-k-end.ensures.count, c.loop-k.auto.k-end) in
    let p = err_from_is_err_and c.from_residual.result c.from_residual.ensures.1 in
    rw (p.1, p.2) (breaks _ _ _ _ _ _ c.loop-k.k (place_at 0 0) _ (rw (length_grid c.args.grid.now) low) c.loop-k.invariant.reached
    (next_broken (lists_of c.args.contexts.now) c.args.b.now _ _ _ _ _ _ c.place.ensures.place c.in_err-some.ensures.gives))

pub loop-k-preserved : goal.loop-k-preserved
loop-k-preserved g c =
    let n = area c.args.b.now.block.tx in
    let ats = grid_blocks c.args.grid.now in
    let low : c.loop-k.k < c.args.grid.now.rows * c.args.grid.now.columns = omega (arith, c.loop-k-test.true, c.count-k-end.ensures.count, c.loop-k.auto.k-end) in
    let whole : length c.loop-k.residues.values ≡ 4096 = search rules in
    let flags : length c.loop-k.residues.some ≡ 256 = search rules in
    let few : c.loop-k.k < length c.loop-k.residues.some = omega (arith, flags, low, c.count-k-end.ensures.count, c.count-k-end.ensures.few) in
    let fits = all_fit c.args.b.now.block.tx c.args.grid.now.step c.args.grid.now.rows c.args.grid.now.columns c.requires.step c.requires.small.rows c.requires.small.columns in
    let room = room_for c.loop-k.k (c.args.grid.now.rows * c.args.grid.now.columns) n 4096 low fits in
    let before : c.loop-k.k * n ≤ length c.loop-k.residues.values = omega (arith, room, whole) in
    let size : length c.read_residue.new.values ≡ n =
    c.in_ok-some.ensures.long ∙ rw c.area_of-area.ensures.value (part_long c.loop-k.residues.values (c.loop-k.k * n) n (rw whole room)) in record {
      lengths = record { above = c.in_ok-some.ensures.lengths.above ∙ c.loop-k.invariant.lengths.above; left = c.in_ok-some.ensures.lengths.left ∙ c.loop-k.invariant.lengths.left };
      any = rw (c.area_of-area.ensures.value, one_long) (more_coded ats n c.loop-k.residues.some c.loop-k.residues.values c.read_residue.new.values c.loop-k.any c.in_ok-some.some c.loop-k.k few before size c.loop-k.invariant.any);
      small = rw (c.area_of-area.ensures.value, one_long) (more_small ats n c.loop-k.residues.some c.loop-k.residues.values c.read_residue.new.values c.in_ok-some.some c.loop-k.k few before size c.loop-k.invariant.small c.in_ok-some.ensures.small);
      reached = rw (c.area_of-area.ensures.value, one_long) (more_read (lists_of c.args.contexts.now) c.args.b.now ats n c.loop-k.residues.some c.loop-k.residues.values c.read_residue.new.values
          c.in_ok-some.some c.loop-k.k _ _ _ _ _ _ _ (rw (length_grid c.args.grid.now) low) few before size c.place.ensures.place c.loop-k.invariant.reached c.in_ok-some.ensures.gives);
    }

pub returns-clause-gives : goal.returns-clause-gives
returns-clause-gives g c =
    let done : c.loop-k.k ≡ length (grid_blocks c.args.grid.now) = rw (length_grid c.args.grid.now) (omega (arith, c.loop-k-test.false, c.loop-k.auto.k-end, c.count-k-end.ensures.count)) in
    (ends _ _ _ _ _ _ (length (grid_blocks c.args.grid.now)) (omega arith) (rw done at c.loop-k.invariant.reached), rw done at c.loop-k.invariant.any)

pub returns-clause-small : goal.returns-clause-small
returns-clause-small g c =
    let done : c.loop-k.k ≡ length (grid_blocks c.args.grid.now) = rw (length_grid c.args.grid.now) (omega (arith, c.loop-k-test.false, c.loop-k.auto.k-end, c.count-k-end.ensures.count)) in
    rw done at c.loop-k.invariant.small
