use Rattle.std.proofs.Common.{ap, arith, length}
use Rattle.job_rows.proofs.FilteredSteps.{no_strips, one_more_strip, pushed_many}
use Rattle.job_rows.proofs.filters.strips_of.Goals as goal

pub loop-k-init : goal.loop-k-init
loop-k-init g c = record {
  many = ap (λ xs. length xs) c.in_ok-strips.ensures.items;
  room = c.in_ok-strips.ensures.capacity;
  are = λ d is. no_strips d c.args.row c.in_ok-strips.strips.items c.in_ok-strips.ensures.items;
}

pub loop-k-preserved : goal.loop-k-preserved
loop-k-preserved g c =
    let at = c.loop-k in
    let many = pushed_many at.strips.items c.push_reserved.new.self.items c.in_ok-strip_planes.field-0 c.push_reserved.ensures.items in record {
      many = omega (arith, many, at.invariant.many);
      room = omega (arith, at.invariant.room, c.push_reserved.ensures.capacity);
      are = λ d is. one_more_strip d at.k c.args.row at.strips.items c.push_reserved.new.self.items c.in_ok-strip_planes.field-0 c.push_reserved.ensures.items (at.invariant.are d is) (c.in_ok-strip_planes.ensures d is);
    }
