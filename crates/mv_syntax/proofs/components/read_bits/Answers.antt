use Rattle.std.proofs.Common.{◌≡◌, ℕ, ◌<◌, ◌+◌, ◌∙◌, sym, ap, arith, rules, length, get_or}
use Rattle.std.specs.List.{range_with_len}
use Rattle.std.specs.Prelude.{Ok}
use Rattle.std.proofs.lemmas.List.FromFn.{get_or-range_with_len, length-range_with_len}
use Rattle.counting_reader.specs.Code.{standing_of, run_counting}
use Rattle.counting_reader.proofs.Throughs.{begins, goes_on, ends}
use Rattle.prob_contexts.specs.ProbLists.{vector_lists}
use Rattle.mv_syntax.specs.Components.{next_bit}
use Rattle.mv_syntax.proofs.components.read_bits.Goals as goal

pub loop-i-init : goal.loop-i-init
loop-i-init g c = record {
  read = begins (next_bit (vector_lists c.args.probs.now) c.args.c) (range_with_len 0 c.args.n) 0 (standing_of c.args.reader.now);
  few = omega arith;
}

pub loop-i-preserved : goal.loop-i-preserved
loop-i-preserved g c =
    let f = next_bit (vector_lists c.args.probs.now) c.args.c in
    let xs = range_with_len 0 c.args.n in
    let i = c.loop-i.i in
    let low : i < c.args.n = omega arith in
    let long : length xs ≡ c.args.n = length-range_with_len 0 c.args.n in
    let plain : 0 + i ≡ i = omega arith in
    let at : get_or xs i 0 ≡ i = get_or-range_with_len 0 c.args.n i 0 low ∙ plain in
    record {
      read = goes_on f xs 0 c.loop-i.bits c.read_next_bit-bits.result (standing_of c.args.reader.now) (standing_of c.loop-i.reader) (standing_of c.read_next_bit-bits.new.reader) i 0
          (omega (arith, long, low)) c.loop-i.invariant.read (ap (λ (k : ℕ). run_counting (f k c.loop-i.bits) (standing_of c.loop-i.reader)) at ∙ c.read_next_bit-bits.ensures.read);
      few = c.read_next_bit-bits.ensures.few;
    }

pub returns-clause-read : goal.returns-clause-read
returns-clause-read g c =
    let f = next_bit (vector_lists c.args.probs.now) c.args.c in
    let xs = range_with_len 0 c.args.n in
    let long : length xs ≡ c.args.n = length-range_with_len 0 c.args.n in
    ends f xs 0 c.loop-i.bits (standing_of c.args.reader.now) (standing_of c.loop-i.reader) c.loop-i.i (omega (arith, long)) c.loop-i.invariant.read

pub returns-clause-few : goal.returns-clause-few
returns-clause-few g c = let end : c.loop-i.i ≡ c.args.n = omega arith in rw end at c.loop-i.invariant.few
