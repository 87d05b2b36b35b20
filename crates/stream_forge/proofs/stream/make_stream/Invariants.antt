use Rattle.std.proofs.Common.{◌≡◌}
use Rattle.std.specs.Prelude.{nat_eq}
use Rattle.frame_output.specs.declared.rendering.Format.TheVariants.{Raw}
use Rattle.seq_decoder.specs.Code.{MayDecode}
use Rattle.stream_forge.specs.Code.{IsSoFar, MayDraw}
use Rattle.stream_forge.proofs.stream.make_stream.Given as goal

abbrev pub invariant-loop-n : goal.invariant-loop-n
invariant-loop-n l = record {
  may : MayDecode l.decoder;
  raw : l.decoder.form.format ≡ Raw;
  made : MayDraw (nat_eq l.n 0) l.decoder.persist;
  far : IsSoFar l.fn.number l.fn.frames l.n l.decoder l.draws l.out.items;
}
