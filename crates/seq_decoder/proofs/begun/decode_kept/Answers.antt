use Rattle.std.proofs.Common.{subst}
use Rattle.frame_decoder.specs.Code.{IsDecoded}
use Rattle.seq_decoder.specs.Code.{input_by}
use Rattle.seq_decoder.proofs.KeptFrames.{left_of}
use Rattle.seq_decoder.proofs.begun.decode_kept.Goals as goal

pub decode_frame-requires-clause-past : goal.decode_frame-requires-clause-past
decode_frame-requires-clause-past g c = record {
  past = c.requires.past;
  pictures = record { shape = c.pictures_for-pictures.ensures.shape; there = c.pictures_for-pictures.ensures.has };
}

pub returns-clause-decoded : goal.returns-clause-decoded
returns-clause-decoded g c = λ slots same.
    subst (λ references. IsDecoded references (input_by c.args.reading c.args.bytes.now c.args.compressed) c.decode_frame.new.picture c.decode_frame.result)
    (c.pictures_for-pictures.ensures.pictures slots same) c.decode_frame.ensures

pub returns-clause-left : goal.returns-clause-left
returns-clause-left g c = left_of _ _ c.decode_frame.new.picture c.decode_frame.result c.decode_frame.ensures
