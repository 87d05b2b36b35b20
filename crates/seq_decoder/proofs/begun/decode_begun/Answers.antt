use Rattle.std.proofs.Common.{subst}
use Rattle.tap_filter.proofs.DepthLemmas.{of_any, of_bytes}
use Rattle.frame_headers.specs.HeaderState.{shape_of}
use Rattle.picture_table.specs.KeptPictures.{IsBlankAs}
use Rattle.seq_decoder.proofs.KeptFrames.{frame_in_bytes, frame_in_words, left_in_bytes, left_in_words}
use Rattle.seq_decoder.proofs.begun.decode_begun.Goals as goal

pub decode_kept-requires-clause-kept : goal.decode_kept-requires-clause-kept
decode_kept-requires-clause-kept c = (subst (λ p. IsBlankAs (shape_of c.args.by.reading.setting.header) p) c.in-Bytes.is c.requires.blank).1

pub decode_kept-requires-clause-taken : goal.decode_kept-requires-clause-taken
decode_kept-requires-clause-taken c = of_bytes _ (subst (λ p. IsBlankAs (shape_of c.args.by.reading.setting.header) p) c.in-Bytes.is c.requires.blank).1

pub decode_kept-requires-clause-blank : goal.decode_kept-requires-clause-blank
decode_kept-requires-clause-blank c = (subst (λ p. IsBlankAs (shape_of c.args.by.reading.setting.header) p) c.in-Bytes.is c.requires.blank).0

pub returns-in-Bytes-clause-decoded : goal.returns-in-Bytes-clause-decoded
returns-in-Bytes-clause-decoded c = λ slots same. frame_in_bytes _ _ c.decode_kept.new.picture c.decode_kept.result (subst (λ p. IsBlankAs (shape_of c.args.by.reading.setting.header) p) c.in-Bytes.is c.requires.blank).1 (c.decode_kept.ensures.decoded slots same)

pub returns-in-Bytes-clause-left : goal.returns-in-Bytes-clause-left
returns-in-Bytes-clause-left c = left_in_bytes _ c.decode_kept.new.picture c.decode_kept.result (subst (λ p. IsBlankAs (shape_of c.args.by.reading.setting.header) p) c.in-Bytes.is c.requires.blank).1 c.decode_kept.ensures.left

pub decode_kept-requires-in-Words-clause-kept : goal.decode_kept-requires-in-Words-clause-kept
decode_kept-requires-in-Words-clause-kept c = (subst (λ p. IsBlankAs (shape_of c.args.by.reading.setting.header) p) c.in-Words.is c.requires.blank).1

pub decode_kept-requires-in-Words-clause-taken : goal.decode_kept-requires-in-Words-clause-taken
decode_kept-requires-in-Words-clause-taken c = of_any _

pub decode_kept-requires-in-Words-clause-blank : goal.decode_kept-requires-in-Words-clause-blank
decode_kept-requires-in-Words-clause-blank c = (subst (λ p. IsBlankAs (shape_of c.args.by.reading.setting.header) p) c.in-Words.is c.requires.blank).0

pub returns-in-Words-clause-decoded : goal.returns-in-Words-clause-decoded
returns-in-Words-clause-decoded c = λ slots same. frame_in_words _ _ c.decode_kept-in-Words.new.picture c.decode_kept-in-Words.result (subst (λ p. IsBlankAs (shape_of c.args.by.reading.setting.header) p) c.in-Words.is c.requires.blank).1 (c.decode_kept-in-Words.ensures.decoded slots same)

pub returns-in-Words-clause-left : goal.returns-in-Words-clause-left
returns-in-Words-clause-left c = left_in_words _ c.decode_kept-in-Words.new.picture c.decode_kept-in-Words.result (subst (λ p. IsBlankAs (shape_of c.args.by.reading.setting.header) p) c.in-Words.is c.requires.blank).1 c.decode_kept-in-Words.ensures.left
