use Rattle.std.proofs.Common.{◌∙◌, ap, sym, subst, refl}
use Rattle.frame_headers.specs.Tiles.{AreFewTiles}
use Rattle.frame_headers.specs.declared.header.Header.{Header}
use Rattle.prob_contexts.specs.ProbLists.{lists_of}
use Rattle.frame_state.specs.Code.{sources_of}
use Rattle.frame_state.specs.Past.{past_of}
use Rattle.frame_writer.proofs.FrameGiven.{few_tiles, frame_given}
use Rattle.frame_writer.proofs.frame.write_frame.Goals as goal

pub write_behind-requires-clause-few : goal.write_behind-requires-clause-few
write_behind-requires-clause-few g c =
    subst AreFewTiles (sym (ap (λ (header : Header). header.params.tiles) (c.new-setting.ensures.header ∙ c.in-Ok.ensures.size)))
    (few_tiles c.args.persist.now c.args.frame.now.header c.requires.well)

pub returns : goal.returns
returns g c =
    frame_given g.S.FrameSymbols.speaker c.args.persist.now c.args.frame.now (past_of c.args.past) (sources_of (record { setting = c.new-setting.result; past = c.args.past })) c.args.symbols c.write_behind.result.1
    c.args.past.contexts.now c.in-Ok.headers.header c.in-Ok.headers.bytes.items c.write_behind.result.0 refl c.in-Ok.ensures
    (λ i. record { header = c.new-setting.ensures.header i; modes = c.new-setting.ensures.modes i; contexts = lists_of (c.new-setting.ensures.contexts i); past = past_of c.args.past })
    c.write_behind.ensures
