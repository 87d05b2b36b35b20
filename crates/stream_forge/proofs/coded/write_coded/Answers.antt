use Rattle.std.proofs.Common.{◌≡◌, ◌∙◌, ap}
use Rattle.prob_contexts.specs.ProbLists.{lists_of}
use Rattle.seq_decoder.specs.After.{segments_before, vectors_before}
use Rattle.seq_decoder.specs.SavedContexts.{context_at, context_before, saved_place, saved_before}
use Rattle.stream_forge.proofs.Behind.{behind_given}
use Rattle.stream_forge.proofs.Pasts.{segments_are}
use Rattle.stream_forge.proofs.coded.write_coded.Goals as goal

pub write_frame-requires-clause-forward : goal.write_frame-requires-clause-forward
write_frame-requires-clause-forward g c = c.requires.modes (lists_of c.at-contexts.result)

pub write_frame-requires-clause-past : goal.write_frame-requires-clause-past
write_frame-requires-clause-past g c =
    let d = c.args.decoder.now in
    let segments = segments_are c.args.frame.now.header d.persist.size c.in-Ok.fresh d.segments c.segments_for.result.now c.in-Ok.ensures c.requires.may.places c.segments_for.ensures in record {
      rows = segments.rows;
      cols = segments.cols;
      vectors = c.vectors_before.ensures.are;
    }

pub returns-in_default : goal.returns-in_default
returns-in_default g c = λ state stands.
    let header = c.args.frame.now.header in
    let contexts : lists_of c.at-contexts.result ≡ context_before header state.contexts =
    c.at-contexts.ensures ∙ (λ i. context_at (c.reset.ensures i) (c.saved_place.ensures i)) ∙ ap (λ saved. context_at (saved_before header saved) (saved_place header)) stands.contexts in
    (c.at-contexts.result, contexts, tt)

pub returns : goal.returns
returns g c = λ state stands.
    let d = c.args.decoder.now in
    let header = c.args.frame.now.header in
    let segments = segments_are header d.persist.size c.in-Ok.fresh d.segments c.segments_for.result.now c.in-Ok.ensures c.requires.may.places c.segments_for.ensures in
    let contexts : lists_of c.at-contexts.result ≡ context_before header state.contexts =
    c.at-contexts.ensures ∙ (λ i. context_at (c.reset.ensures i) (c.saved_place.ensures i)) ∙ ap (λ saved. context_at (saved_before header saved) (saved_place header)) stands.contexts in
    behind_given g.S.FrameSymbols.speaker d.persist state c.args.frame.now c.at-contexts.result _ c.args.symbols c.write_frame.result.1 c.write_frame.result.0 stands.persist
    (λ i. record {
      contexts = contexts i;
      segments = (segments.are ∙ (λ i. segments_before header (stands.persist i).size (stands.segments i))) i;
      vectors = (c.vectors_before.ensures.blocks ∙ ap (vectors_before header) stands.last) i;
    })
    contexts c.write_frame.ensures
