use Rattle.std.proofs.lemmas.Result.{err_from_is_err_and}
use Rattle.std.proofs.Common.{◌++◌}
use Rattle.vp9_types.specs.declared.shape.Plane.TheVariants.{Y, U, V}
use Rattle.frame_output.specs.Texts.{plane_text, frame_text}
use Rattle.edge_io.proofs.Fronts.{takes_both}
use Rattle.frame_output.proofs.Fronts.{first_refused, second_refused, puts_last}
use Rattle.frame_output.proofs.frame.render.Goals as goal

pub returns-in_err-put_plane-clause-bytes : goal.returns-in_err-put_plane-clause-bytes
unfolding frame_text
returns-in_err-put_plane-clause-bytes g c =
    let p = err_from_is_err_and c.from_residual.result c.from_residual.ensures.1 in
    let taken = g.K.Sink.taken in
    let text = plane_text c.args.shape.now (g.S.Samples.map c.args.samples.now) in
    rw p.1 (first_refused (taken c.args.sink.now) (taken c.put_plane.new.sink) (text Y) (text U) (text V) c.in_err-put_plane.ensures.bytes)

pub returns-in_err-put_plane-2-clause-bytes : goal.returns-in_err-put_plane-2-clause-bytes
unfolding frame_text
returns-in_err-put_plane-2-clause-bytes g c =
    let p = err_from_is_err_and c.from_residual-in_err-put_plane-2.result c.from_residual-in_err-put_plane-2.ensures.1 in
    let taken = g.K.Sink.taken in
    let text = plane_text c.args.shape.now (g.S.Samples.map c.args.samples.now) in
    rw p.1 (second_refused (taken c.args.sink.now) (taken c.put_plane.new.sink) (taken c.put_plane-2.new.sink) (text Y) (text U) (text V) c.in_ok-put_plane.ensures.bytes c.in_err-put_plane-2.ensures.bytes)

pub returns-clause-bytes : goal.returns-clause-bytes
unfolding frame_text
returns-clause-bytes g c =
    let taken = g.K.Sink.taken in
    let text = plane_text c.args.shape.now (g.S.Samples.map c.args.samples.now) in
    puts_last (taken c.args.sink.now) (taken c.put_plane-2.new.sink) (taken c.put_plane-3.new.sink) (text Y ++ text U) (text V) c.put_plane-3.result
    (takes_both (taken c.args.sink.now) (taken c.put_plane.new.sink) (taken c.put_plane-2.new.sink) (text Y) (text U) c.in_ok-put_plane.ensures.bytes c.in_ok-put_plane-2.ensures.bytes)
    c.put_plane-3.ensures.bytes
