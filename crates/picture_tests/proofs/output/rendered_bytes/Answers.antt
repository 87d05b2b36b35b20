use Rattle.picture_tests.proofs.Bytes.{small}
use Rattle.picture_tests.proofs.output.rendered_bytes.Goals as goal

pub render-requires-clause-small : goal.render-requires-clause-small
render-requires-clause-small c = λ _ p y x _ _. let planes = c.args.planes.now in
    small planes.y planes.u planes.v c.are_bytes.ensures c.are_bytes-2.ensures c.are_bytes-3.ensures p y x
