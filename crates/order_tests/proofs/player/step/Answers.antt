use Rattle.order_tests.proofs.Steps.{stepped}
use Rattle.order_tests.proofs.player.step.Goals as goal

pub returns : goal.returns
returns c =
    stepped c.step.result c.args.world.now c.step.new.self c.args.event c.requires.reached
    (c.reached_worlds_are_sound.ensures.next 2 c.args.world.now c.args.event c.requires.reached c.requires.allowed) c.step.ensures.taken c.step.ensures.refused
