use Rattle.frame_groups.specs.Groups.{IsReady}
use Rattle.reading_tests.proofs.groups.groups.Given as goal

abbrev pub invariant-groups : goal.invariant-groups
invariant-groups g l = IsReady g.S.Source.can_fill l.reader
