use Rattle.writer_tests.proofs.uncompressed_tests.writes.Goals as goal

pub write_uncompressed_header-requires-clause-can :
    goal.write_uncompressed_header-requires-clause-can
write_uncompressed_header-requires-clause-can g c = c.requires.can _
