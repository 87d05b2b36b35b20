use Rattle.bool_encoder.proofs.tree.+put_entry.Given as goal

abbrev pub decreases-put_entry : goal.decreases-put_entry
decreases-put_entry l = l.at
