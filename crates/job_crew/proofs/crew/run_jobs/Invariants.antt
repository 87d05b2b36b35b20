use Rattle.job_crew.proofs.crew.run_jobs.Given as goal

abbrev pub ghosts-run_within : goal.ghosts-run_within
ghosts-run_within g a = record { window = a.run.now.window }
