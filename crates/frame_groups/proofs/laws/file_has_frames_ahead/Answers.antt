use Rattle.frame_groups.proofs.Files.{ivf_frames, no_file}
use Rattle.frame_groups.proofs.laws.file_has_frames_ahead.Goals as goal

pub returns-clause-ivf : goal.returns-clause-ivf
returns-clause-ivf c = ivf_frames

pub returns-clause-short : goal.returns-clause-short
returns-clause-short c = no_file
