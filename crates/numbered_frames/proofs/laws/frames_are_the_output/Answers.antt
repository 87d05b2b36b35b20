use Rattle.numbered_frames.proofs.Ways.{ends, files_are_films, front}
use Rattle.numbered_frames.proofs.laws.frames_are_the_output.Goals as goal

pub returns-clause-ends : goal.returns-clause-ends
returns-clause-ends c = λ format film f ending h. ends format film f ending h

pub returns-clause-front : goal.returns-clause-front
returns-clause-front c = λ format film f. front format film f

pub returns-clause-file : goal.returns-clause-file
returns-clause-file c = λ format bytes. files_are_films format bytes
