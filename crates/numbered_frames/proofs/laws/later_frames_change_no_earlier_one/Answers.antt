use Rattle.numbered_frames.proofs.LaterFrames.{before_same, coded_same, pictures_same, text_same}
use Rattle.numbered_frames.proofs.laws.later_frames_change_no_earlier_one.Goals as goal

pub returns-clause-before : goal.returns-clause-before
returns-clause-before c = λ format film more f h low. before_same format film more f h low

pub returns-clause-coded : goal.returns-clause-coded
returns-clause-coded c = λ format film more f h low. coded_same format film more f h low

pub returns-clause-text : goal.returns-clause-text
returns-clause-text c = λ format film more f h low. text_same format film more f h low

pub returns-clause-pictures : goal.returns-clause-pictures
returns-clause-pictures c = λ format film more f h low. pictures_same format film more f h low
