use Rattle.job_order.proofs.Keeps.{all_sound}
use Rattle.job_order.proofs.laws.every_list_of_events_is_sound.Goals as goal

pub returns : goal.returns
returns g c = all_sound g.M.Meaning.rules g.M.Meaning.truth
