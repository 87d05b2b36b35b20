use Rattle.bool_encoder.specs.Laws.{asked, values_of}
use Rattle.bool_encoder.specs.Part.{after_bools, behind_marker}
use Rattle.bool_encoder.proofs.LedLaws.{bools_written}
use Rattle.bool_encoder.proofs.Starts.{written_is_read_from}
use Rattle.bool_encoder.proofs.laws.every_list_of_bools_is_read.Goals as goal

pub returns : goal.returns
returns c bools bytes are f =
    written_is_read_from (asked bools) (values_of bools) (after_bools bools behind_marker) bytes (bools_written bools behind_marker are) f
