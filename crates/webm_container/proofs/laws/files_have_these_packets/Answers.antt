use Rattle.std.proofs.Common.{sym}
use Rattle.webm_container.proofs.Files.{only_packets}
use Rattle.webm_container.proofs.Found.{is_found}
use Rattle.webm_container.proofs.laws.files_have_these_packets.Goals as goal

pub returns-clause-only : goal.returns-clause-only
returns-clause-only c = λ bytes packets h. sym (only_packets bytes packets h)

pub returns-clause-found : goal.returns-clause-found
returns-clause-found c = is_found
