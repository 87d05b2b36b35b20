-- How a run ends.
use Rattle.std.specs.Prelude.{ℕ, Option, Some, None}
use Rattle.vp9_types.specs.declared.outcome.Outcome.{Outcome}
use Rattle.vp9_types.specs.declared.outcome.Outcome.TheVariants as outcome
use Rattle.vp9_types.specs.declared.rule.Rule.{Rule}
use Rattle.vp9_app.specs.declared.status.Status.{Status}
use Rattle.vp9_app.specs.declared.status.Status.TheVariants as status

abbrev pub code_of : Status → ℕ
code_of status.Done = 0
code_of status.Usage = 2
code_of (status.Broken stop) = 3
code_of status.ReadFault = 4
code_of status.WriteFault = 5
code_of status.OutOfMemory = 6

-- the status of a listing, or of a run of the decoder, that ends so
abbrev pub status_of_ending : Option (ℕ × Rule) → Status
status_of_ending None = status.Done
status_of_ending (Some end) = status.Broken (record { frame = end.0; rule = end.1 })

-- the status of a decode that ended so
abbrev pub decode_ended : Outcome → Status
decode_ended outcome.Done = status.Done
decode_ended (outcome.Broken stop) = status.Broken stop
decode_ended outcome.ReadFault = status.ReadFault
decode_ended outcome.WriteFault = status.WriteFault
decode_ended outcome.OutOfMemory = status.OutOfMemory
