use Rattle.std.proofs.Common.{ap}
use Rattle.std.specs.Option.{option_copied}
use Rattle.filtered_rows.proofs.Pending.{new_awaits}
use Rattle.filtered_rows.proofs.buffers.next_buffer.Goals as goal

pub returns-in_default-clause-awaits : goal.returns-in_default-clause-awaits
returns-in_default-clause-awaits g c = let a = c.args in new_awaits a.shape.now a.row _ c.new_buffer.result c.requires.above (ap option_copied c.in_default.is) c.new_buffer.ensures.first
