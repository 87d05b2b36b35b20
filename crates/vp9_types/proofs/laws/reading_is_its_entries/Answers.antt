use Rattle.vp9_types.proofs.EntryLaws.{reads_entries, entries_read, one_reading, fails_after, entries_fail}
use Rattle.vp9_types.proofs.laws.reading_is_its_entries.Goals as goal

pub returns : goal.returns
returns g c = record { spelled = reads_entries; read = entries_read; once = one_reading; fault = fails_after; met = entries_fail }
