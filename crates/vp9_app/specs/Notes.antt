-- The line that tells how a run ended.
use Rattle.std.specs.Prelude.{ℕ, List, [], ◌++◌, codes}
use Rattle.std.specs.Fmt.{decimal}
use Rattle.vp9_types.specs.declared.outcome.Stop.{Stop}
use Rattle.vp9_types.specs.Rules.{rule_number, rule_name}
use Rattle.vp9_app.specs.declared.status.Status.{Status}
use Rattle.vp9_app.specs.declared.status.Status.TheVariants as status
use Rattle.vp9_app.specs.ListingLines.{line_feed}

-- as `frame 3: rule 7 FrameMarker`
unfoldable pub stop_line : Stop → List ℕ
stop_line stop = codes "frame " ++ decimal stop.frame ++ codes ": rule " ++ decimal (rule_number stop.rule) ++ codes " " ++ rule_name stop.rule ++ line_feed

abbrev pub note_line : Status → List ℕ
note_line status.Done = []
note_line status.Usage = codes "usage: vp9dec list / decode / make / trial\n"
note_line (status.Broken stop) = stop_line stop
note_line status.ReadFault = codes "read fault\n"
note_line status.WriteFault = codes "write fault\n"
note_line status.OutOfMemory = codes "out of memory\n"
