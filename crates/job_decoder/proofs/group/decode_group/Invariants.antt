use Rattle.std.proofs.Common.{◌++◌, map}
use Rattle.job_decoder.specs.Pasts.{film_with, frames_behind}
use Rattle.job_decoder.proofs.group.decode_group.Given as goal

abbrev pub ghosts-decode_behind : goal.ghosts-decode_behind
ghosts-decode_behind g a = record {
  format = a.next.format;
  film = film_with a.next.rate (frames_behind a.past ++ map (λ frame. frame.now) a.next.frames.items);
  first = a.past.count;
  taken = g.K.Sink.taken a.sink;
  faults = g.K.Sink.faults a.sink;
  grows = g.K.Sink.grows a.sink;
}
