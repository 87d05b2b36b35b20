use Rattle.std.proofs.Common.{length, string_bytes}
use Rattle.file_frames.specs.Code.{ahead}
use Rattle.vp9_app.proofs.Listings.{HasListed}
use Rattle.vp9_app.proofs.listing.list_file.Given as goal

abbrev pub invariant-frames : goal.invariant-frames
invariant-frames l = HasListed l.bytes (string_bytes l.text) l.persist (ahead l.frames)

abbrev pub decreases-frames : goal.decreases-frames
decreases-frames l = length (ahead l.frames).frames
