-- That a cursor stands in a file is one fact, whatever it is over.
use Rattle.std.specs.Prelude.{ℕ, ◌≤◌, List, length}
use Rattle.webm_container.specs.Code.{Fits, inner_end, outer_end, segment_end}
use Rattle.webm_container.specs.declared.cursor.WebmCursor.{WebmCursor}
use Rattle.file_frames.specs.Cursors.{FitsFile}
use Rattle.file_frames.specs.declared.packets.PacketCursor.{PacketCursor}
use Rattle.file_frames.specs.declared.packets.PacketCursor.TheVariants as cursor
use denote.Struct.Props.{props}

fits_prop : (long : ℕ) (c : WebmCursor) → IsProp (Fits long c)
fits_prop long c x y =
    let here_prop : IsProp (c.at ≤ inner_end long c.segment c.parent) = hlevel props in
    let inner_prop : IsProp (inner_end long c.segment c.parent ≤ outer_end long c.segment c.parent) = hlevel props in
    let outer_prop : IsProp (outer_end long c.segment c.parent ≤ segment_end long c.segment c.parent) = hlevel props in
    let inside_prop : IsProp (segment_end long c.segment c.parent ≤ long) = hlevel props in
    λ i. record {
      here = here_prop x.here y.here i;
      inner = inner_prop x.inner y.inner i;
      outer = outer_prop x.outer y.outer i;
      inside = inside_prop x.inside y.inside i;
    }

pub fits_file_prop : (bytes : List ℕ) (c : PacketCursor) → IsProp (FitsFile bytes c)
fits_file_prop bytes (cursor.Ivf at) = hlevel props
fits_file_prop bytes (cursor.Webm blocks) = fits_prop (length bytes) blocks
fits_file_prop bytes (cursor.Broken rule) = hlevel props
