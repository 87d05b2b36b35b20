use Rattle.std.proofs.Common.{◌≡◌, ◌∙◌, refl, sym}
use Rattle.vp9_types.specs.declared.shape.Depth.TheVariants.{Eight}
use Rattle.tap_filter.proofs.DepthLemmas.{of_any, of_bytes}
use Rattle.picture_table.specs.KeptPictures.{KeepInWords}
use Rattle.job_rows.proofs.DueRows.{rows_due, in_words}
use Rattle.job_rows.proofs.strips.do_rows.Goals as goal

pub strip_as-strip-requires : goal.strip_as-strip-requires
strip_as-strip-requires g c κs =
    let due = rows_due g.B.DecodeRun.format g.B.DecodeRun.film c.args.frame c.args.k c.args.row c.requires in
    let at = due.has in
    let eight : at.frame.header.color.depth ≡ Eight = sym (c.depth_of-depth.ensures at.frame at.is) ∙ c.in-Eight.is in
    let fits = of_bytes at.frame.header.color.depth eight in
    ((refl, tt), (due, ((at.frame, at.is, eight), (at.frame, at.is, fits))))

pub strip_as-strip-requires-in-Ten : goal.strip_as-strip-requires-in-Ten
strip_as-strip-requires-in-Ten g c κs =
    let due = rows_due g.B.DecodeRun.format g.B.DecodeRun.film c.args.frame c.args.k c.args.row c.requires in
    let at = due.has in
    let words : KeepInWords at.frame.header.color.depth = in_words at.frame.header.color.depth c.depth_of-depth.result (c.depth_of-depth.ensures at.frame at.is) c.in-Ten.is in
    let fits = of_any at.frame.header.color.depth in
    ((refl, tt), (due, ((at.frame, at.is, words), (at.frame, at.is, fits))))

pub returns-in-Eight : goal.returns-in-Eight
returns-in-Eight g c =
    let due = rows_due g.B.DecodeRun.format g.B.DecodeRun.film c.args.frame c.args.k c.args.row c.requires in
    let at = due.has in
    let eight : at.frame.header.color.depth ≡ Eight = sym (c.depth_of-depth.ensures at.frame at.is) ∙ c.in-Eight.is in
    c.strip_in_bytes.ensures g.B.DecodeRun.format g.B.DecodeRun.film c.args.frame c.args.k c.args.row (at.frame, at.is, eight) c.strip_as-strip.ensures

pub returns-in-Ten : goal.returns-in-Ten
returns-in-Ten g c =
    let due = rows_due g.B.DecodeRun.format g.B.DecodeRun.film c.args.frame c.args.k c.args.row c.requires in
    let at = due.has in
    let words : KeepInWords at.frame.header.color.depth = in_words at.frame.header.color.depth c.depth_of-depth.result (c.depth_of-depth.ensures at.frame at.is) c.in-Ten.is in
    c.strip_in_words.ensures g.B.DecodeRun.format g.B.DecodeRun.film c.args.frame c.args.k c.args.row (at.frame, at.is, words) c.strip_as-strip-in-Ten.ensures
