use Rattle.std.proofs.Common.{◌≡◌, ◌∙◌, ◌≤◌, refl, sym, arith}
use Rattle.vp9_types.specs.Sizes.{greatest}
use Rattle.vp9_types.specs.declared.shape.Depth.TheVariants.{Eight}
use Rattle.tap_filter.proofs.DepthLemmas.{of_any, of_bytes}
use Rattle.picture_table.specs.KeptPictures.{KeepInWords}
use Rattle.job_rows.proofs.DueRows.{filter_due, in_words}
use Rattle.job_rows.proofs.filters.do_filter.Goals as goal

pub filtered_as-rows-requires : goal.filtered_as-rows-requires
filtered_as-rows-requires g c κs =
    let due = filter_due g.B.DecodeRun.format g.B.DecodeRun.film c.args.frame c.args.row c.requires in
    let at = due in
    let eight : at.frame.header.color.depth ≡ Eight = sym (c.depth_of-depth.ensures at.frame at.is) ∙ c.in-Eight.is in
    let fits : greatest at.frame.header.color.depth ≤ 255 = omega (arith, of_bytes at.frame.header.color.depth eight) in
    ((refl, tt), (due, ((at.frame, at.is, eight), (at.frame, at.is, fits))))

pub filtered_as-rows-requires-in-Ten : goal.filtered_as-rows-requires-in-Ten
filtered_as-rows-requires-in-Ten g c κs =
    let due = filter_due g.B.DecodeRun.format g.B.DecodeRun.film c.args.frame c.args.row c.requires in
    let at = due in
    let words : KeepInWords at.frame.header.color.depth = in_words at.frame.header.color.depth c.depth_of-depth.result (c.depth_of-depth.ensures at.frame at.is) c.in-Ten.is in
    let fits : greatest at.frame.header.color.depth ≤ 65535 = omega (arith, of_any at.frame.header.color.depth) in
    ((refl, tt), (due, ((at.frame, at.is, words), (at.frame, at.is, fits))))

pub returns-in-Eight : goal.returns-in-Eight
returns-in-Eight g c =
    let due = filter_due g.B.DecodeRun.format g.B.DecodeRun.film c.args.frame c.args.row c.requires in
    let at = due in
    let eight : at.frame.header.color.depth ≡ Eight = sym (c.depth_of-depth.ensures at.frame at.is) ∙ c.in-Eight.is in
    c.filtered_in_bytes.ensures g.B.DecodeRun.format g.B.DecodeRun.film c.args.frame c.args.row (at.frame, at.is, eight) c.filtered_as-rows.ensures

pub returns-in-Ten : goal.returns-in-Ten
returns-in-Ten g c =
    let due = filter_due g.B.DecodeRun.format g.B.DecodeRun.film c.args.frame c.args.row c.requires in
    let at = due in
    let words : KeepInWords at.frame.header.color.depth = in_words at.frame.header.color.depth c.depth_of-depth.result (c.depth_of-depth.ensures at.frame at.is) c.in-Ten.is in
    c.filtered_in_words.ensures g.B.DecodeRun.format g.B.DecodeRun.film c.args.frame c.args.row (at.frame, at.is, words) c.filtered_as-rows-in-Ten.ensures
