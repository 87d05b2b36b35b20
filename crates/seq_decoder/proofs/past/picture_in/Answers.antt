use Rattle.std.proofs.Common.{◌∙◌, ap, sym}
use Rattle.std.specs.Prelude.{Some}
use Rattle.std.specs.Option.{option_copied}
use Rattle.seq_decoder.proofs.PastLemmas.{not_there, sound_there, there_as, told_there}
use Rattle.seq_decoder.proofs.past.picture_in.Goals as goal

pub returns-clause-told : goal.returns-clause-told
returns-clause-told g c =
    let told = told_there c.args.table.now c.args.reference.now.slot c.in_ok-place.place c.index.result.now c.requires.table (sym c.place_in.ensures ∙ c.in_ok-place.was) c.index.ensures in
    let sound = sound_there c.args.table.now c.args.reference.now.slot c.in_ok-place.place c.index.result.now c.requires.table (sym c.place_in.ensures ∙ c.in_ok-place.was) c.index.ensures in
    let there = there_as g.P.PictureSample.keeps c.index.result.now _ (option_copied c.picture_of.result) c.in_ok-picture.picture.now told c.requires.kept sound c.picture_of.ensures (ap option_copied c.in_ok-picture.was) in
    (λ i. Some ((c.shape.ensures ∙ there.1) i, there.2 i)) ∙ told

pub returns-clause-from : goal.returns-clause-from
returns-clause-from g c =
    let told = told_there c.args.table.now c.args.reference.now.slot c.in_ok-place.place c.index.result.now c.requires.table (sym c.place_in.ensures ∙ c.in_ok-place.was) c.index.ensures in
    let sound = sound_there c.args.table.now c.args.reference.now.slot c.in_ok-place.place c.index.result.now c.requires.table (sym c.place_in.ensures ∙ c.in_ok-place.was) c.index.ensures in
    let there = there_as g.P.PictureSample.keeps c.index.result.now _ (option_copied c.picture_of.result) c.in_ok-picture.picture.now told c.requires.kept sound c.picture_of.ensures (ap option_copied c.in_ok-picture.was) in
    (there.0, c.shape.ensures)

pub returns-in_err-picture-clause-told : goal.returns-in_err-picture-clause-told
returns-in_err-picture-clause-told g c =
    let told = told_there c.args.table.now c.args.reference.now.slot c.in_ok-place.place c.index.result.now c.requires.table (sym c.place_in.ensures ∙ c.in_ok-place.was) c.index.ensures in
    let sound = sound_there c.args.table.now c.args.reference.now.slot c.in_ok-place.place c.index.result.now c.requires.table (sym c.place_in.ensures ∙ c.in_ok-place.was) c.index.ensures in
    absurd (not_there g.P.PictureSample.keeps c.index.result.now _ (option_copied c.picture_of.result) told c.requires.kept sound c.picture_of.ensures (ap option_copied c.in_err-picture.was))
