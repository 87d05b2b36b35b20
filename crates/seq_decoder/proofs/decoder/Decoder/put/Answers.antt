use Rattle.std.proofs.Common.{◌≡◌, ◌∙◌, Some, ap, refl, sym, true, false}
use Rattle.std.specs.Prelude.{Ok, Err}
use Rattle.edge_io.proofs.Fronts.{takes_none}
use Rattle.vp9_types.specs.declared.rule.Rule.TheVariants.{OutputShape}
use Rattle.picture_table.specs.KeptPictures.{map_of_any}
use Rattle.seq_decoder.specs.Code.{refusal_outcome}
use Rattle.seq_decoder.specs.Outcomes.{outcome_at}
use Rattle.seq_decoder.specs.Outputs.{admits, form_after}
use Rattle.seq_decoder.proofs.FrameLemmas.{puts_there, refused_puts, sound_there, told_by}
use Rattle.seq_decoder.proofs.decoder.Decoder.put.Goals as goal

pub returns-then-not-admits-clause-puts : goal.returns-then-not-admits-clause-puts
returns-then-not-admits-clause-puts g c =
    let got = c.index-picture.result.now in
    let form = c.args.self.now.form in
    let fits : admits form (Some (told_by got)) ≡ false =
    sym (ap (λ s. admits form (Some (record { frame = 0; shape = s; map = map_of_any got }))) c.shape_of_any-shape.ensures) ∙ sym (c.admits.ensures 0 (map_of_any got)) ∙ c.if-not-admits.true in
    rw c.outcome_at.ensures
    (puts_there c.args.number c.args.self.now.table.pictures.items c.args.place c.in-Some.place got form form (g.K.Sink.taken c.args.sink.now) (g.K.Sink.taken c.args.sink.now) (g.K.Sink.faults c.args.sink.now) (g.K.Sink.faults c.args.sink.now) (Err (outcome_at c.args.number OutputShape)) c.in-Some.is c.requires.there c.index-picture.ensures
    (fits, refl, takes_none (g.K.Sink.taken c.args.sink.now), refl))

pub show-requires-clause-sound : goal.show-requires-clause-sound
show-requires-clause-sound g c =
    sound_there c.args.self.now.table.pictures.items c.args.place c.in-Some.place c.index-picture.result.now c.in-Some.is c.requires.there c.index-picture.ensures c.requires.sound

pub returns-in-Err-clause-puts : goal.returns-in-Err-clause-puts
returns-in-Err-clause-puts g c =
    let got = c.index-picture.result.now in
    let form = c.args.self.now.form in
    let fits : admits form (Some (told_by got)) ≡ true =
    sym (ap (λ s. admits form (Some (record { frame = 0; shape = s; map = map_of_any got }))) c.shape_of_any-shape.ensures) ∙ sym (c.admits.ensures 0 (map_of_any got)) ∙ c.if-not-admits.false in
    rw c.refusal_outcome.ensures
    (puts_there c.args.number c.args.self.now.table.pictures.items c.args.place c.in-Some.place got form form (g.K.Sink.taken c.args.sink.now) (g.K.Sink.taken c.show.new.sink) (g.K.Sink.faults c.args.sink.now) (g.K.Sink.faults c.show.new.sink) (Err (refusal_outcome c.in-Err.refusal)) c.in-Some.is c.requires.there c.index-picture.ensures
    (refused_puts c.args.number (Some (told_by got)) form form (g.K.Sink.taken c.args.sink.now) (g.K.Sink.taken c.show.new.sink) (g.K.Sink.faults c.args.sink.now) (g.K.Sink.faults c.show.new.sink) c.in-Err.refusal fits c.in-Err.ensures.shows))

pub returns-clause-puts : goal.returns-clause-puts
returns-clause-puts g c =
    let got = c.index-picture.result.now in
    let form = c.args.self.now.form in
    let fits : admits form (Some (told_by got)) ≡ true =
    sym (ap (λ s. admits form (Some (record { frame = 0; shape = s; map = map_of_any got }))) c.shape_of_any-shape.ensures) ∙ sym (c.admits.ensures 0 (map_of_any got)) ∙ c.if-not-admits.false in
    let behind : c.after-self.result ≡ form_after form (Some (told_by got)) =
    c.after-self.ensures 0 (map_of_any got) ∙ ap (λ s. form_after form (Some (record { frame = 0; shape = s; map = map_of_any got }))) c.shape_of_any-shape.ensures in
    puts_there c.args.number c.args.self.now.table.pictures.items c.args.place c.in-Some.place got form c.after-self.result (g.K.Sink.taken c.args.sink.now) (g.K.Sink.taken c.show.new.sink) (g.K.Sink.faults c.args.sink.now) (g.K.Sink.faults c.show.new.sink) (Ok (tt {0})) c.in-Some.is c.requires.there c.index-picture.ensures
    (fits, behind, c.in_default-show.ensures.shows.0, c.in_default-show.ensures.shows.1)
