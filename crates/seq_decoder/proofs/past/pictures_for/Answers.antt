use Rattle.picture_table.specs.Code.{held}
use Rattle.vp9_types.specs.declared.block.ReferenceFrame.TheVariants.{Last, Golden, Altref}
use Rattle.seq_decoder.proofs.PastLemmas.{has_pictures, kept_named, references_are}
use Rattle.seq_decoder.proofs.past.pictures_for.Goals as goal

pub returns-in-Inter-clause-pictures : goal.returns-in-Inter-clause-pictures
returns-in-Inter-clause-pictures g c = λ slots same.
    references_are slots (held c.args.table.now) c.in-Inter.fields c.args.header.now.kind
    (record { shape = c.shape-shape.result; last = c.picture_in.result; golden = c.picture_in-in-Inter.result; altref = c.picture_in-in-Inter-2.result }) c.in-Inter.is same
    (record {
      last = c.picture_in.ensures.told;
      golden = c.picture_in-in-Inter.ensures.told;
      altref = c.picture_in-in-Inter-2.ensures.told;
      last_from = c.picture_in.ensures.from;
      golden_from = c.picture_in-in-Inter.ensures.from;
      altref_from = c.picture_in-in-Inter-2.ensures.from;
    })

pub returns-in-Inter-clause-has : goal.returns-in-Inter-clause-has
returns-in-Inter-clause-has g c =
    has_pictures c.args.header.now c.in-Inter.fields (held c.args.table.now)
    (record { shape = c.shape-shape.result; last = c.picture_in.result; golden = c.picture_in-in-Inter.result; altref = c.picture_in-in-Inter-2.result })
    c.in-Inter.is c.shape-shape.ensures c.requires.size c.requires.held
    (record {
      last = c.picture_in.ensures.told;
      golden = c.picture_in-in-Inter.ensures.told;
      altref = c.picture_in-in-Inter-2.ensures.told;
      last_from = c.picture_in.ensures.from;
      golden_from = c.picture_in-in-Inter.ensures.from;
      altref_from = c.picture_in-in-Inter-2.ensures.from;
    })

pub picture_in-requires-clause-kept : goal.picture_in-requires-clause-kept
picture_in-requires-clause-kept g c = kept_named g.P.PictureSample.keeps c.args.header.now c.in-Inter.fields (held c.args.table.now) c.in-Inter.is c.requires.held c.requires.kept Last

pub picture_in-requires-in-Inter-clause-kept : goal.picture_in-requires-in-Inter-clause-kept
picture_in-requires-in-Inter-clause-kept g c = kept_named g.P.PictureSample.keeps c.args.header.now c.in-Inter.fields (held c.args.table.now) c.in-Inter.is c.requires.held c.requires.kept Golden

pub picture_in-requires-in-Inter-2-clause-kept : goal.picture_in-requires-in-Inter-2-clause-kept
picture_in-requires-in-Inter-2-clause-kept g c = kept_named g.P.PictureSample.keeps c.args.header.now c.in-Inter.fields (held c.args.table.now) c.in-Inter.is c.requires.held c.requires.kept Altref
