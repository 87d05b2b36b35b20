use Rattle.std.proofs.Common.{◌+◌, ◌∙◌, arith, map}
use Rattle.inter_places.specs.Axes.{straight}
use Rattle.inter_predict.specs.Code.{IsCopied, strided}
use Rattle.inter_predict.proofs.Agree.{along_copied, straight_below}
use Rattle.inter_predict.proofs.piece_lines.fill_piece.Goals as goal

pub returns-in-4 : goal.returns-in-4
returns-in-4 g c = λ i j high low. let a = c.args in let p = a.place.now in
    let copied : IsCopied p.across p.columns = c.copied_columns.ensures.copied (omega (arith, c.in-4.is)) in
    c.copy_piece.ensures i j high low ∙ along_copied a.by.most a.by.kind p.across (strided a.stride (map g.P.Sample.value a.samples.now) i) j copied.step copied.phase
    (c.requires.piece.small i (straight p.across (j + 3)) high (straight_below p.across (j + 3) c.requires.place.across.some))

pub returns-in-8 : goal.returns-in-8
returns-in-8 g c = λ i j high low. let a = c.args in let p = a.place.now in
    let copied : IsCopied p.across p.columns = c.copied_columns.ensures.copied (omega (arith, c.in-8.is)) in
    c.copy_piece-in-8.ensures i j high low ∙ along_copied a.by.most a.by.kind p.across (strided a.stride (map g.P.Sample.value a.samples.now) i) j copied.step copied.phase
    (c.requires.piece.small i (straight p.across (j + 3)) high (straight_below p.across (j + 3) c.requires.place.across.some))

pub returns-in-16 : goal.returns-in-16
returns-in-16 g c = λ i j high low. let a = c.args in let p = a.place.now in
    let copied : IsCopied p.across p.columns = c.copied_columns.ensures.copied (omega (arith, c.in-16.is)) in
    c.copy_piece-in-16.ensures i j high low ∙ along_copied a.by.most a.by.kind p.across (strided a.stride (map g.P.Sample.value a.samples.now) i) j copied.step copied.phase
    (c.requires.piece.small i (straight p.across (j + 3)) high (straight_below p.across (j + 3) c.requires.place.across.some))

pub returns-in-32 : goal.returns-in-32
returns-in-32 g c = λ i j high low. let a = c.args in let p = a.place.now in
    let copied : IsCopied p.across p.columns = c.copied_columns.ensures.copied (omega (arith, c.in-32.is)) in
    c.copy_piece-in-32.ensures i j high low ∙ along_copied a.by.most a.by.kind p.across (strided a.stride (map g.P.Sample.value a.samples.now) i) j copied.step copied.phase
    (c.requires.piece.small i (straight p.across (j + 3)) high (straight_below p.across (j + 3) c.requires.place.across.some))

pub returns-in-64 : goal.returns-in-64
returns-in-64 g c = λ i j high low. let a = c.args in let p = a.place.now in
    let copied : IsCopied p.across p.columns = c.copied_columns.ensures.copied (omega (arith, c.in-64.is)) in
    c.copy_piece-in-64.ensures i j high low ∙ along_copied a.by.most a.by.kind p.across (strided a.stride (map g.P.Sample.value a.samples.now) i) j copied.step copied.phase
    (c.requires.piece.small i (straight p.across (j + 3)) high (straight_below p.across (j + 3) c.requires.place.across.some))
