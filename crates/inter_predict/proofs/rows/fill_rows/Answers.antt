use Rattle.std.proofs.Common.{◌+◌, ◌∙◌, arith}
use Rattle.inter_places.specs.Axes.{straight}
use Rattle.inter_predict.specs.Code.{IsCopied}
use Rattle.inter_predict.proofs.Agree.{along_whole}
use Rattle.inter_predict.proofs.rows.fill_rows.Goals as goal

pub returns-in-4 : goal.returns-in-4
returns-in-4 g c = λ i j high low. let a = c.args in let p = a.place.now in
    let copied : IsCopied p.across p.columns = c.copied_columns.ensures.copied (omega (arith, c.in-4.is)) in
    c.copy_lines.ensures i j high low ∙ along_whole a.by.most a.by.kind p.across (g.S.Samples.map a.view.now p.plane (straight p.down (a.first + i))) j copied.step copied.phase
    (c.requires.samples (straight p.down (a.first + i)))

pub returns-in-8 : goal.returns-in-8
returns-in-8 g c = λ i j high low. let a = c.args in let p = a.place.now in
    let copied : IsCopied p.across p.columns = c.copied_columns.ensures.copied (omega (arith, c.in-8.is)) in
    c.copy_lines-in-8.ensures i j high low ∙ along_whole a.by.most a.by.kind p.across (g.S.Samples.map a.view.now p.plane (straight p.down (a.first + i))) j copied.step copied.phase
    (c.requires.samples (straight p.down (a.first + i)))

pub returns-in-16 : goal.returns-in-16
returns-in-16 g c = λ i j high low. let a = c.args in let p = a.place.now in
    let copied : IsCopied p.across p.columns = c.copied_columns.ensures.copied (omega (arith, c.in-16.is)) in
    c.copy_lines-in-16.ensures i j high low ∙ along_whole a.by.most a.by.kind p.across (g.S.Samples.map a.view.now p.plane (straight p.down (a.first + i))) j copied.step copied.phase
    (c.requires.samples (straight p.down (a.first + i)))

pub returns-in-32 : goal.returns-in-32
returns-in-32 g c = λ i j high low. let a = c.args in let p = a.place.now in
    let copied : IsCopied p.across p.columns = c.copied_columns.ensures.copied (omega (arith, c.in-32.is)) in
    c.copy_lines-in-32.ensures i j high low ∙ along_whole a.by.most a.by.kind p.across (g.S.Samples.map a.view.now p.plane (straight p.down (a.first + i))) j copied.step copied.phase
    (c.requires.samples (straight p.down (a.first + i)))

pub returns-in-64 : goal.returns-in-64
returns-in-64 g c = λ i j high low. let a = c.args in let p = a.place.now in
    let copied : IsCopied p.across p.columns = c.copied_columns.ensures.copied (omega (arith, c.in-64.is)) in
    c.copy_lines-in-64.ensures i j high low ∙ along_whole a.by.most a.by.kind p.across (g.S.Samples.map a.view.now p.plane (straight p.down (a.first + i))) j copied.step copied.phase
    (c.requires.samples (straight p.down (a.first + i)))
