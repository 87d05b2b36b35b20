use Rattle.std.proofs.Common.{◌<◌, slice_get, ap, sym, ◌∙◌, arith}
use Rattle.std.proofs.lemmas.Option.{slice_get_read}
use Rattle.vp9_types.specs.Shapes.{bands_of}
use Rattle.band_cells.specs.Code.{name_of}
use Rattle.band_cells.proofs.Names.{same_length, name_at}
use Rattle.band_cells.proofs.store.Store.cell.Goals as goal

pub index-requires : goal.index-requires
index-requires g c =
    let bands = ap (λ s. bands_of s.shape) c.self.view_is in
    omega (arith, same_length _ _ _ 0 _ c.self.invariant.1, bands, c.requires)

pub returns-clause-cell : goal.returns-clause-cell
returns-clause-cell g c =
    let bands = ap (λ s. bands_of s.shape) c.self.view_is in
    let inside : c.args.index < bands_of c.self.inside.shape = omega (arith, bands, c.requires) in
    sym (ap (λ s. slice_get s.cells c.args.index) c.self.view_is)
    ∙ slice_get_read c.self.inside.cells.items _ c.args.index c.index.result.now (sym (same_length _ _ _ 0 _ c.self.invariant.1)) inside c.index.ensures

pub returns-clause-name : goal.returns-clause-name
returns-clause-name g c =
    let bands = ap (λ s. bands_of s.shape) c.self.view_is in
    let inside : c.args.index < bands_of c.self.inside.shape = omega (arith, bands, c.requires) in
    name_at _ _ _ 0 _ c.args.index c.args.index c.index.result.now c.self.invariant.1 inside (omega arith) c.index.ensures ∙ ap (λ s. name_of s.frame c.args.index) c.self.view_is
