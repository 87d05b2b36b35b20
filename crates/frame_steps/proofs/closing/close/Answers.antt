use Rattle.std.proofs.Common.{◌≡◌, ap, refl, subst, List, ℕ}
use Rattle.std.specs.Prelude.{◌↔◌, Contains, Result, Ok, Err}
use Rattle.std.proofs.lemmas.Result.{err_from_is_err_and}
use Rattle.seq_decoder.specs.frame_decoder.declared.decoding.Decoded.{Decoded}
use Rattle.seq_decoder.specs.frame_state.declared.halt.Halt.{Halt}
use Rattle.seq_decoder.specs.frame_state.declared.halt.Halt.TheVariants as halt
use Rattle.recon_rows.specs.tile_syntax.declared.plans.Unplanned.{Unplanned}
use Rattle.recon_rows.specs.tile_syntax.declared.plans.Unplanned.TheVariants as unplanned
use Rattle.frame_close.specs.Code.{lent}
use Rattle.frame_steps.proofs.Joined.{JoinsAll, decoded_is, gives_halt, joins_it}
use Rattle.frame_steps.proofs.closing.close.Goals as goal

pub returns-in_err-counts-2 : goal.returns-in_err-counts-2
returns-in_err-counts-2 g c =
    let p = err_from_is_err_and c.from_residual-in_err-counts-2.result c.from_residual-in_err-counts-2.ensures.1 in
    let b = c.args.frame.now in
    let results = lent c.in_ok-counts.field-0.counts.items in
    let joins : JoinsAll results (Err c.in_err-counts-2.field-0.0) = subst (λ (xs : List (Result (List ℕ) Unplanned)). JoinsAll xs (Err c.in_err-counts-2.field-0.0)) (ap lent c.deref.ensures.value) c.in_err-counts-2.ensures.frame in
    rw (p.1, p.2) (gives_halt b results c.in_ok-counts.field-0.columns.items _ c.requires.sound c.in_ok-counts.ensures (joins_it b results (Err c.in_err-counts-2.field-0.0) joins))

pub returns : goal.returns
returns g c =
    let b = c.args.frame.now in
    let results = lent c.in_ok-counts.field-0.counts.items in
    let counts = c.in_ok-counts-2.counts in
    let joins : JoinsAll results (Ok counts) = subst (λ (xs : List (Result (List ℕ) Unplanned)). JoinsAll xs (Ok counts)) (ap lent c.deref.ensures.value) c.in_ok-counts-2.ensures.frame in
    let d : Decoded = record { contexts = b.setting.contexts; columns = c.in_ok-counts.field-0.columns; counts = counts } in
    decoded_is b results c.in_ok-counts.field-0.columns.items counts d c.requires.sound c.in_ok-counts.ensures (joins_it b results (Ok counts) joins)
    (subst (λ (xs : List (Result (List ℕ) Unplanned)). ◌≡◌ {A = Result (List ℕ) Halt} (Ok counts) (Err halt.OutOfMemory) ↔ Contains xs (Err unplanned.OutOfMemory)) (ap lent c.deref.ensures.value) c.in_ok-counts-2.ensures.memory)
    refl refl refl
