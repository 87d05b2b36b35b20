use Rattle.std.proofs.Common.{◌∙◌, ap, sym}
use Rattle.std.specs.Prelude.{Ok, slice_range}
use Rattle.std.proofs.lemmas.Result.{err_from_is_err_and}
use Rattle.compressed_header.specs.CompressedHeader.{forward}
use Rattle.prob_contexts.specs.ProbLists.{lists_of}
use Rattle.frame_state.proofs.TileSpans.{forward_breaks, forward_not_started, sizes_break}
use Rattle.frame_state.proofs.beginning.begin_frame.Goals as goal

pub returns-in_err-contexts : goal.returns-in_err-contexts
returns-in_err-contexts c =
    let p = err_from_is_err_and c.from_residual.result c.from_residual.ensures.1 in
    rw (p.1, p.2) (λ past same. forward_breaks (record { header = c.args.header.now; compressed = c.args.compressed; bytes = c.args.bytes.now; past = past }) _
    (ap (λ before. forward c.args.header.now before (slice_range c.args.bytes.now c.args.compressed.from c.args.compressed.to)) same ∙ forward_not_started _ _ _ _ c.in_err-contexts.ensures))

pub returns-in_err-check_tiles : goal.returns-in_err-check_tiles
returns-in_err-check_tiles c =
    let p = err_from_is_err_and c.from_residual-in_err-check_tiles.result c.from_residual-in_err-check_tiles.ensures.1 in
    rw (p.1, p.2) (λ past same. sizes_break (record { header = c.args.header.now; compressed = c.args.compressed; bytes = c.args.bytes.now; past = past }) _ _
    (ap (λ before. forward c.args.header.now before (slice_range c.args.bytes.now c.args.compressed.from c.args.compressed.to)) same ∙ c.in_ok-contexts.ensures) c.in_err-check_tiles.ensures)

pub returns : goal.returns
returns c =
    let set = c.new.ensures in (
      set.header,
      c.in_ok-contexts.ensures ∙ (λ i. Ok (lists_of (sym set.contexts i), sym set.modes i)),
      c.in_ok-check_tiles.ensures,
    )
