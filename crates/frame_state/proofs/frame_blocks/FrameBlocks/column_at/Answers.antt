use Rattle.std.proofs.Common.{◌≡◌, ◌∙◌, ◌<◌, ◌≤◌, ◌+◌, ◌^◌, ℕ, length, arith, inl, inr, ap, subst}
use Rattle.std.proofs.lemmas.Bool.{cases_lt}
use Rattle.vp9_types.specs.Shapes.{mi_cols}
use Rattle.frame_headers.specs.HeaderState.{shape_of}
use Rattle.frame_headers.specs.Spans.{tile_count}
use Rattle.frame_state.specs.KeptColumns.{IsTileColumn}
use Rattle.frame_state.proofs.TileOffsets.{begins_at, first_low, last_high, place_below}
use Rattle.frame_state.proofs.frame_blocks.FrameBlocks.column_at.Goals.{then-first_col-col, else-first_col-col}
use Rattle.frame_state.proofs.frame_blocks.FrameBlocks.column_at.Goals as goal

pub loop-k-init : goal.loop-k-init
loop-k-init c =
    let header = c.args.self.now.header.now in
    let many = c.args.self.now.are.are.many in record {
      there = omega (arith, many, place_below (mi_cols (shape_of header)) header.params.tiles.columns_log2 c.args.col c.requires);
      low = omega arith;
      from = first_low (mi_cols (shape_of header)) header.params.tiles.columns_log2 c.args.col c.requires;
      behind = λ j after before. absurd (omega (arith, after, before));
    }

pub loop-k-preserved : goal.loop-k-preserved
loop-k-preserved c =
    let self = c.args.self.now in
    let i = c.loop-k.invariant in
    let k = c.loop-k.k in
    let there : k < length self.columns.now = omega (arith, c.loop-k-test.true) in
    let is = self.are.are.each k c.index-self-k.result there in
    let from : c.first_col.result ≡ begins_at self.header.now k = c.first_col.ensures ∙ is.from in
    elim c.if-first_col-col.branch [
      | then-first_col-col w ↦ rw w.at-is (record {
        there = there;
        low = omega arith;
        from = omega (arith, from, w.if-first_col-col);
        behind = λ j after before. absurd (omega (arith, after, before));
      })
      | else-first_col-col w ↦ rw w.at-is (record {
        there = i.there;
        low = omega (arith, i.low);
        from = i.from;
        behind = λ j after before. elim (cases_lt j k) [
          | inl low ↦ i.behind j after low
          | inr high ↦
              let same : j ≡ k = omega (arith, before, high) in
              rw same (omega (arith, from, w.if-first_col-col))
        ];
      })
    ]

pub returns-clause-to : goal.returns-clause-to
returns-clause-to c =
    let self = c.args.self.now in
    let i = c.loop-k.invariant in
    let at = c.loop-k.at in
    let header = self.header.now in
    let many = self.are.are.many in
    elim (cases_lt (at + 1) c.loop-k.k) [
      | inl low ↦ i.behind (at + 1) (omega arith) low
      | inr high ↦
          let last : at + 1 ≡ 2 ^ header.params.tiles.columns_log2 = omega (arith, i.there, i.low, high, many, c.loop-k-test.false) in
          rw last (last_high (mi_cols (shape_of header)) header.params.tiles.columns_log2 c.args.col c.requires)
    ]
