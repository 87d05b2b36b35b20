-- The tiles of a frame are read in columns.
use Rattle.std.proofs.Common.{◌≡◌, ℕ, ◌+◌, ◌*◌, ◌∙◌, refl, ap, subst, arith}
use Rattle.std.specs.Prelude.{Ok}
use Rattle.vp9_types.specs.Syntax.{Syntax, done, broken, ask}
use Rattle.vp9_types.specs.declared.block.Modes.{Modes}
use Rattle.vp9_types.specs.declared.rule.Rule.{Rule}
use Rattle.bool_decoder.specs.Window.{Window, bit_of, after_bit}
use Rattle.bool_decoder.specs.Bools.{run_bools}
use Rattle.frame_headers.specs.declared.header.Header.{Header}
use Rattle.prob_contexts.specs.ProbLists.{ContextLists}
use Rattle.block_geometry.specs.declared.transform_blocks.FramePlaces.{FramePlaces}
use Rattle.counting_reader.specs.Counting.{Settled}
use Rattle.mode_syntax.specs.Walk.{decode_tile}
use Rattle.counting_reader.specs.Counting.{Yields}
use Rattle.counting_reader.specs.Counting.{mapped}
use Rattle.mode_syntax.proofs.Mapped.{tile_step}
use Rattle.mode_syntax.proofs.Kept.{tile_kept}
use Rattle.mode_syntax.proofs.ModeWalks.{own_columns, other_columns}
use Rattle.mode_syntax.specs.Laws.{squares_from, in_columns, next_block, mode_walk, Layout, IsLaidOut, mode_tile, column_blocks}
use Rattle.mode_syntax.specs.TileColumns.{viewed, AreSeparate, settled_part}

pub run_mapped : {S T : Type 0} (f : S → T) (s : Syntax ℕ Rule (Settled S)) (w : Window) → settled_part (run_bools (mapped f s) w) ≡ viewed f (settled_part (run_bools s w))
unfolding mapped
run_mapped f (done x) w = refl
run_mapped f (broken e) w = refl
run_mapped f (ask p k) w = run_mapped f (k (bit_of p w)) (after_bit p w)

pub run_yields : {S : Type 0} (P : S → Type 0) (s : Syntax ℕ Rule (Settled S)) (w : Window) (t : Settled S) → Yields s P → settled_part (run_bools s w) ≡ Ok t → P t.value
run_yields P (done x) w t has is = let same : x ≡ t = cc in subst (λ u. P u.value) same has
run_yields P (broken e) w t has is = let no : ⊥ = cc in absurd no
run_yields P (ask p k) w t has is = run_yields P (k (bit_of p w)) (after_bit p w) t (has (bit_of p w)) is

pub tiles_separate : (header : Header) (modes : Modes) (contexts : ContextLists) (frame : FramePlaces) (l : Layout) (column_of : ℕ → ℕ) → IsLaidOut frame l
    → AreSeparate column_of (mode_tile header modes contexts frame l column_of) (column_blocks l) (mode_tile header modes contexts frame l column_of)
unfolding mode_tile
tiles_separate header modes contexts frame l column_of laid = record {
  own = λ n s.
      let k = column_of n in
      let walk = mode_walk header modes contexts frame (l.from k) (l.to k) in
      ap (λ x. settled_part (run_bools x (l.window n)))
      (tile_step walk (next_block header modes contexts) (λ bs. bs) (in_columns (l.from k) (l.to k)) (l.from k) (l.from k + 8 * l.wide k)
      (own_columns header modes contexts frame (l.from k) (l.to k) (l.from k + 8 * l.wide k) (laid.ends k)) (l.wide k) (l.row n) (l.from k) (l.high n) s (omega arith) (omega arith))
      ∙ run_mapped (in_columns (l.from k) (l.to k)) (decode_tile walk (squares_from walk (l.wide k) (l.row n) (l.from k) (l.high n)) s) (l.window n);
  others = λ n k s t other is.
      let j = column_of n in
      let walk = mode_walk header modes contexts frame (l.from j) (l.to j) in
      run_yields (λ bs. in_columns (l.from k) (l.to k) bs ≡ in_columns (l.from k) (l.to k) s) (decode_tile walk (squares_from walk (l.wide j) (l.row n) (l.from j) (l.high n)) s) (l.window n) t
      (tile_kept walk (λ bs. in_columns (l.from k) (l.to k) bs ≡ in_columns (l.from k) (l.to k) s) (l.from j) (l.from j + 8 * l.wide j)
      (other_columns header modes contexts frame (l.from j) (l.to j) (l.from j) (l.from j + 8 * l.wide j) (l.from k) (l.to k) (in_columns (l.from k) (l.to k) s) (laid.apart j k other))
      (l.wide j) (l.row n) (l.from j) (l.high n) s (omega arith) (omega arith) refl)
      is;
}
