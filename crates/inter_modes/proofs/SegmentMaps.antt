-- The map of segments after a block more.
use Rattle.std.proofs.Common.{◌≡◌, ℕ, ◌+◌, ◌-◌, ◌*◌, ◌<◌, ◌≤◌, ◌&&◌, ◌++◌, ◌∷◌, [], ◌∙◌, Bool, true, false, List, min, refl, sym, ap, arith, Option, Some, None, if◌then◌else◌}
use Rattle.std.specs.Prelude.{nat_lt}
use Rattle.std.proofs.Math.Path.{fun_ext}
use Rattle.std.proofs.lemmas.Bool.{cases_Bool, ltb-true, ltb-false}
use Rattle.std.proofs.lemmas.Bool.Decides.{nat_tests}
use Rattle.vp9_types.specs.Maps.{Map, is_within, with_block}
use Rattle.block_geometry.specs.Parts.{part_inside}
use Rattle.block_geometry.specs.BlockSizes.{width_8, height_8}
use Rattle.block_geometry.specs.declared.transform_blocks.FramePlaces.{FramePlaces}
use Rattle.block_plan.specs.Blocks.{covers, covering, or_else}
use Rattle.block_plan.specs.declared.block.BlockInfo.{BlockInfo}
use Rattle.block_plan.proofs.Covers.{covering-push}
use Rattle.inter_modes.specs.LeftSegments.{segment_or, segments_of}

cut : (from n end k : ℕ) → k < end → is_within from (min n (end - from)) k ≡ is_within from n k
cut from n end k low = grind (arith, nat_tests)

-- what a block covers in a frame is the part of it inside
covered : (frame : FramePlaces) (b : BlockInfo) (r c : ℕ) → r < frame.rows → c < frame.cols
    → (is_within b.row (min (height_8 b.size) (frame.rows - b.row)) r && is_within b.col (min (width_8 b.size) (frame.cols - b.col)) c) ≡ covers b r c
covered frame b r c high wide =
    ap (λ x. x && is_within b.col (min (width_8 b.size) (frame.cols - b.col)) c) (cut b.row (height_8 b.size) frame.rows r high)
    ∙ ap (λ x. is_within b.row (height_8 b.size) r && x) (cut b.col (width_8 b.size) frame.cols c wide)

-- outside of the frame a part has no place
apart : (from n end k : ℕ) → from < end → end ≤ k → is_within from (min n (end - from)) k ≡ false
apart from n end k low past = grind (arith, nat_tests)

chosen : (old : ℕ) (b : BlockInfo) (found : Option BlockInfo) (here : Bool)
    → (if here then b.segment else segment_or old found) ≡ segment_or old (or_else (if here then Some b else None) found)
chosen old b found true = refl
chosen old b found false = refl

both_false : (a b : Bool) → b ≡ false → (a && b) ≡ false
both_false true b is = is
both_false false b is = refl

at_place : (frame : FramePlaces) (blocks : List BlockInfo) (b : BlockInfo) (ids : Map) (r c : ℕ) (high wide here : Bool)
    → b.row < frame.rows → b.col < frame.cols → nat_lt r frame.rows ≡ high → nat_lt c frame.cols ≡ wide
    → (is_within b.row (min (height_8 b.size) (frame.rows - b.row)) r && is_within b.col (min (width_8 b.size) (frame.cols - b.col)) c) ≡ here
    → (if here then b.segment else (if high && wide then segment_or (ids r c) (covering blocks r c) else ids r c))
    ≡ (if high && wide then segment_or (ids r c) (covering (blocks ++ b ∷ []) r c) else ids r c)
at_place frame blocks b ids r c true true here row col high wide is =
    let same : covers b r c ≡ here = sym (covered frame b r c (ltb-true r frame.rows high) (ltb-true c frame.cols wide)) ∙ is in
    chosen (ids r c) b (covering blocks r c) here ∙ sym (ap (segment_or (ids r c)) (covering-push blocks b r c ∙ ap (λ x. or_else (if x then Some b else None) (covering blocks r c)) same))
at_place frame blocks b ids r c true false here row col high wide is =
    let none : here ≡ false = sym is ∙ both_false _ _ (apart b.col (width_8 b.size) frame.cols c col (ltb-false c frame.cols wide)) in rw none refl
at_place frame blocks b ids r c false wide here row col high low is =
    let none : here ≡ false = sym is ∙ ap (λ x. x && is_within b.col (min (width_8 b.size) (frame.cols - b.col)) c) (apart b.row (height_8 b.size) frame.rows r row (ltb-false r frame.rows high)) in rw none refl

pub segments_more : (frame : FramePlaces) (blocks : List BlockInfo) (b : BlockInfo) (ids : Map) → b.row < frame.rows → b.col < frame.cols
    → with_block (segments_of frame blocks ids) b.row b.col (min (height_8 b.size) (frame.rows - b.row)) (min (width_8 b.size) (frame.cols - b.col)) (λ _ _. b.segment)
    ≡ segments_of frame (blocks ++ b ∷ []) ids
unfolding segments_of with_block
segments_more frame blocks b ids row col = fun_ext λ r. fun_ext λ c.
    at_place frame blocks b ids r c (nat_lt r frame.rows) (nat_lt c frame.cols) _ row col refl refl refl

kept : (ids : Map) (r c : ℕ) (inside : Bool) → ids r c ≡ (if inside then segment_or (ids r c) None else ids r c)
kept ids r c true = refl
kept ids r c false = refl

pub no_segments : (frame : FramePlaces) (ids : Map) → ids ≡ segments_of frame [] ids
unfolding segments_of covering
no_segments frame ids = fun_ext λ r. fun_ext λ c. kept ids r c (nat_lt r frame.rows && nat_lt c frame.cols)

-- a map where a block was put, in the frame's own size
pub put_more : (frame size : FramePlaces) (blocks : List BlockInfo) (b : BlockInfo) (ids old new : Map) → b.row < frame.rows → b.col < frame.cols → size ≡ frame
    → old ≡ segments_of frame blocks ids
    → new ≡ with_block old (part_inside size b.row b.col b.size).row (part_inside size b.row b.col b.size).col (part_inside size b.row b.col b.size).rows (part_inside size b.row b.col b.size).cols (λ _ _. b.segment)
    → new ≡ segments_of frame (blocks ++ b ∷ []) ids
put_more frame size blocks b ids old new row col same is put =
    put ∙ rw (same, is) (segments_more frame blocks b ids row col)
