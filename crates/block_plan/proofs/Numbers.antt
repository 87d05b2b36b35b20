-- The numbers of blocks by place, when the places of a block are numbered.
use Rattle.std.proofs.Common.{◌≡◌, ℕ, ◌+◌, ◌-◌, ◌*◌, ◌<◌, ◌≤◌, ◌&&◌, ◌++◌, ◌∷◌, [], ◌∙◌, Bool, true, false, List, length, get_or, min, refl, sym, ap, arith, mul-le-mul_right, if◌then◌else◌, replicate, take, drop, subst, length-append}
use Rattle.std.proofs.lemmas.Bool.Decides.{nat_tests}
use Rattle.std.proofs.lemmas.List.{get_or_default, length-replicate, get_or-replicate}
use Rattle.std.proofs.Math.Seq.{take-append_seam}
use Rattle.vp9_types.specs.Maps.{is_within}
use Rattle.block_geometry.specs.BlockSizes.{width_8, height_8}
use Rattle.block_plan.specs.Blocks.{covers, covering}
use Rattle.block_plan.specs.Grid.{numbered, AgreesWith, NumbersBelow}
use Rattle.block_plan.specs.declared.block.BlockInfo.{BlockInfo}
use Rattle.block_plan.proofs.Covers.{covering-push, numbered-push, numbered-last}

-- a run that is cut at an end has the same places before the end
cut : (from n end k : ℕ) → k < end → is_within from (min n (end - from)) k ≡ is_within from n k
cut from n end k low = grind (arith, nat_tests)

-- places counted from a column on
shifted : (first from n c : ℕ) → first ≤ from → is_within (from - first) n c ≡ is_within from n (first + c)
shifted first from n c low = grind (arith, nat_tests)

-- which places of the columns a block covers
covered : (block : BlockInfo) (rows from width r c : ℕ) → r < rows → c < width → from ≤ block.col
    → (is_within block.row (min (height_8 block.size) (rows - block.row)) r && is_within (block.col - from) (min (width_8 block.size) (width - (block.col - from))) c)
    ≡ covers block r (from + c)
covered block rows from width r c high wide first =
    ap (λ b. b && is_within (block.col - from) (min (width_8 block.size) (width - (block.col - from))) c) (cut block.row (height_8 block.size) rows r high)
    ∙ ap (λ b. is_within block.row (height_8 block.size) r && b)
    (cut (block.col - from) (width_8 block.size) width c wide ∙ shifted from block.col (width_8 block.size) c first)

-- what a place is, whose number is the block's or the old one
numbered_by : (blocks : List BlockInfo) (block : BlockInfo) (r c number old : ℕ) (inside : Bool) → number ≡ length blocks + 1 → old ≤ length blocks
    → covers block r c ≡ inside → numbered blocks old ≡ covering blocks r c
    → numbered (blocks ++ block ∷ []) (if inside then number else old) ≡ covering (blocks ++ block ∷ []) r c
numbered_by blocks block r c number old true is few covered so =
    numbered-last blocks block number is ∙ sym (covering-push blocks block r c ∙ rw covered refl)
numbered_by blocks block r c number old false is few covered so =
    numbered-push blocks block old few ∙ so ∙ sym (covering-push blocks block r c ∙ rw covered refl)

below : (rows width r c : ℕ) → r < rows → c < width → r * width + c < rows * width
below rows width r c high wide =
    let more : r + 1 ≤ rows = omega arith in
    omega (arith, mul-le-mul_right width more)

-- the numbers where a block's places were filled with its number
abbrev pub IsFilled : ℕ → ℕ → ℕ → ℕ → ℕ → ℕ → List ℕ → List ℕ → Type 0
IsFilled width row col rows cols v old new =
    (r c : ℕ) → c < width → get_or new (r * width + c) v ≡ (if is_within row rows r && is_within col cols c then v else get_or old (r * width + c) v)

pub agrees_after : (blocks : List BlockInfo) (block : BlockInfo) (rows from width number : ℕ) (old new : List ℕ)
    → number ≡ length blocks + 1 → length old ≡ rows * width → length new ≡ length old → from ≤ block.col
    → NumbersBelow (length blocks) rows width old → AgreesWith blocks rows from width old
    → IsFilled width block.row (block.col - from) (min (height_8 block.size) (rows - block.row)) (min (width_8 block.size) (width - (block.col - from))) number old new
    → AgreesWith (blocks ++ block ∷ []) rows from width new
agrees_after blocks block rows from width number old new is long same first few agree filled r c high wide =
    let there : r * width + c < length old = omega (arith, below rows width r c high wide) in
    let there_still : r * width + c < length new = omega arith in
    let inside = is_within block.row (min (height_8 block.size) (rows - block.row)) r && is_within (block.col - from) (min (width_8 block.size) (width - (block.col - from))) c in
    ap (λ n. numbered (blocks ++ block ∷ []) n)
    (get_or_default new (r * width + c) 0 number there_still ∙ filled r c wide
    ∙ ap (λ n. if inside then number else n) (get_or_default old (r * width + c) number 0 there))
    ∙ numbered_by blocks block r (from + c) number (get_or old (r * width + c) 0) inside is (few r c high wide)
    (sym (covered block rows from width r c high wide first)) (agree r c high wide)

chosen_below : (inside : Bool) (number old most : ℕ) → number ≡ most + 1 → old ≤ most → (if inside then number else old) ≤ number
chosen_below true number old most is low = omega arith
chosen_below false number old most is low = omega arith

pub below_after : (most rows width row col part_rows cols number : ℕ) (old new : List ℕ)
    → number ≡ most + 1 → length old ≡ rows * width → length new ≡ length old → NumbersBelow most rows width old
    → IsFilled width row col part_rows cols number old new → NumbersBelow number rows width new
below_after most rows width row col part_rows cols number old new is long same few filled r c high wide =
    let there : r * width + c < length old = omega (arith, below rows width r c high wide) in
    let there_still : r * width + c < length new = omega arith in
    let inside = is_within row part_rows r && is_within col cols c in
    rw (get_or_default new (r * width + c) 0 number there_still ∙ filled r c wide
    ∙ ap (λ n. if inside then number else n) (get_or_default old (r * width + c) number 0 there))
    (chosen_below inside number (get_or old (r * width + c) 0) most is (few r c high wide))

-- what a grid keeps
abbrev pub IsGrid : List BlockInfo → ℕ → ℕ → ℕ → List ℕ → Type 0
IsGrid blocks rows from width places =
    (length places ≡ rows * width) × NumbersBelow (length blocks) rows width places × AgreesWith blocks rows from width places

pub empty_grid : (rows from width : ℕ) → IsGrid [] rows from width (replicate (rows * width) 0)
unfolding covering
empty_grid rows from width = (
  let zero : ℕ = 0 in length-replicate (rows * width) zero,
  (λ r c high wide. let lt = below rows width r c high wide in rw (get_or-replicate {A = ℕ} (rows * width) (r * width + c) 0 0 lt) (omega arith)),
  (λ r c high wide. let lt = below rows width r c high wide in rw (get_or-replicate {A = ℕ} (rows * width) (r * width + c) 0 0 lt) refl),
)

whole_loan : (xs ys : List ℕ) (n : ℕ) → length ys ≡ length xs → n ≡ length xs → take n (ys ++ drop (length ys) xs) ≡ ys
whole_loan xs ys n same long =
    ap (λ k. take k (ys ++ drop (length ys) xs)) (long ∙ sym same) ∙ take-append_seam ys (drop (length ys) xs)

-- the grid after a block was listed and its places numbered
pub grid_after : (blocks now : List BlockInfo) (block : BlockInfo) (rows from width number n : ℕ) (old lent new : List ℕ)
    → IsGrid blocks rows from width old → lent ≡ old → length new ≡ length lent → n ≡ length old → now ≡ blocks ++ block ∷ [] → number ≡ length blocks + 1
    → ((earlier : List BlockInfo) → number ≡ length earlier + 1 → NumbersBelow (length earlier) rows width lent → AgreesWith earlier rows from width lent
    → AgreesWith (earlier ++ block ∷ []) rows from width new)
    → ((most : ℕ) → number ≡ most + 1 → NumbersBelow most rows width lent → NumbersBelow number rows width new)
    → IsGrid now rows from width (take n (new ++ drop (length new) old))
grid_after blocks now block rows from width number n old lent new grid same long whole is count agree few =
    rw (whole_loan old new n (long ∙ ap length same) whole, is) (
      (long ∙ ap length same ∙ grid.0),
      (λ r c high wide.
          let low = few (length blocks) count (subst (λ (l : List ℕ). NumbersBelow (length blocks) rows width l) (sym same) grid.1) r c high wide in
          omega (arith, low, length-append blocks (block ∷ []))),
      agree blocks count (subst (λ (l : List ℕ). NumbersBelow (length blocks) rows width l) (sym same) grid.1)
          (subst (λ (l : List ℕ). AgreesWith blocks rows from width l) (sym same) grid.2),
    )
