-- Where tiles lie.
use Rattle.std.proofs.Common.{◌≡◌, ◌∙◌, ℕ, ◌+◌, ◌-◌, ◌*◌, ◌/◌, ◌^◌, ◌<◌, ◌≤◌, refl, sym, ap, subst, arith}
use Rattle.std.specs.Prelude.{min}
use Rattle.std.proofs.lemmas.Nat.{div_below, le-div, pow_pos}
use Rattle.std.proofs.Math.Nat.{div-lt_iff_lt-mul, mod-lt, div-add-mod, mul-add, mul-div_cancel_left, mul-le-mul_left, mul-le-mul_right, mul_comm}
use Rattle.std.proofs.Math.Pow.{shr_mono}
use Rattle.vp9_types.specs.Shapes.{mi_cols}
use Rattle.vp9_types.specs.Sizes.{superblocks_along}
use Rattle.frame_headers.specs.HeaderState.{shape_of}
use Rattle.frame_headers.specs.declared.header.Header.{Header}
use Rattle.frame_headers.specs.declared.tiles.TileInfo.{TileInfo}
use Rattle.frame_state.specs.TilePlaces.{column_of, tile_row_of, superblocks_before, tile_offset}

pub before_grows : (places log2 i j : ℕ) → i ≤ j → superblocks_before places log2 i ≤ superblocks_before places log2 j
before_grows places log2 i j low = shr_mono log2 (mul-le-mul_right (superblocks_along places) low)

pub before_low : (places log2 i : ℕ) → i ≤ 2 ^ log2 → superblocks_before places log2 i ≤ superblocks_along places
before_low places log2 i low =
    let all : superblocks_before places log2 (2 ^ log2) ≡ superblocks_along places = mul-div_cancel_left (superblocks_along places) (pow_pos log2) in
    subst (λ n. superblocks_before places log2 i ≤ n) all (before_grows places log2 i (2 ^ log2) low)

pub offset_grows : (places log2 i : ℕ) → tile_offset places log2 i ≤ tile_offset places log2 (i + 1)
offset_grows places log2 i =
    let low : superblocks_before places log2 i ≤ superblocks_before places log2 (i + 1) = before_grows places log2 i (i + 1) (omega arith) in
    omega (arith, low)

pub offset_low : (places log2 i : ℕ) → tile_offset places log2 i ≤ places
offset_low places log2 i = omega arith

between : (places a b : ℕ) → a ≤ b → min (8 * b) places ≡ min (min (8 * a) places + 8 * superblocks_along (min (8 * b) places - min (8 * a) places)) places
between places a b low = omega (arith, low)

-- the end of a tile's columns of superblocks
pub column_ends : (places log2 i : ℕ)
    → tile_offset places log2 (i + 1) ≡ min (tile_offset places log2 i + 8 * superblocks_along (tile_offset places log2 (i + 1) - tile_offset places log2 i)) places
column_ends places log2 i = between places _ _ (before_grows places log2 i (i + 1) (omega arith))

few_between : (places a b : ℕ) → a ≤ b → superblocks_along (min (8 * b) places - min (8 * a) places) ≤ b - a
few_between places a b low = omega (arith, low)

pub tile_is_low : (places log2 i : ℕ)
    → superblocks_along (tile_offset places log2 (i + 1) - tile_offset places log2 i) ≤ superblocks_before places log2 (i + 1) - superblocks_before places log2 i
tile_is_low places log2 i = few_between places _ _ (before_grows places log2 i (i + 1) (omega arith))

---- The tile of a place ----

-- which of so many parts a superblock lies in
abbrev pub part_at : ℕ → ℕ → ℕ → ℕ
part_at all parts s = ((s + 1) * parts - 1) / all

part_low : (all parts s : ℕ) → 0 < all → part_at all parts s * all ≤ (s + 1) * parts - 1
part_low all parts s some = omega (arith, div-add-mod ((s + 1) * parts - 1) all, mul_comm all (part_at all parts s))

part_high : (all parts s : ℕ) → 0 < all → (s + 1) * parts - 1 < (part_at all parts s + 1) * all
part_high all parts s some =
    let whole : all * (part_at all parts s + 1) ≡ all * part_at all parts s + all * 1 = mul-add all (part_at all parts s) 1 in
    omega (arith, div-add-mod ((s + 1) * parts - 1) all, mod-lt ((s + 1) * parts - 1) some, whole, mul_comm all (part_at all parts s + 1))

at_least_one : (s parts : ℕ) → 0 < parts → parts ≤ (s + 1) * parts
at_least_one s parts many = omega (arith, mul-le-mul_right parts (one_more s))
  where
    one_more : (s : ℕ) → 1 ≤ s + 1
    one_more s = omega arith

pub part_below : (all parts s : ℕ) → 0 < all → 0 < parts → s < all → part_at all parts s < parts
part_below all parts s some many there =
    let most : (s + 1) * parts ≤ all * parts = mul-le-mul_right parts (omega (arith, there)) in
    div_below ((s + 1) * parts - 1) all parts some (omega (arith, most, at_least_one s parts many, many, mul_comm all parts))

-- it begins at the superblock or before it
pub part_begins : (all parts s : ℕ) → 0 < all → 0 < parts → part_at all parts s * all / parts ≤ s
part_begins all parts s some many =
    let below : part_at all parts s * all / parts < s + 1 = div_below (part_at all parts s * all) parts (s + 1) many (omega (arith, part_low all parts s some, at_least_one s parts many, many)) in
    omega (arith, below)

-- and ends behind it
pub part_ends : (all parts s : ℕ) → 0 < all → 0 < parts → s + 1 ≤ (part_at all parts s + 1) * all / parts
part_ends all parts s some many = le-div (s + 1) ((part_at all parts s + 1) * all) parts many (omega (arith, part_high all parts s some))

pub place_from : (places log2 place : ℕ) → place < places → tile_offset places log2 (part_at (superblocks_along places) (2 ^ log2) (place / 8)) ≤ place
place_from places log2 place there =
    let begins : superblocks_before places log2 (part_at (superblocks_along places) (2 ^ log2) (place / 8)) ≤ place / 8 =
    part_begins (superblocks_along places) (2 ^ log2) (place / 8) (omega (arith, there)) (pow_pos log2) in
    omega (arith, begins)

pub place_to : (places log2 place : ℕ) → place < places → place < tile_offset places log2 (part_at (superblocks_along places) (2 ^ log2) (place / 8) + 1)
place_to places log2 place there =
    let ends : place / 8 + 1 ≤ superblocks_before places log2 (part_at (superblocks_along places) (2 ^ log2) (place / 8) + 1) =
    part_ends (superblocks_along places) (2 ^ log2) (place / 8) (omega (arith, there)) (pow_pos log2) in
    omega (arith, ends, there)

pub place_below : (places log2 place : ℕ) → place < places → part_at (superblocks_along places) (2 ^ log2) (place / 8) < 2 ^ log2
place_below places log2 place there = part_below (superblocks_along places) (2 ^ log2) (place / 8) (omega (arith, there)) (pow_pos log2) (omega (arith, there))

-- the first column of a tile column
abbrev pub begins_at : Header → ℕ → ℕ
begins_at header k = tile_offset (mi_cols (shape_of header)) header.params.tiles.columns_log2 k

-- a place lies behind where the first tile column begins, and before where one behind the last would
pub first_low : (places log2 c : ℕ) → c < places → tile_offset places log2 0 ≤ c
first_low places log2 c low =
    let k = part_at (superblocks_along places) (2 ^ log2) (c / 8) in
    let from : tile_offset places log2 k ≤ c = place_from places log2 c low in
    let grows : superblocks_before places log2 0 ≤ superblocks_before places log2 k = before_grows places log2 0 k (omega arith) in
    omega (arith, from, grows, low)

pub last_high : (places log2 c : ℕ) → c < places → c < tile_offset places log2 (2 ^ log2)
last_high places log2 c low =
    let k = part_at (superblocks_along places) (2 ^ log2) (c / 8) in
    let to : c < tile_offset places log2 (k + 1) = place_to places log2 c low in
    let below : k < 2 ^ log2 = place_below places log2 c low in
    let grows : superblocks_before places log2 (k + 1) ≤ superblocks_before places log2 (2 ^ log2) = before_grows places log2 (k + 1) (2 ^ log2) (omega (arith, below)) in
    omega (arith, to, grows, low)

---- A tile's row and column ----

pub column_below : (tiles : TileInfo) (n : ℕ) → column_of tiles n < 2 ^ tiles.columns_log2
column_below tiles n = mod-lt n (pow_pos tiles.columns_log2)

pub row_below : (tiles : TileInfo) (n : ℕ) → n < 2 ^ tiles.columns_log2 * 2 ^ tiles.rows_log2 → tile_row_of tiles n < 2 ^ tiles.rows_log2
row_below tiles n low = (div-lt_iff_lt-mul (pow_pos tiles.columns_log2)).1 (subst (λ k. n < k) (mul_comm (2 ^ tiles.columns_log2) (2 ^ tiles.rows_log2)) low)

pub raster : (tiles : TileInfo) (n : ℕ) → n ≡ tile_row_of tiles n * 2 ^ tiles.columns_log2 + column_of tiles n
raster tiles n = sym (div-add-mod n (2 ^ tiles.columns_log2)) ∙ ap (λ k. k + column_of tiles n) (mul_comm (2 ^ tiles.columns_log2) (tile_row_of tiles n))

---- Room ----

-- a column's room for a tile, and then for those below it
pub room_for : (wide tall all before next room : ℕ) → tall ≤ next - before → before ≤ next → next ≤ all → 64 * (wide * (all - before)) ≤ room → 64 * (wide * tall) ≤ room
room_for wide tall all before next room low order within enough =
    let most : wide * tall ≤ wide * (all - before) = mul-le-mul_left wide (omega (arith, low, order, within)) in
    omega (arith, most, enough)

pub room_left : (wide tall all before next there old new : ℕ) → tall ≤ next - before → before ≤ next → next ≤ all → next ≤ there
    → 64 * (wide * (all - before)) ≤ old → old ≤ new + 64 * (wide * tall) → 64 * (wide * (all - there)) ≤ new
room_left wide tall all before next there old new low order within below enough left =
    let parts : all - before ≡ (all - next) + (next - before) = omega (arith, order, within) in
    let whole : wide * (all - before) ≡ wide * (all - next) + wide * (next - before) = ap (λ n. wide * n) parts ∙ mul-add wide (all - next) (next - before) in
    let taken : wide * tall ≤ wide * (next - before) = mul-le-mul_left wide low in
    let rest : wide * (all - there) ≤ wide * (all - next) = mul-le-mul_left wide (omega (arith, below)) in
    omega (arith, whole, taken, rest, enough, left)
