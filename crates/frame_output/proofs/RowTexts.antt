-- Bytes of rows, row by row.
use Rattle.std.proofs.Common.{◌≡◌, ℕ, zero, suc, ◌+◌, ◌*◌, ◌-◌, ◌<◌, ◌≤◌, List, [], ◌∷◌, ◌++◌, length, get_or, take, drop, Option, ◌⊎◌, inl, inr, refl, sym, ◌∙◌, ap, arith}
use Rattle.std.proofs.Math.Nat.{mul-le-mul_right}
use Rattle.std.specs.List.{flat_map, range_with_len}
use Rattle.std.proofs.lemmas.List.{append-nil, length-append, length-take, length-drop}
use Rattle.std.proofs.lemmas.List.FromFn.{length-map-range_with_len, get_or-map-range_with_len, take-map-range_with_len}
use Rattle.std.proofs.lemmas.Grind.{flat_map-append}
use Rattle.std.proofs.lemmas.Slice.{take-put_mid}
use borrow.Rule.Slice.PartMut.{put_mid}
use Rattle.edge_io.specs.Putting.{Takes, TakesFront}
use Rattle.vp9_types.specs.declared.shape.Depth.{Depth}
use Rattle.vp9_types.specs.declared.shape.Depth.TheVariants.{Eight, Ten, Twelve}
use Rattle.vp9_types.specs.Maps.{Map, row_of}
use Rattle.frame_output.specs.Texts.{two_bytes, sample_text, sample_size, row_text, rows_text}
use Rattle.edge_io.proofs.Fronts.{takes_none, takes_both, front_of}

-- ---- one row

pub bytes_are_text : (row : List ℕ) → row ≡ row_text Eight row
unfolding row_text
bytes_are_text [] = refl
bytes_are_text (x ∷ xs) = ap (λ l. x ∷ l) (bytes_are_text xs)

pub pairs_are_text : (depth : Depth) (row : List ℕ) → (depth ≡ Ten) ⊎ (depth ≡ Twelve) → flat_map two_bytes row ≡ row_text depth row
unfolding row_text
pairs_are_text depth row (inl ten) = rw ten refl
pairs_are_text depth row (inr twelve) = rw twelve refl

length_sample : (depth : Depth) (x : ℕ) → length (sample_text depth x) ≡ sample_size depth
length_sample Eight x = refl
length_sample Ten x = refl
length_sample Twelve x = refl

length-row_text : (depth : Depth) (row : List ℕ) → length (row_text depth row) ≡ sample_size depth * length row
unfolding row_text
length-row_text depth [] = omega arith
length-row_text depth (x ∷ xs) =
    length-append (sample_text depth x) (flat_map (sample_text depth) xs)
    ∙ ap (λ n. n + length (flat_map (sample_text depth) xs)) (length_sample depth x)
    ∙ ap (λ n. sample_size depth + n) (length-row_text depth xs)
    ∙ mul_more (sample_size depth) (length xs)
  where
    mul_more : (a n : ℕ) → a + a * n ≡ a * suc n
    mul_more a n = omega arith

-- ---- rows

range_both : (from a b : ℕ) → range_with_len from (a + b) ≡ range_with_len from a ++ range_with_len (from + a) b
range_both from zero b =
    let none : zero + b ≡ b = omega arith in
    let here : from + zero ≡ from = omega arith in
    rw (none, here) refl
range_both from (suc a) b =
    let more : suc a + b ≡ suc (a + b) = omega arith in
    let on : from + suc a ≡ from + 1 + a = omega arith in
    rw (more, on) (ap (λ l. from ∷ l) (range_both (from + 1) a b))

pub rows_both : (depth : Depth) (width : ℕ) (m : Map) (from a b : ℕ)
    → rows_text depth width m from (a + b) ≡ rows_text depth width m from a ++ rows_text depth width m (from + a) b
unfolding rows_text
rows_both depth width m from a b =
    ap (flat_map (λ y. row_text depth (row_of m y 0 width))) (range_both from a b)
    ∙ flat_map-append (λ y. row_text depth (row_of m y 0 width)) (range_with_len from a) (range_with_len (from + a) b)

one_row : (depth : Depth) (width : ℕ) (m : Map) (y : ℕ) → rows_text depth width m y 1 ≡ row_text depth (row_of m y 0 width)
unfolding rows_text
one_row depth width m y = append-nil (row_text depth (row_of m y 0 width))

pub no_rows : (depth : Depth) (width size : ℕ) (m : Map) (from : ℕ) (xs : List ℕ) → take (0 * size) xs ≡ rows_text depth width m from 0
unfolding rows_text
no_rows depth width size m from xs = let none : 0 * size ≡ 0 = omega arith in rw none refl

-- the front of a row
part_is : (width stride : ℕ) (m : Map) (y : ℕ) (row : List ℕ) → width ≤ stride → row ≡ row_of m y 0 stride → take width row ≡ row_of m y 0 width
part_is width stride m y row wide is = ap (take width) is ∙ take-map-range_with_len (m y) 0 stride width wide

pub part_long : (width stride : ℕ) (m : Map) (y : ℕ) (row : List ℕ) → width ≤ stride → row ≡ row_of m y 0 stride → width ≡ length (take width row)
part_long width stride m y row wide is = sym (ap length (part_is width stride m y row wide is) ∙ length-map-range_with_len (m y) 0 width)

pub part_small : (width stride : ℕ) (m : Map) (y : ℕ) (row : List ℕ) → width ≤ stride → row ≡ row_of m y 0 stride → ((x : ℕ) → x < width → m y x < 256)
    → (k : ℕ) → k < length (take width row) → get_or (take width row) k 0 < 256
part_small width stride m y row wide is small k low =
    let long = part_long width stride m y row wide is in
    let inside : k < width = omega arith in
    let at : get_or (take width row) k 0 ≡ m y k =
    ap (λ l. get_or l k 0) (part_is width stride m y row wide is) ∙ get_or-map-range_with_len (m y) 0 width k k 0 inside (omega arith) in
    rw at (small k inside)

-- the part of the buffer that a row is written to
pub room_is : (depth : Depth) (width stride size : ℕ) (m : Map) (y i count : ℕ) (xs row : List ℕ) → i < count → count * size ≤ length xs → size ≡ sample_size depth * width
    → width ≤ stride → row ≡ row_of m y 0 stride
    → length (take (i * size + size - i * size) (drop (i * size) xs)) ≡ sample_size depth * length (take width row)
room_is depth width stride size m y i count xs row lt room is wide row_is =
    let next : i + 1 ≤ count = omega arith in
    let fits : (i + 1) * size ≤ count * size = mul-le-mul_right size next in
    let gap : i * size + size - i * size ≡ size = omega arith in
    let long : length (take (i * size + size - i * size) (drop (i * size) xs)) ≡ size =
    omega (arith, gap, fits, room, length-take (i * size + size - i * size) (drop (i * size) xs), length-drop (i * size) xs) in
    long ∙ is ∙ ap (λ n. sample_size depth * n) (part_long width stride m y row wide row_is)

pub row_written : (depth : Depth) (width stride size : ℕ) (m : Map) (from i count : ℕ) (xs ys row : List ℕ)
    → take (i * size) xs ≡ rows_text depth width m from i → i < count → count * size ≤ length xs → size ≡ sample_size depth * width
    → width ≤ stride → row ≡ row_of m (from + i) 0 stride → ys ≡ row_text depth (take width row)
    → take ((i + 1) * size) (put_mid (i * size) (i * size + size - i * size) xs ys) ≡ rows_text depth width m from (i + 1)
row_written depth width stride size m from i count xs ys row so lt room is wide row_is wrote =
    let part = part_is width stride m (from + i) row wide row_is in
    let text : ys ≡ row_text depth (row_of m (from + i) 0 width) = wrote ∙ ap (row_text depth) part in
    let long : length ys ≡ size =
    ap length text ∙ length-row_text depth (row_of m (from + i) 0 width)
    ∙ ap (λ n. sample_size depth * n) (length-map-range_with_len (m (from + i)) 0 width) ∙ sym is in
    let next : i + 1 ≤ count = omega arith in
    let fits : (i + 1) * size ≤ count * size = mul-le-mul_right size next in
    take-put_mid (i * size) (i * size + size - i * size) xs ys ((i + 1) * size) (omega (arith, long)) (omega (arith, fits))
    ∙ ap (λ l. l ++ ys) so
    ∙ ap (λ l. rows_text depth width m from i ++ l) (text ∙ sym (one_row depth width m (from + i)))
    ∙ sym (rows_both depth width m from i 1)

-- ---- rows that are put

pub nothing_put : (old : Option (List ℕ)) (depth : Depth) (width : ℕ) (m : Map) → Takes old old (rows_text depth width m 0 0)
unfolding rows_text
nothing_put old depth width m = takes_none old

pub first_rows : (depth : Depth) (width : ℕ) (m : Map) (y count : ℕ)
    → rows_text depth width m 0 (y + count) ≡ rows_text depth width m 0 y ++ rows_text depth width m y count
first_rows depth width m y count =
    let here : 0 + y ≡ y = omega arith in
    rw here at (rows_both depth width m 0 y count)

pub piece_is : (count size is width : ℕ) (bytes text : List ℕ) → size ≡ is → take (count * (is * width)) bytes ≡ text → take (count * (size * width)) bytes ≡ text
piece_is count size is width bytes text same wrote = rw same wrote

pub rows_put : (old mid new : Option (List ℕ)) (depth : Depth) (width : ℕ) (m : Map) (y count : ℕ) (piece : List ℕ)
    → Takes old mid (rows_text depth width m 0 y) → piece ≡ rows_text depth width m y count → Takes mid new piece
    → Takes old new (rows_text depth width m 0 (y + count))
rows_put old mid new depth width m y count piece before is now =
    rw (first_rows depth width m y count) (takes_both old mid new (rows_text depth width m 0 y) (rows_text depth width m y count) before (rw is at now))

pub rows_refused : (old mid new : Option (List ℕ)) (depth : Depth) (width : ℕ) (m : Map) (y count height : ℕ) (piece : List ℕ)
    → y + count ≤ height → Takes old mid (rows_text depth width m 0 y) → piece ≡ rows_text depth width m y count → TakesFront mid new piece
    → TakesFront old new (rows_text depth width m 0 height)
rows_refused old mid new depth width m y count height piece low before is now =
    let rest : height ≡ y + count + (height - (y + count)) = omega arith in
    let whole : rows_text depth width m 0 height ≡ rows_text depth width m 0 y ++ rows_text depth width m y count ++ rows_text depth width m (y + count) (height - (y + count)) =
    ap (rows_text depth width m 0) rest
    ∙ first_rows depth width m (y + count) (height - (y + count))
    ∙ ap (λ l. l ++ rows_text depth width m (y + count) (height - (y + count))) (first_rows depth width m y count) in
    front_of old mid new (rows_text depth width m 0 height) (rows_text depth width m 0 y) (rows_text depth width m y count) (rows_text depth width m (y + count) (height - (y + count))) whole before (rw is at now)
