-- Rows of samples as they are kept, by the numbers that they stand for.
use Rattle.std.proofs.Common.{◌≡◌, ℕ, ◌+◌, ◌*◌, ◌-◌, ◌<◌, ◌≤◌, List, length, get_or, map, take, drop, ◌∙◌, ap, sym, subst}
use Rattle.std.proofs.lemmas.List.{length-map, take-map}
use borrow.Rule.Slice.PartMut.{put_mid}
use Rattle.vp9_types.specs.declared.shape.Depth.{Depth}
use Rattle.vp9_types.specs.Maps.{Map, row_of}
use Rattle.frame_output.specs.Texts.{sample_size, row_text, rows_text}
use Rattle.frame_output.proofs.RowTexts.{part_long, part_small, room_is, row_written}

as_long : {X : Type 0} (f : X → ℕ) (width : ℕ) (xs : List X) → length (take width (map f xs)) ≡ length (take width xs)
as_long f width xs = ap length (take-map f width xs) ∙ length-map (take width xs) f

pub kept_long : {X : Type 0} (f : X → ℕ) (width stride : ℕ) (m : Map) (y : ℕ) (xs : List X) → width ≤ stride → map f xs ≡ row_of m y 0 stride → width ≡ length (take width xs)
kept_long f width stride m y xs wide is = part_long width stride m y (map f xs) wide is ∙ as_long f width xs

pub kept_small : {X : Type 0} (f : X → ℕ) (width stride : ℕ) (m : Map) (y : ℕ) (xs : List X) → width ≤ stride → map f xs ≡ row_of m y 0 stride → ((x : ℕ) → x < width → m y x < 256)
    → (k : ℕ) → k < length (map f (take width xs)) → get_or (map f (take width xs)) k 0 < 256
kept_small f width stride m y xs wide is small =
    subst (λ (l : List ℕ). (k : ℕ) → k < length l → get_or l k 0 < 256) (take-map f width xs) (part_small width stride m y (map f xs) wide is small)

pub kept_room : {X : Type 0} (f : X → ℕ) (depth : Depth) (width stride size : ℕ) (m : Map) (y i count : ℕ) (bytes : List ℕ) (xs : List X) → i < count → count * size ≤ length bytes
    → size ≡ sample_size depth * width → width ≤ stride → map f xs ≡ row_of m y 0 stride
    → length (take (i * size + size - i * size) (drop (i * size) bytes)) ≡ sample_size depth * length (take width xs)
kept_room f depth width stride size m y i count bytes xs lt room is wide row_is =
    room_is depth width stride size m y i count bytes (map f xs) lt room is wide row_is ∙ ap (λ n. sample_size depth * n) (as_long f width xs)

pub kept_written : {X : Type 0} (f : X → ℕ) (depth : Depth) (width stride size : ℕ) (m : Map) (from i count : ℕ) (bytes ys : List ℕ) (xs : List X)
    → take (i * size) bytes ≡ rows_text depth width m from i → i < count → count * size ≤ length bytes → size ≡ sample_size depth * width
    → width ≤ stride → map f xs ≡ row_of m (from + i) 0 stride → ys ≡ row_text depth (map f (take width xs))
    → take ((i + 1) * size) (put_mid (i * size) (i * size + size - i * size) bytes ys) ≡ rows_text depth width m from (i + 1)
kept_written f depth width stride size m from i count bytes ys xs so lt room is wide row_is wrote =
    row_written depth width stride size m from i count bytes ys (map f xs) so lt room is wide row_is (wrote ∙ ap (row_text depth) (sym (take-map f width xs)))
