-- A superframe index as it is written.
use Rattle.std.specs.Prelude.{ℕ, ◌+◌, ◌-◌, ◌*◌, nat_lt, max, List, [], ◌∷◌, ◌++◌, length, map, if◌then◌else◌}
use Rattle.std.specs.List.{concat}
use Rattle.byteorder.specs.Endian.{little_bytes}

abbrev pub greatest : List ℕ → ℕ
greatest [] = 0
greatest (size ∷ sizes) = max size (greatest sizes)

-- the least number of bytes, 1 to 4, that a size fits in
abbrev pub width_of : ℕ → ℕ
width_of size = if nat_lt size 0x100 then 1 else (if nat_lt size 0x10000 then 2 else (if nat_lt size 0x1000000 then 3 else 4))

-- the marker 110, the bytes of a size less 1, the sizes less 1
abbrev pub index_header : ℕ → ℕ → ℕ
index_header width count = 0xc0 + 8 * (width - 1) + (count - 1)

abbrev pub size_list : ℕ → List ℕ → List ℕ
size_list width sizes = concat (map (little_bytes width) sizes)

abbrev pub index_by : ℕ → List ℕ → List ℕ
index_by width sizes = index_header width (length sizes) ∷ size_list width sizes ++ index_header width (length sizes) ∷ []

-- all sizes in the least number of bytes that the greatest fits in
unfoldable pub index_bytes : List ℕ → List ℕ
index_bytes sizes = index_by (width_of (greatest sizes)) sizes
