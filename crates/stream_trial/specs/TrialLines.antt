-- The line of a trial: how much a file shows, and a sum of it.
use Rattle.std.specs.Prelude.{ℕ, ◌+◌, ◌*◌, ◌%◌, ◌^◌, List, [], ◌∷◌, ◌++◌, length, codes, decimal}
use Rattle.std.specs.Int.{to_be_bytes, w64}
use Rattle.hex.specs.Hex.{encode_lower}
use Rattle.job_decoder.specs.seq_decoder.Runs.{run_of}

-- the sum behind one more byte, modulo 2 ^ 64
abbrev pub sum_with : ℕ → ℕ → ℕ
sum_with sum byte = (sum * 6364136223846793005 + byte + 1) % 2 ^ 64

-- byte by byte, from this sum on
abbrev pub sum_from : ℕ → List ℕ → ℕ
sum_from sum [] = sum
sum_from sum (byte ∷ bytes) = sum_from (sum_with sum byte) bytes

abbrev pub sum_of : List ℕ → ℕ
sum_of bytes = sum_from 0 bytes

-- how many frames a file shows, up to its end or the first frame that breaks a rule
abbrev pub shown_count : List ℕ → ℕ
shown_count file = length (run_of file).adds

-- as `frames 3 bytes 318240 sum c9c3bf55fcdf6f30`: 16 digits, those of the sum's eight bytes, the highest first
unfoldable pub line_of : ℕ → ℕ → ℕ → List ℕ
line_of shown bytes sum =
    codes "frames " ++ decimal shown ++ codes " bytes " ++ decimal bytes ++ codes " sum " ++ encode_lower (to_be_bytes w64 sum) ++ codes "\n"

-- the line of so many frames with this text
abbrev pub trial_line : ℕ → List ℕ → List ℕ
trial_line shown text = line_of shown (length text) (sum_of text)
