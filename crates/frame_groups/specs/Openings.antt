-- Which container a source has, by the first four of its bytes.
use Rattle.std.specs.Prelude.{◌≡◌, ℕ, ◌<◌, ◌≤◌, ◌^◌, Bool, List, [], ◌++◌, length, true, false, Option, Some, ⊤}
use Rattle.edge_io.specs.Filling.{WhereTold}
use Rattle.edge_io.specs.SourceReading.{Gave}
use Rattle.file_frames.specs.Containers.{is_webm}
use Rattle.frame_groups.specs.declared.opening.Looked.{Looked}
use Rattle.frame_groups.specs.declared.opening.Opened.{Opened}
use Rattle.frame_groups.specs.declared.opening.Opened.TheVariants.{Webm, Ivf, Short, Failed}

-- the bytes that were left are those that were looked at and then what the source has left; and those that were looked at say whether
-- they are a WebM file, also where the source tells nothing
abbrev pub LooksAt : {S : Type 0} → (S → Option (List ℕ)) → S → Looked S → Bool → Type 0
LooksAt rest source l webm =
    (is_webm l.front ≡ webm) × WhereTold (rest source) (λ bytes. (more : List ℕ) × (bytes ≡ l.front ++ more) × (rest l.source ≡ Some more))

-- Nothing is lost where there are four bytes, and they say which container it is. Otherwise all are taken, up to the end or a fault.
abbrev pub OpensAs : {S : Type 0} → (S → Option (List ℕ)) → S → Opened S → Type 0
OpensAs rest source (Webm l) = LooksAt rest source l true
OpensAs rest source (Ivf l) = LooksAt rest source l false
OpensAs rest source (Short s) = WhereTold (rest source) (λ bytes. (length bytes < 4) × (rest s ≡ Some []))
OpensAs rest source (Failed s) = (front : List ℕ) × Gave (rest source) (rest s) front × (length front < 4)

-- a source's count of faults rises exactly where it failed
abbrev pub CountsOpened : {S : Type 0} → (S → ℕ) → S → Opened S → Type 0
CountsOpened faults source (Webm l) = faults l.source ≡ faults source
CountsOpened faults source (Ivf l) = faults l.source ≡ faults source
CountsOpened faults source (Short s) = faults s ≡ faults source
CountsOpened faults source (Failed s) = faults source < faults s

-- it may be asked for more, if it didn't fail
abbrev pub MayAsk : {S : Type 0} → (S → Type 0) → Opened S → Type 0
MayAsk can_fill (Webm l) = can_fill l.source
MayAsk can_fill (Ivf l) = can_fill l.source
MayAsk can_fill (Short s) = can_fill s
MayAsk can_fill (Failed s) = ⊤

-- what gave four bytes has given that many, and less than 2 ^ 63: they may be put back in front of it
abbrev pub HasGiven : {S : Type 0} → (S → ℕ) → Opened S → Type 0
HasGiven given (Webm l) = (4 ≤ given l.source) × (given l.source < 2 ^ 63)
HasGiven given (Ivf l) = (4 ≤ given l.source) × (given l.source < 2 ^ 63)
HasGiven given (Short s) = ⊤
HasGiven given (Failed s) = ⊤
