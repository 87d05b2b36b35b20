-- Blocks of a cluster.
use Rattle.std.specs.Prelude.{ℕ, ◌+◌, ◌-◌, ◌^◌, Bool, false, not, if◌then◌else◌, nat_eq, nat_lt, nat_le, bit_and, List, slice_index, Option, Some, None, Result, Ok, Err}
use Rattle.vp9_types.specs.Results.{◌>>=◌}
use Rattle.vp9_types.specs.declared.job.Span.{Span}
use Rattle.vp9_types.specs.declared.rule.Rule.{Rule}
use Rattle.vp9_types.specs.declared.rule.Rule.TheVariants.{WebmElement, WebmLacing}
use Rattle.webm_container.specs.Elements.{coded_at}
use Rattle.webm_container.specs.declared.elements.Coded.{Coded}

-- a track's number is that of the chosen one
abbrev pub is_of : Option ℕ → ℕ → Bool
is_of (Some track) number = nat_eq track number
is_of None number = false

-- flags of a block that is laced: of their 8 bits, bit 1 or bit 2 is set
abbrev pub is_laced : ℕ → Bool
is_laced flags = not (nat_eq (bit_and flags 6) 0)

-- Behind a block's track number stand two bytes of time and the flags, and then the payload. One of another track
-- than the chosen one is skipped. The chosen one's isn't laced, and its payload is shorter than 2 ^ 32 bytes.
abbrev pub behind_number : List ℕ → Option ℕ → ℕ → Coded → Result (Option Span) Rule
behind_number bytes track to number =
    if nat_lt (to - number.to) 3 then Err WebmElement
    else (if not (is_of track number.value) then Ok None
    else (if is_laced (slice_index bytes (number.to + 2)) then Err WebmLacing
    else (if nat_le (2 ^ 32) (to - (number.to + 3)) then Err WebmElement
    else Ok (Some (record { from = number.to + 3; to = to })))))

-- the payload of the block between two places, which begins with its track's number
unfoldable pub payload_at : List ℕ → Option ℕ → ℕ → ℕ → Result (Option Span) Rule
payload_at bytes track from to = coded_at bytes from to 8 >>= behind_number bytes track to
