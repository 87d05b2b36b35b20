-- The elements of EBML, which WebM is written in. Neither has a part in the VP9 standard: this is the whole of their description here.
use Rattle.std.specs.Prelude.{ℕ, ◌+◌, ◌-◌, ◌*◌, ◌%◌, ◌^◌, true, false, if◌then◌else◌, nat_eq, nat_lt, nat_le, List, slice_index, slice_range, Result, Ok, Err}
use Rattle.std.specs.Int.{w8, leading_zeros}
use Rattle.byteorder.specs.Endian.{big_number}
use Rattle.vp9_types.specs.Results.{◌>>=◌}
use Rattle.vp9_types.specs.declared.rule.Rule.{Rule}
use Rattle.vp9_types.specs.declared.rule.Rule.TheVariants.{WebmElement}
use Rattle.webm_container.specs.declared.elements.Coded.{Coded}
use Rattle.webm_container.specs.declared.elements.Element.{Element}

-- how many bytes a number has that begins with this one: one more than this has leading zero bits
abbrev pub coded_octets : ℕ → ℕ
coded_octets first = leading_zeros w8 first + 1

-- a number of n bytes: behind its leading zeros stands a marker, bit 7 * n, and then the value
abbrev pub coded_of : ℕ → ℕ → ℕ → Coded
coded_of n marked to = record { marked = marked; value = marked % 2 ^ (7 * n); all_ones = nat_eq (marked % 2 ^ (7 * n) + 1) (2 ^ (7 * n)); to = to }

-- the number at a place of what ends at `end`, of at most so many bytes
unfoldable pub coded_at : List ℕ → ℕ → ℕ → ℕ → Result Coded Rule
coded_at bytes at end most =
    let n = coded_octets (slice_index bytes at) in
    if nat_le end at then Err WebmElement
    else (if nat_lt most n then Err WebmElement
    else (if nat_lt (end - at) n then Err WebmElement
    else Ok (coded_of n (big_number n (slice_range bytes at (at + n))) (at + n))))

-- an element with this id, whose size stands before its content: a size of all ones is unknown, and the content then
-- reaches to the end of the parent at most
abbrev pub sized : ℕ → ℕ → Coded → Result Element Rule
sized end id size =
    if size.all_ones then Ok (record { id = id; from = size.to; to = end; unknown = true })
    else (if nat_lt (end - size.to) size.value then Err WebmElement
    else Ok (record { id = id; from = size.to; to = size.to + size.value; unknown = false }))

-- the element at a place of a parent that ends at `end`: an id of 1 to 4 bytes, its size in 1 to 8, and its content
unfoldable pub element_at : List ℕ → ℕ → ℕ → Result Element Rule
element_at bytes at end = coded_at bytes at end 4 >>= (λ id. coded_at bytes id.to end 8 >>= sized end id.marked)

abbrev pub if_known : Element → Result Element Rule
if_known element = if element.unknown then Err WebmElement else Ok element

-- the element at a place where its size has to be known
unfoldable pub known_at : List ℕ → ℕ → ℕ → Result Element Rule
known_at bytes at end = element_at bytes at end >>= if_known
