-- The entries of tracks, and which of them is chosen.
use Rattle.std.specs.Prelude.{ℕ, ◌==◌, ◌&&◌, Bool, true, false, if◌then◌else◌, nat_eq, nat_lt, List, length, drop, codes, slice_range, Option, Some, None, Result, Ok, Err}
use Rattle.std.specs.List.{starts_with, list_all}
use Rattle.byteorder.specs.Endian.{big_number}
use Rattle.vp9_types.specs.declared.rule.Rule.{Rule}
use Rattle.vp9_types.specs.declared.rule.Rule.TheVariants.{WebmElement, WebmEncoding}
use Rattle.webm_container.specs.declared.elements.Element.{Element}
use Rattle.webm_container.specs.Ids as the
use Rattle.webm_container.specs.declared.entries.TrackEntry.{TrackEntry}
use Rattle.webm_container.specs.declared.entries.TrackNumber.{TrackNumber}
use Rattle.webm_container.specs.declared.entries.TrackNumber.TheVariants.{Malformed, Is}

-- nothing is said yet of the codec, of the number, nor that the track is encoded
abbrev pub new_entry : TrackEntry
new_entry = record { is_vp9 = None; number = None; encoded = false }

abbrev pub are_zeros : List ℕ → Bool
are_zeros bytes = list_all (λ byte. byte == 0) bytes

-- the codec is `V_VP9`, behind which bytes 0 may stand
abbrev pub is_vp9 : List ℕ → Bool
is_vp9 content =
    if nat_lt (length content) 5 then false
    else (starts_with nat_eq content (codes "V_VP9") && are_zeros (drop 5 content))

-- a track's number, the highest byte first
abbrev pub number_in : List ℕ → TrackNumber
number_in content =
    if nat_eq (length content) 0 then Malformed
    else (if nat_lt 8 (length content) then Malformed
    else Is (big_number (length content) content))

-- the first of what an entry says twice counts
abbrev pub first_said : {A : Type 0} → Option A → A → Option A
first_said None x = Some x
first_said (Some said) x = Some said

-- an entry, and this element of it
abbrev pub noted : List ℕ → TrackEntry → Element → TrackEntry
noted bytes entry element =
    let content = slice_range bytes element.from element.to in
    if nat_eq element.id the.codec_id then record entry { is_vp9 = first_said entry.is_vp9 (is_vp9 content) }
    else (if nat_eq element.id the.track_number then record entry { number = first_said entry.number (number_in content) }
    else (if nat_eq element.id the.content_encodings then record entry { encoded = true }
    else entry))

-- a track of VP9 that may be chosen, or the rule that its entry breaks
abbrev pub usable : Option TrackNumber → Bool → Result (Option ℕ) Rule
usable None encoded = Err WebmElement
usable (Some Malformed) encoded = Err WebmElement
usable (Some (Is number)) true = Err WebmEncoding
usable (Some (Is number)) false = Ok (Some number)

-- at the end of an entry that may be the first one of VP9
abbrev pub chosen_by : Option Bool → Result (Option ℕ) Rule → Result (Option ℕ) Rule
chosen_by None track = Ok None
chosen_by (Some false) track = Ok None
chosen_by (Some true) track = track

-- the chosen track at the end of an entry: the first one of VP9, for the whole file
abbrev pub chosen : Option ℕ → TrackEntry → Result (Option ℕ) Rule
chosen (Some number) entry = Ok (Some number)
chosen None entry = chosen_by entry.is_vp9 (usable entry.number entry.encoded)
