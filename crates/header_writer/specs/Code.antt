-- What the code has put so far, and the parts in which it takes a header.
use Rattle.std.specs.Prelude.{◌≡◌, ℕ, List, ◌++◌}
use Rattle.vp9_types.specs.Each.{each}
use Rattle.vp9_types.specs.Writing.{Leads}
use Rattle.frame_headers.specs.HeaderState.{is_key}
use Rattle.frame_headers.specs.declared.header.FrameFields.{FrameFields}
use Rattle.frame_headers.specs.declared.header.FrameStart.{FrameStart}
use Rattle.frame_headers.specs.declared.header.Header.{Header}
use Rattle.frame_headers.specs.Fields.{Table}
use Rattle.header_writer.specs.WrittenFields.{Puts, fits_field, with_field}
use Rattle.header_writer.specs.Spelling.{FieldList, bits_put}

-- the elements of the back are still to be put
abbrev pub EachLeft : {A B : Type 0} → (A → Table B) → List A → List ℕ → List B → List A → List ℕ → Type 0
EachLeft {B = B} s xs old front back now = (ys : List B) (new : List ℕ) → Puts (each s back) now ys new → Puts (each s xs) old (front ++ ys) new

-- the fields put so far lead one syntax to what the other still asks
abbrev pub LeadsFields : {A : Type 0} → Table A → List ℕ → Table A → List ℕ → Type 0
LeadsFields s old rest now = Leads fits_field with_field s old rest now

-- fields were put behind the bits
unfoldable pub HasPut : List ℕ → FieldList → List ℕ → Type 0
HasPut old fields new = new ≡ old ++ bits_put fields

-- a coded frame's first fields, in the two parts in which they are read
abbrev pub start_of : Header → FrameStart
start_of header = record { is_key = is_key header.kind; show_frame = header.show_frame; error_resilient = header.error_resilient }

abbrev pub fields_of : Header → FrameFields
fields_of header = record { kind = header.kind; reset_context = header.reset_context; refresh = header.refresh; color = header.color; size = header.size }
