-- What a frame shows, in the words of the frame's text.
use Rattle.std.proofs.Common.{◌≡◌, ℕ, ◌+◌, ◌-◌, ◌*◌, ◌/◌, ◌^◌, ◌≤◌, ◌<◌, List, get_or, Bool, true, false, arith, refl, sym, ap, subst, ◌∙◌}
use Rattle.std.specs.Prelude.{IfSome, Option, Some, None, Result, Ok, Err, slice_get, if◌then◌else◌}
use Rattle.std.proofs.lemmas.Option.{get_or_from_slice_get}
use Rattle.edge_io.specs.declared.sink.PutFault.{PutFault}
use Rattle.edge_io.specs.declared.sink.PutFault.TheVariants as refused
use Rattle.edge_io.specs.Putting.{PutsAll, CountsPutFaults}
use Rattle.vp9_types.specs.declared.shape.Depth.{Depth}
use Rattle.vp9_types.specs.declared.shape.Depth.TheVariants.{Eight}
use Rattle.vp9_types.specs.declared.shape.Plane.{Plane}
use Rattle.vp9_types.specs.declared.shape.Plane.TheVariants.{Y, U, V}
use Rattle.vp9_types.specs.declared.shape.Shape.{Shape}
use Rattle.vp9_types.specs.Maps.{Map, FrameMap, IsAtMost}
use Rattle.vp9_types.specs.Shapes.{depth_bits, halved, subsampled_size, plane_width, plane_height, coded_width, coded_height}
use Rattle.frame_headers.specs.declared.header.Header.{Header}
use Rattle.frame_headers.specs.HeaderState.{shape_of}
use Rattle.picture_table.specs.KeptPictures.{IsSound, IsWhole}
use Rattle.picture_table.specs.declared.any.AnyPicture.{AnyPicture}
use Rattle.planes.specs.Pictures.{FitsPlanes, HasSizes, coded_area, plane_of, map_of}
use Rattle.planes.specs.Planes.{HasRow}
use Rattle.planes.specs.declared.frame_planes.FramePlanes.{FramePlanes}
use Rattle.planes.specs.declared.picture.Picture.{Picture}
use Rattle.frame_decoder.specs.DecodedFrames.{FrameResult}
use Rattle.frame_output.specs.Formats.{output_text}
use Rattle.frame_output.specs.declared.rendering.Rendering.{Rendering}
use Rattle.seq_decoder.specs.declared.coding.Coded.{Coded}
use Rattle.seq_decoder.specs.After.{shown_picture}
use Rattle.seq_decoder.specs.Code.{HoldsFrame, Shows, shown_of}
use Rattle.seq_decoder.specs.Outputs.{is_first}
use Rattle.seq_decoder.specs.declared.form.OutputForm.{OutputForm}
use Rattle.picture_table.specs.Code.{IsBelow, IsSoundAt, NamesSound, held_in}
use Rattle.picture_table.specs.declared.table.PictureTable.{PictureTable}

pub small_at : (depth : Depth) (m : Map) (y x : ℕ) → depth ≡ Eight → IsAtMost (2 ^ depth_bits depth - 1) m → m y x < 256
small_at depth m y x eight most = omega (arith, subst (λ d. IsAtMost (2 ^ depth_bits d - 1) m) eight most y x)

small_in : {X : Type 0} (f : Picture X) (p : Plane) (y x : ℕ) → f.shape.depth ≡ Eight → IsWhole f → map_of f p y x < 256
small_in f Y y x eight sound = small_at _ _ y x eight sound.range.y
small_in f U y x eight sound = small_at _ _ y x eight sound.range.u
small_in f V y x eight sound = small_at _ _ y x eight sound.range.v

-- at depth 8 a sample fits a byte
pub small_samples : {X : Type 0} (f : Picture X) (shape : Shape) (p : Plane) (y x : ℕ) → IsWhole f → shape ≡ f.shape → shape.depth ≡ Eight → map_of f p y x < 256
small_samples f shape p y x sound is eight = small_in f p y x (ap (λ s. s.depth) (sym is) ∙ eight) sound

-- what is put of it, by the rendering of a form
pub text_by : {X : Type 0} (how : Rendering) (form : OutputForm) (picture : Picture X) (shape : Shape)
    → how ≡ record { format = form.format; rate = form.rate; first = is_first form.first } → shape ≡ picture.shape
    → output_text how.format how.rate how.first shape (map_of picture) ≡ output_text form.format form.rate (is_first form.first) picture.shape (map_of picture)
text_by how form picture shape is same = λ i. output_text (is i).format (is i).rate (is i).first (same i) (map_of picture)

-- chroma of a plane rounded up is within half of what is rounded up to places
half_within : (n : ℕ) (ss : Bool) → subsampled_size n ss ≤ halved ss (8 * ((n + 7) / 8))
half_within n true = omega arith
half_within n false = omega arith

pub plane_within : (shape : Shape) (p : Plane) → (plane_width shape p ≤ coded_width shape p) × (plane_height shape p ≤ coded_height shape p)
plane_within shape Y = (omega arith, omega arith)
plane_within shape U = (half_within shape.w shape.ss_x, half_within shape.h shape.ss_y)
plane_within shape V = (half_within shape.w shape.ss_x, half_within shape.h shape.ss_y)

area_is : {X : Type 0} (shape : Shape) (f : FramePlanes X) (p : Plane) → HasSizes shape f → (plane_of f p).area ≡ coded_area shape p
area_is shape f Y h = h.y
area_is shape f U h = h.u
area_is shape f V h = h.v

-- the rows of a picture are as wide as what is shown of them
pub wide_rows : {X : Type 0} (f : Picture X) (shape : Shape) (p : Plane) → IsWhole f → shape ≡ f.shape → plane_width shape p ≤ (plane_of f.planes p).area.columns
wide_rows f shape p sound is = rw (is, area_is f.shape f.planes p sound.sizes) ((plane_within f.shape p).0)

-- and it has as many as are shown
pub held_rows : {X : Type 0} (f : Picture X) (shape : Shape) (p : Plane) (y : ℕ) → IsWhole f → shape ≡ f.shape → y < plane_height shape p
    → HasRow (plane_of f.planes p).area y 0 (plane_of f.planes p).area.columns
held_rows f shape p y sound is low =
    let high = subst (λ s. y < plane_height s p) is low in
    rw (area_is f.shape f.planes p sound.sizes)
    (record { above = omega arith; below = omega (arith, high, (plane_within f.shape p).1); left = omega arith; right = omega arith })

put_shows : (old new : Option (List ℕ)) (grows : Bool) (faults now : ℕ) (text : List ℕ) (r : Result (Unit {0}) PutFault)
    → PutsAll old new text r → CountsPutFaults grows faults now r → Shows text old new faults now r
put_shows old new grows faults now text (Ok u) h k = (h, k)
put_shows old new grows faults now text (Err refused.Failed) h k = (h, k)
put_shows old new grows faults now text (Err refused.OutOfMemory) h k = (h, k.0)

-- what a call of render puts
pub render_shows : (old new : Option (List ℕ)) (grows : Bool) (faults now : ℕ) (text shown : List ℕ) (r : Result (Unit {0}) PutFault) → text ≡ shown
    → PutsAll old new text r → CountsPutFaults grows faults now r → Shows shown old new faults now r
render_shows old new grows faults now text shown r is h k = subst (λ t. Shows t old new faults now r) is (put_shows old new grows faults now text r h k)

-- what is told of what a frame shows
told_if : (shown : Bool) (pictures : List AnyPicture) (place number : ℕ) (shape : Shape) (m : FrameMap) → held_in pictures (Some place) ≡ Some (shape, m)
    → held_in pictures (if shown then Some place else None) ≡ shown_of (if shown then Some (record { frame = number; shape = shape; map = m }) else None)
told_if true pictures place number shape m is = is
told_if false pictures place number shape m is = refl

pub told_shown : (number : ℕ) (header : Header) (table : PictureTable) (c : Coded) (result : FrameResult) (place : Option ℕ) → held_in table.pictures.items (Some c.place) ≡ Some (shape_of header, result.map)
    → place ≡ (if header.show_frame then Some c.place else None)
    → held_in table.pictures.items place ≡ shown_of (shown_picture number header result)
told_shown number header table c result place there is =
    ap (held_in table.pictures.items) is ∙ told_if header.show_frame table.pictures.items c.place number (shape_of header) result.map there

-- the place of what is shown is there
pub below_if : (shown : Bool) (count place : ℕ) → place < count → IsBelow count (if shown then Some place else None)
below_if true count place low = low
below_if false count place low = tt

pub sound_if : (shown : Bool) (pictures : List AnyPicture) (place : ℕ) → IsSoundAt pictures place → NamesSound pictures (if shown then Some place else None)
sound_if true pictures place h = h
sound_if false pictures place h = tt

pub sound_at : (pictures : List AnyPicture) (place : ℕ) (picture : AnyPicture) → slice_get pictures place ≡ Some picture → IsSound picture → IsSoundAt pictures place
sound_at pictures place picture there sound = subst (λ o. IfSome o IsSound) (sym there) sound

pub is_sound : (header : Header) (c : Coded) (picture : AnyPicture) (result : FrameResult) → FitsPlanes (shape_of header) → HoldsFrame header picture c.decoded result → IsSound picture
is_sound header c picture result fits holds = holds.sound fits

-- the picture that is shown is the one at the frame's place
pub picture_is : (pictures : List AnyPicture) (place : ℕ) (picture got : AnyPicture) → slice_get pictures place ≡ Some picture → got ≡ get_or pictures place got → got ≡ picture
picture_is pictures place picture got there is = is ∙ get_or_from_slice_get pictures place picture got there
