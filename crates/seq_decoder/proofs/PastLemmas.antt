-- What the frames before leave to a frame.
use Rattle.std.proofs.Common.{◌≡◌, ◌∙◌, ℕ, zero, suc, ◌+◌, ◌*◌, ◌/◌, ◌≤◌, List, [], ◌∷◌, Bool, true, false, map, get_or, ap, sym, subst, refl, arith, rules}
use Rattle.std.specs.Prelude.{IfSome, None, Option, Some, Ok, Err, ◌&&◌, nat_le, slice_index_or}
use Rattle.std.proofs.Math.Path.{fun_ext}
use Rattle.vp9_types.specs.Maps.{FrameMap, IsAtMost}
use Rattle.vp9_types.specs.Sizes.{greatest}
use Rattle.vp9_types.specs.declared.block.ReferenceFrame.{ReferenceFrame}
use Rattle.vp9_types.specs.declared.block.ReferenceFrame.TheVariants.{Last, Golden, Altref}
use Rattle.vp9_types.specs.declared.job.Span.{Span}
use Rattle.vp9_types.specs.declared.shape.Depth.{Depth}
use Rattle.vp9_types.specs.declared.shape.Plane.{Plane}
use Rattle.vp9_types.specs.declared.shape.Plane.TheVariants.{Y, U, V}
use Rattle.vp9_types.specs.declared.shape.Shape.{Shape}
use Rattle.frame_headers.specs.Header.{head_of}
use Rattle.frame_headers.specs.References.{has_allowed_scale}
use Rattle.frame_headers.specs.FrameSizes.{IsFrameSize}
use Rattle.frame_headers.specs.HeaderState.{shape_of}
use Rattle.frame_headers.specs.declared.header.FrameHead.TheVariants as head
use Rattle.frame_headers.specs.declared.header.FrameKind.{FrameKind}
use Rattle.frame_headers.specs.declared.header.FrameKind.TheVariants.{Key, IntraOnly, Inter}
use Rattle.frame_headers.specs.declared.header.Header.{Header}
use Rattle.frame_headers.specs.declared.header.InterFields.{InterFields}
use Rattle.frame_headers.specs.declared.header.Reference.{Reference}
use Rattle.frame_headers.specs.declared.persist.Persist.{Persist}
use Rattle.inter_contexts.specs.BlockReferences.{reference_in}
use Rattle.inter_places.specs.Places.{IsReference}
use Rattle.planes.specs.Pictures.{map_of}
use Rattle.planes.specs.declared.picture.Picture as planes
use Rattle.picture_table.specs.KeptPictures.{IsSound, IsThere, IsWhole, depth_of, map_of_any, shape_of_any}
use Rattle.picture_table.specs.declared.any.AnyPicture.{AnyPicture}
use Rattle.picture_table.specs.Code.{IsTable, held, held_in, shown}
use Rattle.picture_table.specs.declared.table.PictureTable.{PictureTable}
use Rattle.block_rebuild.specs.InterBlocks.{ReferencePicture}
use Rattle.block_rebuild.specs.Code.{HasReference, IsUsable, picture_of, reference_of, rebuilding_of}
use Rattle.block_rebuild.specs.declared.references.ReferencePicture as code_picture
use Rattle.block_rebuild.specs.declared.references.Rebuilding as code
use Rattle.frame_decoder.specs.ReferencePictures.{HasPictures, has_row, row_width}
use Rattle.std.proofs.lemmas.Bool.{eqb-true}
use Rattle.frame_headers.specs.Spans.{tile_count}
use Rattle.frame_state.specs.Past.{AreVectors}
use Rattle.frame_state.specs.declared.frame_blocks.FrameBlocks.{FrameBlocks}
use Rattle.frame_state.proofs.ColumnBlocks.{all_small}
use Rattle.seq_decoder.specs.declared.last.LastFrame as code_last
use Rattle.seq_decoder.proofs.FrameLemmas.{is_at, shown_sound}
use Rattle.seq_decoder.specs.After.{input_of, picture_in, references_of, segments_before, takes_vectors, vectors_before}
use Rattle.seq_decoder.specs.SavedContexts.{context_before}
use Rattle.frame_state.specs.FrameReading.{FrameInput}
use Rattle.frame_decoder.specs.DecodedFrames.{decoded}
use Rattle.frame_state.specs.Sources.{FramePast}
use Rattle.frame_state.specs.declared.halt.Halt.{Halt}
use Rattle.frame_state.specs.declared.halt.Halt.TheVariants as halt
use Rattle.seq_decoder.specs.Code.{IsCoded, IsFrame, IsHeld, NamesHeld, NamesHeldBy, last_of_code, shape_told, shown_of, told_of}
use Rattle.seq_decoder.specs.DecoderState.{Picture, State, last_size}
use Rattle.seq_decoder.proofs.HeaderReferences.{HoldsReference, references_held}
use Rattle.seq_decoder.proofs.ShowingLemmas.{held_rows, wide_rows}

---- Slots that a header names ----

at_mapped : {A B : Type 0} (f : Option A → Option B) → f None ≡ None → (xs : List (Option A)) (n : ℕ) → slice_index_or (map f xs) n None ≡ f (slice_index_or xs n None)
at_mapped f none [] n = sym none
at_mapped f none (x ∷ xs) zero = refl
at_mapped f none (x ∷ xs) (suc n) = at_mapped f none xs n

held_as : (header : Header) (slots : List (Option (Shape × FrameMap))) (r : Reference) (told : Option (Shape × FrameMap)) → slice_index_or slots r.slot None ≡ told
    → shape_told told ≡ Some r.shape → r.shape.depth ≡ header.color.depth → IsHeld header slots r
held_as header slots r None is shape depth = absurd cc
held_as header slots r (Some told) is shape depth =
    let same : told.0 ≡ r.shape = cc in
    record { told = told; there = is; shape = same; depth = ap (λ (s : Shape). s.depth) same ∙ depth }

is_held : (header : Header) (persist : Persist) (slots : List (Option (Shape × FrameMap))) (r : Reference) → map shape_told slots ≡ persist.slots
    → HoldsReference persist.slots header.color r → IsHeld header slots r
is_held header persist slots r same h =
    held_as header slots r (slice_index_or slots r.slot None) refl
    (sym (at_mapped shape_told refl slots r.slot) ∙ ap (λ xs. slice_index_or xs r.slot None) same ∙ h.held) h.depth

by_kind : (header : Header) (persist : Persist) (bytes : List ℕ) (compressed : Span) (slots : List (Option (Shape × FrameMap))) (kind : FrameKind) → header.kind ≡ kind
    → map shape_told slots ≡ persist.slots → head_of persist bytes ≡ Ok (head.Coded header compressed) → NamesHeldBy kind header slots
by_kind header persist bytes compressed slots Key is same read = tt
by_kind header persist bytes compressed slots IntraOnly is same read = tt
by_kind header persist bytes compressed slots (Inter fields) is same read = each
  where
    all : HoldsReference persist.slots header.color fields.references.last × HoldsReference persist.slots header.color fields.references.golden × HoldsReference persist.slots header.color fields.references.altref
    all = references_held persist bytes header compressed fields read is

    each : (reference : ReferenceFrame) → IsHeld header slots (reference_in fields.references reference)
    each Last = is_held header persist slots fields.references.last same all.0
    each Golden = is_held header persist slots fields.references.golden same all.1
    each Altref = is_held header persist slots fields.references.altref same all.2

pub names_held : (header : Header) (persist : Persist) (bytes : List ℕ) (compressed : Span) (slots : List (Option (Shape × FrameMap)))
    → map shape_told slots ≡ persist.slots → head_of persist bytes ≡ Ok (head.Coded header compressed) → NamesHeld header slots
names_held header persist bytes compressed slots same read = by_kind header persist bytes compressed slots header.kind refl same read

---- A picture that is referred to ----

-- it is a sound picture, with that picture's shape
abbrev pub IsFrom : {X : Type 0} → code_picture.ReferencePicture (planes.Picture X) → Type 0
IsFrom x = IsWhole x.samples.now × (x.shape ≡ x.samples.now.shape)

both_true : (a b : Bool) → a && b ≡ true → (a ≡ true) × (b ≡ true)
both_true true b h = (refl, h)
both_true false b h = absurd cc

low_of : (m n : ℕ) → nat_le m n ≡ true → m ≤ n
low_of m n h = search rules

plane_range : {X : Type 0} (f : planes.Picture X) (depth : Depth) (p : Plane) → IsWhole f → f.shape.depth ≡ depth → IsAtMost (greatest depth) (map_of f p)
plane_range f depth Y h same = rw (sym same) h.range.y
plane_range f depth U h same = rw (sym same) h.range.u
plane_range f depth V h same = rw (sym same) h.range.v

pub is_reference : (header : Header) (r : Reference) (shape : Shape) → IsFrameSize header.size → shape.w ≤ 65536 → shape.h ≤ 65536 → shape ≡ r.shape → has_allowed_scale header.size r ≡ true
    → IsReference (shape_of header) shape
is_reference header r shape size wide high same range =
    let one = both_true _ _ range in
    let two = both_true _ _ one.0 in
    let three = both_true _ _ two.0 in
    let a = low_of r.shape.w (2 * header.size.width) three.0 in
    let b = low_of r.shape.h (2 * header.size.height) three.1 in
    let c = low_of header.size.width (16 * r.shape.w) two.1 in
    let d = low_of header.size.height (16 * r.shape.h) one.1 in
    let w : shape.w ≡ r.shape.w = ap (λ (s : Shape). s.w) same in
    let h : shape.h ≡ r.shape.h = ap (λ (s : Shape). s.h) same in
    record {
      wide = size.1;
      high = size.3;
      across = record { some = omega (arith, size.0); near = wide; large = omega (arith, a, w); small = omega (arith, c, w) };
      down = record { some = omega (arith, size.2); near = high; large = omega (arith, b, h); small = omega (arith, d, h) };
    }

is_usable : {X : Type 0} (header : Header) (r : Reference) (x : code_picture.ReferencePicture (planes.Picture X)) → IsFrameSize header.size → IsWhole x.samples.now → x.shape ≡ x.samples.now.shape
    → x.shape ≡ r.shape → x.shape.depth ≡ header.color.depth → has_allowed_scale header.size r ≡ true → IsUsable has_row row_width map_of (shape_of header) x
is_usable header r x size sound own same depth range =
    let wide : x.shape.w ≤ 65536 = rw own sound.fits.wide in
    let high : x.shape.h ≤ 65536 = rw own sound.fits.high in record {
      reference = is_reference header r x.shape size wide high same range;
      held = λ p y low. held_rows x.samples.now x.shape p y sound own low;
      wide = λ p. wide_rows x.samples.now x.shape p sound own;
      range = λ p. plane_range x.samples.now header.color.depth p sound (sym (ap (λ (s : Shape). s.depth) own) ∙ depth);
    }

-- the one that stands for a name can be used, where its reference is in range
usable : {X : Type 0} (header : Header) (slots : List (Option (Shape × FrameMap))) (r : Reference) (by : code.Rebuilding (planes.Picture X)) (reference : ReferenceFrame) (x : Option (code_picture.ReferencePicture (planes.Picture X)))
    → reference_of by reference ≡ x → by.shape ≡ shape_of header → IsFrameSize header.size → IsHeld header slots r → has_allowed_scale header.size r ≡ true
    → told_of x ≡ slice_index_or slots r.slot None → IfSome x IsFrom → HasReference has_row row_width map_of by reference
usable header slots r by reference None is shape size h range told from = let no : None ≡ Some h.told = told ∙ h.there in absurd cc
usable header slots r by reference (Some x) is shape size h range told from =
    let all : Some (x.shape, map_of x.samples.now) ≡ Some h.told = told ∙ h.there in
    let same : (x.shape, map_of x.samples.now) ≡ h.told = cc in
    let as_told : x.shape ≡ h.told.0 = ap (λ t. t.0) same in (
      x,
      is,
      subst (λ s. IsUsable has_row row_width map_of s x) (sym shape)
          (is_usable header r x size from.0 from.1 (as_told ∙ h.shape) (ap (λ (s : Shape). s.depth) as_told ∙ h.depth) range),
    )

same_fields : (a b : InterFields) → Inter a ≡ Inter b → a ≡ b
same_fields a b same = cc

-- three pictures, each as the slot of its reference holds it
pub record ArePictures {X : Type 0} (slots : List (Option (Shape × FrameMap))) (fields : InterFields) (by : code.Rebuilding (planes.Picture X)) : Type 0 where
  pub last : told_of by.last ≡ slice_index_or slots fields.references.last.slot None
  pub golden : told_of by.golden ≡ slice_index_or slots fields.references.golden.slot None
  pub altref : told_of by.altref ≡ slice_index_or slots fields.references.altref.slot None
  pub last_from : IfSome by.last IsFrom
  pub golden_from : IfSome by.golden IsFrom
  pub altref_from : IfSome by.altref IsFrom

told_as : {X : Type 0} (slots : List (Option (Shape × FrameMap))) (fields : InterFields) (by : code.Rebuilding (planes.Picture X)) → ArePictures slots fields by → (reference : ReferenceFrame)
    → told_of (reference_of by reference) ≡ slice_index_or slots (reference_in fields.references reference).slot None
told_as slots fields by h Last = h.last
told_as slots fields by h Golden = h.golden
told_as slots fields by h Altref = h.altref

from_as : {X : Type 0} (slots : List (Option (Shape × FrameMap))) (fields : InterFields) (by : code.Rebuilding (planes.Picture X)) → ArePictures slots fields by → (reference : ReferenceFrame)
    → IfSome (reference_of by reference) IsFrom
from_as slots fields by h Last = h.last_from
from_as slots fields by h Golden = h.golden_from
from_as slots fields by h Altref = h.altref_from

named_of : (header : Header) (fields : InterFields) (slots : List (Option (Shape × FrameMap))) → header.kind ≡ Inter fields → NamesHeld header slots
    → (reference : ReferenceFrame) → IsHeld header slots (reference_in fields.references reference)
named_of header fields slots kind names = subst (λ k. NamesHeldBy k header slots) kind names

-- each is kept as the frame's depth asks
pub kept_named : (Keeps : Depth → Type 0) (header : Header) (fields : InterFields) (slots : List (Option (Shape × FrameMap))) → header.kind ≡ Inter fields → NamesHeld header slots
    → Keeps (shape_of header).depth → (reference : ReferenceFrame) → IfSome (slice_index_or slots (reference_in fields.references reference).slot None) (λ told. Keeps told.0.depth)
kept_named Keeps header fields slots kind names keeps reference =
    let h = named_of header fields slots kind names reference in
    rw h.there (subst Keeps (sym h.depth) keeps)

pub has_pictures : {X : Type 0} (header : Header) (fields : InterFields) (slots : List (Option (Shape × FrameMap))) (by : code.Rebuilding (planes.Picture X)) → header.kind ≡ Inter fields → by.shape ≡ shape_of header
    → IsFrameSize header.size → NamesHeld header slots → ArePictures slots fields by → HasPictures header by
has_pictures header fields slots by kind shape size names h = λ others reference is range.
    let same = same_fields others fields (sym is ∙ kind) in
    usable header slots (reference_in fields.references reference) by reference (reference_of by reference) refl shape size (named_of header fields slots kind names reference)
    (subst (λ (f : InterFields). has_allowed_scale header.size (reference_in f.references reference) ≡ true) same range)
    (told_as slots fields by h reference) (from_as slots fields by h reference)

picture_told : {X : Type 0} (x : Option (code_picture.ReferencePicture (planes.Picture X))) (y : Option Picture) → told_of x ≡ shown_of y → picture_of map_of x ≡ picture_in y
picture_told None None same = refl
picture_told None (Some p) same = absurd cc
picture_told (Some r) None same = absurd cc
picture_told (Some r) (Some p) same =
    let both : ◌≡◌ {A = Shape × FrameMap} (r.shape, map_of r.samples.now) (p.shape, p.map) = cc in
    ap (λ (t : Shape × FrameMap). record { shape = t.0; map = t.1 }) both

pub references_are : {X : Type 0} (slots : List (Option Picture)) (told : List (Option (Shape × FrameMap))) (fields : InterFields) (kind : FrameKind) (by : code.Rebuilding (planes.Picture X)) → kind ≡ Inter fields
    → told ≡ map shown_of slots → ArePictures told fields by → (rebuilding_of map_of by).references ≡ references_of slots kind
references_are slots told fields kind by is same h = subst (λ k. (rebuilding_of map_of by).references ≡ references_of slots k) (sym is) (fun_ext each)
  where
    each : (reference : ReferenceFrame) → picture_of map_of (reference_of by reference) ≡ picture_in (slice_index_or slots (reference_in fields.references reference).slot None)
    each reference =
        let n = (reference_in fields.references reference).slot in
        picture_told (reference_of by reference) (slice_index_or slots n None)
        (told_as told fields by h reference ∙ ap (λ xs. slice_index_or xs n None) same ∙ at_mapped shown_of refl slots n)

-- what the code finds in a slot
pub told_there : (t : PictureTable) (n place : ℕ) (got : AnyPicture) → IsTable t → get_or t.slots n None ≡ Some place → got ≡ get_or t.pictures.items place got
    → Some (shape_of_any got, map_of_any got) ≡ slice_index_or (held t) n None
told_there t n place got h is same =
    sym (at_mapped (held_in t.pictures.items) refl t.slots n ∙ ap (held_in t.pictures.items) is ∙ ap shown (is_at t n place got h is same))

pub sound_there : (t : PictureTable) (n place : ℕ) (got : AnyPicture) → IsTable t → get_or t.slots n None ≡ Some place → got ≡ get_or t.pictures.items place got → IsSound got
sound_there t n place got h is same = shown_sound t n place got h is same

---- Vectors ----

pub vectors_are : (header : Header) (last : code_last.LastFrame) (b : FrameBlocks) → takes_vectors header (last_of_code last) ≡ true → b.header.now ≡ last.header → b.columns.now ≡ last.columns.items
    → AreVectors header b
vectors_are header last b takes same columns =
    let one = both_true _ _ takes in
    let two = both_true _ _ one.0 in
    let sized = both_true _ _ two.1 in
    let width : header.size.width ≡ last.header.size.width = eqb-true _ _ sized.0 in
    let height : header.size.height ≡ last.header.size.height = eqb-true _ _ sized.1 in record {
      rows = rw same (ap (λ n. (n + 7) / 8) (sym height));
      cols = rw same (ap (λ n. (n + 7) / 8) (sym width));
      small = rw columns (all_small last.header (tile_count last.header) last.columns.items last.are.are);
    }

---- The input of a frame ----

pub input_is : (state : State) (own header : Header) (bytes : List ℕ) (compressed : Span) (past : FramePast) → own ≡ header → past.contexts ≡ context_before header state.contexts
    → past.segments ≡ segments_before header (last_size state.last) state.segments → past.vectors ≡ vectors_before header state.last
    → ◌≡◌ {A = FrameInput} (record { header = own; compressed = compressed; bytes = bytes; past = past }) (input_of state bytes header compressed)
input_is state own header bytes compressed past same contexts segments vectors = λ i. record {
  header = same i;
  compressed = compressed;
  bytes = bytes;
  past = record { contexts = contexts i; segments = segments i; vectors = vectors i };
}

-- a frame that can't be decoded
pub coded_halts : (header : Header) (references others : ReferenceFrame → ReferencePicture) (input other : FrameInput) (picture : AnyPicture) (table : PictureTable) (e : Halt)
    → references ≡ others → input ≡ other → IsFrame references input picture (Err e) → IsCoded header (decoded others other) table (Err e)
coded_halts header references others input other picture table (halt.Broken rule) named same is = (λ i. decoded (sym named i) (sym same i)) ∙ is
coded_halts header references others input other picture table halt.OutOfMemory named same is = tt

---- A picture by what it keeps a sample as ----

pub there_as : {X : Type 0} (Keeps : Depth → Type 0) (any : AnyPicture) (told : Option (Shape × FrameMap)) (result : Option (planes.Picture X)) (p : planes.Picture X)
    → Some (shape_of_any any, map_of_any any) ≡ told → IfSome told (λ t. Keeps t.0.depth) → IsSound any → (IsSound any → Keeps (depth_of any) → IsThere any result) → result ≡ Some p
    → IsThere any (Some p)
there_as Keeps any told result p same kept sound given is =
    subst (IsThere any) is (given sound (subst (λ (o : Option (Shape × FrameMap)). IfSome o (λ t. Keeps t.0.depth)) (sym same) kept))

pub not_there : {X : Type 0} (Keeps : Depth → Type 0) (any : AnyPicture) (told : Option (Shape × FrameMap)) (result : Option (planes.Picture X))
    → Some (shape_of_any any, map_of_any any) ≡ told → IfSome told (λ t. Keeps t.0.depth) → IsSound any → (IsSound any → Keeps (depth_of any) → IsThere any result) → result ≡ None → ⊥
not_there Keeps any told result same kept sound given is =
    subst (IsThere any) is (given sound (subst (λ (o : Option (Shape × FrameMap)). IfSome o (λ t. Keeps t.0.depth)) (sym same) kept))
