-- The frames that a header's references name.
use Rattle.std.proofs.Common.{◌≡◌, ◌∙◌, ◌<◌, ◌≤◌, ◌+◌, ◌-◌, ℕ, zero, suc, List, [], ◌∷◌, length, map, replicate, min, refl, sym, ap, subst, arith}
use Rattle.std.specs.Prelude.{IfSome, Option, Some, None, slice_index_or}
use Rattle.vp9_types.specs.Shapes.{mi_rows}
use Rattle.vp9_types.specs.Sizes.{superblocks_along}
use Rattle.vp9_types.specs.declared.block.ReferenceFrame.{ReferenceFrame}
use Rattle.vp9_types.specs.declared.block.ReferenceFrame.TheVariants.{Last, Golden, Altref}
use Rattle.vp9_types.specs.declared.shape.Depth.{Depth}
use Rattle.vp9_types.specs.declared.shape.Shape.{Shape}
use Rattle.band_needs.specs.declared.ranges.BandRange.{BandRange}
use Rattle.frame_headers.specs.declared.color.ColorConfig.{ColorConfig}
use Rattle.frame_headers.specs.declared.header.FrameKind.TheVariants.{Inter}
use Rattle.frame_headers.specs.declared.header.InterFields.{InterFields}
use Rattle.frame_headers.specs.declared.header.Reference.{Reference}
use Rattle.frame_output.specs.declared.rendering.Format.{Format}
use Rattle.frame_headers.specs.declared.header.Header.{Header}
use Rattle.job_results.specs.frame_steps.Kept.{number_in}
use Rattle.job_results.specs.frame_steps.declared.beginning.BegunFrame.{BegunFrame}
use Rattle.job_results.specs.Lent.{IsBegunFrame}
use Rattle.inter_contexts.specs.BlockReferences.{reference_in}
use Rattle.job_results.specs.seq_decoder.Outputs.{Putting}
use Rattle.job_results.specs.seq_decoder.DecoderState.{Picture, persist_of, shape_in_slot}
use Rattle.job_results.proofs.of_seq_decoder.HeaderReferences.{HoldsReference, references_held}
use Rattle.job_results.specs.numbered_frames.Coded.{CodedFrame, IsFrameBefore, coded}
use Rattle.job_results.specs.numbered_frames.FrameNumbers.{before, frame_at, start}
use Rattle.job_results.specs.numbered_frames.NumberedPictures.{pictures}
use Rattle.job_results.proofs.of_numbered_frames.SlotFrames.{slots_hold}
use Rattle.job_results.specs.JobResults.{IsClosedAs}
use Rattle.job_results.specs.declared.result.ClosedFrame.{ClosedFrame}
use Rattle.job_rows.specs.LentReferences.{HaveBands, IsInside, IsNumberOf, IsReferred, Names, NamesAll}
use Rattle.job_rows.specs.LentRows.{IsOfDepth}
use Rattle.job_results.proofs.CodedFrames.{CodedBy, IsPictureOf, before_is, coded_by, inner, same_coded, slot_at}
use Rattle.job_results.proofs.NamedSlots.{IsNamed, at_mapped, named_in}
use Rattle.job_results.specs.numbered_frames.Films.{Film}

---- Slots ----

abbrev nothing_in : ℕ → List (Option Picture)
nothing_in k = replicate k None

none_at : (k n : ℕ) → slice_index_or (nothing_in k) n None ≡ None
none_at zero n = refl
none_at (suc k) zero = refl
none_at (suc k) (suc n) = none_at k n

pub named_low : {A : Type 0} (xs : List (Option A)) (n : ℕ) (x : A) → slice_index_or xs n None ≡ Some x → n < length xs
named_low [] n x is = absurd cc
named_low (y ∷ xs) zero x is = omega arith
named_low (y ∷ xs) (suc n) x is = let low = named_low xs n x is in omega (arith, low)

pub is_named : (from : Option Putting) (frame : Option (List ℕ)) (c : CodedFrame) (r : Reference) → CodedBy from frame c → Names c.header.kind r → IsNamed c r
is_named from frame c r by names = subst (IsNamed c) names.2.1 (named_in from frame c names.0 names.2.0 by names.1)

pub one_named : (format : Format) (film : Film) (f : ℕ) (fields : InterFields) (reference : ReferenceFrame) → NamesAll format film f fields → IsReferred format film f (reference_in fields.references reference)
one_named format film f fields reference names = (names.0, names.1, (fields, names.2, (reference, refl)))

-- a frame that has begun names the references of its header
pub names_begun : (format : Format) (film : Film) (f : ℕ) (b : BegunFrame) (fields : InterFields) → IsBegunFrame format film f b → b.setting.header.kind ≡ Inter fields → NamesAll format film f fields
names_begun format film f b fields begun kind = (begun.0, begun.1, sym (ap (λ (h : Header). h.kind) begun.2.header) ∙ kind)

---- The frame of a number ----

not_there : (picture : Picture) → None ≡ Some picture → ⊥
not_there picture is = absurd cc

-- before the first frame the slots hold nothing
pub none_named : (format : Format) (film : Film) (f : ℕ) (r : Reference) → f ≡ 0 → IsReferred format film f r → ⊥
unfolding before
none_named format film f r first named =
    let c = named.0 in
    let by = coded_by format film f c named.1 in
    let h = is_named (before format film f) (frame_at film f) c r by named.2 in
    let at : before format film 0 ≡ Some c.kept = ap (before format film) (sym first) ∙ by.before in
    let same : start format film ≡ c.kept = inner (start format film) c.kept at in
    let none : slice_index_or c.kept.state.slots r.slot None ≡ None = subst (λ (p : Putting). slice_index_or p.state.slots r.slot None ≡ None) same (none_at 8 r.slot) in
    not_there h.picture (sym none ∙ h.held)

-- the close of the frame before has the numbers that the slots hold
pub record IsNumbered (format : Format) (film : Film) (f : ℕ) (r : Reference) (slots : List (Option ℕ)) : Type 0 where
  pub number : ℕ
  pub held : slice_index_or slots r.slot None ≡ Some number
  pub low : r.slot < length slots
  pub is : IsNumberOf format film f r number

pub numbered : (format : Format) (film : Film) (f g : ℕ) (r : Reference) (k : ClosedFrame) → f ≡ g + 1 → IsReferred format film f r → IsClosedAs format film g k → IsNumbered format film f r k.kept.slots
numbered format film f g r k next named right =
    let c = named.0 in
    let by = coded_by format film f c named.1 in
    let h = is_named (before format film f) (frame_at film f) c r by named.2 in
    let at : f ≡ suc g = omega (arith, next) in
    let kept : right.next ≡ c.kept = inner right.next c.kept (sym right.reached ∙ ap (before format film) (sym at) ∙ by.before) in
    let slots : k.kept.slots ≡ map number_in c.kept.state.slots = right.stands.slots ∙ ap (λ (p : Putting). map number_in p.state.slots) kept in
    let held : slice_index_or k.kept.slots r.slot None ≡ Some h.picture.frame =
    ap (λ xs. slice_index_or xs r.slot None) slots ∙ at_mapped number_in refl c.kept.state.slots r.slot ∙ ap number_in h.held in
    record {
      number = h.picture.frame;
      held = held;
      low = named_low k.kept.slots r.slot h.picture.frame held;
      is = record { frame = c; is = named.1; picture = h.picture; held = h.held; shape = h.shape; number = refl };
    }

frame_of : (format : Format) (film : Film) (f : ℕ) (r : Reference) (n : ℕ) (h : IsNumberOf format film f r n) → IsFrameBefore format film f h.picture
frame_of format film f r n h =
    slot_at (λ slot. IfSome slot (IsFrameBefore format film f)) h.frame.kept.state.slots r.slot h.picture (slots_hold format film f h.frame.kept (coded_by format film f h.frame h.is).before) h.held

-- what that frame's picture is
pub picture_of_number : (format : Format) (film : Film) (f : ℕ) (r : Reference) (n : ℕ) (h : IsNumberOf format film f r n) → IsPictureOf h.picture (pictures format film n)
picture_of_number format film f r n h = subst (λ m. IsPictureOf h.picture (pictures format film m)) h.number (before_is format film f h.picture (frame_of format film f r n h))

pub shape_of_number : (format : Format) (film : Film) (f : ℕ) (r : Reference) (n : ℕ) → IsNumberOf format film f r n → r.shape ≡ (pictures format film n).shape
shape_of_number format film f r n h = sym h.shape ∙ (picture_of_number format film f r n h).shape

-- it is coded, and of the reference's depth
pub depth_of_number : (P : Depth → Type 0) (format : Format) (film : Film) (f : ℕ) (r : Reference) (n : ℕ) → IsNumberOf format film f r n → P r.shape.depth → IsOfDepth P format film n
depth_of_number P format film f r n h p =
    let of = frame_of format film f r n h in
    let same : r.shape.depth ≡ of.frame.header.color.depth = ap (λ (s : Shape). s.depth) (sym h.shape ∙ ap (λ (q : Picture). q.shape) of.same) in
    (of.frame, subst (λ m. coded format film m ≡ Some of.frame) h.number of.is, subst P same p)

-- a reference is of the depth of the frame that names it
pub depth_of_named : (P : Depth → Type 0) (format : Format) (film : Film) (f : ℕ) (fields : InterFields) (reference : ReferenceFrame) → NamesAll format film f fields → IsOfDepth P format film f
    → P (reference_in fields.references reference).shape.depth
depth_of_named P format film f fields reference names of =
    let c = names.0 in
    let h = named_in (before format film f) (frame_at film f) c fields reference (coded_by format film f c names.1) names.2 in
    let same : of.0 ≡ c = same_coded (coded format film f) of.0 c of.1 names.1 in
    subst P (ap (λ (d : CodedFrame). d.header.color.depth) same ∙ sym h.depth) of.2

pub zero_of : (n : ℕ) → (1 ≤ n → ⊥) → n ≡ 0
zero_of zero none = refl
zero_of (suc n) none = absurd (none (omega arith))

-- what the slot of a number holds is there
pub number_there : (format : Format) (film : Film) (f g : ℕ) (r : Reference) (k : ClosedFrame) (found : Option ℕ) → (1 ≤ f) × (g ≡ f - 1) → IsReferred format film f r → IsClosedAs format film g k → found ≡ slice_index_or k.kept.slots r.slot None
    → found ≡ None → ⊥
number_there format film f g r k found next named right is none =
    let all = numbered format film f g r k (omega (arith, next.0, next.1)) named right in
    not_at all.number (sym none ∙ is ∙ all.held)
  where
    not_at : (n : ℕ) → None ≡ Some n → ⊥
    not_at n same = absurd cc

pub number_is : (format : Format) (film : Film) (f g : ℕ) (r : Reference) (k : ClosedFrame) (found : Option ℕ) (n : ℕ) → (1 ≤ f) × (g ≡ f - 1) → IsReferred format film f r → IsClosedAs format film g k
    → found ≡ slice_index_or k.kept.slots r.slot None → found ≡ Some n → IsNumberOf format film f r n
number_is format film f g r k found n next named right is there =
    let all = numbered format film f g r k (omega (arith, next.0, next.1)) named right in
    subst (IsNumberOf format film f r) (inner all.number n (sym all.held ∙ sym is ∙ there)) all.is

---- Rows of bands ----

-- the rows that are taken of some bands, or none
pub record TakesRows (rows first end : ℕ) (bands : Option BandRange) : Type 0 where
  pub order : first ≤ end
  pub inside : end ≤ rows
  pub have : (count : ℕ) → count ≡ end - first → IfSome bands (HaveBands rows first count)

take_bands : (rows first last end count : ℕ) → first ≤ last → last < rows → end ≡ min (last + 2) rows → count ≡ end - first → min (last + 1) (rows - 1) < first + count
take_bands rows first last end count order inside is many = omega (arith, order, inside, is, many)

pub takes_rows : (rows end : ℕ) (bands : BandRange) → bands.first ≤ bands.last → bands.last < rows → end ≡ min (bands.last + 2) rows → TakesRows rows bands.first end (Some bands)
takes_rows rows end bands order inside is = record {
  order = omega (arith, order, inside, is);
  inside = omega (arith, is);
  have = λ count many. record { from = omega arith; to = take_bands rows bands.first bands.last end count order inside is many };
}

pub takes_none : (rows : ℕ) → TakesRows rows 0 0 None
takes_none rows = record { order = omega arith; inside = omega arith; have = λ count many. tt }

pub takes_some : (shape : Shape) (o : Option BandRange) (bands : BandRange) (end : ℕ) (both : ℕ × ℕ) → o ≡ Some bands → IfSome o (IsInside shape) → end ≡ min (bands.last + 2) (superblocks_along (mi_rows shape)) → both ≡ (bands.first, end)
    → TakesRows (superblocks_along (mi_rows shape)) both.0 both.1 o
takes_some shape o bands end both is all ends same =
    let rows = superblocks_along (mi_rows shape) in
    let inside : IsInside shape bands = subst (λ (x : Option BandRange). IfSome x (IsInside shape)) is all in
    subst (λ (x : Option BandRange). TakesRows rows both.0 both.1 x) (sym is)
    (subst (λ (p : ℕ × ℕ). TakesRows rows p.0 p.1 (Some bands)) (sym same) (takes_rows rows end bands inside.0 inside.1 ends))

pub takes_nothing : (shape : Shape) (o : Option BandRange) (both : ℕ × ℕ) → o ≡ None → both ≡ (0, 0) → TakesRows (superblocks_along (mi_rows shape)) both.0 both.1 o
takes_nothing shape o both is same =
    let rows = superblocks_along (mi_rows shape) in
    subst (λ (x : Option BandRange). TakesRows rows both.0 both.1 x) (sym is) (subst (λ (p : ℕ × ℕ). TakesRows rows p.0 p.1 None) (sym same) (takes_none rows))
