-- What a write puts.
use Rattle.std.proofs.Common.{◌≡◌, ◌≤◌, ◌<◌, ℕ, List, take, drop, ap, subst, sym, ◌∙◌, refl, arith}
use Rattle.std.specs.Prelude.{Option, Some, Ok, Err}
use Rattle.std.proofs.lemmas.List.{take-append-drop}
use Rattle.edge_io.specs.Putting.{Takes}
use Rattle.edge_io.specs.declared.sink.PutFault.{PutFault}
use Rattle.edge_io.specs.declared.sink.PutFault.TheVariants as refused
use Rattle.vp9_types.specs.Shapes.{mi_rows}
use Rattle.vp9_types.specs.Sizes.{superblocks_along}
use Rattle.vp9_types.specs.declared.shape.Depth.{Depth}
use Rattle.vp9_types.specs.declared.shape.Depth.TheVariants.{Eight}
use Rattle.vp9_types.specs.declared.shape.Plane.{Plane}
use Rattle.vp9_types.specs.declared.shape.Shape.{Shape}
use Rattle.frame_headers.specs.HeaderState.{shape_of}
use Rattle.frame_output.specs.Formats.{output_text}
use Rattle.frame_output.specs.declared.rendering.Format.{Format}
use Rattle.frame_output.specs.declared.rendering.Rendering.{Rendering}
use Rattle.job_rows.specs.frame_state.FrameReading.{FrameRead}
use Rattle.job_order.specs.Truths.{IsFront}
use Rattle.job_rows.specs.numbered_frames.Coded.{CodedFrame, coded, read_of}
use Rattle.job_rows.specs.numbered_frames.NumberedPictures.{picture_from, picture_read, pictures}
use Rattle.job_rows.specs.seq_decoder.Code.{Shows}
use Rattle.job_rows.specs.seq_decoder.Outputs.{is_first}
use Rattle.job_rows.specs.seq_decoder.declared.form.OutputForm.{OutputForm}
use Rattle.job_rows.specs.filtered_rows.Code.{map_in, rows_from}
use Rattle.job_rows.specs.filtered_rows.BufferRows.{RowSpan}
use Rattle.edge_io.proofs.Fronts.{takes_none}
use Rattle.job_rows.proofs.of_picture_range.Ranges.{picture_small}
use Rattle.job_rows.proofs.of_seq_decoder.ShowingLemmas.{small_at}
use Rattle.job_rows.specs.job_results.JobResults.{IsReadFrame}
use Rattle.job_rows.specs.numbered_frames.Films.{Film}

---- The frame that is shown ----

pub shape_is : (format : Format) (film : Film) (f : ℕ) (c : CodedFrame) (read : FrameRead) → coded format film f ≡ Some c → read_of c ≡ Ok read → (pictures format film f).shape ≡ shape_of c.header
unfolding pictures
shape_is format film f c read is reads = ap (λ o. (picture_from o).shape) is ∙ ap (λ r. (picture_read c r).shape) reads

rows_are : (n : ℕ) (shape other : Shape) → n ≡ superblocks_along (mi_rows shape) → shape ≡ other → n ≤ superblocks_along (mi_rows other)
rows_are n shape other is same = let now = is ∙ ap (λ (s : Shape). superblocks_along (mi_rows s)) same in omega (arith, now)

-- its planes keep samples as its depth asks
keeps_read : (Keeps : Depth → Type 0) (format : Format) (film : Film) (f : ℕ) (shape : Shape) → IsReadFrame format film f → shape ≡ (pictures format film f).shape → Keeps shape.depth
    → (c : CodedFrame) × (coded format film f ≡ Some c) × Keeps c.header.color.depth
keeps_read Keeps format film f shape read same keeps =
    (read.0, read.1, subst Keeps (ap (λ (s : Shape). s.depth) (same ∙ shape_is format film f read.0 read.2.0 read.1 read.2.1)) keeps)

pub rows_asked : (Keeps : Depth → Type 0) (format : Format) (film : Film) (f n : ℕ) (shape : Shape) → IsReadFrame format film f × (shape ≡ (pictures format film f).shape) → n ≡ superblocks_along (mi_rows shape)
    → Keeps shape.depth
    → (0 ≤ n) × ((n ≤ superblocks_along (mi_rows (pictures format film f).shape)) × ((c : CodedFrame) × (coded format film f ≡ Some c) × Keeps c.header.color.depth))
rows_asked Keeps format film f n shape shown is keeps =
    (omega arith, (rows_are n shape (pictures format film f).shape is shown.1, keeps_read Keeps format film f shape shown.0 shown.1 keeps))

small_of : (format : Format) (film : Film) (f : ℕ) (shape : Shape) (p : Plane) (y x : ℕ) → shape ≡ (pictures format film f).shape → shape.depth ≡ Eight → (pictures format film f).map p y x < 256
small_of format film f shape p y x same eight =
    small_at _ ((pictures format film f).map p) y x (ap (λ (s : Shape). s.depth) (sym same) ∙ eight) (picture_small format film f p)

-- by the rows that it is read from
pub small_sample : (format : Format) (film : Film) (f n : ℕ) (rows : RowSpan) (shape : Shape) (p : Plane) (y x : ℕ) → rows ≡ rows_from f 0 n → shape ≡ (pictures format film f).shape → shape.depth ≡ Eight
    → map_in (pictures format film) rows p y x < 256
small_sample format film f n rows shape p y x is same eight =
    subst (λ (r : RowSpan). map_in (pictures format film) r p y x < 256) (sym is) (small_of format film f shape p y x same eight)

---- What is put ----

-- the whole text, or a front of it where it is refused
pub put_by : (old new : Option (List ℕ)) (text : List ℕ) (faults now : ℕ) (fault : PutFault) → Shows text old new faults now (Err fault)
    → (put : List ℕ) × Takes old new put × IsFront put text
put_by old new text faults now refused.Failed h = (take h.0.0 text, h.0.2, (drop h.0.0 text, take-append-drop h.0.0 text))
put_by old new text faults now refused.OutOfMemory h = (take h.0.0 text, h.0.2, (drop h.0.0 text, take-append-drop h.0.0 text))

-- nothing was put, for want of memory
pub none_put : (old : Option (List ℕ)) (text : List ℕ) (faults : ℕ) (fault : PutFault) → fault ≡ refused.OutOfMemory → Shows text old old faults faults (Err fault)
none_put old text faults fault is =
    subst (λ (e : PutFault). Shows text old old faults faults (Err e)) (sym is) ((0, omega arith, takes_none old), refl)

-- the text by the rendering of a form
pub text_by : (format : Format) (film : Film) (f n : ℕ) (rows : RowSpan) (how : Rendering) (form : OutputForm) (shape : Shape) → rows ≡ rows_from f 0 n
    → how ≡ record { format = form.format; rate = form.rate; first = is_first form.first }
    → output_text how.format how.rate how.first shape (map_in (pictures format film) rows) ≡ output_text form.format form.rate (is_first form.first) shape (pictures format film f).map
text_by format film f n rows how form shape same is = λ i. output_text (is i).format (is i).rate (is i).first shape (map_in (pictures format film) (same i))
