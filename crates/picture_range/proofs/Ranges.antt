-- All samples of a frame are in the range of its depth: each block that is put in keeps them there, and each edge that is filtered.
use Rattle.std.proofs.Common.{◌≡◌, ◌*◌, ◌-◌, ◌++◌, ℕ, Bool, true, false, List, [], ◌∷◌, refl, sym, arith, nat_eq, subst}
use Rattle.std.specs.Prelude.{Option, Some, None, Result, Ok, Err, if◌then◌else◌, slice_range}
use Rattle.std.specs.List.{flat_map, fold, range_with_len}
use Rattle.std.proofs.lemmas.List.Concat.{flat_map-cons}
use Rattle.std.proofs.lemmas.List.Sums.{fold-append}
use Rattle.vp9_types.specs.Maps.{Map, FrameMap, IsAtMost}
use Rattle.vp9_types.specs.Shapes.{coded_width, coded_height, mi_rows, mi_cols}
use Rattle.vp9_types.specs.Sizes.{greatest, side, superblocks_along}
use Rattle.vp9_types.specs.declared.block.Modes.{Modes}
use Rattle.vp9_types.specs.declared.block.ReferenceFrame.{ReferenceFrame}
use Rattle.vp9_types.specs.declared.job.Span.{Span}
use Rattle.vp9_types.specs.declared.rule.Rule.{Rule}
use Rattle.vp9_types.specs.declared.shape.Depth.{Depth}
use Rattle.vp9_types.specs.declared.shape.Depth.TheVariants.{Eight, Ten, Twelve}
use Rattle.vp9_types.specs.declared.shape.Plane.{Plane}
use Rattle.vp9_types.specs.declared.shape.Plane.TheVariants.{Y, U, V}
use Rattle.vp9_types.specs.declared.shape.Shape.{Shape}
use Rattle.frame_headers.specs.Header.{head_of}
use Rattle.frame_headers.specs.Spans.{tile_spans}
use Rattle.frame_headers.specs.HeaderState.{shape_of}
use Rattle.frame_headers.specs.declared.header.FrameHead.{FrameHead}
use Rattle.frame_headers.specs.declared.header.FrameHead.TheVariants as head
use Rattle.frame_headers.specs.declared.header.Header.{Header}
use Rattle.prob_contexts.specs.ProbLists.{ContextLists}
use Rattle.compressed_header.specs.CompressedHeader.{forward}
use Rattle.frame_output.specs.declared.rendering.Format.{Format}
use Rattle.block_plan.specs.Blocks.{covering}
use Rattle.block_plan.specs.InPlanes.{plane_block}
use Rattle.block_plan.specs.Planned.{PlannedBlock, Residue, Residues}
use Rattle.block_plan.specs.declared.block.BlockInfo.{BlockInfo}
use Rattle.block_plan.specs.declared.block.InterPrediction.{InterPrediction}
use Rattle.block_plan.specs.declared.block.IntraPrediction.{IntraPrediction}
use Rattle.block_plan.specs.declared.block.Prediction.{Prediction}
use Rattle.block_plan.specs.declared.block.Prediction.TheVariants.{Intra, Inter}
use Rattle.inter_places.specs.Places.{parts_of}
use Rattle.intra_predict.specs.Steps.{plus_residue, prediction}
use Rattle.intra_predict.specs.declared.block.IntraBlock.{IntraBlock}
use Rattle.intra_predict.proofs.StepLemmas.{prediction_small, residue_small, square_small}
use Rattle.planes.specs.Pictures.{blank}
use Rattle.block_rebuild.specs.RebuiltBlocks.{put_by, put_intra, put_next, put_planned, put_residue}
use Rattle.block_rebuild.specs.InterBlocks.{Rebuilding, ReferencePicture, add_next, put_inter, put_part, put_prediction}
use Rattle.block_rebuild.proofs.Parts.{part_small}
use Rattle.block_rebuild.proofs.Sums.{added_small}
use Rattle.line_filter.specs.FilteredEdges.{with_edge}
use Rattle.line_filter.specs.declared.edge.Edge.{Edge}
use Rattle.line_filter.specs.declared.edge.FilterWidth.{FilterWidth}
use Rattle.line_filter.specs.declared.edge.Limits.{Limits}
use Rattle.line_filter.specs.declared.edge.Pass.{Pass}
use Rattle.line_filter.specs.declared.edge.Pass.TheVariants.{Vertical, Horizontal}
use Rattle.line_filter.proofs.SmallLines.{edge_small}
use Rattle.loop_edges.specs.Cells.{cell_at, sub_x, sub_y, outer_edge, has_inner, setting_of}
use Rattle.loop_edges.specs.FrameEdges.{side_edge, middle_edge, side_edges, middle_edges, both_edges, block_edges, edges_of, cell_edges, cells_of, cell_row, pass_edges, superblock_edges, row_edges, frame_edges, filtered_frame}
use Rattle.loop_edges.specs.FilterLevels.{filter_level, limits_of}
use Rattle.loop_edges.specs.declared.setting.EdgeSetting.{EdgeSetting}
use Rattle.numbered_frames.specs.frame_state.FrameReading.{FrameRead, all_blocks, blocks_read}
use Rattle.numbered_frames.specs.frame_decoder.DecodedFrames.{put_more, raw, rebuilding}
use Rattle.numbered_frames.specs.seq_decoder.After.{input_of}
use Rattle.numbered_frames.specs.seq_decoder.Outputs.{Putting}
use Rattle.numbered_frames.specs.seq_decoder.DecoderState.{persist_of}
use Rattle.numbered_frames.specs.Coded.{CodedFrame, begun_from, coded, coded_from, headed_from, read_of, references}
use Rattle.numbered_frames.specs.FrameNumbers.{before, frame_at}
use Rattle.numbered_frames.specs.NumberedPictures.{picture_from, picture_read, pictures}
use Rattle.numbered_frames.specs.Films.{Film}

---- Blocks put in ----

all_small : {A : Type 0} (most : ℕ) (put : Map → A → Map) → ((m : Map) (a : A) → IsAtMost most m → IsAtMost most (put m a)) → (xs : List A) (m : Map) → IsAtMost most m → IsAtMost most (fold put m xs)
all_small most put keeps [] m small = small
all_small most put keeps (a ∷ xs) m small = all_small most put keeps xs (put m a) (keeps m a small)

rebuilt_small : (width height : ℕ) (depth : Depth) (b : IntraBlock) (residue : Residue) (m : Map) → IsAtMost (greatest depth) m → IsAtMost (greatest depth) (put_residue width height depth b residue m)
rebuilt_small width height depth b None m small =
    square_small (greatest depth) width height m b.place.row b.place.column (side b.size) (prediction width height depth b m) small (prediction_small width height depth b m small)
rebuilt_small width height depth b (Some values) m small =
    square_small (greatest depth) width height m b.place.row b.place.column (side b.size) (plus_residue depth (side b.size) (prediction width height depth b m) values) small
    (residue_small depth (side b.size) (prediction width height depth b m) values)

intra_small : (shape : Shape) (tile_from : ℕ) (b : BlockInfo) (modes : IntraPrediction) (p : Plane) (residues : Residues) (m : Map) → IsAtMost (greatest shape.depth) m
    → IsAtMost (greatest shape.depth) (put_intra shape tile_from b modes p residues m)
unfolding put_intra
intra_small shape tile_from b modes p residues m small =
    all_small (greatest shape.depth) (put_next shape tile_from b modes p) (λ m r. rebuilt_small (coded_width shape p) (coded_height shape p) shape.depth _ r.1 m) residues m small

prediction_kept : (by : Rebuilding) (b : BlockInfo) (modes : InterPrediction) (p : Plane) (m : Map) → IsAtMost (greatest by.shape.depth) m → IsAtMost (greatest by.shape.depth) (put_prediction by b modes p m)
unfolding put_prediction
prediction_kept by b modes p m small =
    all_small (greatest by.shape.depth) (put_part by b modes p) (λ m n small. part_small by b modes p n m (put_part by b modes p m n) small refl)
    (range_with_len 0 (parts_of by.shape b.size p)) m small

inter_small : (by : Rebuilding) (b : BlockInfo) (modes : InterPrediction) (p : Plane) (residues : Residues) (m : Map) → IsAtMost (greatest by.shape.depth) m
    → IsAtMost (greatest by.shape.depth) (put_inter by b modes p residues m)
unfolding put_inter
inter_small by b modes p residues m small =
    all_small (greatest by.shape.depth) (add_next by.shape b p)
    (λ m r. added_small (coded_width by.shape p) (coded_height by.shape p) by.shape.depth (plane_block by.shape b p) r.0 r.1 m)
    residues (put_prediction by b modes p m) (prediction_kept by b modes p m small)

block_small : (by : Rebuilding) (b : PlannedBlock) (prediction : Prediction) (m : FrameMap) (p : Plane) → IsAtMost (greatest by.shape.depth) (m p)
    → IsAtMost (greatest by.shape.depth) (put_by by b prediction m p)
unfolding put_by
block_small by b (Intra modes) m Y small = intra_small by.shape b.tile_from b.info modes Y b.y (m Y) small
block_small by b (Intra modes) m U small = intra_small by.shape b.tile_from b.info modes U b.u (m U) small
block_small by b (Intra modes) m V small = intra_small by.shape b.tile_from b.info modes V b.v (m V) small
block_small by b (Inter modes) m Y small = inter_small by b.info modes Y b.y (m Y) small
block_small by b (Inter modes) m U small = inter_small by b.info modes U b.u (m U) small
block_small by b (Inter modes) m V small = inter_small by b.info modes V b.v (m V) small

blocks_small : (by : Rebuilding) (blocks : List PlannedBlock) (m : FrameMap) (p : Plane) → IsAtMost (greatest by.shape.depth) (m p)
    → IsAtMost (greatest by.shape.depth) (fold (put_more by) m blocks p)
blocks_small by [] m p small = small
blocks_small by (b ∷ blocks) m p small = blocks_small by blocks (put_planned by b m) p (block_small by b b.info.prediction m p small)

blank_small : (most : ℕ) (p : Plane) → IsAtMost most (blank p)
blank_small most p y x = omega arith

pub raw_small : (by : Rebuilding) (blocks : List PlannedBlock) (p : Plane) → IsAtMost (greatest by.shape.depth) (raw by blocks p)
unfolding raw
raw_small by blocks p = blocks_small by blocks blank p (blank_small (greatest by.shape.depth) p)

---- Edges filtered ----

-- edges that leave samples in a range
abbrev Keep : ℕ → List Edge → Type 0
Keep most edges = (m : Map) → IsAtMost most m → IsAtMost most (fold with_edge m edges)

none_keep : (most : ℕ) → Keep most []
none_keep most m small = small

both_keep : (most : ℕ) (xs ys : List Edge) → Keep most xs → Keep most ys → Keep most (xs ++ ys)
both_keep most xs ys first second m small = rw (fold-append with_edge m xs ys) (second (fold with_edge m xs) (first m small))

all_keep : {A : Type 0} (most : ℕ) (g : A → List Edge) → ((a : A) → Keep most (g a)) → (xs : List A) → Keep most (flat_map g xs)
all_keep most g each [] = none_keep most
all_keep most g each (x ∷ xs) = rw (flat_map-cons g x xs) (both_keep most (g x) (flat_map g xs) (each x) (all_keep most g each xs))

if_keep : (most : ℕ) (b : Bool) (edges : List Edge) → Keep most edges → Keep most (if b then [] else edges)
if_keep most true edges keep = none_keep most
if_keep most false edges keep = keep

-- an edge whose limits are of the depth
one_keeps : (most : ℕ) (e : Edge) → 2 * e.limits.half - 1 ≡ most → Keep most (e ∷ [])
one_keeps most e is m small = subst (λ (k : ℕ). IsAtMost k (with_edge m e)) is (edge_small e m (subst (λ (k : ℕ). IsAtMost k m) (sym is) small))

side_keeps : (most : ℕ) (shape : Shape) (p : Plane) (pass : Pass) (r c : ℕ) (limits : Limits) (o : Option FilterWidth) → 2 * limits.half - 1 ≡ most
    → Keep most (side_edges shape (cell_at p pass r c) limits o)
side_keeps most shape p pass r c limits None is = none_keep most
side_keeps most shape p pass r c limits (Some width) is = one_keeps most (side_edge shape (cell_at p pass r c) limits width) is

middle_keeps : (most : ℕ) (shape : Shape) (p : Plane) (pass : Pass) (r c : ℕ) (limits : Limits) (inner : Bool) → 2 * limits.half - 1 ≡ most
    → Keep most (middle_edges shape (cell_at p pass r c) limits inner)
middle_keeps most shape p pass r c limits false is = none_keep most
middle_keeps most shape p Vertical r c limits true is = one_keeps most (middle_edge shape (cell_at p Vertical r c) limits) is
middle_keeps most shape p Horizontal r c limits true is = one_keeps most (middle_edge shape (cell_at p Horizontal r c) limits) is

top_of : (depth : Depth) (sharpness level : ℕ) → 2 * (limits_of depth sharpness level).half - 1 ≡ greatest depth
unfolding limits_of
top_of Eight sharpness level = refl
top_of Ten sharpness level = refl
top_of Twelve sharpness level = refl

abbrev most_of : EdgeSetting → ℕ
most_of f = greatest f.shape.depth

block_keeps : (f : EdgeSetting) (p : Plane) (pass : Pass) (r c : ℕ) (b : BlockInfo) → Keep (most_of f) (block_edges f (cell_at p pass r c) b)
unfolding block_edges both_edges
block_keeps f p pass r c b =
    let limits = limits_of f.shape.depth f.filter.sharpness (filter_level f b) in
    let is : 2 * limits.half - 1 ≡ most_of f = top_of f.shape.depth f.filter.sharpness (filter_level f b) in
    if_keep (most_of f) (nat_eq (filter_level f b) 0) (both_edges f.shape (cell_at p pass r c) b limits)
    (both_keep (most_of f) (side_edges f.shape (cell_at p pass r c) limits (outer_edge f.shape (cell_at p pass r c) b)) (middle_edges f.shape (cell_at p pass r c) limits (has_inner f.shape (cell_at p pass r c) b))
    (side_keeps (most_of f) f.shape p pass r c limits (outer_edge f.shape (cell_at p pass r c) b) is)
    (middle_keeps (most_of f) f.shape p pass r c limits (has_inner f.shape (cell_at p pass r c) b) is))

found_keeps : (f : EdgeSetting) (p : Plane) (pass : Pass) (r c : ℕ) (o : Option BlockInfo) → Keep (most_of f) (edges_of f (cell_at p pass r c) o)
found_keeps f p pass r c None = none_keep (most_of f)
found_keeps f p pass r c (Some b) = block_keeps f p pass r c b

cell_keeps : (f : EdgeSetting) (blocks : List BlockInfo) (p : Plane) (pass : Pass) (r c : ℕ) → Keep (most_of f) (cell_edges f blocks (cell_at p pass r c))
unfolding cell_edges
cell_keeps f blocks p pass r c = found_keeps f p pass r c (covering blocks r c)

cell_row_keeps : (f : EdgeSetting) (blocks : List BlockInfo) (p : Plane) (pass : Pass) (r : ℕ) (columns : List ℕ) → Keep (most_of f) (cell_row f blocks p pass r columns)
unfolding cell_row
cell_row_keeps f blocks p pass r columns = all_keep (most_of f) (λ c. cell_edges f blocks (cell_at p pass r c)) (λ c. cell_keeps f blocks p pass r c) columns

pass_keeps : (f : EdgeSetting) (blocks : List BlockInfo) (p : Plane) (pass : Pass) (sr sc : ℕ) → Keep (most_of f) (pass_edges f blocks p pass sr sc)
unfolding pass_edges
pass_keeps f blocks p pass sr sc =
    let columns : List ℕ = cells_of (sub_x f.shape p) (mi_cols f.shape) sc in
    all_keep (most_of f) (λ r. cell_row f blocks p pass r columns) (λ r. cell_row_keeps f blocks p pass r columns) (cells_of (sub_y f.shape p) (mi_rows f.shape) sr)

superblock_keeps : (f : EdgeSetting) (blocks : List BlockInfo) (p : Plane) (sr sc : ℕ) → Keep (most_of f) (superblock_edges f blocks p sr sc)
unfolding superblock_edges
superblock_keeps f blocks p sr sc =
    both_keep (most_of f) (pass_edges f blocks p Vertical sr sc) (pass_edges f blocks p Horizontal sr sc) (pass_keeps f blocks p Vertical sr sc) (pass_keeps f blocks p Horizontal sr sc)

row_keeps : (f : EdgeSetting) (blocks : List BlockInfo) (p : Plane) (sr : ℕ) → Keep (most_of f) (row_edges f blocks p sr)
unfolding row_edges
row_keeps f blocks p sr =
    if_keep (most_of f) (nat_eq f.filter.level 0) (flat_map (superblock_edges f blocks p sr) (range_with_len 0 (superblocks_along (mi_cols f.shape))))
    (all_keep (most_of f) (superblock_edges f blocks p sr) (λ sc. superblock_keeps f blocks p sr sc) (range_with_len 0 (superblocks_along (mi_cols f.shape))))

frame_keeps : (f : EdgeSetting) (blocks : List BlockInfo) (p : Plane) → Keep (most_of f) (frame_edges f blocks p)
unfolding frame_edges
frame_keeps f blocks p = all_keep (most_of f) (row_edges f blocks p) (λ sr. row_keeps f blocks p sr) (range_with_len 0 (superblocks_along (mi_rows f.shape)))

pub filtered_small : (f : EdgeSetting) (blocks : List BlockInfo) (m : FrameMap) (p : Plane) → IsAtMost (greatest f.shape.depth) (m p)
    → IsAtMost (greatest f.shape.depth) (filtered_frame f blocks m p)
unfolding filtered_frame
filtered_small f blocks m p small = frame_keeps f blocks p (m p) small

---- Frames of a file ----

-- blocks are read by a coded frame's own header
abbrev IsOwn : Option CodedFrame → Type 0
IsOwn None = Unit {0}
IsOwn (Some c) = c.by.header ≡ c.header

begun_own : (p : Putting) (frame : List ℕ) (header : Header) (compressed : Span) (updated : Result (ContextLists × Modes) Rule) (spans : Result (List Span) Rule)
    → IsOwn (begun_from p frame header compressed updated spans)
begun_own p frame header compressed (Err rule) spans = tt
begun_own p frame header compressed (Ok updated) (Err rule) = tt
begun_own p frame header compressed (Ok updated) (Ok spans) = refl

headed_own : (p : Putting) (frame : List ℕ) (read : Result FrameHead Rule) → IsOwn (headed_from p frame read)
headed_own p frame (Err rule) = tt
headed_own p frame (Ok (head.ShowExisting slot)) = tt
headed_own p frame (Ok (head.Coded header compressed)) =
    begun_own p frame header compressed (forward header (input_of p.state frame header compressed).past.contexts (slice_range frame compressed.from compressed.to))
    (tile_spans frame header compressed)

coded_own : (kept : Option Putting) (frame : Option (List ℕ)) → IsOwn (coded_from kept frame)
coded_own None frame = tt
coded_own (Some p) None = tt
coded_own (Some p) (Some frame) = headed_own p frame (head_of (persist_of p.state) frame)

-- a frame put together by one header and filtered by it
frame_small : (header : Header) (refers : ReferenceFrame → ReferencePicture) (infos : List BlockInfo) (blocks : List PlannedBlock) (p : Plane)
    → IsAtMost (greatest (shape_of header).depth) (filtered_frame (setting_of header) infos (raw (rebuilding header refers) blocks) p)
frame_small header refers infos blocks p = filtered_small (setting_of header) infos (raw (rebuilding header refers) blocks) p (raw_small (rebuilding header refers) blocks p)

read_small : (c : CodedFrame) (read : Result FrameRead Rule) (p : Plane) → c.by.header ≡ c.header → IsAtMost (greatest (picture_read c read).shape.depth) ((picture_read c read).map p)
read_small c (Err rule) p own = blank_small (greatest Eight) p
read_small c (Ok read) p own =
    subst (λ (h : Header). IsAtMost (greatest (shape_of h).depth) ((picture_read c (Ok read)).map p)) own
    (frame_small c.by.header (references c) (all_blocks (blocks_read read)) read.blocks p)

from_small : (o : Option CodedFrame) (p : Plane) → IsOwn o → IsAtMost (greatest (picture_from o).shape.depth) ((picture_from o).map p)
from_small None p own = blank_small (greatest Eight) p
from_small (Some c) p own = read_small c (read_of c) p own

own_frame : (format : Format) (film : Film) (f : ℕ) → IsOwn (coded format film f)
unfolding coded
own_frame format film f = coded_own (before format film f) (frame_at film f)

pub picture_small : (format : Format) (film : Film) (f : ℕ) (p : Plane) → IsAtMost (greatest (pictures format film f).shape.depth) ((pictures format film f).map p)
unfolding pictures
picture_small format film f p = from_small (coded format film f) p (own_frame format film f)
