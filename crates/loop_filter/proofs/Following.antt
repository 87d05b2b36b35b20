-- A frame filtered in a buffer, which has the rows of one row of superblocks and the pending ones above them.
use Rattle.std.proofs.Common.{◌≡◌, ◌<◌, ◌≤◌, ◌+◌, ◌*◌, ◌-◌, inl, inr, ℕ, zero, suc, Bool, true, false, sym, ◌∙◌, arith, ap, List, min, subst}
use Rattle.std.proofs.lemmas.Bool.{cases_lt, lt-ltb, le-ltb}
use Rattle.vp9_types.specs.Maps.{FrameMap}
use Rattle.vp9_types.specs.Shapes.{halved, mi_rows, coded_height}
use Rattle.vp9_types.specs.Sizes.{superblocks_along}
use Rattle.vp9_types.specs.declared.shape.Plane.{Plane}
use Rattle.block_plan.specs.declared.block.BlockInfo.{BlockInfo}
use Rattle.loop_edges.specs.Cells.{sub_y}
use Rattle.loop_edges.specs.Code.{with_row, filtered_before}
use Rattle.loop_edges.specs.FrameEdges.{filtered_frame}
use Rattle.loop_edges.specs.declared.setting.EdgeSetting.{EdgeSetting}
use Rattle.loop_edges.proofs.Rows.{all_rows}
use Rattle.loop_filter.specs.Laws.{first_changed, first_own, lower_end_of, AgreeOver, HoldsPending, HoldsStrips, RowsFollow, BandsAreFinal}
use Rattle.loop_filter.proofs.Frames.{row_more, no_rows}
use Rattle.loop_filter.proofs.Sides as sides
use Rattle.loop_filter.proofs.FinalRows.{leaves_below, reads_its_rows, are_final}

starts_rise : (sub : Bool) (end rows y : ℕ) → min end (halved sub (64 * (rows + 1))) ≤ y → min end (halved sub (64 * rows)) ≤ y
starts_rise true end rows y low = omega (arith, low)
starts_rise false end rows y low = omega (arith, low)

-- rows that no row of superblocks has come to are as they were
pub untouched : (f : EdgeSetting) (blocks : List BlockInfo) (raw : FrameMap) (rows : ℕ) (plane : Plane) (y x : ℕ) → first_own f.shape plane rows ≤ y
    → filtered_before f blocks raw rows plane y x ≡ raw plane y x
untouched f blocks raw zero plane y x low = sym (ap (λ (z : FrameMap). z plane y x) (no_rows f blocks raw))
untouched f blocks raw (suc rows) plane y x low =
    let e : suc rows ≡ rows + 1 = omega arith in
    let below : first_own f.shape plane (rows + 1) ≤ y = subst (λ (n : ℕ). first_own f.shape plane n ≤ y) e low in
    rw e (ap (λ (z : FrameMap). z plane y x) (row_more f blocks raw rows)
    ∙ (leaves_below f blocks rows (filtered_before f blocks raw rows) plane y x below
    ∙ untouched f blocks raw rows plane y x (starts_rise (sub_y f.shape plane) (coded_height f.shape plane) rows y below)))

-- such a buffer has what the row reads
ready : (f : EdgeSetting) (blocks : List BlockInfo) (raw m : FrameMap) (sr : ℕ) → HoldsPending f blocks raw sr m → HoldsStrips f.shape raw sr m
    → AgreeOver f.shape sr m (filtered_before f blocks raw sr)
ready f blocks raw m sr pending strips plane y x low high = elim (cases_lt y (first_own f.shape plane sr)) [
  | inl above ↦ pending plane y x low above
  | inr below ↦ strips plane y x below high ∙ sym (untouched f blocks raw sr plane y x below)
]

-- the row filtered in it
filtered : (f : EdgeSetting) (blocks : List BlockInfo) (raw m : FrameMap) (sr : ℕ) → HoldsPending f blocks raw sr m → HoldsStrips f.shape raw sr m
    → AgreeOver f.shape sr (with_row f blocks m sr) (filtered_before f blocks raw (sr + 1))
filtered f blocks raw m sr pending strips plane y x low high =
    reads_its_rows f blocks sr m (filtered_before f blocks raw sr) (ready f blocks raw m sr pending strips) plane y x low high
    ∙ sym (ap (λ (z : FrameMap). z plane y x) (row_more f blocks raw sr))

changed_rise : (sub : Bool) (sr y : ℕ) → halved sub (64 * (sr + 1)) - 8 ≤ y → halved sub (64 * sr) - 8 ≤ y
changed_rise true sr y low = omega (arith, low)
changed_rise false sr y low = omega (arith, low)

-- but for the last one, a row of superblocks lies in the frame whole
pub whole_rows : (sub : Bool) (sr places end y : ℕ) → sr + 1 < superblocks_along places → end ≡ halved sub (8 * places) → y < halved sub (64 * (sr + 1)) - 8
    → y < min end (halved sub (64 * (sr + 1)))
whole_rows true sr places end y more is low = omega (arith, more, is, low)
whole_rows false sr places end y more is low = omega (arith, more, is, low)

all_done : (f : EdgeSetting) (blocks : List BlockInfo) (raw : FrameMap) (n : ℕ) → n ≡ superblocks_along (mi_rows f.shape) → (plane : Plane) (y x : ℕ)
    → filtered_before f blocks raw n plane y x ≡ filtered_frame f blocks raw plane y x
all_done f blocks raw n all plane y x = ap (λ (k : ℕ). filtered_before f blocks raw k plane y x) all ∙ ap (λ (z : FrameMap). z plane y x) (all_rows f blocks raw)

pub rows_follow : (f : EdgeSetting) (blocks : List BlockInfo) (sr : ℕ) → RowsFollow f blocks sr
rows_follow f blocks sr m inside raw pending strips = record {
  pending = λ plane y x low high. filtered f blocks raw m sr pending strips plane y x (changed_rise (sub_y f.shape plane) sr y low) high;
  final = λ plane y x low high. elim (cases_lt (sr + 1) (superblocks_along (mi_rows f.shape))) [
    | inl more ↦
        let end : y < first_changed f.shape plane (sr + 1) = rw (lt-ltb (sr + 1) (superblocks_along (mi_rows f.shape)) more) at high in
        filtered f blocks raw m sr pending strips plane y x low
        (whole_rows (sub_y f.shape plane) sr (mi_rows f.shape) (coded_height f.shape plane) y more (sides.high f.shape plane) end)
        ∙ are_final f blocks (sr + 1) raw plane y x end (omega (arith, more))
    | inr last ↦
        let end : y < lower_end_of f.shape plane sr = rw (le-ltb (sr + 1) (superblocks_along (mi_rows f.shape)) last) at high in
        let all : sr + 1 ≡ superblocks_along (mi_rows f.shape) = omega (arith, last, inside) in
        filtered f blocks raw m sr pending strips plane y x low end ∙ all_done f blocks raw (sr + 1) all plane y x
  ];
}

band_low : (sub : Bool) (end band rows y : ℕ) → band + 2 ≤ rows → y < min end (halved sub (64 * (band + 1))) → y < halved sub (64 * rows) - 8
band_low true end band rows y less high = omega (arith, less, high)
band_low false end band rows y less high = omega (arith, less, high)

pub bands_are_final : (f : EdgeSetting) (blocks : List BlockInfo) (rows : ℕ) → BandsAreFinal f blocks rows
bands_are_final f blocks rows raw band plane y x few (inl less) high =
    are_final f blocks rows raw plane y x (band_low (sub_y f.shape plane) (coded_height f.shape plane) band rows y less high) few
bands_are_final f blocks rows raw band plane y x few (inr all) high = all_done f blocks raw rows all plane y x
