-- What a frame leaves, whose tile columns are joined.
use Rattle.std.proofs.Common.{◌≡◌, ◌∙◌, ◌<◌, ◌∷◌, [], ℕ, Bool, List, length, get_or, refl, sym, ap, subst, arith}
use Rattle.std.specs.Prelude.{All, Contains, ◌↔◌, IsOk, Result, Ok, Err}
use Rattle.std.proofs.lemmas.List.{get_or-map, get_or_default, length-map, same_lists}
use Rattle.vp9_types.specs.declared.job.Span.{Span}
use Rattle.vp9_types.specs.declared.rule.Rule.{Rule}
use Rattle.frame_headers.specs.Spans.{tile_spans}
use Rattle.seq_decoder.specs.frame_state.KeptColumns.{AreColumnsOf, HasStarts, blocks_of}
use Rattle.seq_decoder.specs.frame_state.ColumnPlans.{plan_of, tile_bytes}
use Rattle.seq_decoder.specs.frame_state.FrameReading.{Column, FrameRead, blocks_read, infos, no_column, read_all_tiles}
use Rattle.frame_headers.specs.HeaderState.{shape_of}
use Rattle.seq_decoder.specs.frame_state.Sources.{FrameSources, adapts}
use Rattle.seq_decoder.specs.frame_state.declared.columns.TileColumn.{TileColumn}
use Rattle.seq_decoder.specs.frame_state.declared.halt.Halt.{Halt}
use Rattle.seq_decoder.specs.frame_state.declared.halt.Halt.TheVariants as halt
use Rattle.seq_decoder.proofs.of_frame_state.PlanReads.{reads_columns}
use Rattle.frame_steps.proofs.ReadColumns.{infos_of, many_read}
use Rattle.counting_reader.specs.Counting.{Settled}
use Rattle.seq_decoder.specs.frame_state.ColumnPlans.{ColumnRead}
use Rattle.frame_close.specs.Code.{AreColumnResults, GivesColumn, GivesFrame}
use Rattle.seq_decoder.specs.frame_decoder.declared.decoding.Decoded.{Decoded}
use Rattle.prob_contexts.specs.ProbLists.{lists_of}
use Rattle.recon_rows.specs.tile_syntax.declared.plans.Unplanned.{Unplanned}
use Rattle.recon_rows.specs.tile_syntax.declared.plans.Unplanned.TheVariants as unplanned
use Rattle.frame_steps.specs.StepResults.{AreAsRead, AreCopies, GivesDecoded, IsCopyAsRead, IsSound, sources_by}
use Rattle.frame_steps.specs.declared.beginning.BegunFrame.{BegunFrame}
use Rattle.frame_steps.proofs.Joining.{none, ok_of}

-- what they come to together is the frame's
abbrev pub Joins : BegunFrame → List (Result (List ℕ) Unplanned) → Result (List ℕ) Halt → Type 0
Joins b results joined = (spans : List Span) → tile_spans b.bytes.now b.setting.header b.compressed ≡ Ok spans → AreColumnResults (adapts b.setting.header) (sources_by b) b.bytes.now spans results
    → GivesFrame (adapts b.setting.header) (read_all_tiles (sources_by b) b.bytes.now b.compressed) joined

-- whatever reads them
abbrev pub JoinsAll : List (Result (List ℕ) Unplanned) → Result (List ℕ) Halt → Type 0
JoinsAll results joined = (counting : Bool) (by : FrameSources) (bytes : List ℕ) (compressed : Span) (spans : List Span) → tile_spans bytes by.header compressed ≡ Ok spans
    → AreColumnResults counting by bytes spans results → GivesFrame counting (read_all_tiles by bytes compressed) joined

pub joins_it : (b : BegunFrame) (results : List (Result (List ℕ) Unplanned)) (joined : Result (List ℕ) Halt) → JoinsAll results joined → Joins b results joined
joins_it b results joined all = λ spans cut are. all (adapts b.setting.header) (sources_by b) b.bytes.now b.compressed spans cut are

column_results : (b : BegunFrame) (results : List (Result (List ℕ) Unplanned)) (columns : List TileColumn) (spans : List Span) → AreCopies b results columns
    → tile_spans b.bytes.now b.setting.header b.compressed ≡ Ok spans → AreColumnResults (adapts b.setting.header) (sources_by b) b.bytes.now spans results
column_results b results columns spans h cut = record { many = h.many; each = λ k low. h.told spans k cut low }

gives_frame : (b : BegunFrame) (results : List (Result (List ℕ) Unplanned)) (columns : List TileColumn) (joined : Result (List ℕ) Halt) → IsSound b → AreCopies b results columns → Joins b results joined
    → GivesFrame (adapts b.setting.header) (read_all_tiles (sources_by b) b.bytes.now b.compressed) joined
gives_frame b results columns joined sound h joins =
    let cut = ok_of (tile_spans b.bytes.now b.setting.header b.compressed) sound.begun.2 in
    joins cut.0 cut.1 (column_results b results columns cut.0 h cut.1)

halts : (b : BegunFrame) (e : Halt) → GivesFrame (adapts b.setting.header) (read_all_tiles (sources_by b) b.bytes.now b.compressed) (Err e) → GivesDecoded b (Err e)
halts b (halt.Broken rule) h = h
halts b halt.OutOfMemory h = tt

pub gives_halt : (b : BegunFrame) (results : List (Result (List ℕ) Unplanned)) (columns : List TileColumn) (e : Halt) → IsSound b → AreCopies b results columns → Joins b results (Err e) → GivesDecoded b (Err e)
gives_halt b results columns e sound h joins = halts b e (gives_frame b results columns (Err e) sound h joins)

---- All are planned ----

-- a tile column that is read came to counts, unless memory was wanting
planned_at : (counting : Bool) (computed : Result (Settled ColumnRead) (ℕ × Rule)) (r : Result (List ℕ) Unplanned) (plan : Settled ColumnRead) → computed ≡ Ok plan → GivesColumn counting computed r
    → (r ≡ Err unplanned.OutOfMemory → ⊥) → IsOk r
planned_at counting computed (Ok counts) plan is gives some = refl
planned_at counting computed (Err (unplanned.Broken n rule)) plan is gives some = let no : ◌≡◌ {A = Result (Settled ColumnRead) (ℕ × Rule)} (Ok plan) (Err (n, rule)) = sym is ∙ gives in absurd cc
planned_at counting computed (Err unplanned.OutOfMemory) plan is gives some = absurd (some refl)

copy_blocks : (b : BegunFrame) (tiles : ℕ → List ℕ) (k : ℕ) (c : TileColumn) (read : Settled ColumnRead) → IsCopyAsRead b tiles k c → plan_of (sources_by b) tiles k ≡ Ok read
    → c.grid.blocks ≡ infos read.value.column.blocks
copy_blocks b tiles k c read is says =
    let same : is.read.read ≡ read = cc in
    is.blocks ∙ sym (infos_of (shape_of b.setting.header) is.plan.column.grid.from is.plan.column.grid.blocks is.plan.residues)
    ∙ ap infos (is.read.held.blocks ∙ ap (λ (s : Settled ColumnRead). s.value.column.blocks) same)

any_of : {X : Type 0} (xs : List X) (k : ℕ) → k < length xs → X
any_of [] k low = absurd (omega (arith, low))
any_of (x ∷ xs) k low = x

blocks_copied : (b : BegunFrame) (spans : List Span) (read : FrameRead) (columns : List TileColumn) → tile_spans b.bytes.now b.setting.header b.compressed ≡ Ok spans
    → read_all_tiles (sources_by b) b.bytes.now b.compressed ≡ Ok read → AreAsRead b (tile_bytes b.bytes.now spans) columns → blocks_of columns ≡ blocks_read read
blocks_copied b spans read columns cut frame are =
    let by = sources_by b in
    let reads = reads_columns by b.bytes.now b.compressed spans read cut frame in
    let many = many_read by b.bytes.now b.compressed spans read cut frame in
    let kept : length (blocks_of columns) ≡ length columns = length-map columns (λ (c : TileColumn). c.grid.blocks) in
    let listed : length (blocks_read read) ≡ length read.columns = length-map read.columns (λ (c : Column). infos c.blocks) in
    same_lists (blocks_of columns) (blocks_read read) (kept ∙ are.many ∙ sym many ∙ sym listed)
    (λ k d low.
    let there : k < length columns = omega (arith, low, kept) in
    let c = any_of columns k there in
    get_or-map (λ (c : TileColumn). c.grid.blocks) columns k c d there
    ∙ copy_blocks b (tile_bytes b.bytes.now spans) k (get_or columns k c) (reads.0 k) (are.each k c there) (reads.1 k)
    ∙ ap (λ (c : Column). infos c.blocks) (sym (reads.2.columns k (omega (arith, there, are.many))))
    ∙ sym (get_or-map (λ (c : Column). infos c.blocks) read.columns k (no_column (shape_of b.setting.header)) d (omega (arith, there, are.many, many))))

pub decoded_is : (b : BegunFrame) (results : List (Result (List ℕ) Unplanned)) (columns : List TileColumn) (counts : List ℕ) (d : Decoded) → IsSound b → AreCopies b results columns → Joins b results (Ok counts)
    → (◌≡◌ {A = Result (List ℕ) Halt} (Ok counts) (Err halt.OutOfMemory) ↔ Contains results (Err unplanned.OutOfMemory)) → d.contexts ≡ b.setting.contexts → d.columns.items ≡ columns → d.counts ≡ counts
    → GivesDecoded b (Ok d)
decoded_is b results columns counts d sound h joins memory contexts listed counted =
    let cut = ok_of (tile_spans b.bytes.now b.setting.header b.compressed) sound.begun.2 in
    let gives = gives_frame b results columns (Ok counts) sound h joins in
    let reads = reads_columns (sources_by b) b.bytes.now b.compressed cut.0 gives.0 cut.1 gives.1 in
    let all : All IsOk results = λ k e low.
    planned_at (adapts b.setting.header) (plan_of (sources_by b) (tile_bytes b.bytes.now cut.0) k) (get_or results k e) (reads.0 k) (reads.1 k)
    (subst (GivesColumn (adapts b.setting.header) (plan_of (sources_by b) (tile_bytes b.bytes.now cut.0) k)) (get_or_default results k none e low) (h.told cut.0 k cut.1 low))
    (λ wants. let no : ◌≡◌ {A = Result (List ℕ) Halt} (Ok counts) (Err halt.OutOfMemory) = memory.1 (k, low, get_or_default results k _ e low ∙ wants) in absurd cc) in
    let kept = h.kept cut.0 cut.1 all in (
      gives.0,
      gives.1,
      record {
        contexts = ap lists_of contexts;
        blocks = ap blocks_of listed ∙ blocks_copied b cut.0 gives.0 columns cut.1 gives.1 kept;
        starts = subst (λ (cs : List TileColumn). All (HasStarts b.setting.header) cs) (sym listed) (λ k e low. (kept.each k e low).column.starts);
        columns = subst (AreColumnsOf b.setting.header) (sym listed) (record {
          size = sound.size;
          few = sound.few;
          are = record { many = kept.many; each = λ k e low. (kept.each k e low).column };
        });
        counts = counted ∙ gives.2;
      },
    )
