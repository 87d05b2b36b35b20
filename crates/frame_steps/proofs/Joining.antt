-- The tile columns of a frame, joined.
use Rattle.std.proofs.Common.{◌≡◌, ◌∙◌, ◌<◌, ◌≤◌, ◌+◌, ◌∷◌, ◌++◌, [], ℕ, List, length, get_or, refl, sym, ap, subst, arith, inl, inr}
use Rattle.std.specs.Prelude.{All, ◌==◌, IsOk, Result, Ok, Err, slice_index_or}
use Rattle.std.proofs.lemmas.Bool.{cases_Bool, eqb-false, eqb-true}
use Rattle.std.proofs.lemmas.List.{get_or_append_left, length-append}
use Rattle.std.proofs.Math.Seq.{get_or-append_seam}
use Rattle.vp9_types.specs.declared.job.Span.{Span}
use Rattle.frame_headers.specs.Spans.{tile_count, tile_spans}
use Rattle.seq_decoder.specs.frame_state.KeptColumns.{IsTileColumn}
use Rattle.seq_decoder.specs.frame_state.Laws.{columns_across}
use Rattle.seq_decoder.specs.frame_state.ColumnPlans.{plan_of, tile_bytes}
use Rattle.seq_decoder.specs.frame_state.Sources.{adapts}
use Rattle.seq_decoder.specs.frame_state.declared.columns.TileColumn.{TileColumn}
use Rattle.frame_close.specs.Code.{GivesColumn, result_at}
use Rattle.recon_rows.specs.tile_syntax.declared.plans.Unplanned.{Unplanned}
use Rattle.recon_rows.specs.tile_syntax.declared.plans.Unplanned.TheVariants as unplanned
use Rattle.frame_steps.specs.StepResults.{AreCopies, IsColumn, IsCopyAsRead, IsSound, sources_by}
use Rattle.frame_steps.specs.declared.beginning.BegunFrame.{BegunFrame}
use Rattle.frame_steps.specs.declared.columns.PlannedColumn.{PlannedColumn}

pub ok_of : {A E : Type 0} (r : Result A E) → IsOk r → (x : A) × (r ≡ Ok x)
ok_of (Ok x) is = (x, refl)
ok_of (Err e) is = absurd cc

-- a tile column that is planned lies where it does
pub column_lies : (b : BegunFrame) (k : ℕ) (c : PlannedColumn) → IsSound b → IsColumn b k (Ok c) → IsTileColumn b.setting.header (tile_count b.setting.header) k c.plan.column
column_lies b k c sound is =
    let cut = ok_of (tile_spans b.bytes.now b.setting.header b.compressed) sound.begun.2 in
    (is.plan cut.0 cut.1).0.column

-- What is kept of the first n tile columns.
pub record AreFirst (b : BegunFrame) (n : ℕ) (results : List (Result (List ℕ) Unplanned)) (columns : List TileColumn) : Type 0 where
  pub many : length results ≡ n
  pub short : length columns ≤ n
  pub told : (spans : List Span) (k : ℕ) → tile_spans b.bytes.now b.setting.header b.compressed ≡ Ok spans → k < n →
      GivesColumn (adapts b.setting.header) (plan_of (sources_by b) (tile_bytes b.bytes.now spans) k) (result_at results k)
  pub kept : (spans : List Span) → tile_spans b.bytes.now b.setting.header b.compressed ≡ Ok spans → All IsOk results →
      (length columns ≡ n) × ((k : ℕ) (d : TileColumn) → k < n → IsCopyAsRead b (tile_bytes b.bytes.now spans) k (slice_index_or columns k d))

pub none_first : (b : BegunFrame) → AreFirst b 0 [] []
none_first b = record {
  many = refl;
  short = omega arith;
  told = λ spans k cut low. absurd (omega (arith, low));
  kept = λ spans cut all. (refl, λ k d low. absurd (omega (arith, low)));
}

abbrev pub none : Result (List ℕ) Unplanned
none = Err unplanned.OutOfMemory

new_at : (results : List (Result (List ℕ) Unplanned)) (r : Result (List ℕ) Unplanned) (n : ℕ) → length results ≡ n → result_at (results ++ r ∷ []) n ≡ r
new_at results r n many = ap (λ m. get_or (results ++ r ∷ []) m none) (sym many) ∙ get_or-append_seam results r [] none

old_at : (results : List (Result (List ℕ) Unplanned)) (r : Result (List ℕ) Unplanned) (n k : ℕ) → length results ≡ n → k < n → result_at (results ++ r ∷ []) k ≡ result_at results k
old_at results r n k many low = get_or_append_left results (r ∷ []) none k (omega (arith, low, many))

told_more : (b : BegunFrame) (n : ℕ) (results : List (Result (List ℕ) Unplanned)) (columns : List TileColumn) (r : Result (List ℕ) Unplanned) (spans : List Span) → AreFirst b n results columns
    → tile_spans b.bytes.now b.setting.header b.compressed ≡ Ok spans → GivesColumn (adapts b.setting.header) (plan_of (sources_by b) (tile_bytes b.bytes.now spans) n) r
    → (k : ℕ) → k < n + 1 → GivesColumn (adapts b.setting.header) (plan_of (sources_by b) (tile_bytes b.bytes.now spans) k) (result_at (results ++ r ∷ []) k)
told_more b n results columns r spans first cut gives k low = elim (cases_Bool (k == n)) [
  | inl same ↦
      let same : k ≡ n = eqb-true k n same in
      rw same (subst (λ s. GivesColumn (adapts b.setting.header) (plan_of (sources_by b) (tile_bytes b.bytes.now spans) n) s) (sym (new_at results r n first.many)) gives)
  | inr other ↦
      let below : k < n = omega (arith, low, eqb-false k n other) in
      subst (λ s. GivesColumn (adapts b.setting.header) (plan_of (sources_by b) (tile_bytes b.bytes.now spans) k) s) (sym (old_at results r n k first.many below)) (first.told spans k cut below)
]

-- one more, which is planned
pub one_planned : (b : BegunFrame) (n : ℕ) (results all : List (Result (List ℕ) Unplanned)) (columns more : List TileColumn) (c : PlannedColumn) (d : TileColumn) → AreFirst b n results columns
    → IsColumn b n (Ok c) → IsTileColumn b.setting.header (tile_count b.setting.header) n d → d.grid.blocks ≡ c.plan.column.grid.blocks
    → all ≡ results ++ Ok c.counts ∷ [] → more ≡ columns ++ d ∷ [] → AreFirst b (n + 1) all more
one_planned b n results all columns more c d first is lies blocks told listed = rw (told, listed) (record {
  many = length-append results (Ok c.counts ∷ []) ∙ ap (λ m. m + 1) first.many;
  short = omega (arith, length-append columns (d ∷ []), first.short);
  told = λ spans k cut low. told_more b n results columns (Ok c.counts) spans first cut (is.counts spans cut) k low;
  kept = λ spans cut ok.
      let before = first.kept spans cut (λ k e low. subst IsOk (get_or_append_left results (Ok c.counts ∷ []) e k low) (ok k e (omega (arith, low, length-append results (Ok c.counts ∷ []))))) in (
        length-append columns (d ∷ []) ∙ ap (λ m. m + 1) before.0,
        λ k e low. elim (cases_Bool (k == n)) [
          | inl same ↦
              let same : k ≡ n = eqb-true k n same in
              let there : slice_index_or (columns ++ d ∷ []) n e ≡ d = ap (λ m. get_or (columns ++ d ∷ []) m e) (sym before.0) ∙ get_or-append_seam columns d [] e in
              rw same (subst (IsCopyAsRead b (tile_bytes b.bytes.now spans) n) (sym there) (record { plan = c.plan; read = (is.plan spans cut).0; blocks = blocks; column = lies }))
          | inr other ↦
              let below : k < n = omega (arith, low, eqb-false k n other) in
              subst (IsCopyAsRead b (tile_bytes b.bytes.now spans) k) (sym (get_or_append_left columns (d ∷ []) e k (omega (arith, below, before.0)))) (before.1 k e below)
        ],
      );
})

-- one more, which isn't
pub one_failed : (b : BegunFrame) (n : ℕ) (results all : List (Result (List ℕ) Unplanned)) (columns : List TileColumn) (e : Unplanned) → AreFirst b n results columns → IsColumn b n (Err e)
    → all ≡ results ++ Err e ∷ [] → AreFirst b (n + 1) all columns
one_failed b n results all columns e first is told = rw told (record {
  many = length-append results (Err e ∷ []) ∙ ap (λ m. m + 1) first.many;
  short = omega (arith, first.short);
  told = λ spans k cut low. told_more b n results columns (Err e) spans first cut (is.counts spans cut) k low;
  kept = λ spans cut ok.
      let there : get_or (results ++ Err e ∷ []) n none ≡ Err e = new_at results (Err e) n first.many in
      let no : IsOk {T = List ℕ} {E = Unplanned} (Err e) = subst IsOk there (ok n none (omega (arith, first.many, length-append results (Err e ∷ [])))) in
      absurd cc;
})

-- all of them
pub all_copied : (b : BegunFrame) (n : ℕ) (results : List (Result (List ℕ) Unplanned)) (columns : List TileColumn) → n ≡ columns_across b.setting.header → AreFirst b n results columns → AreCopies b results columns
all_copied b n results columns all first = record {
  many = first.many ∙ all;
  told = λ spans k cut low. first.told spans k cut (omega (arith, low, first.many));
  kept = λ spans cut ok.
      let kept = first.kept spans cut ok in
      record { many = kept.0 ∙ all; each = λ k d low. kept.1 k d (omega (arith, low, kept.0)) };
}
