-- What a hasher has taken in, row by row.
use Rattle.std.proofs.Common.{◌≡◌, ℕ, ◌+◌, List, ◌++◌, sym, ◌∙◌, ap, subst}
use Rattle.std.proofs.lemmas.List.{append_assoc, append-nil}
use Rattle.md5.specs.declared.Md5.{Md5}
use Rattle.md5.specs.Md5.{Holds}
use Rattle.vp9_types.specs.declared.shape.Depth.{Depth}
use Rattle.vp9_types.specs.Maps.{Map}
use Rattle.frame_output.specs.Texts.{rows_text}
use Rattle.frame_output.proofs.RowTexts.{first_rows}

pub nothing_added : (h : Md5) (depth : Depth) (width : ℕ) (m : Map) (text : List ℕ) → Holds h text → Holds h (text ++ rows_text depth width m 0 0)
unfolding rows_text
nothing_added h depth width m text holds = subst (λ l. Holds h l) (sym (append-nil text)) holds

pub rows_added : (mid new : Md5) (depth : Depth) (width : ℕ) (m : Map) (y count : ℕ) (piece text : List ℕ)
    → Holds mid (text ++ rows_text depth width m 0 y) → piece ≡ rows_text depth width m y count
    → ((t : List ℕ) → Holds mid t → Holds new (t ++ piece))
    → Holds new (text ++ rows_text depth width m 0 (y + count))
rows_added mid new depth width m y count piece text before is takes =
    let before_piece = rows_text depth width m 0 y in
    let whole : before_piece ++ piece ≡ rows_text depth width m 0 (y + count) =
    ap (λ l. before_piece ++ l) is ∙ sym (first_rows depth width m y count) in
    subst (λ l. Holds new l) (append_assoc text before_piece piece ∙ ap (λ l. text ++ l) whole) (takes (text ++ before_piece) before)
