-- How the syntax of a transform block's residue is read.
use Rattle.std.proofs.Common.{◌≡◌, ◌<◌, ℕ, ℤ, pos, ◌∙◌, refl, sym, arith, List, length}
use Rattle.std.specs.Prelude.{Some, None, Ok, Err, nat_lt}
use Rattle.std.proofs.lemmas.Bool.{eq-eqb, ne_eqb}
use Rattle.std.proofs.lemmas.List.{same_lists, get_or_default}
use Rattle.std.proofs.lemmas.List.FromFn.{length-map-range_with_len, get_or-map-range_with_len}
use Rattle.vp9_types.specs.declared.block.TxSize.{TxSize}
use Rattle.vp9_types.specs.declared.rule.Rule.{Rule}
use Rattle.vp9_tables.specs.Scans.{area}
use Rattle.prob_contexts.specs.ProbLists.{ContextLists}
use Rattle.coef_tokens.specs.TokenKinds.{block_tables}
use Rattle.coef_tokens.specs.Code.{HoldsLevels}
use Rattle.coef_tokens.specs.Places.{Tokens, Read, level_at, block_tokens}
use Rattle.counting_reader.specs.Counting.{lifted}
use Rattle.counting_reader.specs.Code.{Standing, run_counting}
use Rattle.counting_reader.proofs.CountingRuns.{counting_bind, run_settle}
use Rattle.residue_transforms.specs.Residue.{residue}
use Rattle.block_plan.specs.Planned.{Residue}
use Rattle.residue_syntax.specs.BlocksInPlanes.{type_at, token_kind}
use Rattle.residue_syntax.specs.Residues.{levels_of, first_context, with_sides, residue_of, read_residue}
use Rattle.residue_syntax.specs.Sides.{Sides}
use Rattle.residue_syntax.specs.declared.in_plane.BlockInPlane.{BlockInPlane}

-- levels by position, as a list
pub levels_are : (tx : TxSize) (levels : List ℤ) (reads : List Read) → length levels ≡ area tx → HoldsLevels levels reads → levels ≡ levels_of tx reads
levels_are tx levels reads long holds = same_lists levels (levels_of tx reads) (long ∙ sym (length-map-range_with_len (level_at reads) 0 (area tx)))
    (λ k d low. let lt : k < area tx = omega arith in
    get_or_default levels k d (pos 0) low ∙ holds k ∙ sym (get_or-map-range_with_len (level_at reads) 0 (area tx) k k d lt (omega arith)))

pub no_residue : (b : BlockInPlane) (y x count : ℕ) (reads : List Read) → count ≡ 0 → residue_of b y x count reads ≡ Ok None
unfolding residue_of
no_residue b y x count reads none = rw (eq-eqb count 0 none) refl

pub some_residue : (b : BlockInPlane) (y x count : ℕ) (reads : List Read) (levels values : List ℤ) → (count ≡ 0 → ⊥)
    → levels ≡ levels_of b.block.tx reads → residue b.quant b.block.tx (type_at b y x) levels ≡ Ok values → residue_of b y x count reads ≡ Ok (Some values)
unfolding residue_of
some_residue b y x count reads levels values some same gives = rw (ne_eqb count 0 some, sym same, gives) refl

pub broken_residue : (b : BlockInPlane) (y x count : ℕ) (reads : List Read) (levels : List ℤ) (rule : Rule) → (count ≡ 0 → ⊥)
    → levels ≡ levels_of b.block.tx reads → residue b.quant b.block.tx (type_at b y x) levels ≡ Err rule → residue_of b y x count reads ≡ Err rule
unfolding residue_of
broken_residue b y x count reads levels rule some same gives = rw (ne_eqb count 0 some, sym same, gives) refl

pub residue_read : (contexts : ContextLists) (b : BlockInPlane) (y x : ℕ) (s after_it : Sides) (m n : Standing) (p : Tokens) (r : Residue)
    → run_counting (block_tokens (block_tables contexts (token_kind b y x)) (first_context b.block y x s)) m ≡ Ok (p, n)
    → residue_of b y x p.count p.reads ≡ Ok r → with_sides b.block y x (nat_lt 0 p.count) s ≡ after_it
    → run_counting (read_residue contexts b y x s) m ≡ Ok ((r, after_it), n)
unfolding read_residue lifted
residue_read contexts b y x s after_it m n p r read made marks =
    counting_bind _ _ _ ∙ rw read (counting_bind _ _ _ ∙ rw (made, run_settle) (rw (run_settle, marks) refl))

pub residue_broken : (contexts : ContextLists) (b : BlockInPlane) (y x : ℕ) (s : Sides) (m n : Standing) (p : Tokens) (rule : Rule)
    → run_counting (block_tokens (block_tables contexts (token_kind b y x)) (first_context b.block y x s)) m ≡ Ok (p, n)
    → residue_of b y x p.count p.reads ≡ Err rule → run_counting (read_residue contexts b y x s) m ≡ Err rule
unfolding read_residue lifted run_counting
residue_broken contexts b y x s m n p rule read made = counting_bind _ _ _ ∙ rw read (counting_bind _ _ _ ∙ rw made refl)
