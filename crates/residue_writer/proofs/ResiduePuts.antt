-- How the residue of a transform block is put.
use Rattle.std.proofs.Common.{◌≡◌, ℕ, ℤ, refl, sym, true, false, List, length}
use Rattle.std.specs.Prelude.{Some, None, Result, Ok, Err, nat_lt}
use Rattle.std.proofs.lemmas.Bool.{eq-eqb, ne_eqb}
use Rattle.vp9_types.specs.Results.{map_ok}
use Rattle.vp9_types.specs.declared.rule.Rule.{Rule}
use Rattle.vp9_tables.specs.Scans.{area}
use Rattle.prob_contexts.specs.ProbLists.{ContextLists}
use Rattle.bool_encoder.specs.Part.{NumberPart}
use Rattle.coef_tokens.specs.TokenKinds.{block_tables}
use Rattle.coef_tokens.specs.Places.{Read}
use Rattle.coef_tokens.specs.Code.{HoldsLevels}
use Rattle.counting_reader.specs.Counting.{settle, lifted, in_order}
use Rattle.bool_encoder.specs.CountedBools.{PutsTo}
use Rattle.bool_encoder.proofs.CountedPuts.{puts_value, value_by_counting, puts_on, puts_broken, puts_lifted, puts_settle}
use Rattle.token_writer.specs.Code.{PutsLevels}
use Rattle.residue_transforms.specs.Residue.{residue}
use Rattle.block_plan.specs.Planned.{Residue}
use Rattle.residue_syntax.specs.BlocksInPlanes.{type_at, token_kind}
use Rattle.residue_syntax.specs.Residues.{first_context, with_sides, residue_of, read_residue}
use Rattle.residue_syntax.specs.Sides.{Sides}
use Rattle.residue_syntax.specs.declared.in_plane.BlockInPlane.{BlockInPlane}
use Rattle.residue_syntax.proofs.ResidueReads.{levels_are}
use Rattle.residue_writer.specs.SaidResidues.{residue_said}
use Rattle.residue_writer.specs.Code.{TellsAny}

---- What is said ----

pub none_tells : (b : BlockInPlane) (y x count : ℕ) (levels : List ℤ) → count ≡ 0 → TellsAny (residue_said b y x count levels) (Ok false)
unfolding residue_said
none_tells b y x count levels none = (None, rw (eq-eqb count 0 none) refl, refl)

pub some_tells : (b : BlockInPlane) (y x count : ℕ) (levels values : List ℤ) → (count ≡ 0 → ⊥)
    → residue b.quant b.block.tx (type_at b y x) levels ≡ Ok values → TellsAny (residue_said b y x count levels) (Ok true)
unfolding residue_said
some_tells b y x count levels values some gives = (Some values, rw (ne_eqb count 0 some, gives) refl, refl)

pub broken_tells : (b : BlockInPlane) (y x count : ℕ) (levels : List ℤ) (rule : Rule) → (count ≡ 0 → ⊥)
    → residue b.quant b.block.tx (type_at b y x) levels ≡ Err rule → TellsAny (residue_said b y x count levels) (Err rule)
unfolding residue_said
broken_tells b y x count levels rule some gives = rw (ne_eqb count 0 some, gives) refl

-- what is said is what a reader makes of the tokens
said_is : (b : BlockInPlane) (y x count : ℕ) (levels : List ℤ) (reads : List Read) → length levels ≡ area b.block.tx → HoldsLevels levels reads
    → residue_of b y x count reads ≡ residue_said b y x count levels
unfolding residue_of residue_said
said_is b y x count levels reads long holds = rw (levels_are b.block.tx levels reads long holds) refl

---- What is put ----

with_said : (r : Result Residue Rule) (sides : Sides) (now : NumberPart)
    → PutsTo {A = Residue × Sides} (in_order (lifted r) (λ residue. settle (residue, sides))) now (map_ok (λ residue. (residue, sides)) r) now
with_said (Ok x) sides now = puts_on {B = Residue × Sides} (lifted (Ok x)) (λ residue. settle (residue, sides)) now now now x (Ok (x, sides)) (puts_lifted (Ok x) now) (puts_settle (x, sides) now)
with_said (Err e) sides now = puts_broken {B = Residue × Sides} (lifted (Err e)) (λ residue. settle (residue, sides)) now now e (puts_lifted (Err e) now)

pub residue_put : (contexts : ContextLists) (b : BlockInPlane) (y x count : ℕ) (levels : List ℤ) (s : Sides) (old new : NumberPart) → length levels ≡ area b.block.tx
    → PutsLevels (block_tables contexts (token_kind b y x)) (first_context b.block y x s) old levels count new
    → PutsTo (read_residue contexts b y x s) old (map_ok (λ r. (r, with_sides b.block y x (nat_lt 0 count) s)) (residue_said b y x count levels)) new
unfolding read_residue
residue_put contexts b y x count levels s old new long put =
    let p = put.0 in
    let sides = with_sides b.block y x (nat_lt 0 count) s in
    rw (sym (said_is b y x count levels p.reads long put.3), sym put.2)
    (puts_on _ _ old new new p _ (puts_value _ old new p (value_by_counting _ old new p put.1)) (with_said (residue_of b y x p.count p.reads) (with_sides b.block y x (nat_lt 0 p.count) s) new))
