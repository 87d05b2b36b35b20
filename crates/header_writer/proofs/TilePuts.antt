-- The columns that are doubled one by one.
use Rattle.std.proofs.Common.{◌≡◌, ℕ, suc, ◌+◌, ◌-◌, ◌<◌, ◌≤◌, List, refl, sym, subst, arith, true, false}
use Rattle.std.specs.Prelude.{if◌then◌else◌}
use Rattle.vp9_types.specs.Syntax.{done}
use Rattle.frame_headers.specs.declared.field.FieldName.TheVariants as name
use Rattle.frame_headers.specs.Fields.{flag_field}
use Rattle.frame_headers.specs.Tiles.{more_columns}
use Rattle.header_writer.specs.WrittenFields.{Puts}
use Rattle.header_writer.specs.Code.{LeadsFields}
use Rattle.header_writer.proofs.EachPuts.{puts_bind}

-- so many columns were told
abbrev pub ColumnsLeft : ℕ → ℕ → ℕ → List ℕ → List ℕ → Type 0
ColumnsLeft greatest least now old bits = LeadsFields (more_columns (greatest - least) least) old (more_columns (greatest - now) now) bits

pub columns_begin : (greatest least : ℕ) (old : List ℕ) → ColumnsLeft greatest least least old old
columns_begin greatest least old = λ x new h. h

left : (m n : ℕ) → n < m → m - n ≡ suc (m - (n + 1))
left m n h = omega arith

pub columns_go : (greatest least now : ℕ) (old bits next : List ℕ) → now < greatest → ColumnsLeft greatest least now old bits
    → Puts (flag_field name.IncrementTileColsLog2) bits true next → ColumnsLeft greatest least (now + 1) old next
unfolding more_columns
columns_go greatest least now old bits next low h g = λ x new k.
    let one = puts_bind (flag_field name.IncrementTileColsLog2) (λ more. if more then more_columns (greatest - (now + 1)) (now + 1) else done now) bits next new true x g k in
    h x new (subst (λ n. Puts (more_columns n now) bits x new) (sym (left greatest now low)) one)

pub columns_stop : (greatest least now : ℕ) (old bits next : List ℕ) → now < greatest → ColumnsLeft greatest least now old bits
    → Puts (flag_field name.IncrementTileColsLog2) bits false next → Puts (more_columns (greatest - least) least) old now next
unfolding more_columns
columns_stop greatest least now old bits next low h g =
    let one = puts_bind (flag_field name.IncrementTileColsLog2) (λ more. if more then more_columns (greatest - (now + 1)) (now + 1) else done now) bits next next false now g (refl, refl) in
    h now next (subst (λ n. Puts (more_columns n now) bits now next) (sym (left greatest now low)) one)

pub columns_end : (greatest least now : ℕ) (old bits : List ℕ) → greatest ≤ now → ColumnsLeft greatest least now old bits → Puts (more_columns (greatest - least) least) old now bits
unfolding more_columns
columns_end greatest least now old bits all h =
    let none : greatest - now ≡ 0 = omega arith in
    h now bits (subst (λ n. Puts (more_columns n now) bits now bits) (sym none) (refl, refl))
