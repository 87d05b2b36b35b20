-- What is read one after another in a tile, to its end or to the rule that is broken.
use Rattle.std.proofs.Common.{◌≡◌, ◌∙◌, ℕ, ◌+◌, ◌≤◌, refl, sym, subst, ap, arith}
use Rattle.std.specs.Prelude.{Option, Some, None, Result, Ok, Err}
use Rattle.vp9_types.specs.Syntax.{Syntax}
use Rattle.vp9_types.specs.declared.rule.Rule.{Rule}
use Rattle.counting_reader.specs.Counting.{Settled, in_order, settle}
use Rattle.counting_reader.specs.Code.{Standing, run_counting}
use Rattle.counting_reader.proofs.CountingRuns.{counting_bind, run_settle}
use Rattle.tile_reader.specs.Code.{Tile, SameTile, Rest, Breaks, EndsTile, then_rest}

-- what reads as another breaks what that breaks
breaks_as : {A B : Type 0} (o : Option Rule) (x : Syntax ℕ Rule (Settled A)) (y : Syntax ℕ Rule (Settled B)) (m k : Standing)
    → ((rule : Rule) → run_counting y k ≡ Err rule → run_counting x m ≡ Err rule) → Breaks o y k → Breaks o x m
breaks_as None x y m k same h = tt
breaks_as (Some rule) x y m k same h = same rule h

pub same_here : {S H : Type 0} (t : Tile S H) → SameTile t t
same_here t = record { walk = refl; rule_of = refl; limit = refl }

pub same_on : {S H : Type 0} (a b c : Tile S H) → SameTile a b → SameTile b c → SameTile a c
same_on a b c h g = record { walk = g.walk ∙ h.walk; rule_of = g.rule_of ∙ h.rule_of; limit = g.limit ∙ h.limit }

-- nothing is read
pub ends_here : {S H : Type 0} (rest : Rest S) (n : ℕ) (t : Tile S H) → ((s : S) → rest s ≡ settle s) → EndsTile rest n t (Ok tt) t
ends_here rest n t is = (ap (λ x. run_counting x t.standing) (is t.state) ∙ run_settle t.state t.standing, same_here t, omega arith)

-- the same is read
pub as_rest : {S H : Type 0} (a b : Rest S) (n : ℕ) (old new : Tile S H) (result : Result (Unit {0}) H) → ((s : S) → a s ≡ b s) → EndsTile a n old result new → EndsTile b n old result new
as_rest a b n old new (Ok u) is h = (ap (λ x. run_counting x old.standing) (sym (is old.state)) ∙ h.0, h.1, h.2)
as_rest a b n old new (Err e) is h =
    breaks_as (old.rule_of e) (b old.state) (a old.state) old.standing old.standing (λ rule k. ap (λ x. run_counting x old.standing) (sym (is old.state)) ∙ k) h

-- one, and then another from there
pub then_ends : {S H : Type 0} (a b : Rest S) (n m : ℕ) (old mid new : Tile S H) (result : Result (Unit {0}) H)
    → EndsTile a n old (Ok tt) mid → EndsTile b m mid result new → EndsTile (then_rest a b) (n + m) old result new
then_ends a b n m old mid new (Ok u) h k =
    let room = h.2 in
    let more = k.2 in
    (counting_bind (a old.state) b old.standing ∙ rw h.0 k.0, same_on old mid new h.1 k.1, omega arith)
then_ends {H = H} a b n m old mid new (Err e) h k =
    let same = h.1 in
    let there : Breaks (old.rule_of e) (b mid.state) mid.standing = subst (λ (f : H → Option Rule). Breaks (f e) (b mid.state) mid.standing) same.rule_of k in
    breaks_as (old.rule_of e) (in_order (a old.state) b) (b mid.state) old.standing mid.standing (λ rule k. counting_bind (a old.state) b old.standing ∙ rw h.0 k) there

-- what breaks one breaks both
pub then_breaks : {S H : Type 0} (a b : Rest S) (n m : ℕ) (old new : Tile S H) (e : H) → EndsTile a n old (Err e) new → EndsTile (then_rest a b) m old (Err e) new
then_breaks a b n m old new e h =
    breaks_as (old.rule_of e) (in_order (a old.state) b) (a old.state) old.standing old.standing (λ rule k. counting_bind (a old.state) b old.standing ∙ rw k refl) h

-- fewer blocks are also at most so many
pub ends_more : {S H : Type 0} (rest : Rest S) (n m : ℕ) (old new : Tile S H) (result : Result (Unit {0}) H) → n ≤ m → EndsTile rest n old result new → EndsTile rest m old result new
ends_more rest n m old new (Ok u) more h = let room = h.2 in (h.0, h.1, omega arith)
ends_more rest n m old new (Err e) more h = h

-- a symbol that leaves the state, and what stands behind it
abbrev pub symbol_rest : {S P : Type 0} → (S → Syntax ℕ Rule (Settled P)) → (P → Rest S) → Rest S
symbol_rest x f = λ s. in_order (x s) (λ p. f p s)

pub symbol_ends : {S H P : Type 0} (old mid new : Tile S H) (x : S → Syntax ℕ Rule (Settled P)) (p : P) (f : P → Rest S) (n : ℕ) (result : Result (Unit {0}) H)
    → run_counting (x old.state) old.standing ≡ Ok (p, mid.standing) → mid.state ≡ old.state → mid.room ≡ old.room → SameTile old mid
    → EndsTile (f p) n mid result new → EndsTile (symbol_rest x f) n old result new
symbol_ends old mid new x p f n (Ok u) read state room same h =
    let more = h.2 in
    (counting_bind (x old.state) (λ p. f p old.state) old.standing ∙ rw (read, sym state) h.0, same_on old mid new same h.1, omega arith)
symbol_ends {H = H} old mid new x p f n (Err e) read state room same h =
    let there : Breaks (old.rule_of e) (f p mid.state) mid.standing = subst (λ (g : H → Option Rule). Breaks (g e) (f p mid.state) mid.standing) same.rule_of h in
    breaks_as (old.rule_of e) (in_order (x old.state) (λ p. f p old.state)) (f p mid.state) old.standing mid.standing
    (λ rule k. counting_bind (x old.state) (λ p. f p old.state) old.standing ∙ rw (read, sym state) k) there
