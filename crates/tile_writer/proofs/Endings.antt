-- What is put one after another in a tile, to its end or to what stops it.
use Rattle.std.proofs.Common.{◌≡◌, ◌∙◌, ℕ, ◌+◌, ◌≤◌, refl, sym, subst, arith}
use Rattle.std.specs.Prelude.{Result, Ok, Err, Option, Some, ◌++◌}
use Rattle.vp9_types.specs.Results.{◌>>=◌}
use Rattle.vp9_types.specs.Syntax.{Syntax}
use Rattle.vp9_types.specs.declared.rule.Rule.{Rule}
use Rattle.bool_encoder.specs.Part.{NumberPart, behind_marker}
use Rattle.bool_lists.specs.BoolLists.{BoolList, HasPut}
use Rattle.bool_lists.proofs.Ways.{spells_on}
use Rattle.counting_reader.specs.Counting.{Settled, in_order, settle}
use Rattle.bool_encoder.specs.CountedBools.{PutsValue, PutsTo}
use Rattle.bool_encoder.proofs.CountedPuts.{puts_broken, puts_on, puts_value, value_put, valued_settle}
use Rattle.tile_writer.specs.SaidTiles.{SaidSoFar, if_told, so_far}
use Rattle.tile_writer.specs.Code.{Tile, SameTile, Rest, EndsTile, then_rest}
use Rattle.tile_writer.specs.declared.unwritten.Unwritten.{Unwritten}
use Rattle.tile_writer.specs.declared.unwritten.Unwritten.TheVariants.{Broken, Unsaid, OutOfMemory}

pub same_here : {S H T : Type 0} (t : Tile S H T) → SameTile t t
same_here t = record { walk = refl; teller = refl; view = refl; limit = refl }

pub same_on : {S H T : Type 0} (a b c : Tile S H T) → SameTile a b → SameTile b c → SameTile a c
same_on a b c h g = record { walk = g.walk ∙ h.walk; teller = g.teller ∙ h.teller; view = g.view ∙ h.view; limit = g.limit ∙ h.limit }

---- Bools of syntaxes that count ----

counting_on : {S T : Type 0} (x : Syntax ℕ Rule (Settled S)) (f : S → Syntax ℕ Rule (Settled T)) (old mid new : NumberPart) (s : S) (r : Result T Rule)
    → PutsValue x old s mid → PutsTo (f s) mid r new → PutsTo (in_order x f) old r new
counting_on x f old mid new s r h g = puts_on x f old mid new s r (puts_value x old mid s h) g

counting_bind : {S T : Type 0} (x : Syntax ℕ Rule (Settled S)) (f : S → Syntax ℕ Rule (Settled T)) (old mid new : NumberPart) (s : S) (t : T)
    → PutsValue x old s mid → PutsValue (f s) mid t new → PutsValue (in_order x f) old t new
counting_bind x f old mid new s t h g = value_put (in_order x f) old new t (counting_on x f old mid new s (Ok t) h (puts_value (f s) mid new t g))

---- What is put of a tile ----

-- nothing is put
pub ends_here : {S H T : Type 0} (rest : Rest S T) (n : ℕ) (t : Tile S H T) → ((s : S) → rest.syntax s ≡ settle s) → ((p : SaidSoFar S T) → rest.said p ≡ Ok p) → EndsTile rest n t (Ok tt) t
ends_here {S = S} rest n t is says = (
  λ s bools holds. record {
    next = s;
    all = bools;
    held = holds.0;
    list = holds.1;
    put = subst (λ (u : Syntax ℕ Rule (Settled S)). PutsValue u t.part s t.part) (sym (is s)) (rw (valued_settle s) (refl, refl));
    said = says (so_far s t.told bools);
  },
  same_here t,
  omega arith,
)

-- the same is put
pub as_rest : {S H T : Type 0} (a b : Rest S T) (n : ℕ) (old new : Tile S H T) (result : Result (Unit {0}) Unwritten) → ((s : S) → a.syntax s ≡ b.syntax s) → ((p : SaidSoFar S T) → a.said p ≡ b.said p)
    → EndsTile a n old result new → EndsTile b n old result new
as_rest {S = S} a b n old new (Ok u) is says h = (
  λ s bools holds.
      let m = h.0 s bools holds in record {
        next = m.next;
        all = m.all;
        held = m.held;
        list = m.list;
        put = subst (λ (u : Syntax ℕ Rule (Settled S)). PutsValue u old.part m.next new.part) (is s) m.put;
        said = sym (says (so_far s old.told bools)) ∙ m.said;
      },
  h.1,
  h.2,
)
as_rest {S = S} a b n old new (Err (Broken rule)) is says h = (
  λ s bools holds.
      let m = h.0 s bools holds in
      (subst (λ (u : Syntax ℕ Rule (Settled S)). PutsTo u old.part (Err rule) new.part) (is s) m.0, sym (says (so_far s old.told bools)) ∙ m.1),
  h.1,
)
as_rest a b n old new (Err Unsaid) is says h = λ s bools holds. sym (says (so_far s old.told bools)) ∙ h s bools holds
as_rest a b n old new (Err OutOfMemory) is says h = tt

-- one, and then another from there
pub then_ends : {S H T : Type 0} (a b : Rest S T) (n m : ℕ) (old mid new : Tile S H T) (result : Result (Unit {0}) Unwritten)
    → EndsTile a n old (Ok tt) mid → EndsTile b m mid result new → EndsTile (then_rest a b) (n + m) old result new
then_ends a b n m old mid new (Ok u) h k =
    let room = h.2 in
    let more = k.2 in
    let same = h.1 in (
      λ s bools holds.
          let x = h.0 s bools holds in
          let y = k.0 x.next x.all (rw (same.view) x.held, x.list) in record {
            next = y.next;
            all = y.all;
            held = rw (same.view) at y.held;
            list = y.list;
            put = counting_bind (a.syntax s) b.syntax old.part mid.part new.part x.next y.next x.put y.put;
            said = rw x.said y.said;
          },
      same_on old mid new h.1 k.1,
      omega arith,
    )
then_ends a b n m old mid new (Err (Broken rule)) h k =
    let same = h.1 in (
      λ s bools holds.
          let x = h.0 s bools holds in
          let y = k.0 x.next x.all (rw (same.view) x.held, x.list) in
          (counting_on (a.syntax s) b.syntax old.part mid.part new.part x.next (Err rule) x.put y.0, rw x.said y.1),
      same_on old mid new h.1 k.1,
    )
then_ends a b n m old mid new (Err Unsaid) h k =
    let same = h.1 in
    λ s bools holds.
    let x = h.0 s bools holds in
    rw x.said (k x.next x.all (rw (same.view) x.held, x.list))
then_ends a b n m old mid new (Err OutOfMemory) h k = tt

-- what stops one stops both
pub then_stops : {S H T : Type 0} (a b : Rest S T) (n m : ℕ) (old new : Tile S H T) (e : Unwritten) → EndsTile a n old (Err e) new → EndsTile (then_rest a b) m old (Err e) new
then_stops a b n m old new (Broken rule) h = (
  λ s bools holds.
      let x = h.0 s bools holds in
      (puts_broken (a.syntax s) b.syntax old.part new.part rule x.0, rw x.1 refl),
  h.1,
)
then_stops a b n m old new Unsaid h = λ s bools holds. rw (h s bools holds) refl
then_stops a b n m old new OutOfMemory h = tt

-- what stops doesn't tell how many blocks there were
pub stops_any : {S H T : Type 0} (rest : Rest S T) (n m : ℕ) (old new : Tile S H T) (e : Unwritten) → EndsTile rest n old (Err e) new → EndsTile rest m old (Err e) new
stops_any rest n m old new (Broken rule) h = h
stops_any rest n m old new Unsaid h = h
stops_any rest n m old new OutOfMemory h = h

-- fewer blocks are also at most so many
pub ends_more : {S H T : Type 0} (rest : Rest S T) (n m : ℕ) (old new : Tile S H T) (result : Result (Unit {0}) Unwritten) → n ≤ m → EndsTile rest n old result new → EndsTile rest m old result new
ends_more rest n m old new (Ok u) more h = let room = h.2 in (h.0, h.1, omega arith)
ends_more rest n m old new (Err e) more h = stops_any rest n m old new e h

---- A symbol that is told ----

-- it is put, and what stands behind it: of a state that it doesn't change
abbrev pub symbol_rest : {S T P : Type 0} → (S → Syntax ℕ Rule (Settled P)) → (S → P → BoolList) → (T → Option (P × T)) → (P → Rest S T) → Rest S T
symbol_rest x list told f = record {
  syntax = λ s. in_order (x s) (λ p. (f p).syntax s);
  said = λ q. if_told (told q.told) >>= λ u. (f u.0).said (so_far q.state u.1 (q.bools ++ list q.state u.0));
}

-- a symbol was put that was told, as its list spells it
pub record IsPut {S H T P : Type 0} (old mid : Tile S H T) (x : S → Syntax ℕ Rule (Settled P)) (list : S → P → BoolList) (told : T → Option (P × T)) (p : P) : Type 0 where
  pub put : (s : S) → old.view s ≡ old.held → PutsValue (x s) old.part p mid.part
  pub spelled : (s : S) → old.view s ≡ old.held → HasPut old.part (list s p) mid.part
  pub said : told old.told ≡ Some (p, mid.told)
  pub held : mid.held ≡ old.held
  pub room : mid.room ≡ old.room
  pub same : SameTile old mid

pub symbol_ends : {S H T P : Type 0} (old mid new : Tile S H T) (x : S → Syntax ℕ Rule (Settled P)) (list : S → P → BoolList) (told : T → Option (P × T)) (p : P) (f : P → Rest S T)
    (n : ℕ) (result : Result (Unit {0}) Unwritten) → IsPut old mid x list told p → EndsTile (f p) n mid result new → EndsTile (symbol_rest x list told f) n old result new
symbol_ends old mid new x list told p f n (Ok u) by h =
    let more = h.2 in
    let room = by.room in
    let held = by.held in
    let said = by.said in
    let same = by.same in (
      λ s bools holds.
          let y = h.0 s (bools ++ list s p) (rw (same.view, held) holds.0, spells_on behind_marker old.part mid.part bools (list s p) (by.spelled s holds.0) holds.1) in record {
            next = y.next;
            all = y.all;
            held = rw (same.view) at y.held;
            list = y.list;
            put = counting_bind (x s) (λ p. (f p).syntax s) old.part mid.part new.part p y.next (by.put s holds.0) y.put;
            said = rw said y.said;
          },
      same_on old mid new same h.1,
      omega arith,
    )
symbol_ends old mid new x list told p f n (Err (Broken rule)) by h =
    let held = by.held in
    let said = by.said in
    let same = by.same in (
      λ s bools holds.
          let y = h.0 s (bools ++ list s p) (rw (same.view, held) holds.0, spells_on behind_marker old.part mid.part bools (list s p) (by.spelled s holds.0) holds.1) in
          (counting_on (x s) (λ p. (f p).syntax s) old.part mid.part new.part p (Err rule) (by.put s holds.0) y.0, rw said y.1),
      same_on old mid new same h.1,
    )
symbol_ends old mid new x list told p f n (Err Unsaid) by h =
    let held = by.held in
    let said = by.said in
    let same = by.same in
    λ s bools holds. rw said (h s (bools ++ list s p) (rw (same.view, held) holds.0, spells_on behind_marker old.part mid.part bools (list s p) (by.spelled s holds.0) holds.1))
symbol_ends old mid new x list told p f n (Err OutOfMemory) by h = tt
