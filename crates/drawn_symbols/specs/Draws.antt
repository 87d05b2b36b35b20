-- The numbers that a made stream is drawn from.
use Rattle.std.specs.Prelude.{◌≡◌, ℕ, ◌+◌, ◌*◌, ◌/◌, ◌%◌, ◌^◌, Bool, List, [], ◌∷◌, ◌++◌, length, slice_index_or, nat_eq}
use Rattle.vp9_types.specs.Trees.{Tree, leaf, node}
use Rattle.drawn_symbols.specs.declared.draws.Draws.{Draws}

---- What is drawn from a number ----

-- a value, and the number behind it
abbrev pub Drawn : Type 0 → Type 0
Drawn A = ℕ → A × ℕ

-- a value without a draw
abbrev pub stay : {A : Type 0} → A → Drawn A
stay value x = (value, x)

-- one, and then another that knows what the first drew
infixl 10 ◌>>=◌
abbrev pub ◌>>=◌ : {A B : Type 0} → Drawn A → (A → Drawn B) → Drawn B
(s >>= f) x = f (s x).0 (s x).1

-- the number behind a number
unfoldable pub next : ℕ → ℕ
next x = (x * 6364136223846793005 + 1442695040888963407) % 2 ^ 64

-- one of n values, from 0 on
unfoldable pub draw : ℕ → Drawn ℕ
draw n x = (next x / 2 ^ 33 % n, next x)

---- Symbols ----

-- a lone bool is its value
unfoldable pub draw_flag : Drawn Bool
draw_flag = draw 2 >>= λ v. stay (nat_eq v 1)

-- a tree's leaves from left to right
abbrev pub leaves : Tree → List ℕ
leaves (leaf value) = value ∷ []
leaves (node k zero_side one_side) = leaves zero_side ++ leaves one_side

-- the leaves of a tree are counted from 0
unfoldable pub draw_leaf : Tree → Drawn ℕ
draw_leaf tree = draw (length (leaves tree)) >>= λ k. stay (slice_index_or (leaves tree) k 0)

---- In code ----

-- a value is drawn between two states
abbrev pub IsDrawn : {A : Type 0} → Drawn A → Draws → A → Draws → Type 0
IsDrawn s old value new = s old.x ≡ (value, new.x)
