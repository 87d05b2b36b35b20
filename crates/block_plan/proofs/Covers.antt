-- The last listed block that covers a place, when a block is added.
use Rattle.std.proofs.Common.{◌≡◌, ℕ, zero, suc, ◌+◌, ◌<◌, ◌≤◌, ◌++◌, ◌∷◌, [], ◌∙◌, List, length, refl, sym, ap, arith, Option, Some, None, slice_get, if◌then◌else◌}
use Rattle.block_plan.specs.Blocks.{covers, covering, or_else}
use Rattle.block_plan.specs.Grid.{numbered}
use Rattle.block_plan.specs.declared.block.BlockInfo.{BlockInfo}

or_else_none : {A : Type 0} (o : Option A) → or_else o None ≡ o
or_else_none (Some x) = refl
or_else_none None = refl

or_else_assoc : {A : Type 0} (a b c : Option A) → or_else (or_else a b) c ≡ or_else a (or_else b c)
or_else_assoc (Some x) b c = refl
or_else_assoc None b c = refl

pub covering-push : (blocks : List BlockInfo) (block : BlockInfo) (r c : ℕ)
    → covering (blocks ++ block ∷ []) r c ≡ or_else (if covers block r c then Some block else None) (covering blocks r c)
unfolding covering
covering-push [] block r c = sym (or_else_none (if covers block r c then Some block else None))
covering-push (x ∷ xs) block r c =
    ap (λ o. or_else o (if covers x r c then Some x else None)) (covering-push xs block r c)
    ∙ or_else_assoc (if covers block r c then Some block else None) (covering xs r c) (if covers x r c then Some x else None)

got-push : (blocks : List BlockInfo) (block : BlockInfo) (n : ℕ) → n < length blocks → slice_get (blocks ++ block ∷ []) n ≡ slice_get blocks n
got-push [] block n low = absurd (omega arith)
got-push (x ∷ xs) block zero low = refl
got-push (x ∷ xs) block (suc n) low = got-push xs block n (omega arith)

got-last : (blocks : List BlockInfo) (block : BlockInfo) → slice_get (blocks ++ block ∷ []) (length blocks) ≡ Some block
got-last [] block = refl
got-last (x ∷ xs) block = got-last xs block

pub numbered-push : (blocks : List BlockInfo) (block : BlockInfo) (n : ℕ) → n ≤ length blocks → numbered (blocks ++ block ∷ []) n ≡ numbered blocks n
numbered-push blocks block zero low = refl
numbered-push blocks block (suc n) low = got-push blocks block n (omega arith)

one_more : (n : ℕ) → n + 1 ≡ suc n
one_more n = omega arith

pub numbered-last : (blocks : List BlockInfo) (block : BlockInfo) (number : ℕ) → number ≡ length blocks + 1 → numbered (blocks ++ block ∷ []) number ≡ Some block
numbered-last blocks block number is =
    ap (λ n. numbered (blocks ++ block ∷ []) n) (is ∙ one_more (length blocks)) ∙ got-last blocks block
