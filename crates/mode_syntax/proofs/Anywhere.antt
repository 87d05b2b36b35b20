-- Whether any of a range of numbers passes a test, looked at one after another, and the sides of squares.
use Rattle.std.proofs.Common.{◌≡◌, ◌∙◌, ℕ, zero, suc, ◌+◌, ◌^◌, ◌≤◌, Bool, true, false, ◌||◌, [], ◌∷◌, map, refl, sym, ap, arith, lit≤}
use Rattle.std.specs.List.{list_any, range_with_len}
use Rattle.std.proofs.lemmas.List.Folds.{list_any-append}
use Rattle.std.proofs.lemmas.List.FromFn.{map-range_with_len_more}
use Rattle.block_geometry.specs.SplitSquares.{square, level_of}

alone : (v : Bool) → (v || false) ≡ v
alone true = refl
alone false = refl

-- one more number passes it or doesn't
pub any_more : {X : Type 0} (p : X → Bool) (f : ℕ → X) (n : ℕ) (any : Bool) → any ≡ list_any p (map f (range_with_len 0 n))
    → (any || p (f n)) ≡ list_any p (map f (range_with_len 0 (n + 1)))
any_more p f n any so =
    let end : 0 + n ≡ n = omega arith in
    rw (map-range_with_len_more f 0 n n end)
    (sym (list_any-append p (map f (range_with_len 0 n)) (f n ∷ [])
    ∙ (ap (λ (w : Bool). list_any p (map f (range_with_len 0 n)) || w) (alone (p (f n)))
    ∙ ap (λ (w : Bool). w || p (f n)) (sym so))))

pub level_kept : (level : ℕ) → level ≤ 3 → level_of (square level) ≡ level
level_kept zero few = refl
level_kept (suc zero) few = refl
level_kept (suc (suc zero)) few = refl
level_kept (suc (suc (suc zero))) few = refl
level_kept (suc (suc (suc (suc level)))) few = absurd (omega arith)

pub few_places : (level : ℕ) → level ≤ 3 → 2 ^ level ≤ 8
few_places zero few = lit≤ tt
few_places (suc zero) few = lit≤ tt
few_places (suc (suc zero)) few = lit≤ tt
few_places (suc (suc (suc zero))) few = lit≤ tt
few_places (suc (suc (suc (suc level)))) few = absurd (omega arith)
