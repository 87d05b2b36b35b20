-- What the calls answer, and what the code keeps.
use Rattle.std.specs.Prelude.{◌≡◌, ℕ, ◌+◌, ◌-◌, ◌%◌, ◌^◌, ◌<◌, ◌≤◌, ◌⊎◌, true, List, [], ◌∷◌, map, All, Option, Some, None}
use Rattle.atomic_table.specs.Table.{Me, Step}
use Rattle.atomic_table.specs.Seated.{TableId}
use Rattle.progress_board.specs.declared.view.View.{View}
use Rattle.progress_board.specs.Counts.{times, once_below}
use Rattle.progress_board.specs.Views.{with_ticket, with_raise, with_look, with_slots}

-- which board it is, and how many lanes it has
pub record BoardParts : Type 0 where
  pub board : TableId
  pub lanes : ℕ

-- whose seat it is, and what it knows
pub record SeatParts : Type 0 where
  pub board : TableId
  pub view : View

-- The ticket k was drawn, which is above all that the seat had, and it has none twice. The first seat, when no other is
-- out, then has each number up to k once.
abbrev pub Draws : View → ℕ → View → Type 0
Draws v found w =
    (k : ℕ) × (found ≡ k % 2 ^ 64) × (w ≡ with_ticket v k) × All (λ x. x < k) v.drawn
    × ((x : ℕ) → times x w.drawn ≤ once_below x (k + 1))
    × (v.leads ≡ true → v.out ≡ 0 → (x : ℕ) → times x w.drawn ≡ once_below x (k + 1))

-- The number k was found in the lane, which is no less than what the seat had seen there, and than its own raises.
abbrev pub Looks : ℕ → View → ℕ → View → Type 0
Looks lane v found w =
    (k : ℕ) × (found ≡ k % 2 ^ 64) × (w ≡ with_look v lane k) × (times lane v.raised ≤ k) × All (λ p. p.0 ≡ lane → p.1 ≤ k) v.seen

abbrev pub Drew : {T : Type 0} → Step (Option T) → Me (Option T) View → ℕ → Me (Option T) View → Type 0
Drew s v found w = Draws v.0 found w.0 × (w.1 ≡ v.1)

abbrev pub Rose : {T : Type 0} → Step (Option T) → Me (Option T) View → ℕ → Me (Option T) View → Type 0
Rose s v found w = (w.0 ≡ with_raise v.0 (s.word - 3)) × (w.1 ≡ v.1)

abbrev pub Looked : {T : Type 0} → Step (Option T) → Me (Option T) View → ℕ → Me (Option T) View → Type 0
Looked s v found w = Looks (s.word - 3) v.0 found w.0 × (w.1 ≡ v.1)

-- at 0 the seat has the slot and its value, which names it, and at 1 only its count has changed
abbrev pub Took : {T : Type 0} → (T → ℕ) → Step (Option T) → Me (Option T) View → ℕ → Me (Option T) View → Type 0
Took {T} names s v found w =
    ((found ≡ 0) × (w.0 ≡ with_slots v.0 ((s.word - 1) ∷ v.0.has)) × ((y : T) × (names y ≡ s.word - 1) × (w.1 ≡ (s.word - 1, Some y) ∷ v.1)))
    ⊎ ((found ≡ 1) × (w.0 ≡ with_slots v.0 v.0.has) × (w.1 ≡ v.1))

-- all but the first
abbrev pub rest : {A : Type 0} → List A → List A
rest [] = []
rest (x ∷ xs) = xs

-- the slot that was taken last is at home
abbrev pub Gave : {T : Type 0} → Step (Option T) → Me (Option T) View → ℕ → Me (Option T) View → Type 0
Gave s v found w = (w.0 ≡ with_slots v.0 (rest v.0.has)) × (w.1 ≡ rest v.1)

-- what the slots hold that a seat has, between its calls: nothing
abbrev pub hand : {T : Type 0} → List ℕ → List (ℕ × Option T)
hand has = map (λ k. (k, None)) has
