-- What holds of a board between any two steps. Its words are the tickets', the turns of the two slots, and one for each
-- lane. The tickets that were drawn are the numbers below the number of draws, each once. A word counts the draws, or
-- the raises of a lane, modulo 2^64. A slot is out with one seat or at home with a value that names it.
use Rattle.std.specs.Prelude.{◌≡◌, ℕ, ◌+◌, ◌%◌, ◌^◌, ◌<◌, ◌⊎◌, true, List, [], length, slice_index, Option, Some}
use mathlib.Core.Option.{some, none}
use lib.ListN.{get_elem?}
use Rattle.atomic_table.specs.Table.{State}
use Rattle.progress_board.specs.declared.view.View.{View}
use Rattle.progress_board.specs.Counts.{total, times, once_below, draws, raises, holders, IsReached}

-- at home with a value that names the slot
abbrev pub IsHome : {T : Type 0} → (T → ℕ) → ℕ → State (Option T) View → Type 0
IsHome {T} names slot s =
    (slice_index s.words (slot + 1) ≡ 0)
    × ((y : T) × (get_elem? s.homes slot ≡ some (some (Some y))) × (names y ≡ slot))
    × (holders slot s.views ≡ 0)

-- out with one seat
abbrev pub IsOut : {T : Type 0} → ℕ → State (Option T) View → Type 0
IsOut slot s = (slice_index s.words (slot + 1) ≡ 1) × (get_elem? s.homes slot ≡ some none) × (holders slot s.views ≡ 1)

-- The first seat alone leads, and knows how many others are out. A seat that was taken back has nothing.
pub record Roles (views : List View) : Type 0 where
  pub leader : (v : View) → get_elem? views 0 ≡ some v → (v.live ≡ 1) × (total (λ u. u.live) views ≡ 1 + v.out)
  pub leads : (by : ℕ) (v : View) → get_elem? views by ≡ some v → v.leads ≡ true → by ≡ 0
  pub idle : (by : ℕ) (v : View) → get_elem? views by ≡ some v → v.live ≡ 0 → (v.drawn ≡ []) × (v.raised ≡ []) × (v.has ≡ [])

pub record Kept {T : Type 0} (names : T → ℕ) (lanes : ℕ) (s : State (Option T) View) : Type 0 where
  pub size : length s.words ≡ lanes + 3
  pub slots : length s.homes ≡ 2
  pub roles : Roles s.views
  pub tickets : (x : ℕ) → total (λ v. times x v.drawn) s.views ≡ once_below x (draws s.views)
  pub ticket_word : slice_index s.words 0 ≡ draws s.views % 2 ^ 64
  pub lane_words : (lane : ℕ) → lane < lanes → slice_index s.words (lane + 3) ≡ raises lane s.views % 2 ^ 64
  pub reached : (by : ℕ) (v : View) → get_elem? s.views by ≡ some v → IsReached s.views v.seen
  pub turns : (slot : ℕ) → slot < 2 → IsHome names slot s ⊎ IsOut slot s
