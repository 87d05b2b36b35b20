-- Reading that counts, in the code's array of counters, and what a reader's calls answer.
use Rattle.std.specs.Prelude.{◌≡◌, ℕ, zero, suc, ℤ, pos, negsuc, List, Bool, true, false, Result, Ok, Err}
use Rattle.vp9_types.specs.Syntax.{Syntax}
use Rattle.vp9_types.specs.declared.rule.Rule.{Rule}
use Rattle.bool_decoder.specs.Bools.{run_bools}
use Rattle.bool_decoder.specs.Window.{Window}
use Rattle.bool_decoder.specs.Held.{window_of}
use Rattle.bool_decoder.specs.declared.decoder.BoolDecoder.{BoolDecoder}
use Rattle.prob_contexts.specs.Code.{counts_after}
use Rattle.prob_contexts.specs.declared.kind.CountedBool.{CountedBool}
use Rattle.counting_reader.specs.Counting.{Settled}
use Rattle.counting_reader.specs.declared.reader.CountingReader.{CountingReader}
use Rattle.counting_reader.specs.declared.tree.Branch.{Branch}
use Rattle.counting_reader.specs.declared.tree.Branch.TheVariants.{Leaf, Node}

---- Reading and counting ----

-- where reading stands: the window, the counts so far, and whether what is read is counted
pub record Standing : Type 0 where
  pub window : Window
  pub counts : List ℕ
  pub counting : Bool

-- the counts after these bools, where they are counted
abbrev pub counted_if : Bool → List ℕ → List CountedBool → List ℕ
counted_if true counts bools = counts_after counts bools
counted_if false counts bools = counts

-- what was read, with what it counts counted
abbrev pub with_counts : {A : Type 0} → Result (Settled A × Window) Rule → List ℕ → Bool → Result (A × Standing) Rule
with_counts (Ok p) counts counting =
    Ok (p.0.value, record { window = p.1; counts = counted_if counting counts p.0.counted; counting = counting })
with_counts (Err e) counts counting = Err e

unfoldable pub run_counting : {A : Type 0} → Syntax ℕ Rule (Settled A) → Standing → Result (A × Standing) Rule
run_counting s m = with_counts (run_bools s m.window) m.counts m.counting

-- what was read, with the counts as they were
abbrev pub with_same_counts : {A : Type 0} → Result (A × Window) Rule → List ℕ → Bool → Result (A × Standing) Rule
with_same_counts (Ok p) counts counting = Ok (p.0, record { window = p.1; counts = counts; counting = counting })
with_same_counts (Err e) counts counting = Err e

-- the same place, with these counted
abbrev pub counted_at : Standing → List CountedBool → Standing
counted_at m bools = record { window = m.window; counts = counted_if m.counting m.counts bools; counting = m.counting }

-- the same place, for who doesn't count
abbrev pub silent : Standing → Standing
silent m = record { window = m.window; counts = m.counts; counting = false }

-- what was read by who doesn't count
abbrev pub read_silently : {A : Type 0} → Result (A × Standing) Rule → List ℕ → Result (A × Standing) Rule
read_silently (Ok p) counts = Ok (p.0, record { window = p.1.window; counts = counts; counting = false })
read_silently (Err e) counts = Err e

-- where all is counted
abbrev pub standing : Window → List ℕ → Standing
standing window counts = record { window = window; counts = counts; counting = true }

-- the syntax settles on x, and leaves the window and the counts so
abbrev pub ReadsCounting : {A : Type 0} → Syntax ℕ Rule (Settled A) → Window → List ℕ → A → Window → List ℕ → Type 0
ReadsCounting s old before x new now = run_counting s (standing old before) ≡ Ok (x, standing new now)

---- A reader ----

-- whether a reader counts, by its type's parameter
abbrev pub counts_by : ℕ → Bool
counts_by zero = false
counts_by (suc n) = true

-- where a reader stands
abbrev pub standing_of : {n : ℕ} → CountingReader n → Standing
standing_of {n = n} r = record { window = window_of r.decoder; counts = r.counts; counting = counts_by n }

-- the same, from another window on
abbrev pub moved_to : Standing → Window → Standing
moved_to m window = record { window = window; counts = m.counts; counting = m.counting }

-- reading from where a reader stood gives the value, and the reader stands where that ends
abbrev pub Reads : {A : Type 0} {n : ℕ} → Syntax ℕ Rule (Settled A) → CountingReader n → A → CountingReader n → Type 0
Reads s old x new = run_counting s (standing_of old) ≡ Ok (x, standing_of new)

-- or it gives the rule that is broken
abbrev pub Gives : {A : Type 0} {n : ℕ} → Syntax ℕ Rule (Settled A) → CountingReader n → Result A Rule → CountingReader n → Type 0
Gives s old (Ok x) new = Reads s old x new
Gives s old (Err rule) new = run_counting s (standing_of old) ≡ Err rule

-- where a reader stands whose decoder is away, in a loop's local copy
abbrev pub standing_with : {n : ℕ} → CountingReader n → BoolDecoder → Standing
standing_with r decoder = moved_to (standing_of r) (window_of decoder)

abbrev pub ReadsAway : {A : Type 0} {n : ℕ} → Syntax ℕ Rule (Settled A) → CountingReader n → BoolDecoder → A → CountingReader n → BoolDecoder → Type 0
ReadsAway s old before x new now = run_counting s (standing_with old before) ≡ Ok (x, standing_with new now)

-- the reader that a start gave, or its fault
abbrev pub Starts : {n : ℕ} → Result Window Rule → List ℕ → Result (CountingReader n) Rule → Type 0
Starts start counts (Ok r) = (start ≡ Ok (standing_of r).window) × ((standing_of r).counts ≡ counts)
Starts start counts (Err rule) = start ≡ Err rule

-- an entry of a tree's array, as the code sees it
abbrev pub branch_of : ℤ → Branch
branch_of (negsuc x) = Leaf (suc x)
branch_of (pos zero) = Leaf 0
branch_of (pos (suc x)) = Node (suc x)
