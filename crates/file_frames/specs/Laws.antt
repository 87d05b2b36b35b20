-- What the laws of walks say.
use Rattle.std.specs.Prelude.{◌≡◌, ℕ, ◌+◌, List, [], ◌∷◌, ◌++◌, length, Option, Some, Result, Ok, Err}
use Rattle.vp9_types.specs.declared.rule.Rule.{Rule}
use Rattle.file_frames.specs.Walks.{Added, Walk, Walked, adding, ended, walk_from}

-- all that frames add and the state behind them, or the walk that ends in them
abbrev pub more_added : {S A E : Type 0} → List A → Result (Added S A) (Walked A E) → Result (Added S A) (Walked A E)
more_added adds (Ok more) = Ok (record { state = more.state; adds = adds ++ more.adds })
more_added adds (Err ended) = Err (adding adds ended)

abbrev pub next_behind : {S A E : Type 0} → ℕ → Result (Added S A) E → (S → Result (Added S A) (Walked A E)) → Result (Added S A) (Walked A E)
next_behind number (Ok added) more = more_added added.adds (more added.state)
next_behind number (Err fault) more = Err (ended (Some (number, fault)))

abbrev pub steps_over : {S A E : Type 0} → Walk S A E → ℕ → S → List (List ℕ) → Result (Added S A) (Walked A E)
steps_over w number state [] = Ok (record { state = state; adds = [] })
steps_over w number state (frame ∷ frames) = next_behind number (w.step number state frame) (λ next. steps_over w (number + 1) next frames)

abbrev pub going_on : {S A E : Type 0} → Result (Added S A) (Walked A E) → (S → Walked A E) → Walked A E
going_on (Ok added) more = adding added.adds (more added.state)
going_on (Err ended) more = ended

-- the others come with the numbers behind those of the first ones, and in the state behind them
abbrev pub GoesOn : {S A E : Type 0} → Walk S A E → ℕ → S → List (List ℕ) → List (List ℕ) → Option Rule → Type 0
GoesOn w number state first rest ending =
    walk_from w number state (first ++ rest) ending ≡ going_on (steps_over w number state first) (λ next. walk_from w (number + length first) next rest ending)
