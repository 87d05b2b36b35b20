-- What each step makes of the view of a seat. Nothing else changes a view.
use Rattle.std.specs.Prelude.{ℕ, ◌+◌, ◌-◌, true, false, List, [], ◌∷◌, ◌++◌}
use Rattle.progress_board.specs.declared.view.View.{View}

-- the first seat of a board
abbrev pub opener : View
opener = record { leads = true; live = 1; out = 0; has = []; drawn = []; raised = []; seen = []; loads = 0; swaps = 0 }

-- a ticket is drawn
abbrev pub with_ticket : View → ℕ → View
with_ticket v n = record v { drawn = v.drawn ++ n ∷ [] }

-- a lane is raised
abbrev pub with_raise : View → ℕ → View
with_raise v lane = record v { raised = v.raised ++ lane ∷ [] }

-- a lane is loaded, in which n is found
abbrev pub with_look : View → ℕ → ℕ → View
with_look v lane n = record v { seen = v.seen ++ (lane, n) ∷ []; loads = v.loads + 1 }

-- a turn word is swapped, after which the seat has these slots
abbrev pub with_slots : View → List ℕ → View
with_slots v has = record v { has = has; swaps = v.swaps + 1 }

-- a seat is split off
abbrev pub one_more_out : View → View
one_more_out v = record v { out = v.out + 1 }

-- the new seat knows what was seen
abbrev pub newcomer : View → View
newcomer v = record { leads = false; live = 1; out = 0; has = []; drawn = []; raised = []; seen = v.seen; loads = 0; swaps = 0 }

-- a seat is taken back
abbrev pub joined : View → View → View
joined v w =
    record v {
      out = v.out - 1;
      has = v.has ++ w.has;
      drawn = v.drawn ++ w.drawn;
      raised = v.raised ++ w.raised;
      seen = v.seen ++ w.seen;
      loads = v.loads + w.loads;
      swaps = v.swaps + w.swaps;
    }

-- the seat that was taken back
abbrev pub spent : View
spent = record { leads = false; live = 0; out = 0; has = []; drawn = []; raised = []; seen = []; loads = 0; swaps = 0 }
