use Rattle.tap_filter.proofs.LaneLemmas.{turned_again, turned_of, taps_made}
use Rattle.tap_filter.proofs.taps.TapLanes.new.Goals as goal

pub invariant_of-result : goal.invariant_of-result
invariant_of-result c = (
  turned_again c.turns.result (turned_of _ _ c.turns.result c.turns.ensures),
  turned_again c.turns-2.result (turned_of _ _ c.turns-2.result c.turns-2.ensures),
  turned_again c.turns-3.result (turned_of _ _ c.turns-3.result c.turns-3.ensures),
  turned_again c.turns-4.result (turned_of _ _ c.turns-4.result c.turns-4.ensures),
)

pub returns : goal.returns
returns c = taps_made c.args.taps.now c.turns.result c.turns-2.result c.turns-3.result c.turns-4.result c.told-taps c.requires
    c.turns.ensures c.turns-2.ensures c.turns-3.ensures c.turns-4.ensures
