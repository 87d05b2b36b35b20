-- How a probability follows what was counted at its node (8.4.2 of the standard: merge_prob).
use Rattle.std.specs.Prelude.{ℕ, ◌+◌, ◌-◌, ◌*◌, ◌/◌, min, max, nat_eq, if◌then◌else◌}
use Rattle.backward_adapt.specs.declared.merge.Rate.{Rate}
use Rattle.backward_adapt.specs.declared.merge.Rate.TheVariants.{Coefs, CoefsAfterKey, Others}

-- count_sat: more bools than so many count as so many
abbrev pub count_sat : Rate → ℕ
count_sat Coefs = 24
count_sat CoefsAfterKey = 24
count_sat Others = 20

-- max_update_factor: the weight that so many bools have, of 256
abbrev pub max_update_factor : Rate → ℕ
max_update_factor Coefs = 112
max_update_factor CoefsAfterKey = 128
max_update_factor Others = 128

-- the probability by the counts alone: the share of the zeros, of 256, rounded and 1 to 255; a half where nothing was counted
unfoldable pub counted_prob : ℕ → ℕ → ℕ
counted_prob zeros ones =
    let all = zeros + ones in
    if nat_eq all 0 then 128 else max 1 (min 255 ((256 * zeros + all / 2) / all))

-- its weight, of 256
unfoldable pub update_factor : Rate → ℕ → ℕ
update_factor rate all = max_update_factor rate * min all (count_sat rate) / count_sat rate

-- merge_prob: the probability before and that of the counts, each by its weight, rounded (Round2(x, 8))
unfoldable pub merge_prob : Rate → ℕ → ℕ → ℕ → ℕ
merge_prob rate before zeros ones =
    let factor = update_factor rate (zeros + ones) in
    (before * (256 - factor) + counted_prob zeros ones * factor + 128) / 256
