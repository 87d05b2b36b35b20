use Rattle.std.proofs.Common.{◌≡◌, ◌+◌, ◌∙◌, ℕ, ap, arith, get_or}
use Rattle.std.proofs.Math.Path.{fun_ext}
use Rattle.std.proofs.lemmas.List.{map-id}
use Rattle.tap_filter.specs.Filter.{filtered}
use Rattle.tap_filter.proofs.kept.U8FilterSample.filter_numbers.Goals as goal

pub returns-clause-value : goal.returns-clause-value
returns-clause-value c = λ j low. let a = c.args in
    rw (map-id c.filter_byte_line.new.out, c.requires.most)
    (c.filter_byte_line.ensures.value j low
    ∙ ap (filtered 255 a.taps.now) (fun_ext (λ (k : ℕ). c.bytes_of.ensures (0 + (j + k)) ∙ ap (λ (z : ℕ). get_or a.numbers.now z 0) (from_zero (j + k)))))
  where
    from_zero : (n : ℕ) → 0 + n ≡ n
    from_zero n = omega arith
