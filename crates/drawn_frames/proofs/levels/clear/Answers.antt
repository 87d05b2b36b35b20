use Rattle.std.proofs.Common.{rules, ◌≡◌, ◌∙◌, ℕ, ℤ, pos, ap, replicate, length}
use Rattle.drawn_frames.proofs.levels.clear.Goals as goal

pub returns : goal.returns
returns c =
    let counts : length c.args.levels.now.counts ≡ 256 = search rules in
    let values : length c.args.levels.now.values ≡ 4096 = search rules in λ i. record {
      counts = (c.fill.ensures.after (λ y is. is) ∙ ap (λ n. replicate {A = ℕ} n 0) counts) i;
      values = (c.fill-2.ensures.after (λ y is. is) ∙ ap (λ n. replicate {A = ℤ} n (pos 0)) values) i;
    }
