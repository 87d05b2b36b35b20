-- Part of a list is updated in place.
use Rattle.std.proofs.Common.{◌≡◌, ℕ, List, ◌++◌, take, drop, ap, ◌∙◌}
use Rattle.std.specs.Prelude.{Ok}
use Rattle.std.specs.List.{All}
use Rattle.std.proofs.lemmas.List.Elements.{All-append, All-take, All-drop}
use Rattle.vp9_types.specs.declared.rule.Rule.{Rule}
use Rattle.vp9_types.specs.Syntax.{done}
use Rattle.vp9_types.specs.Reading.{after}
use Rattle.vp9_types.specs.Each.{each}
use Rattle.vp9_types.proofs.Runs.{run_bind}
use Rattle.bool_decoder.specs.Bools.{Reads, bool_answer}
use Rattle.bool_decoder.specs.Window.{Window}
use Rattle.compressed_header.specs.Updates.{update_mv_prob, mv_updates}

pub range_read : (from n k : ℕ) (probs ys : List ℕ) (m rest : Window) → k ≡ n
    → Reads (each update_mv_prob (take k (drop from probs))) m ys rest
    → Reads (mv_updates from n probs) m (take from probs ++ (ys ++ drop k (drop from probs))) rest
unfolding mv_updates
range_read from n k probs ys m rest e h =
    rw e (run_bind (bool_answer {E = Rule}) (each update_mv_prob (take n (drop from probs))) (λ updated. done (take from probs ++ (updated ++ drop n (drop from probs)))) m
    ∙ ap (λ r. after r (λ updated left. Ok (take from probs ++ (updated ++ drop n (drop from probs)), left))) (rw e at h))

pub range_kept : (P : ℕ → Type 0) (from k : ℕ) (probs ys : List ℕ) → All P probs → All P ys → All P (take from probs ++ (ys ++ drop k (drop from probs)))
range_kept P from k probs ys s t =
    All-append P (take from probs) (ys ++ drop k (drop from probs)) (All-take P from probs s)
    (All-append P ys (drop k (drop from probs)) t (All-drop P k (drop from probs) (All-drop P from probs s)))

pub range_taken : (P : ℕ → Type 0) (from k : ℕ) (probs : List ℕ) → All P probs → All P (take k (drop from probs))
range_taken P from k probs s = All-take P k (drop from probs) (All-drop P from probs s)
