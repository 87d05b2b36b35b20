-- Bytes put behind others.
use Rattle.std.proofs.Common.{◌≡◌, ℕ, ◌+◌, ◌≤◌, List, ◌++◌, length, take, sym, ap, ◌∙◌, arith, append_assoc}
use Rattle.std.proofs.lemmas.List.{take-append-le, take-take, take_all, take_at}
use Rattle.std.proofs.Math.Seq.{take-append-add}

-- what was there stays in front of what it is filled up with
pub kept_front : (all now zeros : List ℕ) (at m : ℕ) → at ≡ length all → now ≡ take (at + m) all ++ zeros → take at now ≡ all
kept_front all now zeros at m long is =
    ap (take at) (is ∙ ap (λ xs. xs ++ zeros) (take_all (at + m) all (omega arith))) ∙ take_at all zeros at (sym long)

-- the first n of a buffer behind others, in what is cut behind them
pub put_behind : (all now buf post rest after : List ℕ) (at n k len : ℕ) → at ≡ length all → take at now ≡ all → n ≤ length buf → k ≡ at + n → k ≤ len
    → after ≡ take k (take len (take at now ++ (buf ++ post) ++ rest)) → after ≡ all ++ take n buf
put_behind all now buf post rest after at n k len long same few there fits is =
    is ∙ take-take k len _ fits
    ∙ ap (λ xs. take k (xs ++ (buf ++ post) ++ rest)) same
    ∙ ap (take k) (append_assoc all (buf ++ post) rest)
    ∙ ap (λ j. take j (all ++ (buf ++ post ++ rest))) (there ∙ ap (λ i. i + n) long)
    ∙ take-append-add all (buf ++ post ++ rest) n
    ∙ ap (λ xs. all ++ take n xs) (append_assoc buf post rest)
    ∙ ap (λ xs. all ++ xs) (take-append-le n buf (post ++ rest) few)
