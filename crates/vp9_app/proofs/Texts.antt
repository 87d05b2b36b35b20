-- A text of pieces, one after another.
use Rattle.std.proofs.Common.{◌≡◌, ℕ, List, [], ◌++◌, sym, append_assoc}
use Rattle.std.proofs.lemmas.List.{append-nil}

pub five_pieces : (t a b c d e : List ℕ) → ((((t ++ a) ++ b) ++ c) ++ d) ++ e ≡ t ++ ((((a ++ b) ++ c) ++ d) ++ e)
five_pieces t a b c d e = simp append_assoc

pub no_more : (t : List ℕ) → t ≡ t ++ []
no_more t = sym (append-nil t)
