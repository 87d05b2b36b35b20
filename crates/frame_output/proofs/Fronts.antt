-- What a sink took, piece by piece.
use Rattle.std.proofs.Common.{ℕ, List, [], ◌++◌, Option, refl, sym}
use Rattle.std.specs.Prelude.{Result, Ok, Err}
use Rattle.std.proofs.lemmas.List.{append_assoc, append-nil}
use Rattle.edge_io.specs.declared.sink.PutFault.{PutFault}
use Rattle.edge_io.specs.Putting.{Takes, TakesFront, PutsAll}
use Rattle.edge_io.proofs.Fronts.{takes_none, takes_both, front_of}

-- of three pieces
pub first_refused : (old new : Option (List ℕ)) (a b c : List ℕ) → TakesFront old new a → TakesFront old new (a ++ b ++ c)
first_refused old new a b c next = front_of old old new (a ++ b ++ c) [] a (b ++ c) (append_assoc a b c) (takes_none old) next

pub second_refused : (old mid new : Option (List ℕ)) (a b c : List ℕ) → Takes old mid a → TakesFront mid new b → TakesFront old new (a ++ b ++ c)
second_refused old mid new a b c first next = front_of old mid new (a ++ b ++ c) a b c refl first next

pub puts_last : {A : Type 0} (old mid new : Option (List ℕ)) (a b : List ℕ) (result : Result A PutFault)
    → Takes old mid a → PutsAll mid new b result → PutsAll old new (a ++ b) result
puts_last old mid new a b (Ok x) first next = takes_both old mid new a b first next
puts_last old mid new a b (Err e) first next = front_of old mid new (a ++ b) a b [] (sym (append-nil (a ++ b))) first next
