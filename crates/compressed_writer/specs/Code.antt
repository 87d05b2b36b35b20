-- What the code has put so far.
use Rattle.std.specs.Prelude.{ℕ, zero, suc, List, ◌++◌, take, drop}
use Rattle.vp9_types.specs.Each.{each}
use Rattle.bool_encoder.specs.Part.{NumberPart}
use Rattle.bool_encoder.specs.WrittenBools.{Puts}
use Rattle.compressed_header.specs.Updates.{UpdateTable}
use Rattle.prob_contexts.specs.ProbLists.{ContextLists, InterLists, VectorLists}

-- the elements of the back are still to be put
abbrev pub EachLeft : {A B : Type 0} → (A → UpdateTable B) → List A → NumberPart → List B → List A → NumberPart → Type 0
EachLeft {B = B} s xs old front back now = (ys : List B) (new : NumberPart) → Puts (each s back) now ys new → Puts (each s xs) old (front ++ ys) new

-- a list of n probabilities for each of two components, of which none, the first or both are new
abbrev pub new_of : ℕ → ℕ → List ℕ → List ℕ → List ℕ
new_of zero n old new = old
new_of (suc zero) n old new = take n new ++ drop n old
new_of (suc (suc i)) n old new = new

-- the probabilities of vectors where the joints are new, and so many components of each list
abbrev pub vectors_at : ℕ → ℕ → ℕ → VectorLists → VectorLists → VectorLists
vectors_at components fractions high old new = record {
  joints = new.joints;
  signs = new_of components 1 old.signs new.signs;
  classes = new_of components 10 old.classes new.classes;
  class0 = new_of components 1 old.class0 new.class0;
  bits = new_of components 10 old.bits new.bits;
  class0_fractions = new_of fractions 6 old.class0_fractions new.class0_fractions;
  fractions = new_of fractions 3 old.fractions new.fractions;
  class0_high = new_of high 1 old.class0_high new.class0_high;
  high = new_of high 1 old.high new.high;
}

-- the probabilities of inter frames where those of modes, filters and inter blocks are new, and where those of references are
-- besides: only those of luma modes are still old
abbrev pub before_references : InterLists → InterLists → InterLists
before_references old new = record old { modes = new.modes; filters = new.filters; is_inter = new.is_inter }

abbrev pub after_references : InterLists → InterLists → InterLists
after_references old new = record new { y_modes = old.y_modes }

-- the probabilities of a frame where those of all kinds of frames are new
abbrev pub before_kind : ContextLists → ContextLists → ContextLists
before_kind old new = record old { tx = new.tx; coef = new.coef; skip = new.skip }
