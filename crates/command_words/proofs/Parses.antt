-- What the parser's clauses say of the program's command.
use Rattle.std.proofs.Common.{◌≡◌, ◌∙◌, ◌⊎◌, inl, inr, ap, subst, sym, refl, Bool, true, false, List, [], ◌∷◌, Option, None, Result, Ok, Err, IfOk}
use Rattle.std.specs.Prelude.{option_and_then, if◌then◌else◌}
use Rattle.std.specs.Allocator.{alloc_error}
use Rattle.std.specs.declared.alloc.AllocError.{AllocError}
use Rattle.clap.specs.Words.{App, FailsBy, HasMatchesOf, IsAmong, Kinds, Text, fault_of, is_simple, is_simple_and_free}
use Rattle.clap.specs.declared.error.Error.{Error}
use Rattle.clap.specs.declared.error.kind.ErrorKind.{ErrorKind}
use Rattle.clap.specs.declared.error.kind.ErrorKind.TheVariants.{OutOfMemory}
use Rattle.clap.specs.declared.parser.matches.ArgMatches.{ArgMatches}
use Rattle.clap.proofs.OnLiterals.{clap_on_literals}
use Rattle.command_words.specs.declared.command.Command.{Command}
use Rattle.command_words.specs.Words.{answer_of, command_of, failed_by, is_memory, named, unless_fault, vp9dec_app}

simple : is_simple vp9dec_app ≡ true
unfolding clap_on_literals
simple = refl

free : is_simple_and_free vp9dec_app ≡ true
unfolding clap_on_literals
free = refl

abbrev ends_by : Bool → Result (Option Command) AllocError
ends_by wants_memory = if wants_memory then Err alloc_error else Ok None

none_or_memory : (wants_memory : Bool) → IfOk (ends_by wants_memory) (λ command. command ≡ None)
none_or_memory true = tt
none_or_memory false = refl

-- an error of another kind than want of memory comes of a fault
refused : (kinds : Kinds) (k : ErrorKind) (found : Option Command) → (k ≡ OutOfMemory) ⊎ IsAmong k kinds
    → IfOk (failed_by k) (λ command. command ≡ unless_fault kinds found)
refused kinds k found (inl memory) = rw memory tt
refused [] k found (inr none) = absurd none
refused (x ∷ xs) k found (inr among) = none_or_memory (is_memory k)

passed : (kinds : Kinds) (found : Option Command) → kinds ≡ [] → found ≡ unless_fault kinds found
passed kinds found none = sym (ap (λ ks. unless_fault ks found) none)

-- what a parse of the program comes to is the command that the words are
answers : (words : List Text) (r : Result ArgMatches Error) → IfOk r (HasMatchesOf vp9dec_app words) → FailsBy (fault_of vp9dec_app words) r
    → IfOk (answer_of r) (λ command. command ≡ command_of words)
unfolding command_of
answers words (Ok m) matches passes =
    ap (option_and_then named) (matches simple).1 ∙ passed (fault_of vp9dec_app words) _ passes
answers words (Err e) matches fails = refused (fault_of vp9dec_app words) _ _ fails

pub reads : (a : App) (words : List Text) (r : Result ArgMatches Error) (out : Result (Option Command) AllocError) → a ≡ vp9dec_app
    → IfOk r (HasMatchesOf a words) → (is_simple_and_free a ≡ true → FailsBy (fault_of a words) r) → out ≡ answer_of r
    → IfOk out (λ command. command ≡ command_of words)
reads a words r out is matches fails answered =
    rw answered (answers words r (subst (λ app. IfOk r (HasMatchesOf app words)) is matches)
    (subst (λ app. is_simple_and_free app ≡ true → FailsBy (fault_of app words) r) is fails free))
