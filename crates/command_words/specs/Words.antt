-- What the words of the command line ask for, by clap's own account of a parse.
use Rattle.std.specs.Prelude.{List, [], ◌∷◌, Option, Some, None, Result, Ok, Err, ℕ, pos, Bool, true, false, codes}
use Rattle.std.specs.Prelude.{if◌then◌else◌, option_and_then, option_map, length, nat_lt, ◌&&◌, ◌^◌}
use Rattle.std.specs.Char.{digit_value}
use Rattle.std.specs.List.{list_all}
use Rattle.std.specs.Option.{option_map_or}
use Rattle.std.specs.Str.{bytes_eq}
use Rattle.std.specs.Str.Parse.{digits_value, without_leading_plus}
use Rattle.std.specs.Allocator.{alloc_error}
use Rattle.std.specs.declared.alloc.AllocError.{AllocError}
use Rattle.clap.specs.Simple.{on_top}
use Rattle.clap.specs.Walk.{byte_or_zero, first_of, one_of}
use Rattle.clap.specs.Words.{App, Kinds, Row, Rule, Text, fault_of, kind_of, new_app, new_rule, subcommand_of, subcommand_rows_of}
use Rattle.clap.specs.Words.{with_rule, with_subcommand}
use Rattle.clap.specs.declared.builder.action.ArgAction.TheVariants.{SetTrue}
use Rattle.clap.specs.declared.builder.value_parser.ValueParser.TheVariants as value
use Rattle.clap.specs.declared.error.Error.{Error}
use Rattle.clap.specs.declared.error.kind.ErrorKind.{ErrorKind}
use Rattle.clap.specs.declared.error.kind.ErrorKind.TheVariants.{OutOfMemory}
use Rattle.clap.specs.declared.parser.matches.ArgMatches.{ArgMatches}
use Rattle.frame_output.specs.declared.rendering.Format.{Format}
use Rattle.frame_output.specs.declared.rendering.Format.TheVariants.{Raw, Md5, Y4m}
use Rattle.command_words.specs.declared.command.Command.{Command}
use Rattle.command_words.specs.declared.command.Command.TheVariants as command
use Rattle.command_words.specs.declared.command.DecodeOptions.{DecodeOptions}
use Rattle.command_words.specs.declared.command.MadeStream.{MadeStream}

-- the command `list`, with no option and no argument
abbrev pub list_app : App
list_app = new_app (codes "list")

-- an option without a value
abbrev pub flag_rule : Text → Rule
flag_rule name = record (new_rule name) { long = Some name; action = Some SetTrue }

-- an option whose value is a number from low to high, and this one where it isn't given
abbrev pub number_rule : Text → ℕ → ℕ → Text → Rule
number_rule name low high default = record (new_rule name) {
  long = Some name;
  parser = Some (value.Signed (pos low) (pos high));
  defaults = default ∷ [];
}

-- an option whose value is a word, and this one where it isn't given
abbrev pub word_rule : Text → Text → Rule
word_rule name default = record (new_rule name) { long = Some name; defaults = default ∷ [] }

-- the command `decode [--plain] [--workers W] [--window N] [--format F]`
abbrev pub decode_app : App
decode_app =
    with_rule (with_rule (with_rule (with_rule (new_app (codes "decode")) (flag_rule (codes "plain")))
    (number_rule (codes "workers") 1 64 (codes "4")))
    (number_rule (codes "window") 2 16 (codes "4")))
    (word_rule (codes "format") (codes "raw"))

-- a word that has to be given: a number from low to high
abbrev pub given_rule : Text → ℕ → ℕ → Rule
given_rule name low high = record (new_rule name) { required = true; parser = Some (value.Signed (pos low) (pos high)) }

-- a command that is told which stream is made, as `make NUMBER FRAMES` and `trial NUMBER FRAMES`
abbrev pub stream_app : Text → App
stream_app name = with_rule (with_rule (new_app name) (given_rule (codes "number") 0 4294967295)) (given_rule (codes "frames") 1 1000)

-- the program, which has to be given one of its commands
abbrev pub vp9dec_app : App
vp9dec_app =
    with_subcommand (with_subcommand (with_subcommand (with_subcommand (on_top (λ program. record program { subcommand_required = true }) (new_app (codes "vp9dec")))
    list_app.top) decode_app.top) (stream_app (codes "make")).top) (stream_app (codes "trial")).top

-- what was found of an option without a value, and of a number, which each has in its range or by its default
abbrev pub is_set : Text → List Row → Bool
is_set id rows = option_map_or (λ text. bytes_eq text (codes "true")) (one_of id rows) false

abbrev pub number_at : Text → List Row → ℕ
number_at id rows = option_map_or byte_or_zero (one_of id rows) 0

-- the number below 2 ^ 32 that a text writes, and 0 where it writes none
abbrev pub number_or_zero : Text → ℕ
number_or_zero text =
    let digits = without_leading_plus text in
    if nat_lt 0 (length digits) && list_all (λ d. nat_lt (digit_value d) 10) digits && nat_lt (digits_value 10 digits) (2 ^ 32) then digits_value 10 digits else 0

abbrev pub given_at : Text → List Row → ℕ
given_at id rows = option_map_or number_or_zero (one_of id rows) 0

abbrev pub stream_of : List Row → MadeStream
stream_of rows = record { number = given_at (codes "number") rows; frames = given_at (codes "frames") rows }

-- the format that a word names
abbrev pub format_named : Text → Option Format
format_named word =
    if bytes_eq word (codes "raw") then Some Raw
    else (if bytes_eq word (codes "md5") then Some Md5
    else (if bytes_eq word (codes "y4m") then Some Y4m else None))

abbrev pub format_at : List Row → Option Format
format_at rows = option_and_then format_named (first_of (codes "format") rows)

-- none where no format has the name that is given
abbrev pub options_of : List Row → Option DecodeOptions
options_of rows = option_map (λ format. record {
  plain = is_set (codes "plain") rows;
  workers = number_at (codes "workers") rows;
  window = number_at (codes "window") rows;
  format = format;
}) (format_at rows)

-- the command of this name, with what was found of its arguments: none where these name no format
abbrev pub named : Text × List Row → Option Command
named used =
    if bytes_eq used.0 (codes "list") then Some command.List
    else (if bytes_eq used.0 (codes "decode") then option_map command.Decode (options_of used.1)
    else (if bytes_eq used.0 (codes "make") then Some (command.Make (stream_of used.1))
    else (if bytes_eq used.0 (codes "trial") then Some (command.Trial (stream_of used.1)) else None)))

-- none where a parse has a fault, and else what it found
abbrev pub unless_fault : Kinds → Option Command → Option Command
unless_fault [] found = found
unless_fault (kind ∷ kinds) found = None

-- the command that the words are, the program's name first: none where clap's parse of them has a fault of any kind,
-- as a call for help, and else the one whose name they give
unfoldable pub command_of : List Text → Option Command
command_of words = unless_fault (fault_of vp9dec_app words) (option_and_then named (subcommand_of vp9dec_app words))

-- the command `decode` with these options
abbrev pub decode_by : Bool → ℕ → ℕ → Format → Option Command
decode_by plain workers window format = Some (command.Decode (record { plain = plain; workers = workers; window = window; format = format }))

-- the command `make` with these numbers
abbrev pub make_of : ℕ → ℕ → Option Command
make_of number frames = Some (command.Make (record { number = number; frames = frames }))

-- the command `trial` with these numbers
abbrev pub trial_of : ℕ → ℕ → Option Command
trial_of number frames = Some (command.Trial (record { number = number; frames = frames }))

-- what the code makes of a parse

abbrev pub is_memory : ErrorKind → Bool
is_memory OutOfMemory = true
is_memory kind = false

-- an error found no command, unless it was for want of memory
abbrev pub failed_by : ErrorKind → Result (Option Command) AllocError
failed_by kind = if is_memory kind then Err alloc_error else Ok None

abbrev pub answer_of : Result ArgMatches Error → Result (Option Command) AllocError
answer_of (Ok matches) = Ok (option_and_then named (subcommand_rows_of matches))
answer_of (Err error) = failed_by (kind_of error)
