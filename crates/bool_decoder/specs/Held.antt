-- What a decoder stands for.
use Rattle.std.specs.Prelude.{◌≡◌, ◌-◌, ◌%◌, Result, Ok, Err}
use Rattle.vp9_types.specs.declared.rule.Rule.{Rule}
use Rattle.bool_decoder.specs.Ahead.{bits_ahead}
use Rattle.bool_decoder.specs.Window.{Window, window_on, trimmed}
use Rattle.bool_decoder.specs.declared.decoder.BoolDecoder.{BoolDecoder}

unfoldable pub window_of : BoolDecoder → Window
window_of d = window_on d.range ((64 - d.count) % 8) (trimmed (bits_ahead d.window d.count d.rest.now))

-- the decoder that a start gave, or its fault
abbrev pub Starts : Result Window Rule → Result BoolDecoder Rule → Type 0
Starts start (Ok d) = start ≡ Ok (window_of d)
Starts start (Err rule) = start ≡ Err rule
