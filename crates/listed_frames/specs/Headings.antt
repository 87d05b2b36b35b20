-- What a frame says before its blocks, and whether it can be said (6.2 and 6.3 of the standard).
use Rattle.std.specs.Prelude.{Bool, ◌&&◌}
use Rattle.frame_headers.specs.declared.header.Uncompressed.TheVariants.{Coded}
use Rattle.frame_headers.specs.declared.persist.Persist.{Persist}
use Rattle.header_checks.specs.Headers.{can_choose, is_well_formed}
use Rattle.header_checks.specs.ModeTests.{can_say_modes}
use Rattle.stream_forge.specs.declared.coded.CodedFrame.{CodedFrame}

-- its header can be read behind what persists, in the way that is chosen, and has these modes
abbrev pub can_say : Persist → CodedFrame → Bool
can_say before frame =
    is_well_formed before (Coded frame.header) && (can_choose before frame.choices (Coded frame.header) && can_say_modes frame.header frame.modes)
