-- The pictures of a decode, by the numbers of their frames.
use Rattle.std.specs.Prelude.{ℕ, false, Option, Some, None, Result, Ok, Err}
use Rattle.vp9_types.specs.declared.rule.Rule.{Rule}
use Rattle.vp9_types.specs.declared.shape.Depth.TheVariants.{Eight}
use Rattle.band_cells.specs.Bands.{Picture}
use Rattle.frame_headers.specs.HeaderState.{shape_of}
use Rattle.frame_output.specs.declared.rendering.Format.{Format}
use Rattle.seq_decoder.specs.frame_state.FrameReading.{FrameRead}
use Rattle.planes.specs.Pictures.{blank}
use Rattle.numbered_frames.specs.Coded.{CodedFrame, coded, read_of, result_of}
use Rattle.numbered_frames.specs.Films.{Film}

-- of a frame that isn't decoded
abbrev pub no_picture : Picture
no_picture = record { shape = record { w = 0; h = 0; depth = Eight; ss_x = false; ss_y = false }; map = blank }

abbrev pub picture_read : CodedFrame → Result FrameRead Rule → Picture
picture_read c (Err rule) = no_picture
picture_read c (Ok read) = record { shape = shape_of c.header; map = (result_of c read).map }

abbrev pub picture_from : Option CodedFrame → Picture
picture_from None = no_picture
picture_from (Some c) = picture_read c (read_of c)

-- the shape of frame f, and its samples behind the loop filter
unfoldable pub pictures : Format → Film → ℕ → Picture
pictures format film f = picture_from (coded format film f)
