-- What the calls answer.
use Rattle.std.specs.Prelude.{◌≡◌, Bool, true, false, Result, Err}
use Rattle.listed_symbols.specs.frame_writer.declared.written.NotWritten.{NotWritten}
use Rattle.listed_symbols.specs.frame_writer.declared.written.NotWritten.TheVariants.{Unsaid}
use Rattle.listed_symbols.specs.frame_writer.declared.written.Written.{Written}
use Rattle.listed_symbols.specs.ListedBlocks.{listed}
use Rattle.listed_symbols.specs.declared.lists.ListedSymbols.{ListedSymbols}
use Rattle.stream_forge.specs.seq_decoder.DecoderState.{State}
use Rattle.stream_forge.specs.Code.{GivesBehind}
use Rattle.stream_forge.specs.declared.coded.CodedFrame.{CodedFrame}

-- the frame is as its blocks are listed, if what stands before them can be said
abbrev pub GivesListed : Bool → State → CodedFrame → ListedSymbols → Result Written NotWritten → ListedSymbols → Type 0
GivesListed true state frame symbols result now = GivesBehind listed state frame symbols result now
GivesListed false state frame symbols result now = (result ≡ Err Unsaid) × (now ≡ symbols)
