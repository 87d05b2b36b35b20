pub mod TrialLines
pub mod Trials
pub mod Code
pub use Rattle.stream_forge.specs as stream_forge
