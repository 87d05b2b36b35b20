pub mod Bits
pub mod BandRuns
pub mod Turns
pub mod TailTable
pub mod Spans
