pub mod BandRow
pub mod Names
