pub mod CountingRuns
pub mod CountedBools
pub mod Mapped
pub mod Throughs
pub mod Yields
pub mod CountedWalks
pub mod Readers
