pub mod Counting
pub mod CountedSymbols
pub mod Code
