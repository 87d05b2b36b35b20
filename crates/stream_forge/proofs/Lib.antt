pub mod Pasts
pub mod DrawnReads
pub mod Behind
pub mod Heads
pub mod Streams
pub mod MadeFrames
