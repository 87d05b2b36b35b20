pub mod Next
pub mod DrawnKinds
pub mod LevelDraws
pub mod Rooms
pub mod Tellings
pub use Rattle.frame_writer.proofs as of_frame_writer
