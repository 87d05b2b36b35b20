pub mod Pieces
pub mod RowSteps
pub mod StripBegins
pub mod StripBlocks
pub mod StripSteps
pub mod StripPlans
pub use Rattle.column_order.proofs as of_column_order
pub use Rattle.frame_state.proofs as of_frame_state
