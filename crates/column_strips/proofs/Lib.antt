pub mod RowSteps
pub mod Lending
pub mod FrameEdge
pub mod RowOfStrips
pub use Rattle.recon_rows.proofs as of_recon_rows
