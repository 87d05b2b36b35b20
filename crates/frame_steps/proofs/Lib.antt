pub mod Copies
pub mod Placing
pub mod Joining
pub mod Joined
pub mod ColumnSpans
pub mod ReadColumns
pub use Rattle.recon_rows.proofs.of_column_order as of_column_order
