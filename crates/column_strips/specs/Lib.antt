pub mod StripRows
pub mod Laws
pub use Rattle.recon_rows.specs as recon_rows
