pub mod Products
pub mod ByKind
pub mod Widths
pub mod Rows
