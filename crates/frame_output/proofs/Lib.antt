pub mod RowTexts
pub mod Fronts
pub mod KeptRows
pub mod Digests
