pub mod Sources
pub mod TilePlaces
pub mod FrameReading
pub mod ColumnPlans
pub mod KeptColumns
pub mod Past
pub mod Code
pub mod Laws
