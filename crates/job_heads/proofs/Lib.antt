pub mod Lists
pub mod HeadSteps
pub mod ReferenceSizes
pub mod CodedFrames
pub mod TileColumns
pub mod RowsRead
pub mod ClosedFrames
