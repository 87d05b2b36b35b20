pub mod PlannedBlocks
pub mod PlanRows
pub mod Code
