pub mod PlanSteps
pub mod PlanTiles
pub mod NextTiles
pub mod ColumnTiles
