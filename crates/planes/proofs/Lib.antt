pub mod RowLemmas
pub mod PlaneLemmas
pub mod PictureLemmas
mod ShortRows
