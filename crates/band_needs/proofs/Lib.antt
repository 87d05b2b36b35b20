pub mod RowLemmas
pub mod Exact
pub mod PlaneLemmas
