pub mod ResiduePuts
pub mod PlanePuts
pub mod BlockPuts
pub mod Spellings
pub mod Lone
