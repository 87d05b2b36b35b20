pub mod PartitionLists
pub mod IntraLists
pub mod VectorLists
pub mod ReferenceLists
pub mod StartLists
pub mod InterLists
