pub mod Counted
pub mod IntraWays
pub mod VectorWays
pub mod ReferenceWays
pub mod StartWays
pub mod InterWays
