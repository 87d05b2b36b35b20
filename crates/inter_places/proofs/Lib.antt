pub mod Scales
pub mod Kept
pub mod Orders
pub mod Unscaled
