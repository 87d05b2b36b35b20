pub mod Coder
pub mod Window
pub mod Bools
pub mod Ahead
pub mod Branches
pub mod Held
