pub mod Same
pub mod ColorTests
pub mod Params
pub mod Headers
pub mod ModeTests
pub mod Code
pub mod Laws
