pub mod Axes
pub mod PlaneVectors
pub mod Scaling
pub mod Places
