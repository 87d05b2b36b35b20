pub mod Heights
pub mod Served
pub mod Inside
