pub mod KeptPictures
pub mod Code
