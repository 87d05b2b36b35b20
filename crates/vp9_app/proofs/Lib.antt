pub mod Texts
pub mod Causes
pub mod Decodes
pub mod Listings
