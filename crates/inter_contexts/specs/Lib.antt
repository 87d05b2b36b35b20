pub mod Contexts
pub mod BlockReferences
