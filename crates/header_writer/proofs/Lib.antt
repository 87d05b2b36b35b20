pub mod FieldLaws
pub mod EachPuts
pub mod BitsPut
pub mod TilePuts
pub mod HeaderReads
pub mod SlotPuts
pub mod Spells
