pub mod BitLemmas
pub mod FieldLemmas
pub mod TileLemmas
pub mod SlotLemmas
pub mod SizeLemmas
pub mod HeadLemmas
pub mod SpanLemmas
