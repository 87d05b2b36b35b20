pub mod PartLemmas
