pub mod BandReferences
