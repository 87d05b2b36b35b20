pub mod ModeFits
