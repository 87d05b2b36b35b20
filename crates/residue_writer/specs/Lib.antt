pub mod SaidResidues
pub mod ResidueLists
pub mod ResidueFits
pub mod Code
