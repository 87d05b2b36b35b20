pub mod InterFits
pub mod SaidBlocks
