pub mod SaidTiles
pub mod Code
