pub mod Totals
pub mod Keeps
pub mod SlotMoves
pub mod SeatMoves
