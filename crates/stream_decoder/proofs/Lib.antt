pub mod Begins
pub mod FilmLemmas
pub mod GroupEnds
pub mod TurnLemmas
pub mod Wholes
