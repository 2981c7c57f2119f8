pub mod Same
pub mod Tally
