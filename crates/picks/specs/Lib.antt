pub mod Closures
pub mod Picks
