pub mod Added
pub mod Blanks
mod Emptying
pub mod Listings
pub mod Overlays
mod Uses
pub mod Wipes
