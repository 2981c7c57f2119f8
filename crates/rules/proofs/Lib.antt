pub mod Alike
mod Asking
mod Bounds
mod Entering
mod Invariant
mod Listed
pub mod Same
pub mod Successions
mod Tables
mod Texts
pub mod Undoing
mod Values
