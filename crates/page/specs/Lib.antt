pub mod Adding
pub mod Filled
pub mod Pages
pub mod Wiped
pub mod Writing
