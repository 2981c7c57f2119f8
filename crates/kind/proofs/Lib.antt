pub mod Alike
pub mod Inverses
pub mod Lawful
pub mod Members
pub mod Tried
