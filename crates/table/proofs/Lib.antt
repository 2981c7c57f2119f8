pub mod Alike
mod Along
pub mod Found
pub mod Fresh
pub mod Front
