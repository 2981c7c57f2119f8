pub mod Numbers
pub mod Padded
pub mod Parts
pub mod Plain
pub mod Reading
