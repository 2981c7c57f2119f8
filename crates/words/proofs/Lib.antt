pub mod Cuts
pub mod Lists
pub mod Numerals
pub mod Padding
pub mod Reading
pub mod Spelling
