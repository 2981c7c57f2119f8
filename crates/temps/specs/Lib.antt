pub mod Temps
pub mod TempLaws
pub mod TempWords
