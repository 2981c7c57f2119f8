pub mod Drums
pub mod DrumWords
pub mod DrumLaws
pub mod Modulo
pub mod DrumWordsLemmas
pub mod Bars
