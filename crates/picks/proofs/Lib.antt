pub mod PickLaws
pub mod PickWords
