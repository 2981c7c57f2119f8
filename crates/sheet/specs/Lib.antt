pub mod Calls
pub mod Frame
pub mod Refusals
pub mod State
pub mod Step
pub mod View
pub mod Words
