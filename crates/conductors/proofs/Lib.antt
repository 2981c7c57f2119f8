mod Gathered
mod OrderSteps
mod Rounds
mod Spelled
mod Threes
