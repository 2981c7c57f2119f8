pub mod Answers
pub mod Book
pub mod Faults
pub mod Kinds
pub mod Printed
pub mod Requests
