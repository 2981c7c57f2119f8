pub mod Faults
pub mod Fields
pub mod Point
pub mod Said
