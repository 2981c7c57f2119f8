pub mod Ask
pub mod Look
pub mod Note
pub mod See
pub mod Table
pub mod Walk
pub mod Words
