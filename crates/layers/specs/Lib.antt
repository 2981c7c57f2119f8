pub mod FarEnd
pub mod FarEndLaws
