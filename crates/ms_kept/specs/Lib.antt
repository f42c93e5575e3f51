pub mod Spared
pub mod Answers
