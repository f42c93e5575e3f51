pub mod Whole
pub mod Cost
