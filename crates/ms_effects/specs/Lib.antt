pub mod Effects
pub mod Columns
