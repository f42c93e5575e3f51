pub mod Writing
pub mod Passed
pub mod Once
pub mod Spare
pub mod Turns
pub mod Marks
pub mod Holds
