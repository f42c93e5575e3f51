pub mod Cause
pub mod Heads
pub mod Params
pub mod Shapes
pub mod Short
pub mod Sorts
pub mod Spelled
