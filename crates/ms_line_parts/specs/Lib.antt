pub mod Reach
pub mod Rests
pub mod Sizes
pub mod Sums
pub mod Terms
