pub mod Answer
pub mod Options
pub mod Chains
pub mod Near
pub mod Walk
pub mod Skips
