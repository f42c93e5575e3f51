pub mod Added
pub mod Terms
