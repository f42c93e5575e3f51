pub mod Told
pub mod Moved
