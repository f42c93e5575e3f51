pub mod Told
pub mod Columned
