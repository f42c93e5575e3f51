pub mod Bytes
pub mod Objects
