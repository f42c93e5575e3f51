pub mod Bytes
pub mod First
pub mod Front
pub mod Kinds
pub mod Line
