pub mod Captures
pub mod Effects
pub mod Memory
pub mod Outer
pub mod Parts
pub mod Texts
