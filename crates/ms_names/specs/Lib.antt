pub mod Shape
pub mod Made
pub mod Used
pub mod Faults
pub mod Places
pub mod Draft
pub mod Uses
