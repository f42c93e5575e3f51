pub mod Lines
pub mod Notes
pub mod Numbering
pub mod Text
pub mod Walk
