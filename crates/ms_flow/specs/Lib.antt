pub mod Cut
pub mod Flow
pub mod Kept
pub mod Loops
pub mod Table
pub mod Walk
