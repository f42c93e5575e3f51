pub mod Func
pub mod Limits
pub mod Edits
pub mod Module
