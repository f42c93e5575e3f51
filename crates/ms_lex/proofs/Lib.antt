pub mod Apart
pub mod First
pub mod Follows
mod Fronts
pub mod OneList
mod Names
mod Quotations
pub mod Told
