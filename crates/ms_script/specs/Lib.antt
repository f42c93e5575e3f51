pub mod Calls
pub mod Ends
pub mod Found
pub mod Lines
pub mod Names
pub mod Next
pub mod Script
pub mod Verbs
