pub mod Lists
pub mod Waiting
pub mod Chains
pub mod Form
pub mod Places
pub mod Counts
