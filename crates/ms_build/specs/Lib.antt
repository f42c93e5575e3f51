pub mod Accesses
pub mod Consistent
pub mod Settled
pub mod Changes
pub mod Filled
pub mod Formed
pub mod Entering
pub mod Built
