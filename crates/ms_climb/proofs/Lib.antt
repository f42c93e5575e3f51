pub mod Options
pub mod ChainLemmas
pub mod WalkLemmas
pub mod SkipLemmas
pub mod Events
pub mod Answered
pub mod Resolved
pub mod NearLemmas
