pub mod ListLemmas
pub mod ChainLemmas
pub mod PlaceLemmas
pub mod FormLemmas
pub mod UserLemmas
pub mod WaitingLemmas
