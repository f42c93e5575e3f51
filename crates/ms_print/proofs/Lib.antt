pub mod NoteLemmas
pub mod NumberingLemmas
pub mod TextLemmas
pub mod WalkLemmas
