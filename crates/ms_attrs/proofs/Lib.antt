pub mod EffectLemmas
mod ItemLemmas
pub mod MeaningLemmas
mod TextLemmas
mod WordLemmas
