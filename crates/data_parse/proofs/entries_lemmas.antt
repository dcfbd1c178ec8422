-- What a choice reads.
pub mod ChoiceLemmas
