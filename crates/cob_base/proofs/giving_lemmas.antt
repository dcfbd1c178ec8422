-- what was given piece by piece
pub mod GivingLemmas
