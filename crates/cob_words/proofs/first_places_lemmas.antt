-- Where a search from the front comes to first.
pub mod PlaceLemmas
-- Two words are equal either way round.
pub mod WordLemmas
