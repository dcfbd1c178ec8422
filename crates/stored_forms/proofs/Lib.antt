-- Digits at their places, and how a loop puts them there.
pub mod PlaceLemmas
pub mod PuttingLemmas
-- What items hold.
pub mod ItemLemmas
-- The two forms.
pub mod BinaryLemmas
pub mod PackedLemmas
-- The rules on all bytes.
pub mod RuleLemmas
-- What arithmetic stores.
pub mod StoredLemmas
