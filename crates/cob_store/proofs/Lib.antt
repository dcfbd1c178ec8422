-- numbers that were read from their bits
pub mod Signed
-- offsets past the repetitions
pub mod Occurrence
-- the starting bytes of one entry over those of the later ones
pub mod Overlaid
-- places of numbers alone
pub mod KnownLemmas
-- the sizes of items
pub mod SizeLemmas
-- what is put at spots
pub mod PutLemmas
