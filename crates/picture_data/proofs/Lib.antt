-- A text that is read on by one byte, or at its end.
pub mod ReadingLemmas
-- A text that is judged as a mask.
pub mod EditedLemmas
