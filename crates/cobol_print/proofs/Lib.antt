-- The lines as bytes.
pub mod StreamLemmas
-- The text that lines are, a token at a time and whole.
pub mod PlacedLemmas
pub mod LineLemmas
-- The laws.
pub mod PrintedReadsBack
pub mod PrintsAll
pub mod HeadsBeginNoEntry
-- Programs: their units are lawful, and what is printed of them unfolds.
pub mod GivenLemmas
pub mod ProgramsUnfold
-- A program as units: the tokens of each of its lines, with the column from which they stand.
pub mod units_lemmas
-- What is printed of a mask.
pub mod MaskLemmas
