-- statements with arms, row by row
pub mod ChoiceRows
-- a range is looked for by halves
pub mod Halving
