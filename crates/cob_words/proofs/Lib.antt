-- The words of a list by their rows.
pub mod ByRow
-- Words with a number behind them: `RX-PARA-1`, or the names of a generated program.
pub mod numbered_lemmas
-- Where words stand first in a list, by a table of the words.
pub mod first_places_lemmas
