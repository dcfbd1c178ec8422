-- The words that a program can't take for its own names.
pub mod Lists
-- Words by number.
pub mod Table
-- Words with a number after them: `RX-PARA-1`, or the names of a generated program.
pub mod numbered
