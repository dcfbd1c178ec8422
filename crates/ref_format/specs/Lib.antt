-- The columns of a line.
pub mod Column
-- Which lines are dropped, and those that are kept.
pub mod Entry
pub mod Line
-- Bytes with their lines, and the kept lines as one text: `program_text`.
pub mod LineRuns
pub mod Placed
pub mod Joining
-- Lines as they are written, without continuations and with them.
pub mod Plain
pub mod Row
-- What holds of every text.
pub mod Laws
