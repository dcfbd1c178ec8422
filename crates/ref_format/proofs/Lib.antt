-- Columns and lines.
pub mod ColumnLemmas
pub mod LineLemmas
-- Bytes and runs of lines as a text.
pub mod TextLemmas
-- The literal at a text's end, and the text that is still to come.
pub mod JoiningLemmas
pub mod UnfoldLemmas
-- The laws.
pub mod TextStandsOnKeptLines
pub mod LinesRise
pub mod PlainLinesAreRead
pub mod RowsAreRead
