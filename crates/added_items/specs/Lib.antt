-- Where a shaped body names the cells of its range, in the order of its text.
pub mod mentions
-- The counter cells of loops by TIMES, numbered anew.
pub mod counters
-- Items for the cells of shaped ranges: their entries, in the order in which the text first names
-- them, and what writing asks of each cell.
pub mod item_table
