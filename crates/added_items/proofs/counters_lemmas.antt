-- the heads of loops by TIMES among lowered nodes
pub mod Heads
-- the graph of a lowered program, numbered
pub mod Placed
-- the place of a cell among counters that rise
pub mod CellRows
-- cells that are numbered anew, in each part of a tree
pub mod AnewRows
-- lists whose items are changed one after the other
pub mod Each
-- counts that are made one after the other
pub mod CountRows
