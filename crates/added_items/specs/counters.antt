-- the counters of a graph's loops, and the graph in which they are numbered
pub mod Counting
-- leaves whose cell is numbered anew
pub mod Anew
-- the graphs of a lowered program, before and after
pub mod Placed
