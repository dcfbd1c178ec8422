-- the graph of a range, as lowering has it
pub mod Lowered
-- lists of labels to which trees jump
pub mod Jumps
-- the labels that are reached
pub mod Reaching
-- how large the graph of a range is
pub mod Counts
-- The trees of a range's nodes, by the table of rests.
pub mod label_trees
-- How large graphs are: their labels, and the statements in their trees.
pub mod graph_sizes
-- How large the lowered graphs of ranges are, without these graphs.
pub mod range_sizes
