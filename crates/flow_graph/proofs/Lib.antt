-- labels that are added to a list
pub mod JumpRows
-- the labels of a range's nodes
pub mod LabelRows
-- the labels that are reached, so far
pub mod Reached
-- kept nodes beside sorted labels
pub mod NodeRows
-- nodes that are made, one after the other, and sorted
pub mod MadeRows
-- the graph made of them
pub mod GraphRows
-- the labels of a range, counted one after the other
pub mod CountRows
-- the nodes that are kept, added up
pub mod KeptSums
-- The trees of a range's nodes, by the table of rests.
pub mod label_trees_lemmas
-- How large graphs are: their labels, and the statements in their trees.
pub mod graph_sizes_lemmas
-- How large the lowered graphs of ranges are, without these graphs.
pub mod range_sizes_lemmas
