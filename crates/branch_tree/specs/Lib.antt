-- labels as numbers
pub mod Label
-- what trees choose and loops test by
pub mod Choosers
-- trees, as trees of the theory of control
pub mod Tree
-- graphs, as graphs of it
pub mod Graph
-- what calls make of trees
pub mod Changes
-- what trees within a loop are stated as
pub mod Within
