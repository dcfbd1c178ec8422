-- what is cut of a source may be written
pub mod Parts
-- and so may the trees and nodes that lowering builds
pub mod Built
-- and the nodes of a range
pub mod Ranges
-- also where their counters have other numbers
pub mod Numbered
-- so what stands in the graphs may be written
pub mod Graphs
