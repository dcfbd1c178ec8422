-- What the parts of a source program do is the same beside cells.
pub mod Parts
-- Items of the source that came out of statements without an escape, and the items of the walk.
pub mod Stands
-- What an item does that came out of a statement without an escape is the same in the source and in the walk.
pub mod Wholes
-- What a step adds to a rest: parts of a source program, and no more than the program holds.
pub mod Fits
-- A source state and a walk that stand at the same point.
pub mod Joints
-- Counter cells: each remainder keeps its own, and each range its own.
pub mod Counters
