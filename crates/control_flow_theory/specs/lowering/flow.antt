-- Flow paths: the source machine itself, in which a list of ways takes the place of the memory.
pub mod Paths
-- The rests that a level of a range can come to, and the family that is lowered.
pub mod Comes
-- What a range's level performs: each PERFORM in a node that is reached is come to by a free flow
-- path of that level.
pub mod Called
-- The ranges that flow paths enter from main on, and what a table of returning ranges names of
-- them.
pub mod Entered
