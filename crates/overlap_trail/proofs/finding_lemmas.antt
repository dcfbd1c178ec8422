-- whether a range stands in a list, and none twice
pub mod Standing
-- what stands where in lists
pub mod Getting
-- flags of numbers
pub mod Flags
-- whether one way alone is there
pub mod Ways
-- how places were come to
pub mod Tracing
-- what was taken, from the last back
pub mod Taking
-- moves lead to points of the program
pub mod Leading
-- where an aim is met
pub mod Aiming
-- one lemma more
pub mod Knowing
-- ranges that are come to by calls
pub mod Calling
-- chains along calls
pub mod Chaining
-- hops along a chain lead to its fault
pub mod Hopping
-- from a clash to a trail
pub mod Trailing
-- what is needed, and new numbers, so far
pub mod Needing
-- a trail with fewer lemmas is accepted too
pub mod Shortening
