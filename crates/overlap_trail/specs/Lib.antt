-- what comes of following a trail's moves
pub mod Follow
-- what a check of a trail looks at
pub mod Checking
-- A trail for a program that is faulty.
pub mod finding
-- The lines that tell a trail.
pub mod notes
