-- The family that looks nodes up is lowered.
pub mod Families
-- What isn't reached makes no difference to a walk.
pub mod Pruned
-- The form of lowered graphs.
pub mod WellFormed
-- The form of the graphs of reached nodes.
pub mod KeptWell
-- What an item does carries over from one memory to another, and from one numbering to another.
pub mod Carried
-- How cells are numbered makes no difference to a walk.
pub mod Renumbered
