-- There are plans and graphs, whatever their size.
pub mod Existing
-- The plan of a result, its graphs and its procedures.
pub mod Planned
-- What a program is restructured to behaves as it did.
pub mod Behaving
-- What a program is split into is what it is restructured to.
pub mod FromSplit
-- A program is restructured to one program.
pub mod OneResult
-- What a program is restructured to is structured.
pub mod Formed
-- What splitting answers, where the result is within its limits.
pub mod Answered
