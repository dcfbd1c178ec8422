-- What is written of bodies whose choices have arms.
pub mod Fitting
-- The choices of statements that are named.
pub mod Named
-- The paragraphs that a program is split into.
pub mod Split
-- They nest no less either.
pub mod Exact
